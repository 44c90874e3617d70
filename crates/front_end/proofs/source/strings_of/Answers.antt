use Rattle.std.proofs.Common.{◌≡◌, ap, ◌∙◌, rules}
use Rattle.std.specs.List.{filter}
use Rattle.std.proofs.lemmas.Fn.{filter_same}
use Rattle.c_types.specs.Texts.{texts_among}
use Rattle.front_end.proofs.Strings.{is_text, same_texts}
use Rattle.front_end.proofs.source.strings_of.Goals as goal

pub returns : goal.returns
returns c =
    let kept : c.retain.new.self.items ≡ filter is_text c.args.tokens.items = filter_same _ _ _ (λ x b f' k. search rules) _ _ c.retain.ensures.filtered in
    ap texts_among c.shrink_to_fit.ensures.items ∙ ap texts_among kept ∙ same_texts c.args.tokens.items
