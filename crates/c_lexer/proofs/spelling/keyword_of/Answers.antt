use Rattle.std.proofs.Common.{rules, ◌≡◌, ◌∷◌, ◌∙◌}
use Rattle.c_lexer.proofs.spelling.keyword_of.Goals as goal

pub returns-in-Some : goal.returns-in-Some
returns-in-Some c =
    let is : c.args.name.now ≡ c.in-Some.first.now ∷ c.in-Some.field-0-1.now = search rules in
    rw is (rw is at c.first_word.ensures ∙ c.words_with.ensures c.in-Some.field-0-1.now)
