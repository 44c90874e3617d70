use Rattle.std.proofs.Common.{length, sym, ap, ◌∙◌}
use Rattle.std.proofs.lemmas.List.{length-map}
use Rattle.system_side.specs.AnswerLists.{answer_in}
use Rattle.system_side.proofs.answer_list.Answers.len.Goals as goal

pub returns : goal.returns
returns c =
    let l = c.self.inside in
    c.len.ensures ∙ (l.entries.ok.0 ∙ (sym (length-map l.entries.items (answer_in l.groups.items l.pieces.items)) ∙ ap length c.self.view_is))
