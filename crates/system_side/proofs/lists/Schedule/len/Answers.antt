use Rattle.std.proofs.Common.{length, sym, ap, ◌∙◌}
use Rattle.system_side.proofs.Kept.{length_turns}
use Rattle.system_side.proofs.lists.Schedule.len.Goals as goal

pub returns : goal.returns
returns c =
    let l = c.self.inside in
    c.len.ensures ∙ (l.threads.ok.0 ∙ (sym (length_turns l.threads.items l.steps.items) ∙ ap length c.self.view_is))
