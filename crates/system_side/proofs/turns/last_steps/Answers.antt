use Rattle.std.proofs.Common.{◌+◌, ◌-◌, ◌^◌, ◌<◌, min, length, get_or, ap, ◌∙◌, arith}
use Rattle.std.proofs.lemmas.List.{get_or_default}
use Rattle.system_side.proofs.Rounds.{made_more}
use Rattle.system_side.proofs.turns.last_steps.Goals as goal

pub loop-count-preserved : goal.loop-count-preserved
loop-count-preserved c =
    let xs = c.args.items.now in
    let i = c.loop-count.count-index in
    let within : i < length xs = omega arith in
    let last = c.saturating_add.ensures ∙ ap (λ n. min (c.loop-count.before + n) (2 ^ 64 - 1)) c.from.ensures in
    let after = c.saturating_add-before.ensures ∙ ap (λ n. min (c.loop-count.before + n) (2 ^ 64 - 1)) c.from-in-loop-count.ensures in
    made_more xs i c.loop-count.before c.loop-count.lasts.items (get_or xs i (0, 0)) c.saturating_add.result c.saturating_add-before.result c.push.new.self.items within (get_or_default xs i (0, 0) _ within) (c.requires i (0, 0) within) c.loop-count.invariant last after c.in_ok-push.ensures.items
