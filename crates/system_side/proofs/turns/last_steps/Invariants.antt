use Rattle.system_side.proofs.Rounds.{Made}
use Rattle.system_side.proofs.turns.last_steps.Given as goal

abbrev pub invariant-loop-count : goal.invariant-loop-count
invariant-loop-count l = Made l.items l.count-index l.before l.lasts.items
