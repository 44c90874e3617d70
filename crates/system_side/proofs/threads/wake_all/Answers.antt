use Rattle.std.proofs.Common.{get_or, ◌∙◌, arith}
use Rattle.std.proofs.lemmas.List.{get_or_default}
use Rattle.std.proofs.lemmas.List.Edits.{map_over_more}
use Rattle.system_side.specs.declared.threads.Standing.TheVariants.{Ready}
use Rattle.system_side.specs.Threads.{woken}
use Rattle.system_side.proofs.threads.wake_all.Goals as goal

pub loop-at-preserved : goal.loop-at-preserved
loop-at-preserved c = record {
  changed = c.wake_one-ready.ensures.woken ∙ map_over_more (woken c.args.wait) c.args.standings.now c.loop-at.standings c.loop-at.at (get_or c.loop-at.standings c.loop-at.at Ready) (omega arith) c.loop-at.invariant.changed (get_or_default c.loop-at.standings c.loop-at.at Ready _ (omega arith));
  bits = c.wake_one-ready.ensures.bits;
}
