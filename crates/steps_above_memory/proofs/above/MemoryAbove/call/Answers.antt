use Rattle.std.proofs.Common.{refl, subst}
use Rattle.steps_above_memory.specs.Calls.{WasToldCall}
use Rattle.steps_above_memory.proofs.Called.{call_made, call_passes}
use Rattle.steps_above_memory.proofs.Growing.{ranges_under}
use Rattle.steps_above_memory.proofs.above.MemoryAbove.call.Goals as goal

pub returns-in-Ok-clause-passes : goal.returns-in-Ok-clause-passes
returns-in-Ok-clause-passes c = call_passes c.args.self.now c.args.thread c.args.regions.now c.hand_down.new.self.spaces c.in_default.ensures.made

pub returns-in-Ok-clause-made : goal.returns-in-Ok-clause-made
returns-in-Ok-clause-made c =
    call_made c.args.self.now c.args.thread c.args.regions.now c.hand_down.new.self.spaces c.in_default.ensures.made _ c.args.keys.now refl
    (ranges_under c.args.regions.now.under.now c.args.regions.now.prepared.now c.requires.regions.under)
    (subst (λ w. WasToldCall c.args.thread c.args.regions.now c.args.keys.now w c.called.new.watch) c.hand_down.ensures.watch c.in-Ok.ensures.told)
