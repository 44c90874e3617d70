use Rattle.std.proofs.Common.{true, [], map, subst}
use Rattle.std.proofs.lemmas.Result.{IfErr-weaker, on_ok_weaker}
use Rattle.space_memory_laws.specs.Calls.{held_part, parts_of}
use Rattle.steps_above_memory.specs.Parts.{Adds, RefusesAmong}
use Rattle.steps_above_memory.specs.Calls.{RefusesCall}
use Rattle.steps_above_memory.proofs.Called.{refused_ranges, tested_parts, undone_call}
use Rattle.steps_above_memory.proofs.above.MemoryAbove.test_ranges.Goals as goal

pub returns-clause-passes : goal.returns-clause-passes
returns-clause-passes c = on_ok_weaker c.hold_all-tested.result
    (λ adds. tested_parts c.args.self.now c.args.thread c.args.regions.now c.begin.new.self.spaces c.hold_all-tested.new.spaces c.in_default.ensures.begun
    (subst (λ w. Adds c.args.thread (map (held_part true) c.args.regions.now.prepared.now) w c.begin.new.self.spaces c.hold_all-tested.new.spaces) c.begin.ensures.watch adds))
    c.hold_all-tested.ensures.adds

pub returns-clause-refused : goal.returns-clause-refused
returns-clause-refused c = IfErr-weaker c.hold_all-tested.result _ (RefusesCall c.args.self.now c.args.thread c.args.regions.now)
    (λ found refused. refused_ranges c.args.self.now c.args.thread c.args.regions.now c.begin.new.self.spaces found c.requires.regions c.in_default.ensures.begun
    (subst (λ w. RefusesAmong c.args.thread true c.args.regions.now.prepared.now w c.begin.new.self.spaces found) c.begin.ensures.watch refused))
    c.hold_all-tested.ensures.refused

pub returns-clause-unchanged : goal.returns-clause-unchanged
returns-clause-unchanged c =
    undone_call c.args.self.now c.args.thread
    (parts_of c.args.regions.now.ins.now c.args.regions.now.outs.now
    []) c.begin.new.self.watch c.begin.new.self.spaces c.hold_all-tested.new.spaces c.undo.new.self c.begin.ensures.watch c.in_default.ensures.begun c.hold_all-tested.ensures.stays c.undo.ensures.regions c.undo.ensures.depths c.undo.ensures.rest
