use Rattle.std.proofs.Common.{[], map, sym, subst}
use Rattle.space_memory_laws.specs.Calls.{parts_of, prepared_part}
use Rattle.steps_above_memory.specs.declared.parts.Unprepared.TheVariants as unprepared
use Rattle.steps_above_memory.specs.Parts.{Adds, RefusesToPrepare}
use Rattle.steps_above_memory.specs.Calls.{RefusesCall, prepares}
use Rattle.steps_above_memory.proofs.Called.{key_in_use, leaves_on, prepared_parts, refused_still, undone_call, unprepared_range}
use Rattle.steps_above_memory.proofs.above.MemoryAbove.hand_down.Goals as goal

pub returns-in_default-prepare_all-clause-made : goal.returns-in_default-prepare_all-clause-made
returns-in_default-prepare_all-clause-made c = prepared_parts c.args.self.now c.args.thread c.args.regions.now c.begin.new.self.spaces c.prepare_all.new.spaces c.in_default.ensures.begun
    (subst (λ w. Adds c.args.thread (map prepared_part (prepares c.args.regions.now)) w c.begin.new.self.spaces c.prepare_all.new.spaces) c.begin.ensures.watch c.in_default-prepare_all.ensures.adds)

pub returns-in-Refused-clause-refused : goal.returns-in-Refused-clause-refused
returns-in-Refused-clause-refused c = unprepared_range c.args.self.now c.args.thread c.args.regions.now c.begin.new.self.spaces c.in-Refused.refusal c.in_default.ensures.begun
    (subst (λ w. RefusesToPrepare c.args.thread (prepares c.args.regions.now) w c.begin.new.self.spaces (unprepared.Refused c.in-Refused.refusal)) c.begin.ensures.watch
    (subst (RefusesToPrepare c.args.thread (prepares c.args.regions.now) c.begin.new.self.watch c.begin.new.self.spaces) c.in-Refused.is c.in-Err-prepare_all.ensures.refused))

pub returns-in-Refused-clause-unchanged : goal.returns-in-Refused-clause-unchanged
returns-in-Refused-clause-unchanged c =
    undone_call c.args.self.now c.args.thread
    (parts_of c.args.regions.now.ins.now c.args.regions.now.outs.now
    []) c.begin.new.self.watch c.begin.new.self.spaces c.prepare_all.new.spaces c.undo.new.self c.begin.ensures.watch c.in_default.ensures.begun c.prepare_all.ensures.stays c.undo.ensures.regions c.undo.ensures.depths c.undo.ensures.rest

pub returns-in-Ok-clause-refused : goal.returns-in-Ok-clause-refused
returns-in-Ok-clause-refused c =
    let leaves = undone_call c.args.self.now c.args.thread
    (parts_of c.args.regions.now.ins.now c.args.regions.now.outs.now
    []) c.begin.new.self.watch c.begin.new.self.spaces c.prepare_all.new.spaces c.undo.new.self c.begin.ensures.watch c.in_default.ensures.begun c.prepare_all.ensures.stays c.undo.ensures.regions c.undo.ensures.depths c.undo.ensures.rest in
    subst (RefusesCall c.args.self.now c.args.thread c.args.regions.now) (sym c.of.ensures)
    (key_in_use c.args.self.now c.args.thread c.args.regions.now _ leaves c.begin.new.self.spaces c.in-KeyInUse.addr c.requires.regions c.in_default.ensures.begun
    (subst (λ w. RefusesToPrepare c.args.thread (prepares c.args.regions.now) w c.begin.new.self.spaces (unprepared.KeyInUse c.in-KeyInUse.addr)) c.begin.ensures.watch
    (subst (RefusesToPrepare c.args.thread (prepares c.args.regions.now) c.begin.new.self.watch c.begin.new.self.spaces) c.in-KeyInUse.is c.in-Err-prepare_all.ensures.refused))
    c.in-Ok.ensures.passes)

pub returns-in-Ok-clause-unchanged : goal.returns-in-Ok-clause-unchanged
returns-in-Ok-clause-unchanged c =
    let leaves = undone_call c.args.self.now c.args.thread
    (parts_of c.args.regions.now.ins.now c.args.regions.now.outs.now
    []) c.begin.new.self.watch c.begin.new.self.spaces c.prepare_all.new.spaces c.undo.new.self c.begin.ensures.watch c.in_default.ensures.begun c.prepare_all.ensures.stays c.undo.ensures.regions c.undo.ensures.depths c.undo.ensures.rest in
    leaves_on c.args.self.now c.args.thread c.args.regions.now _ leaves c.test_ranges.new.self c.test_ranges.ensures.unchanged

pub returns-in-Err-test_ranges-clause-refused : goal.returns-in-Err-test_ranges-clause-refused
returns-in-Err-test_ranges-clause-refused c =
    let leaves = undone_call c.args.self.now c.args.thread
    (parts_of c.args.regions.now.ins.now c.args.regions.now.outs.now
    []) c.begin.new.self.watch c.begin.new.self.spaces c.prepare_all.new.spaces c.undo.new.self c.begin.ensures.watch c.in_default.ensures.begun c.prepare_all.ensures.stays c.undo.ensures.regions c.undo.ensures.depths c.undo.ensures.rest in
    refused_still c.args.self.now c.args.thread c.args.regions.now _ leaves c.in-Err-test_ranges.refusal c.in-Err-test_ranges.ensures.refused

pub returns-in-Err-test_ranges-clause-unchanged : goal.returns-in-Err-test_ranges-clause-unchanged
returns-in-Err-test_ranges-clause-unchanged c =
    let leaves = undone_call c.args.self.now c.args.thread
    (parts_of c.args.regions.now.ins.now c.args.regions.now.outs.now
    []) c.begin.new.self.watch c.begin.new.self.spaces c.prepare_all.new.spaces c.undo.new.self c.begin.ensures.watch c.in_default.ensures.begun c.prepare_all.ensures.stays c.undo.ensures.regions c.undo.ensures.depths c.undo.ensures.rest in
    leaves_on c.args.self.now c.args.thread c.args.regions.now _ leaves c.test_ranges.new.self c.test_ranges.ensures.unchanged
