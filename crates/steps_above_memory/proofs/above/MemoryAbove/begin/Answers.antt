use Rattle.std.proofs.Common.{[], refl}
use Rattle.space_memory_laws.specs.Calls.{parts_of}
use Rattle.steps_above_memory.proofs.Called.{held_parts, open_parts, read_parts, refused_ins, refused_outs, undone_call}
use Rattle.steps_above_memory.proofs.above.MemoryAbove.begin.Goals as goal

pub returns-in-Err-hold_all-clause-refused : goal.returns-in-Err-hold_all-clause-refused
returns-in-Err-hold_all-clause-refused c =
    let opened = open_parts c.args.self.now c.args.thread c.open.new.self c.requires.in_range c.in_default.ensures.opened c.open.ensures.rest in
    refused_ins c.args.self.now c.args.thread c.args.regions.now c.open.new.self c.in-Err-hold_all.refusal opened c.in-Err-hold_all.ensures.refused

pub returns-in-Err-hold_all-clause-unchanged : goal.returns-in-Err-hold_all-clause-unchanged
returns-in-Err-hold_all-clause-unchanged c =
    let opened = open_parts c.args.self.now c.args.thread c.open.new.self c.requires.in_range c.in_default.ensures.opened c.open.ensures.rest in
    undone_call c.args.self.now c.args.thread [] c.args.self.now.watch c.open.new.self c.hold_all.new.spaces c.undo.new.self refl opened c.hold_all.ensures.stays c.undo.ensures.regions c.undo.ensures.depths c.undo.ensures.rest

pub returns-in-Err-hold_all-2-clause-refused : goal.returns-in-Err-hold_all-2-clause-refused
returns-in-Err-hold_all-2-clause-refused c =
    let opened = open_parts c.args.self.now c.args.thread c.open.new.self c.requires.in_range c.in_default.ensures.opened c.open.ensures.rest in
    let read = read_parts c.args.self.now c.args.thread c.args.regions.now c.open.new.self c.hold_all.new.spaces opened c.in_default-hold_all.ensures.adds in
    refused_outs c.args.self.now c.args.thread c.args.regions.now c.hold_all.new.spaces c.in-Err-hold_all-2.refusal read c.in-Err-hold_all-2.ensures.refused

pub returns-in-Err-hold_all-2-clause-unchanged : goal.returns-in-Err-hold_all-2-clause-unchanged
returns-in-Err-hold_all-2-clause-unchanged c =
    let opened = open_parts c.args.self.now c.args.thread c.open.new.self c.requires.in_range c.in_default.ensures.opened c.open.ensures.rest in
    let read = read_parts c.args.self.now c.args.thread c.args.regions.now c.open.new.self c.hold_all.new.spaces opened c.in_default-hold_all.ensures.adds in
    let undo = c.undo-in-Err-hold_all-2 in
    undone_call c.args.self.now c.args.thread
    (parts_of c.args.regions.now.ins.now []
    []) c.args.self.now.watch c.hold_all.new.spaces c.hold_all-2.new.spaces undo.new.self refl read c.hold_all-2.ensures.stays undo.ensures.regions undo.ensures.depths undo.ensures.rest

pub returns-clause-begun : goal.returns-clause-begun
returns-clause-begun c =
    let opened = open_parts c.args.self.now c.args.thread c.open.new.self c.requires.in_range c.in_default.ensures.opened c.open.ensures.rest in
    let read = read_parts c.args.self.now c.args.thread c.args.regions.now c.open.new.self c.hold_all.new.spaces opened c.in_default-hold_all.ensures.adds in
    held_parts c.args.self.now c.args.thread c.args.regions.now c.hold_all.new.spaces c.hold_all-2.new.spaces read c.in_default-hold_all-2.ensures.adds
