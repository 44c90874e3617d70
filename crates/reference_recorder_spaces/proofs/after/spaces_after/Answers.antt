use Rattle.recorder_state.specs.Inputs.{world_of}
use Rattle.reference_recorder_spaces.proofs.Seen.{after_all, after_next, before_all, begins, globals_in, next, strings_in}
use Rattle.reference_recorder_spaces.proofs.after.spaces_after.Goals as goal

pub new-requires-clause-globals : goal.new-requires-clause-globals
new-requires-clause-globals c = globals_in (world_of c.args.inputs) c.requires.fit

pub new-requires-clause-strings : goal.new-requires-clause-strings
new-requires-clause-strings c = strings_in (world_of c.args.inputs) c.requires.fit

pub loop-mark-init : goal.loop-mark-init
loop-mark-init c =
    let w = world_of c.args.inputs in
    let n = c.in_ok-spaces.ensures in
    before_all w c.args.marks.now c.in_ok-spaces.spaces (begins w c.requires.fit c.in_ok-spaces.spaces n.bytes n.held n.sides)

pub add-requires : goal.add-requires
add-requires c = next (world_of c.args.inputs) c.args.marks.now c.requires c.loop-mark.mark-index c.mark-item.result c.loop-mark-test.true c.mark-item.is c.loop-mark.spaces (c.loop-mark.invariant c.requires)

pub loop-mark-preserved : goal.loop-mark-preserved
loop-mark-preserved c = λ p.
    let w = world_of c.args.inputs in
    after_next w c.args.marks.now p c.loop-mark.mark-index c.mark-item.result c.loop-mark-test.true c.mark-item.is c.loop-mark.spaces (c.loop-mark.invariant p) c.add.new.spaces c.in_ok-add.ensures

pub returns : goal.returns
returns c = after_all (world_of c.args.inputs) c.args.marks.now c.loop-mark.mark-index c.loop-mark.spaces c.loop-mark-test.false c.loop-mark.invariant
