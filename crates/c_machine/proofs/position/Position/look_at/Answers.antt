use Rattle.std.proofs.Common.{arith, ap, rules, sym, ◌∙◌}
use Rattle.c_code.specs.declared.instr.Instr.TheVariants.{Push}
use Rattle.c_code.specs.declared.instr.Push.TheVariants.{Number}
use Rattle.c_machine_stack.specs.Stacks.{held}
use Rattle.c_machine.specs.Positions.{laid}
use Rattle.c_machine.specs.Wants.{shown}
use Rattle.c_machine.proofs.Settles.{at_instr, index_enough, index_stays, index_within}
use Rattle.c_machine.proofs.position.Position.look_at.Goals as goal

pub bounds-instrs-a : goal.bounds-instrs-a
bounds-instrs-a c = index_within (laid c.args.code.now c.args.placed.now) c.args.a.now c.instrs.result.now (held c.args.self.now.values) (held c.args.self.now.waits.all) c.instrs.ensures.instrs c.requires.valid c.requires.fits

pub offset_bounds-instrs-a : goal.offset_bounds-instrs-a
offset_bounds-instrs-a c =
    let lt = index_within (laid c.args.code.now c.args.placed.now) c.args.a.now c.instrs.result.now (held c.args.self.now.values) (held c.args.self.now.waits.all) c.instrs.ensures.instrs c.requires.valid c.requires.fits in
    omega (arith, lt, c.instrs.type_inv)

pub act-requires-clause-enough : goal.act-requires-clause-enough
act-requires-clause-enough c = index_enough (laid c.args.code.now c.args.placed.now) c.args.a.now c.instrs.result.now _ (held c.args.self.now.values) (held c.args.self.now.waits.all) c.instrs.ensures.instrs c.requires.valid c.requires.fits

pub act-requires-clause-place : goal.act-requires-clause-place
act-requires-clause-place c =
    let lt = index_within (laid c.args.code.now c.args.placed.now) c.args.a.now c.instrs.result.now (held c.args.self.now.values) (held c.args.self.now.waits.all) c.instrs.ensures.instrs c.requires.valid c.requires.fits in
    index_stays c.args.code.now c.instrs.result.now c.args.a.now.at (Push (Number 0)) c.instrs.ensures.instrs c.requires.valid (search rules) lt

pub returns-in-Asks : goal.returns-in-Asks
returns-in-Asks c =
    let l = laid c.args.code.now c.args.placed.now in
    let vs = held c.args.self.now.values in
    let ws = held c.args.self.now.waits.all in
    let lt = index_within l c.args.a.now c.instrs.result.now vs ws c.instrs.ensures.instrs c.requires.valid c.requires.fits in
    sym (ap (shown l) (at_instr l c.args.a.now c.instrs.result.now (Push (Number 0)) vs ws c.instrs.ensures.instrs lt) ∙ (c.in-Asks.ensures ws).shows)

pub returns-in-Silent : goal.returns-in-Silent
returns-in-Silent c =
    let l = laid c.args.code.now c.args.placed.now in
    let vs = held c.args.self.now.values in
    let ws = held c.args.self.now.waits.all in
    let lt = index_within l c.args.a.now c.instrs.result.now vs ws c.instrs.ensures.instrs c.requires.valid c.requires.fits in
    sym (ap (shown l) (at_instr l c.args.a.now c.instrs.result.now (Push (Number 0)) vs ws c.instrs.ensures.instrs lt ∙ (c.in-Silent.ensures ws).leads))

pub returns-in-Pends : goal.returns-in-Pends
returns-in-Pends c =
    let l = laid c.args.code.now c.args.placed.now in
    let vs = held c.args.self.now.values in
    let ws = held c.args.self.now.waits.all in
    let lt = index_within l c.args.a.now c.instrs.result.now vs ws c.instrs.ensures.instrs c.requires.valid c.requires.fits in
    sym (ap (shown l) (at_instr l c.args.a.now c.instrs.result.now (Push (Number 0)) vs ws c.instrs.ensures.instrs lt) ∙ (c.in-Pends.ensures ws).shows)
