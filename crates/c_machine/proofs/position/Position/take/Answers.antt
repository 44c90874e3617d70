use Rattle.std.proofs.Common.{ap, ◌∙◌, ◌+◌, ◌^◌, ◌<◌, subst, arith, rules, length, get_or}
use Rattle.c_code.specs.declared.instr.Instr.TheVariants.{Push}
use Rattle.c_code.specs.declared.instr.Push.TheVariants.{Number}
use Rattle.c_code.specs.Fits.{values_of}
use Rattle.c_machine_stack.specs.Stacks.{held, room_of}
use Rattle.c_machine.specs.Positions.{laid, config_of}
use Rattle.c_machine.specs.Wants.{told}
use Rattle.c_machine.specs.Acts.{ended}
use Rattle.c_machine.specs.Moves.{FitsIn}
use Rattle.c_machine.specs.Silent.{passes}
use Rattle.c_machine.proofs.Settles.{index_enough, index_stays, index_within, not_going, heard_at}
use Rattle.c_machine.proofs.position.Position.take.Goals as goal

pub take_elsewhere-requires : goal.take_elsewhere-requires
take_elsewhere-requires c = record { elsewhere = not_going c.args.self.now.state c.in_default.not-Going; room = c.requires.room }

pub bounds-instrs-a : goal.bounds-instrs-a
bounds-instrs-a c =
    let l = laid c.args.code.now c.args.placed.now in
    let vs = held c.args.self.now.values in
    let ws = held c.args.self.now.waits.all in
    index_within l c.in-Going.a c.instrs.result.now vs ws c.instrs.ensures.instrs c.requires.valid (subst (λ s. FitsIn l (config_of s vs ws)) c.in-Going.is c.requires.fits)

pub offset_bounds-instrs-a : goal.offset_bounds-instrs-a
offset_bounds-instrs-a c =
    let l = laid c.args.code.now c.args.placed.now in
    let vs = held c.args.self.now.values in
    let ws = held c.args.self.now.waits.all in
    let lt = index_within l c.in-Going.a c.instrs.result.now vs ws c.instrs.ensures.instrs c.requires.valid (subst (λ s. FitsIn l (config_of s vs ws)) c.in-Going.is c.requires.fits) in
    omega (arith, lt, c.instrs.type_inv)

pub hearing-heard-requires-clause-enough : goal.hearing-heard-requires-clause-enough
hearing-heard-requires-clause-enough c =
    let l = laid c.args.code.now c.args.placed.now in
    let vs = held c.args.self.now.values in
    let ws = held c.args.self.now.waits.all in
    index_enough l c.in-Going.a c.instrs.result.now _ vs ws c.instrs.ensures.instrs c.requires.valid (subst (λ s. FitsIn l (config_of s vs ws)) c.in-Going.is c.requires.fits)

pub hearing-heard-requires-clause-place : goal.hearing-heard-requires-clause-place
hearing-heard-requires-clause-place c =
    let l = laid c.args.code.now c.args.placed.now in
    let vs = held c.args.self.now.values in
    let ws = held c.args.self.now.waits.all in
    let lt = index_within l c.in-Going.a c.instrs.result.now vs ws c.instrs.ensures.instrs c.requires.valid (subst (λ s. FitsIn l (config_of s vs ws)) c.in-Going.is c.requires.fits) in
    let inside : c.in-Going.a.at + 1 + passes (get_or c.instrs.result.now c.in-Going.a.at (Push (Number 0))) < 2 ^ 64 = index_stays c.args.code.now c.instrs.result.now c.in-Going.a.at (Push (Number 0)) c.instrs.ensures.instrs c.requires.valid (search rules) lt in
    omega (arith, inside)

pub end-requires : goal.end-requires
end-requires c =
    let room : length (held c.args.self.now.values) < room_of c.args.self.now.values =
    subst (λ s. length (values_of (config_of s (held c.args.self.now.values) (held c.args.self.now.waits.all))) < room_of c.args.self.now.values) c.in-Going.is c.requires.room in
    record { room = omega (arith, room, ap length c.in-None.ensures.hears.0, c.in-None.ensures.room) }

pub hear-requires-clause-enough : goal.hear-requires-clause-enough
hear-requires-clause-enough c = (c.hearing-heard.ensures (laid c.args.code.now c.args.placed.now)).enough

pub returns-in-Some-clause-fed : goal.returns-in-Some-clause-fed
returns-in-Some-clause-fed c =
    let l = laid c.args.code.now c.args.placed.now in
    let vs = held c.args.self.now.values in
    let ws = held c.args.self.now.waits.all in
    let x = told c.args.answer in
    let lt = index_within l c.in-Going.a c.instrs.result.now vs ws c.instrs.ensures.instrs c.requires.valid (subst (λ s. FitsIn l (config_of s vs ws)) c.in-Going.is c.requires.fits) in
    heard_at l c.args.self.now.state c.in-Going.a c.instrs.result.now _ vs ws x _ c.in-Going.is c.instrs.ensures.instrs lt ((c.hearing-heard.ensures l).leads ws x ∙ c.in-Some.ensures.hears c.in-Going.a ws)

pub returns-in-None-clause-fed : goal.returns-in-None-clause-fed
returns-in-None-clause-fed c =
    let l = laid c.args.code.now c.args.placed.now in
    let vs = held c.args.self.now.values in
    let ws = held c.args.self.now.waits.all in
    let x = told c.args.answer in
    let lt = index_within l c.in-Going.a c.instrs.result.now vs ws c.instrs.ensures.instrs c.requires.valid (subst (λ s. FitsIn l (config_of s vs ws)) c.in-Going.is c.requires.fits) in
    let hears = c.in-None.ensures.hears in
    c.end.ensures.ended ∙ ap (λ us. ended c.hearing-heard.result us ws) hears.0
    ∙ heard_at l c.args.self.now.state c.in-Going.a c.instrs.result.now _ vs ws x _ c.in-Going.is c.instrs.ensures.instrs lt ((c.hearing-heard.ensures l).leads ws x ∙ hears.1 c.in-Going.a ws)
