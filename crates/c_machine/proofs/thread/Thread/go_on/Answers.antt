use Rattle.std.proofs.Common.{sym, subst, ap, ◌∙◌, arith}
use Rattle.c_machine_stack.specs.Stacks.{room_of}
use Rattle.c_machine.specs.declared.waits.Waits.{Waits}
use Rattle.c_machine.specs.Positions.{laid, config}
use Rattle.c_machine.specs.Wants.{told}
use Rattle.c_machine.specs.Moves.{ThreadState, IsInside, MayFeed, FitsIn, rested}
use Rattle.c_machine.proofs.Onward.{After}
use Rattle.c_machine.proofs.Insides.{fed_on, fed_fits, fed_inside, enters_there}
use Rattle.c_machine.proofs.Space.{take_room, settle_room, kept_room}
use Rattle.c_machine.proofs.thread.Thread.go_on.Goals as goal

pub take-requires-clause-room : goal.take-requires-clause-room
take-requires-clause-room c =
    let l = laid c.args.code.now c.args.placed.now in
    let p = c.self.inside.position in
    let inside : IsInside l (config p) = subst (λ (t : ThreadState). IsInside l t.config) (sym c.self.view_is) c.requires.inside in
    take_room l c.self.inside.depth p c.check.ensures inside c.self.invariant

pub settle-requires-clause-fits : goal.settle-requires-clause-fits
settle-requires-clause-fits c =
    let l = laid c.args.code.now c.args.placed.now in
    let p = c.self.inside.position in
    let inside : IsInside l (config p) = subst (λ (t : ThreadState). IsInside l t.config) (sym c.self.view_is) c.requires.inside in
    let may : MayFeed l (config p) (told c.args.answer) = subst (λ (t : ThreadState). MayFeed l t.config (told c.args.answer)) (sym c.self.view_is) c.requires.may in
    subst (FitsIn l) (sym c.take.ensures.fed) (fed_fits l (config p) (told c.args.answer) inside may)

pub settle-requires-clause-room : goal.settle-requires-clause-room
settle-requires-clause-room c =
    let l = laid c.args.code.now c.args.placed.now in
    let p = c.self.inside.position in
    let q = c.take.new.self in
    let inside : IsInside l (config p) = subst (λ (t : ThreadState). IsInside l t.config) (sym c.self.view_is) c.requires.inside in
    let may : MayFeed l (config p) (told c.args.answer) = subst (λ (t : ThreadState). MayFeed l t.config (told c.args.answer)) (sym c.self.view_is) c.requires.may in
    let fits : FitsIn l (config q) = subst (FitsIn l) (sym c.take.ensures.fed) (fed_fits l (config p) (told c.args.answer) inside may) in
    let after : After (config p) (config q) = subst (After (config p)) (sym c.take.ensures.fed) (fed_on l (config p) (told c.args.answer) inside may) in
    settle_room l c.self.inside.depth p q c.check.ensures c.self.invariant c.take.ensures.values fits after

pub take-requires-clause-fits : goal.take-requires-clause-fits
take-requires-clause-fits c =
    let l = laid c.args.code.now c.args.placed.now in
    let inside : IsInside l (config c.self.inside.position) = subst (λ (t : ThreadState). IsInside l t.config) (sym c.self.view_is) c.requires.inside in
    inside.fits

pub invariant_of-self : goal.invariant_of-self
invariant_of-self c =
    let l = laid c.args.code.now c.args.placed.now in
    let p = c.self.inside.position in
    let q = c.take.new.self in
    let inside : IsInside l (config p) = subst (λ (u : ThreadState). IsInside l u.config) (sym c.self.view_is) c.requires.inside in
    let may : MayFeed l (config p) (told c.args.answer) = subst (λ (u : ThreadState). MayFeed l u.config (told c.args.answer)) (sym c.self.view_is) c.requires.may in
    let after : After (config p) (config q) = subst (After (config p)) (sym c.take.ensures.fed) (fed_on l (config p) (told c.args.answer) inside may) in
    kept_room c.self.inside.depth p c.settle.new.self c.self.invariant
    (c.settle.ensures.values ∙ c.take.ensures.values)
    (ap (λ (w : Waits). room_of w.all) c.settle.ensures.waits ∙ c.take.ensures.waits)
    (λ s. omega (arith, c.settle.ensures.active s, after.active s))

pub returns-clause-inside : goal.returns-clause-inside
returns-clause-inside c =
    let l = laid c.args.code.now c.args.placed.now in
    let p = c.self.inside.position in
    let q = c.take.new.self in
    let x = told c.args.answer in
    let inside : IsInside l (config p) = subst (λ (u : ThreadState). IsInside l u.config) (sym c.self.view_is) c.requires.inside in
    let may : MayFeed l (config p) x = subst (λ (u : ThreadState). MayFeed l u.config x) (sym c.self.view_is) c.requires.may in
    let after : After (config p) (config q) = subst (After (config p)) (sym c.take.ensures.fed) (fed_on l (config p) x inside may) in
    fed_inside l (config p) (config c.settle.new.self) x inside may
    (c.settle.ensures.rested ∙ ap (rested l) c.take.ensures.fed)
    (c.settle.ensures.enters (enters_there l (config q) after.arrives))
