use Rattle.std.proofs.Common.{◌<◌, sym, subst}
use Rattle.c_machine.specs.Positions.{laid, config}
use Rattle.c_machine.specs.Moves.{ThreadState, IsInside, MayBegin, open_on}
use Rattle.c_machine.proofs.Begins.{begun_few, begun_inside}
use Rattle.c_machine.proofs.Space.{begin_values, begin_waits, begun_room}
use Rattle.c_machine.proofs.thread.Thread.begin.Goals as goal

pub begin-requires-clause-few : goal.begin-requires-clause-few
begin-requires-clause-few c =
    let l = laid c.args.code.now c.args.placed.now in
    let p = c.self.inside.position in
    let inside : IsInside l (config p) = subst (λ (t : ThreadState). IsInside l t.config) (sym c.self.view_is) c.requires.inside in
    let may : MayBegin l (config p) c.args.func c.args.args.now c.args.side c.args.up = subst (λ (t : ThreadState). MayBegin l t.config c.args.func c.args.args.now c.args.side c.args.up) (sym c.self.view_is) c.requires.may in
    begun_few l (config p) c.args.func c.args.args.now c.args.side c.args.up c.check.ensures inside may

pub begin-requires-clause-values : goal.begin-requires-clause-values
begin-requires-clause-values c =
    let l = laid c.args.code.now c.args.placed.now in
    let p = c.self.inside.position in
    let inside : IsInside l (config p) = subst (λ (t : ThreadState). IsInside l t.config) (sym c.self.view_is) c.requires.inside in
    let may : MayBegin l (config p) c.args.func c.args.args.now c.args.side c.args.up = subst (λ (t : ThreadState). MayBegin l t.config c.args.func c.args.args.now c.args.side c.args.up) (sym c.self.view_is) c.requires.may in
    let free : open_on c.args.side (config p) < c.self.inside.depth = subst (λ (t : ThreadState). open_on c.args.side t.config < t.depth) (sym c.self.view_is) c.requires.depth in
    begin_values l c.self.inside.depth c.args.func c.args.args.now c.args.side c.args.up p c.check.ensures inside may c.self.invariant free

pub begin-requires-clause-waits : goal.begin-requires-clause-waits
begin-requires-clause-waits c =
    let l = laid c.args.code.now c.args.placed.now in
    let p = c.self.inside.position in
    let inside : IsInside l (config p) = subst (λ (t : ThreadState). IsInside l t.config) (sym c.self.view_is) c.requires.inside in
    let may : MayBegin l (config p) c.args.func c.args.args.now c.args.side c.args.up = subst (λ (t : ThreadState). MayBegin l t.config c.args.func c.args.args.now c.args.side c.args.up) (sym c.self.view_is) c.requires.may in
    let free : open_on c.args.side (config p) < c.self.inside.depth = subst (λ (t : ThreadState). open_on c.args.side t.config < t.depth) (sym c.self.view_is) c.requires.depth in
    begin_waits l c.self.inside.depth c.args.func c.args.args.now c.args.side c.args.up p c.check.ensures inside may c.self.invariant free

pub invariant_of-self : goal.invariant_of-self
invariant_of-self c =
    let l = laid c.args.code.now c.args.placed.now in
    let p = c.self.inside.position in
    let inside : IsInside l (config p) = subst (λ (t : ThreadState). IsInside l t.config) (sym c.self.view_is) c.requires.inside in
    let may : MayBegin l (config p) c.args.func c.args.args.now c.args.side c.args.up = subst (λ (t : ThreadState). MayBegin l t.config c.args.func c.args.args.now c.args.side c.args.up) (sym c.self.view_is) c.requires.may in
    let free : open_on c.args.side (config p) < c.self.inside.depth = subst (λ (t : ThreadState). open_on c.args.side t.config < t.depth) (sym c.self.view_is) c.requires.depth in
    begun_room l c.self.inside.depth c.args.func c.args.args.now c.args.side c.args.up p c.check.ensures inside may c.self.invariant free c.begin.new.self c.begin.ensures.values c.begin.ensures.waits c.begin.ensures.begun

pub returns-clause-inside : goal.returns-clause-inside
returns-clause-inside c =
    let l = laid c.args.code.now c.args.placed.now in
    let p = c.self.inside.position in
    let inside : IsInside l (config p) = subst (λ (t : ThreadState). IsInside l t.config) (sym c.self.view_is) c.requires.inside in
    let may : MayBegin l (config p) c.args.func c.args.args.now c.args.side c.args.up = subst (λ (t : ThreadState). MayBegin l t.config c.args.func c.args.args.now c.args.side c.args.up) (sym c.self.view_is) c.requires.may in
    begun_inside l (config p) (config c.begin.new.self) c.args.func c.args.args.now c.args.side c.args.up c.check.ensures inside may c.begin.ensures.begun
