use Rattle.std.proofs.Common.{◌<◌, true, sym, subst}
use Rattle.marks.specs.declared.side.Side.TheVariants.{Replay}
use Rattle.c_machine.specs.Positions.{laid, config}
use Rattle.c_machine.specs.Readers.{args_of, func_at}
use Rattle.c_machine.specs.Callers.{MayGoUp}
use Rattle.c_machine.specs.Moves.{ThreadState, IsInside, open_on}
use Rattle.c_machine.proofs.Begins.{begun_few, begun_inside}
use Rattle.c_machine.proofs.Space.{begin_waits, begun_room}
use Rattle.c_machine.proofs.thread.Thread.go_up.Goals as goal

pub go_up-requires-clause-few : goal.go_up-requires-clause-few
go_up-requires-clause-few c =
    let l = laid c.args.code.now c.args.placed.now in
    let p = c.self.inside.position in
    let here = config p in
    let inside : IsInside l here = subst (λ (t : ThreadState). IsInside l t.config) (sym c.self.view_is) c.requires.inside in
    let may : MayGoUp l here = subst (λ (t : ThreadState). MayGoUp l t.config) (sym c.self.view_is) c.requires.may in
    begun_few l here (func_at here) (args_of here) Replay true c.check.ensures inside may.2

pub go_up-requires-clause-waits : goal.go_up-requires-clause-waits
go_up-requires-clause-waits c =
    let l = laid c.args.code.now c.args.placed.now in
    let p = c.self.inside.position in
    let here = config p in
    let inside : IsInside l here = subst (λ (t : ThreadState). IsInside l t.config) (sym c.self.view_is) c.requires.inside in
    let may : MayGoUp l here = subst (λ (t : ThreadState). MayGoUp l t.config) (sym c.self.view_is) c.requires.may in
    let free : open_on Replay here < c.self.inside.depth = subst (λ (t : ThreadState). open_on Replay t.config < t.depth) (sym c.self.view_is) c.requires.depth in
    begin_waits l c.self.inside.depth (func_at here) (args_of here) Replay true p c.check.ensures inside may.2 c.self.invariant free

pub invariant_of-self : goal.invariant_of-self
invariant_of-self c =
    let l = laid c.args.code.now c.args.placed.now in
    let p = c.self.inside.position in
    let here = config p in
    let inside : IsInside l here = subst (λ (t : ThreadState). IsInside l t.config) (sym c.self.view_is) c.requires.inside in
    let may : MayGoUp l here = subst (λ (t : ThreadState). MayGoUp l t.config) (sym c.self.view_is) c.requires.may in
    let free : open_on Replay here < c.self.inside.depth = subst (λ (t : ThreadState). open_on Replay t.config < t.depth) (sym c.self.view_is) c.requires.depth in
    begun_room l c.self.inside.depth (func_at here) (args_of here) Replay true p c.check.ensures inside may.2 c.self.invariant free c.go_up.new.self c.go_up.ensures.values c.go_up.ensures.waits c.go_up.ensures.up

pub returns-clause-inside : goal.returns-clause-inside
returns-clause-inside c =
    let l = laid c.args.code.now c.args.placed.now in
    let p = c.self.inside.position in
    let here = config p in
    let inside : IsInside l here = subst (λ (t : ThreadState). IsInside l t.config) (sym c.self.view_is) c.requires.inside in
    let may : MayGoUp l here = subst (λ (t : ThreadState). MayGoUp l t.config) (sym c.self.view_is) c.requires.may in
    begun_inside l here (config c.go_up.new.self) (func_at here) (args_of here) Replay true c.check.ensures inside may.2 c.go_up.ensures.up
