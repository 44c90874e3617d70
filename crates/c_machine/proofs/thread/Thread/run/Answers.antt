use Rattle.std.proofs.Common.{◌<◌, false, sym, subst}
use Rattle.c_machine.specs.Positions.{laid, config}
use Rattle.c_machine.specs.Readers.{args_of, func_at}
use Rattle.c_machine.specs.Callers.{MayRun, side_at}
use Rattle.c_machine.specs.Moves.{ThreadState, IsInside, open_on}
use Rattle.c_machine.proofs.Begins.{begun_few, begun_inside}
use Rattle.c_machine.proofs.Space.{begin_values, begin_waits, begun_room}
use Rattle.c_machine.proofs.thread.Thread.run.Goals as goal

pub run-requires-clause-few : goal.run-requires-clause-few
run-requires-clause-few c =
    let l = laid c.args.code.now c.args.placed.now in
    let p = c.self.inside.position in
    let here = config p in
    let inside : IsInside l here = subst (λ (t : ThreadState). IsInside l t.config) (sym c.self.view_is) c.requires.inside in
    let may : MayRun l here = subst (λ (t : ThreadState). MayRun l t.config) (sym c.self.view_is) c.requires.may in
    begun_few l here (func_at here) (args_of here) (side_at l here) false c.check.ensures inside may.1

pub run-requires-clause-values : goal.run-requires-clause-values
run-requires-clause-values c =
    let l = laid c.args.code.now c.args.placed.now in
    let p = c.self.inside.position in
    let here = config p in
    let inside : IsInside l here = subst (λ (t : ThreadState). IsInside l t.config) (sym c.self.view_is) c.requires.inside in
    let may : MayRun l here = subst (λ (t : ThreadState). MayRun l t.config) (sym c.self.view_is) c.requires.may in
    let free : open_on (side_at l here) here < c.self.inside.depth = subst (λ (t : ThreadState). open_on (side_at l t.config) t.config < t.depth) (sym c.self.view_is) c.requires.depth in
    begin_values l c.self.inside.depth (func_at here) (args_of here) (side_at l here) false p c.check.ensures inside may.1 c.self.invariant free

pub run-requires-clause-waits : goal.run-requires-clause-waits
run-requires-clause-waits c =
    let l = laid c.args.code.now c.args.placed.now in
    let p = c.self.inside.position in
    let here = config p in
    let inside : IsInside l here = subst (λ (t : ThreadState). IsInside l t.config) (sym c.self.view_is) c.requires.inside in
    let may : MayRun l here = subst (λ (t : ThreadState). MayRun l t.config) (sym c.self.view_is) c.requires.may in
    let free : open_on (side_at l here) here < c.self.inside.depth = subst (λ (t : ThreadState). open_on (side_at l t.config) t.config < t.depth) (sym c.self.view_is) c.requires.depth in
    begin_waits l c.self.inside.depth (func_at here) (args_of here) (side_at l here) false p c.check.ensures inside may.1 c.self.invariant free

pub invariant_of-self : goal.invariant_of-self
invariant_of-self c =
    let l = laid c.args.code.now c.args.placed.now in
    let p = c.self.inside.position in
    let here = config p in
    let inside : IsInside l here = subst (λ (t : ThreadState). IsInside l t.config) (sym c.self.view_is) c.requires.inside in
    let may : MayRun l here = subst (λ (t : ThreadState). MayRun l t.config) (sym c.self.view_is) c.requires.may in
    let free : open_on (side_at l here) here < c.self.inside.depth = subst (λ (t : ThreadState). open_on (side_at l t.config) t.config < t.depth) (sym c.self.view_is) c.requires.depth in
    begun_room l c.self.inside.depth (func_at here) (args_of here) (side_at l here) false p c.check.ensures inside may.1 c.self.invariant free c.run.new.self c.run.ensures.values c.run.ensures.waits c.run.ensures.run

pub returns-clause-inside : goal.returns-clause-inside
returns-clause-inside c =
    let l = laid c.args.code.now c.args.placed.now in
    let p = c.self.inside.position in
    let here = config p in
    let inside : IsInside l here = subst (λ (t : ThreadState). IsInside l t.config) (sym c.self.view_is) c.requires.inside in
    let may : MayRun l here = subst (λ (t : ThreadState). MayRun l t.config) (sym c.self.view_is) c.requires.may in
    begun_inside l here (config c.run.new.self) (func_at here) (args_of here) (side_at l here) false c.check.ensures inside may.1 c.run.ensures.run
