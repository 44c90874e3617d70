use Rattle.std.proofs.Common.{◌∷◌, sym, subst, arith}
use Rattle.std.proofs.Math.ListN.{set}
use Rattle.c_machine.specs.Positions.{laid}
use Rattle.c_machine.specs.Follows.{GoesUp}
use Rattle.marks.specs.Wants.{CalledBack}
use Rattle.recorder_threads.specs.Threads.{AreThreadsOf}
use Rattle.recorder_threads.specs.Answers.{IsCalledBack, IsNoCall}
use Rattle.recorder_threads.proofs.Answering.{below, inside, may, plain_stands, up_report}
use Rattle.recorder_threads.proofs.threads.Threads.call_back.Goals as goal

pub index_mut-requires : goal.index_mut-requires
index_mut-requires c =
    let l = laid c.args.code.now c.args.placed.now in
    let items = c.self.inside.threads.items in
    let a = subst (λ ts. IsCalledBack l ts c.args.thread) (sym c.self.view_is) c.requires in
    let lt = below l items c.args.thread IsNoCall (CalledBack a.func a.args) a.plain.next in
    omega (arith, lt, c.self.inside.threads.ok)

pub go_up-requires-clause-inside : goal.go_up-requires-clause-inside
go_up-requires-clause-inside c =
    let l = laid c.args.code.now c.args.placed.now in
    let items = c.self.inside.threads.items in
    let a = subst (λ ts. IsCalledBack l ts c.args.thread) (sym c.self.view_is) c.requires in
    inside l items c.args.thread IsNoCall (CalledBack a.func a.args) a.plain.next c.index_mut.result.now c.index_mut.ensures.value

pub go_up-requires-clause-may : goal.go_up-requires-clause-may
go_up-requires-clause-may c =
    let l = laid c.args.code.now c.args.placed.now in
    let items = c.self.inside.threads.items in
    let a = subst (λ ts. IsCalledBack l ts c.args.thread) (sym c.self.view_is) c.requires in
    let y = c.index_mut.result.now in
    (may l items c.args.thread IsNoCall (CalledBack a.func a.args) a.plain.next y c.index_mut.ensures.value GoesUp (up_report l items c.args.thread a.func a.args a.plain.next y)).0

pub go_up-requires-clause-depth : goal.go_up-requires-clause-depth
go_up-requires-clause-depth c =
    let l = laid c.args.code.now c.args.placed.now in
    let items = c.self.inside.threads.items in
    let a = subst (λ ts. IsCalledBack l ts c.args.thread) (sym c.self.view_is) c.requires in
    let y = c.index_mut.result.now in
    (may l items c.args.thread IsNoCall (CalledBack a.func a.args) a.plain.next y c.index_mut.ensures.value GoesUp (up_report l items c.args.thread a.func a.args a.plain.next y)).1

pub returns : goal.returns
returns c =
    let l = laid c.args.code.now c.args.placed.now in
    let items = c.self.inside.threads.items in
    let t = c.args.thread in
    let y = c.index_mut.result.now in
    let z = c.go_up.new.self in
    subst (λ ts. (a : IsCalledBack l ts t) → AreThreadsOf a.plain.next.world (a.plain.next.mark ∷ a.plain.next.past) (set items t z)) c.self.view_is
    (λ a. plain_stands l items t IsNoCall (CalledBack a.func a.args) a.plain y c.index_mut.ensures.value GoesUp (up_report l items t a.func a.args a.plain.next y) z c.go_up.ensures.up c.go_up.ensures.inside)
