use Rattle.std.proofs.Common.{◌∷◌, sym, subst, refl, arith}
use Rattle.std.proofs.Math.ListN.{set}
use Rattle.c_machine.specs.Positions.{laid}
use Rattle.c_machine.specs.Follows.{Feeds}
use Rattle.marks.specs.Wants.{Value}
use Rattle.recorder_threads.specs.Threads.{AreThreadsOf}
use Rattle.recorder_threads.specs.Answers.{IsNoCall, IsPlain}
use Rattle.recorder_threads.proofs.Answering.{below, inside, may, plain_stands}
use Rattle.recorder_threads.proofs.threads.Threads.give.Goals as goal

pub index_mut-requires : goal.index_mut-requires
index_mut-requires c =
    let l = laid c.args.code.now c.args.placed.now in
    let items = c.self.inside.threads.items in
    let a = subst (λ ts. IsPlain l ts c.args.thread IsNoCall (Value c.args.value)) (sym c.self.view_is) c.requires in
    let lt = below l items c.args.thread IsNoCall (Value c.args.value) a.next in
    omega (arith, lt, c.self.inside.threads.ok)

pub next_after-next-requires-clause-inside : goal.next_after-next-requires-clause-inside
next_after-next-requires-clause-inside c =
    let l = laid c.args.code.now c.args.placed.now in
    let items = c.self.inside.threads.items in
    let a = subst (λ ts. IsPlain l ts c.args.thread IsNoCall (Value c.args.value)) (sym c.self.view_is) c.requires in
    inside l items c.args.thread IsNoCall (Value c.args.value) a.next c.index_mut.result.now c.index_mut.ensures.value

pub next_after-next-requires-clause-may : goal.next_after-next-requires-clause-may
next_after-next-requires-clause-may c =
    let l = laid c.args.code.now c.args.placed.now in
    let items = c.self.inside.threads.items in
    let a = subst (λ ts. IsPlain l ts c.args.thread IsNoCall (Value c.args.value)) (sym c.self.view_is) c.requires in
    may l items c.args.thread IsNoCall (Value c.args.value) a.next c.index_mut.result.now c.index_mut.ensures.value (Feeds (Value c.args.value)) refl

pub returns : goal.returns
returns c =
    let l = laid c.args.code.now c.args.placed.now in
    let items = c.self.inside.threads.items in
    let t = c.args.thread in
    let v = c.args.value in
    let z = c.next_after-next.new.thread in
    subst (λ ts. (a : IsPlain l ts t IsNoCall (Value v)) → AreThreadsOf a.next.world (a.next.mark ∷ a.next.past) (set items t z)) c.self.view_is
    (λ a. plain_stands l items t IsNoCall (Value v) a c.index_mut.result.now c.index_mut.ensures.value (Feeds (Value v)) refl z c.next_after-next.ensures.fed c.next_after-next.ensures.inside)
