use Rattle.std.proofs.Common.{◌∷◌, sym, subst, arith}
use Rattle.std.proofs.Math.ListN.{set}
use Rattle.c_machine.specs.Positions.{laid}
use Rattle.c_machine.specs.Follows.{Feeds}
use Rattle.c_machine.specs.Wants.{told}
use Rattle.recorder_threads.specs.Threads.{AreThreadsOf}
use Rattle.recorder_threads.specs.Answers.{IsNoCall, IsPlain}
use Rattle.recorder_threads.proofs.Answering.{below, told_feeds, inside, may, plain_stands}
use Rattle.recorder_threads.proofs.Places.{next_of_set}
use Rattle.recorder_threads.proofs.threads.Threads.next_after.Goals as goal

pub index_mut-requires : goal.index_mut-requires
index_mut-requires c =
    let l = laid c.args.code.now c.args.placed.now in
    let items = c.self.inside.threads.items in
    let x = told c.args.answer in
    let a = subst (λ ts. IsPlain l ts c.args.thread IsNoCall x) (sym c.self.view_is) c.requires.plain in
    let lt = below l items c.args.thread IsNoCall x a.next in
    omega (arith, lt, c.self.inside.threads.ok)

pub next_after-requires-clause-inside : goal.next_after-requires-clause-inside
next_after-requires-clause-inside c =
    let l = laid c.args.code.now c.args.placed.now in
    let items = c.self.inside.threads.items in
    let x = told c.args.answer in
    let a = subst (λ ts. IsPlain l ts c.args.thread IsNoCall x) (sym c.self.view_is) c.requires.plain in
    inside l items c.args.thread IsNoCall x a.next c.index_mut.result.now c.index_mut.ensures.value

pub next_after-requires-clause-may : goal.next_after-requires-clause-may
next_after-requires-clause-may c =
    let l = laid c.args.code.now c.args.placed.now in
    let items = c.self.inside.threads.items in
    let x = told c.args.answer in
    let a = subst (λ ts. IsPlain l ts c.args.thread IsNoCall x) (sym c.self.view_is) c.requires.plain in
    let y = c.index_mut.result.now in
    may l items c.args.thread IsNoCall x a.next y c.index_mut.ensures.value (Feeds x) (told_feeds c.args.answer y.config a.next.follows.0.step.want c.requires.no_frame a.next.wanted)

pub returns-clause-stand : goal.returns-clause-stand
returns-clause-stand c =
    let l = laid c.args.code.now c.args.placed.now in
    let items = c.self.inside.threads.items in
    let t = c.args.thread in
    let x = told c.args.answer in
    let y = c.index_mut.result.now in
    let z = c.next_after.new.thread in
    subst (λ ts. (a : IsPlain l ts t IsNoCall x) → AreThreadsOf a.next.world (a.next.mark ∷ a.next.past) (set items t z)) c.self.view_is
    (λ a. plain_stands l items t IsNoCall x a y c.index_mut.ensures.value (Feeds x) (told_feeds c.args.answer y.config a.next.follows.0.step.want c.requires.no_frame a.next.wanted) z c.next_after.ensures.fed c.next_after.ensures.inside)

pub returns-clause-next : goal.returns-clause-next
returns-clause-next c =
    let l = laid c.args.code.now c.args.placed.now in
    let items = c.self.inside.threads.items in
    let t = c.args.thread in
    let x = told c.args.answer in
    let a = subst (λ ts. IsPlain l ts t IsNoCall x) (sym c.self.view_is) c.requires.plain in
    next_of_set l items t c.next_after.new.thread c.next_after.result (below l items t IsNoCall x a.next) c.next_after.ensures.next
