use Rattle.std.proofs.Common.{◌≡◌, ◌<◌, ◌∷◌, length, sym, subst, refl, arith}
use Rattle.std.proofs.Math.ListN.{set}
use Rattle.c_machine.specs.Positions.{laid}
use Rattle.c_machine.specs.Follows.{frame_report}
use Rattle.marks.specs.Wants.{Frame}
use Rattle.recorder_threads.specs.Threads.{AreThreadsOf, IsNextOf}
use Rattle.recorder_threads.specs.Answers.{IsNoCall, IsPlain}
use Rattle.recorder_threads.proofs.Answering.{below, inside, may, plain_stands}
use Rattle.recorder_threads.proofs.Places.{next_of_set}
use Rattle.recorder_threads.proofs.threads.Threads.next_in_frame.Goals as goal

pub index_mut-requires : goal.index_mut-requires
index_mut-requires c =
    let l = laid c.args.code.now c.args.placed.now in
    let items = c.self.inside.threads.items in
    let a = subst (λ ts. IsPlain l ts c.args.thread IsNoCall (Frame c.args.frame)) (sym c.self.view_is) c.requires in
    let lt = below l items c.args.thread IsNoCall (Frame c.args.frame) a.next in
    omega (arith, lt, c.self.inside.threads.ok)

pub enter-requires-clause-inside : goal.enter-requires-clause-inside
enter-requires-clause-inside c =
    let l = laid c.args.code.now c.args.placed.now in
    let items = c.self.inside.threads.items in
    let a = subst (λ ts. IsPlain l ts c.args.thread IsNoCall (Frame c.args.frame)) (sym c.self.view_is) c.requires in
    inside l items c.args.thread IsNoCall (Frame c.args.frame) a.next c.index_mut.result.now c.index_mut.ensures.value

pub enter-requires-clause-may : goal.enter-requires-clause-may
enter-requires-clause-may c =
    let l = laid c.args.code.now c.args.placed.now in
    let items = c.self.inside.threads.items in
    let a = subst (λ ts. IsPlain l ts c.args.thread IsNoCall (Frame c.args.frame)) (sym c.self.view_is) c.requires in
    let y = c.index_mut.result.now in
    may l items c.args.thread IsNoCall (Frame c.args.frame) a.next y c.index_mut.ensures.value (frame_report y.config c.args.frame) refl

pub returns-clause-stand : goal.returns-clause-stand
returns-clause-stand c =
    let l = laid c.args.code.now c.args.placed.now in
    let items = c.self.inside.threads.items in
    let t = c.args.thread in
    let y = c.index_mut.result.now in
    let z = c.enter.new.thread in
    subst (λ ts. (a : IsPlain l ts t IsNoCall (Frame c.args.frame)) → AreThreadsOf a.next.world (a.next.mark ∷ a.next.past) (set items t z)) c.self.view_is
    (λ a. plain_stands l items t IsNoCall (Frame c.args.frame) a y c.index_mut.ensures.value (frame_report y.config c.args.frame) refl z c.enter.ensures.entered c.enter.ensures.inside)

pub returns-clause-next : goal.returns-clause-next
returns-clause-next c =
    let l = laid c.args.code.now c.args.placed.now in
    let items = c.self.inside.threads.items in
    let t = c.args.thread in
    let z = c.enter.new.thread in
    let a = subst (λ ts. IsPlain l ts t IsNoCall (Frame c.args.frame)) (sym c.self.view_is) c.requires in
    next_of_set l items t z c.enter.result (below l items t IsNoCall (Frame c.args.frame) a.next) c.enter.ensures.next
