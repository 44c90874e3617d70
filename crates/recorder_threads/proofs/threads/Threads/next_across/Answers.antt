use Rattle.std.proofs.Common.{◌∷◌, sym, subst, arith}
use Rattle.std.proofs.Math.ListN.{set}
use Rattle.c_machine.specs.Moves.{IsInside, ThreadState}
use Rattle.c_machine.specs.Positions.{laid}
use Rattle.c_machine.specs.Follows.{Crosses}
use Rattle.marks.specs.Wants.{Go}
use Rattle.recorder_threads.specs.Threads.{AreThreadsOf}
use Rattle.recorder_threads.specs.Answers.{IsCallTo, IsPlain}
use Rattle.recorder_threads.proofs.Across.{call_shown, crosses, is_call}
use Rattle.recorder_threads.proofs.Answering.{below, call_crosses, inside, plain_stands}
use Rattle.recorder_threads.proofs.Places.{next_of_set}
use Rattle.recorder_threads.proofs.threads.Threads.next_across.Goals as goal

pub index_mut-requires : goal.index_mut-requires
index_mut-requires c =
    let l = laid c.args.code.now c.args.placed.now in
    let items = c.self.inside.threads.items in
    let a = subst (λ ts. IsPlain l ts c.args.thread (IsCallTo c.args.func) Go) (sym c.self.view_is) c.requires in
    let lt = below l items c.args.thread (IsCallTo c.args.func) Go a.next in
    omega (arith, lt, c.self.inside.threads.ok)

pub next_across-requires-clause-crosses : goal.next_across-requires-clause-crosses
next_across-requires-clause-crosses c =
    let l = laid c.args.code.now c.args.placed.now in
    let items = c.self.inside.threads.items in
    let a = subst (λ ts. IsPlain l ts c.args.thread (IsCallTo c.args.func) Go) (sym c.self.view_is) c.requires in
    crosses l items c.args.thread c.args.func a.next c.index_mut.result.now c.index_mut.ensures.value

pub next_across-requires-clause-call : goal.next_across-requires-clause-call
next_across-requires-clause-call c =
    let l = laid c.args.code.now c.args.placed.now in
    let items = c.self.inside.threads.items in
    let a = subst (λ ts. IsPlain l ts c.args.thread (IsCallTo c.args.func) Go) (sym c.self.view_is) c.requires in
    call_shown l items c.args.thread c.args.func a.next c.index_mut.result.now c.index_mut.ensures.value

pub returns-clause-stand : goal.returns-clause-stand
returns-clause-stand c =
    let l = laid c.args.code.now c.args.placed.now in
    let items = c.self.inside.threads.items in
    let t = c.args.thread in
    let f = c.args.func in
    let y = c.index_mut.result.now in
    let z = c.next_across.new.thread in
    subst (λ ts. (a : IsPlain l ts t (IsCallTo f) Go) → AreThreadsOf a.next.world (a.next.mark ∷ a.next.past) (set items t z)) c.self.view_is
    (λ a.
    let want = a.next.follows.0.step.want in
    plain_stands l items t (IsCallTo f) Go a y c.index_mut.ensures.value Crosses (call_crosses want (is_call f want a.next.wanted)) z c.next_across.ensures.crossed
    (subst (λ (x : ThreadState). IsInside l x.config) (sym c.next_across.ensures.crossed) (inside l items t (IsCallTo f) Go a.next y c.index_mut.ensures.value)))

pub returns-clause-next : goal.returns-clause-next
returns-clause-next c =
    let l = laid c.args.code.now c.args.placed.now in
    let items = c.self.inside.threads.items in
    let t = c.args.thread in
    let f = c.args.func in
    let a = subst (λ ts. IsPlain l ts t (IsCallTo f) Go) (sym c.self.view_is) c.requires in
    next_of_set l items t c.next_across.new.thread c.next_across.result (below l items t (IsCallTo f) Go a.next) c.next_across.ensures.next
