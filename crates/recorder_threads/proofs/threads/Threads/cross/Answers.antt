use Rattle.std.proofs.Common.{◌∷◌, sym, subst, arith}
use Rattle.std.proofs.Math.ListN.{set}
use Rattle.c_machine.specs.Moves.{IsInside, ThreadState}
use Rattle.c_machine.specs.Positions.{laid}
use Rattle.c_machine.specs.Follows.{Crosses}
use Rattle.marks.specs.Wants.{Go}
use Rattle.recorder_threads.specs.Threads.{AreThreadsOf}
use Rattle.recorder_threads.specs.Answers.{IsCall, IsPlain}
use Rattle.recorder_threads.proofs.Answering.{below, call_crosses, inside, may, plain_stands}
use Rattle.recorder_threads.proofs.threads.Threads.cross.Goals as goal

pub index_mut-requires : goal.index_mut-requires
index_mut-requires c =
    let l = laid c.args.code.now c.args.placed.now in
    let items = c.self.inside.threads.items in
    let a = subst (λ ts. IsPlain l ts c.args.thread IsCall Go) (sym c.self.view_is) c.requires in
    let lt = below l items c.args.thread IsCall Go a.next in
    omega (arith, lt, c.self.inside.threads.ok)

pub cross-requires : goal.cross-requires
cross-requires c =
    let l = laid c.args.code.now c.args.placed.now in
    let items = c.self.inside.threads.items in
    let a = subst (λ ts. IsPlain l ts c.args.thread IsCall Go) (sym c.self.view_is) c.requires in
    record { crosses = may l items c.args.thread IsCall Go a.next c.index_mut.result.now c.index_mut.ensures.value Crosses (call_crosses a.next.follows.0.step.want a.next.wanted) }

pub returns : goal.returns
returns c =
    let l = laid c.args.code.now c.args.placed.now in
    let items = c.self.inside.threads.items in
    let t = c.args.thread in
    let z = c.cross.new.self in
    subst (λ ts. (a : IsPlain l ts t IsCall Go) → AreThreadsOf a.next.world (a.next.mark ∷ a.next.past) (set items t z)) c.self.view_is
    (λ a. plain_stands l items t IsCall Go a c.index_mut.result.now c.index_mut.ensures.value Crosses (call_crosses a.next.follows.0.step.want a.next.wanted) z c.cross.ensures.crossed
    (subst (λ (y : ThreadState). IsInside l y.config) (sym c.cross.ensures.crossed) (inside l items t IsCall Go a.next c.index_mut.result.now c.index_mut.ensures.value)))
