use Rattle.std.proofs.Common.{◌≤◌, length, refl, sym, subst, arith}
use Rattle.recorder_state.specs.Inputs.{world_of}
use Rattle.recorder_threads.specs.Threads.{AreThreadsOf}
use Rattle.reference_recorder_threads.proofs.Oldest.{after, as_many, next, oldest_all, oldest_none}
use Rattle.reference_recorder_threads.proofs.after.threads_after.Goals as goal

pub loop-mark-init : goal.loop-mark-init
loop-mark-init c = λ p.
    let w = world_of c.args.inputs in
    subst (λ ms. AreThreadsOf w ms c.in_ok-threads.threads) (sym (oldest_none p.run)) (c.in_ok-threads.ensures w refl)

pub tell-requires : goal.tell-requires
tell-requires c = next (world_of c.args.inputs) c.args.marks.now c.requires c.loop-mark.mark-index c.mark-item.result c.loop-mark-test.true c.mark-item.is c.loop-mark.threads (c.loop-mark.invariant c.requires)

pub loop-mark-preserved : goal.loop-mark-preserved
loop-mark-preserved c = λ p.
    let w = world_of c.args.inputs in
    let n = next w c.args.marks.now p c.loop-mark.mark-index c.mark-item.result c.loop-mark-test.true c.mark-item.is c.loop-mark.threads (c.loop-mark.invariant p) in
    after w c.args.marks.now p c.loop-mark.mark-index c.mark-item.result c.loop-mark-test.true c.mark-item.is c.loop-mark.threads (c.loop-mark.invariant p) c.tell.new.threads (c.in_ok-tell.ensures n)

pub returns : goal.returns
returns c = λ p.
    let w = world_of c.args.inputs in
    let long : length p.run ≤ c.loop-mark.mark-index = (let n = as_many p.run c.args.marks.now p.same in let le = c.loop-mark-test.false in omega (arith, n, le)) in
    subst (λ ms. AreThreadsOf w ms c.loop-mark.threads) (oldest_all p.run c.loop-mark.mark-index long) (c.loop-mark.invariant p)
