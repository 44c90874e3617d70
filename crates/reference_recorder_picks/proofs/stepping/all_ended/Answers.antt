use Rattle.std.proofs.Common.{◌≡◌, ◌+◌, ◌-◌, ◌<◌, suc, not, true, false, Bool, length, ◌∙◌, refl, sym, ap, arith}
use Rattle.std.specs.List.{list_all, range_with_len}
use Rattle.whole_runs.specs.Outcomes.{started}
use Rattle.whole_runs.specs.Threads.{has_ended}
use Rattle.recorder_state.specs.Inputs.{world_of}
use Rattle.reference_recorder_picks.proofs.Picking.{all_here, all_on, few, many}
use Rattle.reference_recorder_picks.proofs.stepping.all_ended.Goals as goal

false_from_not : (b : Bool) → not b ≡ true → b ≡ false
false_from_not true e = sym e
false_from_not false e = refl

true_from_not : (b : Bool) → not b ≡ false → b ≡ true
true_from_not true e = refl
true_from_not false e = sym e

pub overflow_cast-number : goal.overflow_cast-number
overflow_cast-number c =
    let le = few (world_of c.args.inputs) c.args.marks.now c.requires.past c.args.threads.now (c.requires.threads c.requires.past) in
    let n = c.count-thread-end.ensures in
    omega (arith, le, n)

pub loop-thread-init : goal.loop-thread-init
loop-thread-init c = λ p.
    let w = world_of c.args.inputs in
    let n = many w c.args.marks.now p c.args.threads.now (c.requires.threads p) in
    let all : started p.run ≡ length c.args.threads.now - 0 = omega (arith, n) in
    ap (λ k. list_all (has_ended w p.run) (range_with_len 0 k)) all

pub returns-then-is_running : goal.returns-then-is_running
returns-then-is_running c = λ p.
    let w = world_of c.args.inputs in
    let n = c.count-thread-end.ensures in
    let lt : 0 < length c.args.threads.now - c.loop-thread.thread = omega (arith, n) in
    sym (c.loop-thread.invariant p ∙ all_here (has_ended w p.run) c.loop-thread.thread (length c.args.threads.now - c.loop-thread.thread) lt (false_from_not (has_ended w p.run c.loop-thread.thread) (sym (c.is_running.ensures p) ∙ c.if-is_running.true)))

pub loop-thread-preserved : goal.loop-thread-preserved
loop-thread-preserved c = λ p.
    let w = world_of c.args.inputs in
    let n = c.count-thread-end.ensures in
    let one : length c.args.threads.now - c.loop-thread.thread ≡ suc (length c.args.threads.now - (c.loop-thread.thread + 1)) = omega (arith, n) in
    c.loop-thread.invariant p
    ∙ all_on (has_ended w p.run) c.loop-thread.thread (length c.args.threads.now - c.loop-thread.thread) (length c.args.threads.now - (c.loop-thread.thread + 1)) one
    (true_from_not (has_ended w p.run c.loop-thread.thread) (sym (c.is_running.ensures p) ∙ c.if-is_running.false))

pub returns : goal.returns
returns c = λ p.
    let w = world_of c.args.inputs in
    let n = c.count-thread-end.ensures in
    let none : length c.args.threads.now - c.loop-thread.thread ≡ 0 = omega (arith, n) in
    sym (c.loop-thread.invariant p ∙ ap (λ k. list_all (has_ended w p.run) (range_with_len c.loop-thread.thread k)) none)
