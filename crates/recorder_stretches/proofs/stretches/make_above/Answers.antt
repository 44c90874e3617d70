use Rattle.std.proofs.Common.{◌≡◌, ◌-◌, length, refl, ap, ◌∙◌, arith}
use Rattle.std.proofs.lemmas.List.{length-set}
use Rattle.recorder_threads.specs.Threads.{thread_at}
use Rattle.recorder_state.specs.Inputs.{world_of}
use Rattle.recorder_stretches.proofs.Chains.{counts_few, within}
use Rattle.recorder_stretches.proofs.Lent.{less_above, reached_above, same_above}
use Rattle.recorder_stretches.proofs.stretches.make_above.Goals as goal

pub overflow_sub-left : goal.overflow_sub-left
overflow_sub-left c = within (world_of c.args.inputs) c.args.state.now c.requires.reached

pub shape_of-state : goal.shape_of-state
shape_of-state c = same_above _ _ _ _ _ _ c.make_accesses-next.ensures.made

pub overflow_sub-made : goal.overflow_sub-made
overflow_sub-made c = less_above _ _ _ _ _ _ c.make_accesses-next.ensures.made

pub count_steps-requires-clause-few : goal.count_steps-requires-clause-few
count_steps-requires-clause-few c =
    let w = world_of c.args.inputs in
    let s = c.args.state.now in
    counts_few w s c.requires.reached (w.file.budget - s.steps - c.make_accesses-next.new.accesses.left) (omega arith)

pub returns-clause-reached : goal.returns-clause-reached
returns-clause-reached c =
    let w = world_of c.args.inputs in
    let s = c.args.state.now in
    let reached = reached_above (world_of c.args.inputs) c.args.state.now c.requires.at c.requires.reached _ c.make_accesses-next.new.accesses c.make_accesses-next.new.self c.count_steps.new.self c.make_accesses-next.ensures.made refl refl c.make_accesses-next.ensures.others c.count_steps.ensures in
    let one : length s.threads ≡ 1 = c.requires.at.alone in
    let long : length c.make_accesses-next.new.self ≡ length s.threads = ap length c.make_accesses-next.ensures.others ∙ length-set s.threads 0 (thread_at c.make_accesses-next.new.self 0) in
    c.keep.ensures.reached w (record { reached = reached; started = omega (arith, one, long); next = c.make_accesses-next.ensures.next })
