use Rattle.std.proofs.Common.{◌≡◌, ◌-◌, length, refl, ap, ◌∙◌, arith}
use Rattle.std.proofs.lemmas.List.{length-set}
use Rattle.recorder_threads.specs.Threads.{thread_at}
use Rattle.recorder_state.specs.Inputs.{world_of}
use Rattle.recorder_stretches.proofs.Chains.{within}
use Rattle.recorder_stretches.proofs.Lent.{less_below, reached_below, same_below}
use Rattle.recorder_stretches.proofs.stretches.make_below.Goals as goal

pub overflow_sub-left : goal.overflow_sub-left
overflow_sub-left c = within (world_of c.args.inputs) c.args.state.now c.requires.reached

pub shape_of-state : goal.shape_of-state
shape_of-state c = same_below _ _ _ _ _ _ c.make_accesses-next.ensures.made

pub overflow_sub-state : goal.overflow_sub-state
overflow_sub-state c = less_below _ _ _ _ _ _ c.make_accesses-next.ensures.made

pub returns-clause-reached : goal.returns-clause-reached
returns-clause-reached c =
    let w = world_of c.args.inputs in
    let s = c.args.state.now in
    let reached = reached_below (world_of c.args.inputs) c.args.state.now c.requires.at c.requires.reached _ c.make_accesses-next.new.accesses c.make_accesses-next.new.self c.make_accesses-next.ensures.made refl refl c.make_accesses-next.ensures.others in
    let one : length s.threads ≡ 1 = c.requires.at.alone in
    let long : length c.make_accesses-next.new.self ≡ length s.threads = ap length c.make_accesses-next.ensures.others ∙ length-set s.threads 0 (thread_at c.make_accesses-next.new.self 0) in
    c.keep.ensures.reached w (record { reached = reached; started = omega (arith, one, long); next = c.make_accesses-next.ensures.next })
