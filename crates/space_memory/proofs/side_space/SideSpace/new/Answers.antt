use Rattle.std.proofs.Common.{◌++◌, ◌∷◌, [], List, map, ap, sym, ◌∙◌, arith}
use Rattle.std.specs.List.{range_with_len}
use Rattle.std.proofs.lemmas.List.FromFn.{map-range_with_len_more}
use Rattle.space_memory.specs.StackFrames.{StackState}
use Rattle.space_memory.specs.Sides.{fresh_stack}
use Rattle.space_memory.proofs.side_space.SideSpace.new.Goals as goal

pub loop-thread-preserved : goal.loop-thread-preserved
loop-thread-preserved c =
    let before : List StackState = map (fresh_stack c.args.stacks_from) (range_with_len 0 c.loop-thread.thread) in
    record {
      stacks = c.in_ok-push.ensures.items ∙ ap (λ (xs : List StackState). xs ++ c.in_ok-new.field-0 ∷ []) c.loop-thread.invariant.stacks ∙ ap (λ (x : StackState). before ++ x ∷ []) c.in_ok-new.ensures ∙ sym (map-range_with_len_more (fresh_stack c.args.stacks_from) 0 c.loop-thread.thread c.loop-thread.thread (omega arith));
      threads = omega arith;
    }
