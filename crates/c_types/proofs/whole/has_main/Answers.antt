use Rattle.std.proofs.Common.{◌≡◌, ℕ, map, drop, sym, ◌∙◌, subst, add-one}
use Rattle.c_types_rules.specs.Sources.{has_main}
use Rattle.c_types_program.specs.Declarations.{function_in}
use Rattle.c_types.proofs.Ended.{main_here, main_item, main_so_far, other_item}
use Rattle.c_types.proofs.Limited.{mapped_item}
use Rattle.c_types.proofs.whole.has_main.Goals as goal
use Rattle.c_types.proofs.whole.has_main.Goals.{else-eq-via-then-eq+else-is_some, else-eq-via-else-eq}

pub returns-then-is_some : goal.returns-then-is_some
returns-then-is_some c = λ t.
    let fs = c.args.functions.now in
    let i = c.loop-function.function-index in
    let f = c.function-item.result in
    let here = main_item t f c.as_slice.result.now c.as_slice-in-loop-function.result.now c.eq.result c.is_some.result c.as_slice.ensures.bytes c.as_slice-in-loop-function.ensures c.eq.ensures c.if-eq.true c.is_some.ensures in
    sym (main_here (map (function_in t) fs) i (function_in t f) (mapped_item (function_in t) fs i f c.loop-function-test.true c.function-item.is) (here ∙ c.if-is_some.true) (c.loop-function.invariant t))

pub loop-function-preserved : goal.loop-function-preserved
loop-function-preserved c = λ t.
    let fs = c.args.functions.now in
    let i = c.loop-function.function-index in
    let f = c.function-item.result in
    let P : ℕ → Type 0 = λ k. has_main (map (function_in t) fs) ≡ has_main (drop k (map (function_in t) fs)) in
    subst P (sym (add-one i)) (main_so_far (map (function_in t) fs) i (function_in t f) (mapped_item (function_in t) fs i f c.loop-function-test.true c.function-item.is)
    (elim c.else-eq.branch [
      | else-eq-via-then-eq+else-is_some w ↦ main_item t f c.as_slice.result.now c.as_slice-in-loop-function.result.now c.eq.result w.is_some.result c.as_slice.ensures.bytes c.as_slice-in-loop-function.ensures c.eq.ensures w.if-eq.true w.is_some.ensures ∙ w.if-is_some.false
      | else-eq-via-else-eq w ↦ other_item t f c.as_slice.result.now c.as_slice-in-loop-function.result.now c.eq.result c.as_slice.ensures.bytes c.as_slice-in-loop-function.ensures c.eq.ensures w.if-eq.false
    ]) (c.loop-function.invariant t))
