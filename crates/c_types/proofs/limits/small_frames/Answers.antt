use Rattle.std.proofs.Common.{map, sym, ◌∙◌}
use Rattle.c_types_rules.specs.Limits.{small_frame}
use Rattle.c_types_program.specs.Declarations.{function_in}
use Rattle.c_types.proofs.Limited.{all_kept, kept_after, mapped_end, mapped_item, not_kept_here}
use Rattle.c_types.proofs.limits.small_frames.Goals as goal

pub returns-then-not-small_frame : goal.returns-then-not-small_frame
returns-then-not-small_frame c =
    let t = c.args.env.now.table in
    let fs = c.args.functions.now in
    let i = c.loop-function.function-index in
    let f = c.function-item.result in
    λ p e. sym (not_kept_here (small_frame p) (map (function_in t) fs) i (function_in t f) (mapped_item (function_in t) fs i f c.loop-function-test.true c.function-item.is) (sym (c.small_frame.ensures p e) ∙ c.if-not-small_frame.true) (c.loop-function.invariant p e))

pub loop-function-preserved : goal.loop-function-preserved
loop-function-preserved c =
    let t = c.args.env.now.table in
    let fs = c.args.functions.now in
    let i = c.loop-function.function-index in
    let f = c.function-item.result in
    λ p e. kept_after (small_frame p) (map (function_in t) fs) i (function_in t f) (mapped_item (function_in t) fs i f c.loop-function-test.true c.function-item.is) (sym (c.small_frame.ensures p e) ∙ c.if-not-small_frame.false) (c.loop-function.invariant p e)

pub returns : goal.returns
returns c =
    let t = c.args.env.now.table in
    let fs = c.args.functions.now in
    λ p e. sym (all_kept (small_frame p) (map (function_in t) fs) c.loop-function.function-index (mapped_end (function_in t) fs c.loop-function.function-index c.loop-function-test.false) (c.loop-function.invariant p e))
