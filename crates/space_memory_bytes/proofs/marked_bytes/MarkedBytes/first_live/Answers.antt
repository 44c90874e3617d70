use Rattle.std.proofs.Common.{◌≡◌, ◌-◌, ℕ, List, Option, length, take, drop, ap, sym, subst, ◌∙◌, arith}
use Rattle.std.specs.Prelude.{min}
use Rattle.std.proofs.lemmas.List.{take_all, length-drop}
use Rattle.memchr.specs.Find.{IsFirst, Nowhere, NoneBefore, Passes, is_byte}
use Rattle.space_memory_bytes.proofs.Nexts.{LivesAt, live_nowhere, live_first}
use Rattle.space_memory_bytes.proofs.marked_bytes.MarkedBytes.first_live.Goals as goal

-- the marks that are searched
searched : (from : ℕ) (now marks : List ℕ) → now ≡ marks → take (length now - from) (drop from now) ≡ drop from marks
searched from now marks same = take_all (length now - from) (drop from now) (omega (arith, length-drop from now)) ∙ ap (λ (ms : List ℕ). drop from ms) same

-- no mark is 1
pub returns-in_err-at : goal.returns-in_err-at
returns-in_err-at c =
    let start = c.min-start.result in
    let start_is : start ≡ min c.args.from (length c.self.inside.marks.items) = omega (arith, c.min-start.ensures, c.len.ensures) in
    subst (λ (o : Option ℕ). IsFirst (LivesAt c.args.self.now) c.args.from (length c.args.self.now) o) (sym c.from_residual.ensures)
    (live_nowhere _ _ _ c.self.invariant.0 _ c.self.view_is c.args.from start start_is (subst (λ (ms : List ℕ). Nowhere (Passes (is_byte 1) ms) 0 (length ms)) (searched start c.deref.result.now _ c.deref.ensures.value) c.in_err-at.ensures))

-- or the first one tells
pub returns : goal.returns
returns c =
    let start = c.min-start.result in
    let start_is : start ≡ min c.args.from (length c.self.inside.marks.items) = omega (arith, c.min-start.ensures, c.len.ensures) in
    live_first _ _ _ c.self.invariant.0 _ c.self.view_is c.args.from start start_is c.in_ok-at.at
    (subst (λ (ms : List ℕ). NoneBefore (Passes (is_byte 1) ms) 0 (length ms) c.in_ok-at.at × Passes (is_byte 1) ms c.in_ok-at.at) (searched start c.deref.result.now _ c.deref.ensures.value) c.in_ok-at.ensures)
