-- Where a text is cut, as a search of many bytes says it.
use Rattle.std.proofs.Common.{◌≡◌, ℕ, ◌+◌, ◌-◌, ◌<◌, List, [], ◌∷◌, length, get_or, take, drop, Some, None, arith, sym, eq-eqb, eqb-true}
use Rattle.memchr.specs.Find.{Nowhere, Passes, is_byte}
use Rattle.memchr.specs.Find as find
use Rattle.sys_script_lines.specs.Parts.{cut_at, parts}
use Rattle.sys_script_lines.proofs.Cuts.{NoneBefore, cut_is, cut_missing, parts_are, parts_missing}

module _ (end : ℕ) (text : List ℕ) where
  none_before : (n : ℕ) → Nowhere (Passes (is_byte end) text) 0 n → NoneBefore end text n
  none_before n none = λ k lt e. none k (omega arith) lt (eq-eqb (get_or text k 0) end e)

  pub far_cut : (n : ℕ) → find.NoneBefore (Passes (is_byte end) text) 0 (length text) n → Passes (is_byte end) text n → Some (take n text, take (length text - (n + 1)) (drop (n + 1) text)) ≡ cut_at end text
  far_cut n before here = cut_is end text n before.high (none_before n before.before) (eqb-true (get_or text n 0) end here)

  pub far_parts : (n : ℕ) → find.NoneBefore (Passes (is_byte end) text) 0 (length text) n → Passes (is_byte end) text n → parts end text ≡ take n text ∷ parts end (take (length text - (n + 1)) (drop (n + 1) text))
  far_parts n before here = parts_are end text n before.high (none_before n before.before) (eqb-true (get_or text n 0) end here)

  pub no_cut : Nowhere (Passes (is_byte end) text) 0 (length text) → None ≡ cut_at end text
  no_cut none = sym (cut_missing end text (none_before (length text) none))

  pub no_parts : Nowhere (Passes (is_byte end) text) 0 (length text) → parts end text ≡ text ∷ []
  no_parts none = parts_missing end text (none_before (length text) none)

  -- it comes first
  pub far_here : 0 < length text → get_or text 0 0 ≡ end → find.NoneBefore (Passes (is_byte end) text) 0 (length text) 0 × Passes (is_byte end) text 0
  far_here some is = (record { low = omega arith; high = some; before = λ k le lt. absurd (omega arith) }, eq-eqb (get_or text 0 0) end is)
