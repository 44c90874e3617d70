-- The hexadecimal digits of a number, one at a time from the last.
use Rattle.std.proofs.Common.{◌≡◌, ◌<◌, ◌≤◌, ◌-◌, ◌+◌, ◌/◌, ◌%◌, ℕ, zero, suc, Bool, true, false, cond, eqb, List, [], ◌∷◌, length, drop, set, refl, sym, ap, ◌∙◌, arith}
use Rattle.std.specs.Fmt.{digit_glyph, digits_onto, digits}
use Rattle.std.proofs.lemmas.Bool.{eq-eqb, ne_eqb}
use Rattle.std.proofs.Math.ListN.{length-set}
use Rattle.std.proofs.Math.Seq.{drop-cons, get_or-set_same, drop-set-lt}

pub onto_nothing : (n : ℕ) → digits_onto 64 16 false n [] ≡ digits 16 false n
unfolding digits
onto_nothing n = refl

onto_suc : (k n : ℕ) (after : List ℕ) (t : Bool) → eqb (n / 16) 0 ≡ t
    → digits_onto (suc k) 16 false n after ≡ cond t (digit_glyph false (n % 16) ∷ after) (digits_onto k 16 false (n / 16) (digit_glyph false (n % 16) ∷ after))
onto_suc k n after t e = ap (λ (b : Bool). cond b (digit_glyph false (n % 16) ∷ after) (digits_onto k 16 false (n / 16) (digit_glyph false (n % 16) ∷ after))) e

pub onto_last : (i n : ℕ) (after : List ℕ) → 0 < i → n / 16 ≡ 0 → digits_onto i 16 false n after ≡ digit_glyph false (n % 16) ∷ after
onto_last zero n after some e = absurd (omega arith)
onto_last (suc k) n after some e = onto_suc k n after true (eq-eqb (n / 16) 0 e)

pub onto_step : (i n : ℕ) (after : List ℕ) → 0 < i → (n / 16 ≡ 0 → ⊥) → digits_onto i 16 false n after ≡ digits_onto (i - 1) 16 false (n / 16) (digit_glyph false (n % 16) ∷ after)
onto_step zero n after some e = absurd (omega arith)
onto_step (suc k) n after some e =
    onto_suc k n after false (ne_eqb (n / 16) 0 e)
    ∙ ap (λ (j : ℕ). digits_onto j 16 false (n / 16) (digit_glyph false (n % 16) ∷ after)) {x = k} {y = suc k - 1} (omega arith)

pub drop_put : (out : List ℕ) (i x g : ℕ) → 0 < i → i ≤ length out → x ≡ g → drop (i - 1) (set out (i - 1) x) ≡ g ∷ drop i out
drop_put out zero x g some le e = absurd (omega arith)
drop_put out (suc j) x g some le e =
    ap (λ (m : ℕ). drop m (set out m x)) {x = suc j - 1} {y = j} (omega arith)
    ∙ drop-cons (set out j x) j 0 (omega (arith, length-set out j x))
    ∙ (λ t. (get_or-set_same out j x 0 le ∙ e) t ∷ drop-set-lt (suc j) out j x (omega arith) t)
