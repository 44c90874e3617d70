-- Tests that are true exactly where what they stand for holds.
use Rattle.std.proofs.Common.{◌≡◌, ◌≢◌, ◌↔◌, Bool, true, false, not, refl, sym, ◌∙◌}
use Rattle.std.proofs.lemmas.Bool.{true≢false}
use Rattle.marks.specs.Bytes.{Cell, Dead, Live, Held}
use Rattle.reference_recorder_rights.specs.Rights.{is_alive}

pub alive_is : (c : Cell) → (is_alive c ≡ true) ↔ (c ≢ Dead)
alive_is Dead = (λ e. absurd (true≢false (sym e)), λ h. absurd (h refl))
alive_is (Live v) = (λ e. λ d. (cc), λ h. refl)
alive_is (Held v) = (λ e. λ d. (cc), λ h. refl)

-- one of two tests is passed, or isn't
pub first_passed : {P Q : Type 0} (a b : Bool) → (a ≡ true) ↔ P → (b ≡ true) ↔ Q → a ≡ true → (b ≡ true) ↔ (P × Q)
first_passed a b p q is = (λ e. (p.0 is, q.0 e), λ h. q.1 h.1)

pub first_failed : {P Q : Type 0} (a : Bool) → (a ≡ true) ↔ P → a ≡ false → (false ≡ true) ↔ (P × Q)
first_failed a p is = (λ e. absurd (true≢false (sym e)), λ h. absurd (true≢false (sym (p.1 h.0) ∙ is)))

-- what may not be touched
pub kept_out : {P : Type 0} (a b : Bool) → (b ≡ true) ↔ P → a ≡ true → (not b ≡ true) ↔ ((a ≡ true) × (P → ⊥))
kept_out a true p is = (λ e. absurd (true≢false (sym e)), λ h. absurd (h.1 (p.0 refl)))
kept_out a false p is = (λ e. (is, λ h. absurd (true≢false (sym (p.1 h)))), λ h. refl)

pub let_in : {P : Type 0} (a : Bool) → a ≡ false → (false ≡ true) ↔ ((a ≡ true) × (P → ⊥))
let_in a is = (λ e. absurd (true≢false (sym e)), λ h. absurd (true≢false (sym h.0 ∙ is)))
