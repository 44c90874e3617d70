-- Statements that are tried out by computation.
use Rattle.std.proofs.Common.{◌≡◌, ℕ, Bool, true, false, ◌&&◌, not, eqb, sym, eqb-true}
use Rattle.std.proofs.lemmas.Bool.{and_parts, true≢false}
use Rattle.replay_runs_examples.proofs.Parts.{not_true}

-- where the test says yes, it holds
pub record Tried (P : Type 0) : Type 0 where
  pub test : Bool
  pub holds : test ≡ true → P

abbrev pub always : {P : Type 0} → P → Tried P
always p = record { test = true; holds = λ h. p }

abbrev pub never : {P : Type 0} → Tried P
never = record { test = false; holds = λ h. absurd (true≢false (sym h)) }

abbrev pub both : {P Q : Type 0} → Tried P → Tried Q → Tried (P × Q)
both a b = record { test = a.test && b.test; holds = λ h. (a.holds (and_parts a.test b.test h).0, b.holds (and_parts a.test b.test h).1) }

abbrev pub same_number : (x y : ℕ) → Tried (x ≡ y)
same_number x y = record { test = eqb x y; holds = λ h. eqb-true x y h }

abbrev pub is_so : (b : Bool) → Tried (b ≡ true)
is_so b = record { test = b; holds = λ h. h }

abbrev pub not_so : (b : Bool) → Tried (b ≡ false)
not_so b = record { test = not b; holds = λ h. not_true b h }
