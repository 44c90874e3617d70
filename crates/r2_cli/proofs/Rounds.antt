-- Numbers of rounds, and the form that has one.
use Rattle.std.proofs.lemmas.Int.{to_z-of_z}
use Rattle.std.proofs.lemmas.Bool.Decides.{nat_tests}
use Rattle.std.specs.Int.Signed.{lt_z}
use Rattle.std.proofs.Common.{◌≡◌, ◌≤◌, ◌<◌, true, ltb, to_z, of_z, ◌∷◌, [], ℕ, ℤ, pos, negsuc, suc, List, Option, Some, None, IfSome, IfNone, codes, get_or, sym, ◌∙◌, ap, subst, arith}
use Rattle.std.specs.Prelude.{FitsSigned}
use Rattle.std.specs.Int.{w128}
use Rattle.std.specs.Fmt.{decimal, signed_decimal}
use Rattle.r2_base.proofs.Decimals.{same_number, no_minus}
use Rattle.r2_cli.specs.declared.forms.Command.{Command}
use Rattle.r2_cli.specs.Forms.{form_of}
use Rattle.r2_cli.specs.Words.{CanGenerate, gen, IsForm}

-- a text that is read as a number and spells a small one
pub same_rounds : (word : List ℕ) (v : ℤ) (n : ℕ) → word ≡ signed_decimal v → FitsSigned w128 v → n ≤ 40000 → word ≡ decimal n → v ≡ pos n
same_rounds word (pos m) n is fits le e = ap pos (same_number m n (omega (arith, fits)) (omega arith) (sym is ∙ e))
same_rounds word (negsuc m) n is fits le e = absurd (no_minus n (decimal (suc m)) (omega arith) (sym is ∙ e))

-- the words of `gen` have its form where the number and the names are right, and only there
pub formed_by : (words : List (List ℕ)) (r : Option Command) (rounds src sys : List ℕ) → words ≡ codes "gen" ∷ rounds ∷ src ∷ sys ∷ []
    → IfSome r (λ c. (n : ℕ) × (rounds ≡ decimal n) × (form_of c ≡ gen n src sys) × CanGenerate n src sys) → IfSome r (λ c. IsForm words (form_of c))
formed_by words None rounds src sys is h = tt
formed_by words (Some c) rounds src sys is (n, number, form, can) = subst (IsForm words) (sym form) (is ∙ ap (λ d. codes "gen" ∷ d ∷ src ∷ sys ∷ []) number, can)

pub unformed_by : (words : List (List ℕ)) (r : Option Command) (rounds src sys : List ℕ) → words ≡ codes "gen" ∷ rounds ∷ src ∷ sys ∷ []
    → IfNone r ((n : ℕ) → rounds ≡ decimal n → CanGenerate n src sys → ⊥) → IfNone r ((n : ℕ) (a b : List ℕ) → IsForm words (gen n a b) → ⊥)
unformed_by words (Some c) rounds src sys is h = tt
unformed_by words None rounds src sys is h = λ n a b f.
    let same = sym is ∙ f.0 in
    let number : rounds ≡ decimal n = ap (λ (ws : List (List ℕ)). get_or ws 1 []) same in
    let source : src ≡ a = ap (λ (ws : List (List ℕ)). get_or ws 2 []) same in
    let system : sys ≡ b = ap (λ (ws : List (List ℕ)). get_or ws 3 []) same in
    h n number (subst (λ s. CanGenerate n s sys) (sym source) (subst (λ y. CanGenerate n a y) (sym system) f.1))

pub if_none : {A P : Type 0} (r : Option A) → P → IfNone r P
if_none None p = p
if_none (Some x) p = tt

less : (a b : ℕ) → ltb a b ≡ true → a < b
less a b e = grind (arith, nat_tests)

-- a number below the least, where the test is of what was read
pub too_small : (word : List ℕ) (v : ℤ) (n : ℕ) → word ≡ signed_decimal v → FitsSigned w128 v → lt_z (to_z w128 (of_z w128 v)) (pos 1) ≡ true → 1 ≤ n → n ≤ 40000 → word ≡ decimal n → ⊥
too_small word v n is fits test some few e = below v is (sym (ap (λ z. lt_z z (pos 1)) (to_z-of_z w128 v fits)) ∙ test)
  where
    below : (z : ℤ) → word ≡ signed_decimal z → lt_z z (pos 1) ≡ true → ⊥
    below (pos m) read lt = let small : m < 1 = less m 1 lt in let same = same_number m n (omega arith) (omega arith) (sym read ∙ e) in omega arith
    below (negsuc m) read lt = no_minus n (decimal (suc m)) (omega arith) (sym read ∙ e)

-- a number above the greatest
pub too_great : (word : List ℕ) (v : ℤ) (n : ℕ) → word ≡ signed_decimal v → FitsSigned w128 v → lt_z (pos 40000) (to_z w128 (of_z w128 v)) ≡ true → n ≤ 40000 → word ≡ decimal n → ⊥
too_great word v n is fits test few e = above v is fits (sym (ap (λ z. lt_z (pos 40000) z) (to_z-of_z w128 v fits)) ∙ test)
  where
    above : (z : ℤ) → word ≡ signed_decimal z → FitsSigned w128 z → lt_z (pos 40000) z ≡ true → ⊥
    above (pos m) read range lt = let great : 40000 < m = less 40000 m lt in let same = same_number m n (omega (arith, range)) (omega arith) (sym read ∙ e) in omega arith
    above (negsuc m) read range lt = no_minus n (decimal (suc m)) (omega arith) (sym read ∙ e)
