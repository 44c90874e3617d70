-- What comes of an answer.
use Rattle.std.proofs.Common.{◌≡◌, Result, Ok, Err, refl, sym, ◌∙◌}
use Rattle.std.proofs.lemmas.Bool.{true≢false}
use Rattle.std.specs.Prelude.{IsOk, OnOk}

-- what is given on
pub on_ok : {A E P Q : Type 0} (r : Result A E) → (P → Q) → OnOk r P → OnOk r Q
on_ok (Ok a) go p = go p
on_ok (Err e) go p = p

pub not_both : {A E : Type 0} (r : Result A E) (a : A) (e : E) → r ≡ Ok a → r ≡ Err e → ⊥
not_both r a e p q = let both : ◌≡◌ {A = Result _ _} (Ok a) (Err e) = sym p ∙ q in cc

pub ok_not : {A E : Type 0} (r : Result A E) (e : E) → IsOk r → r ≡ Err e → ⊥
ok_not (Ok a) e ok is = not_both (Ok a) a e refl is
ok_not (Err f) e ok is = absurd (true≢false (sym ok))
