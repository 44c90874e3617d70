-- A call is refused for one cause, whatever it answers where it isn't.
use Rattle.std.proofs.Common.{◌≡◌, ◌↔◌, true, false, Result, Ok, Err, ap, subst, refl}
use Rattle.space_memory_access.specs.declared.refusal.Refusal.{Refusal}

err_same : (A : Type 0) (q r : Refusal) → ◌≡◌ {A = Result A Refusal} (Err q) (Err r) → q ≡ r
err_same A q r same = cc

-- a refusal is handed on to a call that answers something else
pub carried : (A : Type 0) (q : Refusal) (P : Refusal → Type 0) → ((r : Refusal) → (◌≡◌ {A = Result (Unit {0}) Refusal} (Err q) (Err r)) ↔ P r) → (r : Refusal) → (◌≡◌ {A = Result A Refusal} (Err q) (Err r)) ↔ P r
carried A q P same r = (
  λ (e : ◌≡◌ {A = Result A Refusal} (Err q) (Err r)). (same r).0 (ap (λ (s : Refusal). let e : Result (Unit {0}) Refusal = Err s in e) (err_same A q r e)),
  λ (p : P r). ap (λ (s : Refusal). let e : Result A Refusal = Err s in e) (err_same (Unit {0}) q r ((same r).1 p)),
)

-- what is refused for one cause at most, and only if it isn't allowed
module _ (P : Type 0) (Q : Refusal → Type 0) (once : (r q : Refusal) → Q r → Q q → r ≡ q) (clash : (r : Refusal) → P → Q r → ⊥) where
  -- is refused for this cause alone
  pub refused_so : (q : Refusal) → Q q → (r : Refusal) → (◌≡◌ {A = Result (Unit {0}) Refusal} (Err q) (Err r)) ↔ Q r
  refused_so q p r = (λ same. subst Q (err_same (Unit {0}) q r same) p, λ p'. ap (λ (s : Refusal). Err s) (once q r p p'))

  -- and isn't allowed
  pub refused_not : (q : Refusal) → Q q → (false ≡ true) ↔ P
  refused_not q p = (λ (wrong : false ≡ true). absurd (cc), λ ok. absurd (clash q ok p))

  -- where it is allowed, it is refused for no cause
  pub allowed_so : P → (r : Refusal) → (◌≡◌ {A = Result (Unit {0}) Refusal} (Ok tt) (Err r)) ↔ Q r
  allowed_so ok r = (λ (wrong : ◌≡◌ {A = Result (Unit {0}) Refusal} (Ok tt) (Err r)). absurd (cc), λ p. absurd (clash r ok p))

  pub allowed : P → (true ≡ true) ↔ P
  allowed ok = (λ _. ok, λ _. refl)
