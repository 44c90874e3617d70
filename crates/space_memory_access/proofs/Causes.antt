-- An access is refused for one cause, and only if it isn't allowed.
use Rattle.std.proofs.Common.{◌≡◌, ℕ, ◌≤◌, ◌↔◌, true, false, List, Result, Ok, Err, ap, subst, arith}
use Rattle.marks.specs.declared.range.Range.{Range}
use Rattle.marks.specs.Ranges.{NoneIn, IsLeastIn}
use Rattle.space_memory_bytes.specs.Areas.{AreaState}
use Rattle.space_memory_access.specs.declared.holder.Region.{Region}
use Rattle.space_memory_access.specs.declared.access.Access.{Access}
use Rattle.space_memory_access.specs.declared.refusal.Refusal.{Refusal}
use Rattle.space_memory_access.specs.declared.refusal.Refusal.TheVariants.{NotLive, Pending, OtherSpace, ReadOnly, StackFull, KeyInUse, NoKey, Size}
use Rattle.space_memory_access.specs.Accesses.{IsAllowed, IsRefused}

-- a range has one least byte of a kind
least_same : (r : Range) (P : ℕ → Type 0) (x y : ℕ) → IsLeastIn r P x → IsLeastIn r P y → x ≡ y
least_same r P x y least least' =
    let up : x ≤ y = least.least y least'.in_range least'.holds in
    let down : y ≤ x = least'.least x least.in_range least.holds in
    omega arith

-- and none where it has none
pub clash : (r : Range) (P : ℕ → Type 0) (x : ℕ) → NoneIn r P → IsLeastIn r P x → ⊥
clash r P x none least = none x least.in_range least.holds

err_same : (q r : Refusal) → ◌≡◌ {A = Result (Unit {0}) Refusal} (Err q) (Err r) → q ≡ r
err_same q r same = cc

module _ (bytes : List AreaState) (regions : List Region) (a : Access) where
  pub refused_once : (r q : Refusal) → IsRefused bytes regions a r → IsRefused bytes regions a q → r ≡ q
  refused_once (OtherSpace x) (OtherSpace y) p q = ap (λ k. OtherSpace k) (least_same _ _ x y p q)
  refused_once (OtherSpace x) (NotLive y) p q = absurd (clash _ _ x q.0 p)
  refused_once (OtherSpace x) (Pending y) p q = absurd (clash _ _ x q.0 p)
  refused_once (OtherSpace x) (ReadOnly y) p q = absurd (clash _ _ x q.0 p)
  refused_once (NotLive x) (OtherSpace y) p q = absurd (clash _ _ y p.0 q)
  refused_once (NotLive x) (NotLive y) p q = ap (λ k. NotLive k) (least_same _ _ x y p.1 q.1)
  refused_once (NotLive x) (Pending y) p q = absurd (clash _ _ x q.1 p.1)
  refused_once (NotLive x) (ReadOnly y) p q = absurd (clash _ _ x q.1 p.1)
  refused_once (Pending x) (OtherSpace y) p q = absurd (clash _ _ y p.0 q)
  refused_once (Pending x) (NotLive y) p q = absurd (clash _ _ y p.1 q.1)
  refused_once (Pending x) (Pending y) p q = ap (λ k. Pending k) (least_same _ _ x y p.2 q.2)
  refused_once (Pending x) (ReadOnly y) p q = absurd (clash _ _ x q.2 p.2)
  refused_once (ReadOnly x) (OtherSpace y) p q = absurd (clash _ _ y p.0 q)
  refused_once (ReadOnly x) (NotLive y) p q = absurd (clash _ _ y p.1 q.1)
  refused_once (ReadOnly x) (Pending y) p q = absurd (clash _ _ y p.2 q.2)
  refused_once (ReadOnly x) (ReadOnly y) p q = ap (λ k. ReadOnly k) (least_same _ _ x y p.3 q.3)
  refused_once (StackFull x) q p r = absurd p
  refused_once (KeyInUse x) q p r = absurd p
  refused_once (NoKey x) q p r = absurd p
  refused_once (Size x) q p r = absurd p
  refused_once r (StackFull x) p q = absurd q
  refused_once r (KeyInUse x) p q = absurd q
  refused_once r (NoKey x) p q = absurd q
  refused_once r (Size x) p q = absurd q

  pub allowed_not_refused : (r : Refusal) → IsAllowed bytes regions a → IsRefused bytes regions a r → ⊥
  allowed_not_refused (OtherSpace x) ok p = clash _ _ x ok.own p
  allowed_not_refused (NotLive x) ok p = clash _ _ x ok.live p.1
  allowed_not_refused (Pending x) ok p = clash _ _ x ok.free p.2
  allowed_not_refused (ReadOnly x) ok p = clash _ _ x ok.writable p.3
  allowed_not_refused (StackFull x) ok p = p
  allowed_not_refused (KeyInUse x) ok p = p
  allowed_not_refused (NoKey x) ok p = p
  allowed_not_refused (Size x) ok p = p

  -- an access that is refused so is refused for this cause alone
  pub refused_so : (q : Refusal) → IsRefused bytes regions a q → (r : Refusal) → (◌≡◌ {A = Result (Unit {0}) Refusal} (Err q) (Err r)) ↔ IsRefused bytes regions a r
  refused_so q p r = (λ same. subst (λ (s : Refusal). IsRefused bytes regions a s) (err_same q r same) p, λ p'. ap (λ (s : Refusal). Err s) (refused_once q r p p'))

  -- and isn't allowed
  pub refused_not_allowed : (q : Refusal) → IsRefused bytes regions a q → (false ≡ true) ↔ IsAllowed bytes regions a
  refused_not_allowed q p = (λ (wrong : false ≡ true). absurd (cc), λ ok. absurd (allowed_not_refused q ok p))

  -- an access that is allowed is refused for no cause
  pub allowed_so : IsAllowed bytes regions a → (r : Refusal) → (◌≡◌ {A = Result (Unit {0}) Refusal} (Ok tt) (Err r)) ↔ IsRefused bytes regions a r
  allowed_so ok r = (λ (wrong : ◌≡◌ {A = Result (Unit {0}) Refusal} (Ok tt) (Err r)). absurd (cc), λ p. absurd (allowed_not_refused r ok p))
