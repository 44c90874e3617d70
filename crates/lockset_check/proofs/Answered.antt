-- What is answered where findings stand in order.
use Rattle.std.proofs.Common.{◌≡◌, ◌≢◌, List, [], ◌∷◌, Result, Ok, Err, refl, sym, subst, arith}
use Rattle.std.specs.List.{Contains}
use Rattle.lockset_check_rules.specs.declared.finding.LockFinding.{LockFinding}
use Rattle.lockset_check_rules.specs.Order.{AreSorted}
use Rattle.lockset_check.specs.declared.error.GuardError.{GuardError}
use Rattle.lockset_check.specs.declared.error.GuardError.TheVariants.{Findings, Memory}
use Rattle.lockset_check.specs.Answers.{Answers, AreGiven}

head_in : (f : LockFinding) (fs : List LockFinding) → Contains (f ∷ fs) f
head_in f fs = (0, omega arith, refl)

in_nothing : (f : LockFinding) → Contains [] f → ⊥
in_nothing f h = omega (arith, h.1)

none_found : (found : List LockFinding) → AreSorted found [] → found ≡ []
none_found [] h = refl
none_found (f ∷ fs) h = absurd (in_nothing f ((h.same f).1 (head_in f fs)))

some_found : (found sorted : List LockFinding) → AreSorted found sorted → sorted ≢ [] → found ≢ []
some_found found [] h some e = some refl
some_found found (f ∷ fs) h some e =
    in_nothing f (subst (λ (l : List LockFinding). Contains l f) e ((h.same f).0 (head_in f fs)))

pub answered : (found sorted : List LockFinding) (r : Result (Unit {0}) GuardError) → AreSorted found sorted → AreGiven sorted r → Answers found r
answered found sorted (Ok done) h given = none_found found (subst (λ (l : List LockFinding). AreSorted found l) given h)
answered found sorted (Err (Findings fs)) h given =
    (subst (λ (l : List LockFinding). AreSorted found l) (sym given.0) h, some_found found sorted h given.1)
answered found sorted (Err Memory) h given = tt
