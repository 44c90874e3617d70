-- A file has one first wrong event at most, and none where all are right.
use Rattle.std.proofs.Common.{◌≡◌, Bool, List, ⊎_elim, refl, sym, ◌∙◌, subst}
use Rattle.run_events.specs.declared.event.EventName.{EventName}
use Rattle.log_closure.specs.declared.error.OrderError.{OrderError}
use Rattle.log_closure.specs.declared.error.OrderError.TheVariants.{Twice, Missing, Clock}
use Rattle.log_closure.specs.Events.{LogEvent}
use Rattle.log_closure.specs.Wrong.{AreRight, IsRight, IsWrong, IsFirstWrong, IsTwice, IsMissing, IsClockWrong, as_twice, as_missing, as_clock}
use Rattle.log_reference.proofs.Splits.{splits}

pub not_both : (whole : Bool) (all before : List LogEvent) (e : LogEvent) (error : OrderError) → IsRight whole all before e → IsWrong whole all before e error → ⊥
not_both whole all before e error r (as_twice t) = r.0 t
not_both whole all before e error r (as_missing _ m) = r.1 m
not_both whole all before e error r (as_clock _ _ c) = r.2 c

pub one_error : (whole : Bool) (all before : List LogEvent) (e : LogEvent) (x y : OrderError) → IsWrong whole all before e x → IsWrong whole all before e y → x ≡ y
one_error whole all before e x y (as_twice t) (as_twice _) = refl
one_error whole all before e x y (as_twice t) (as_missing free _) = absurd (free t)
one_error whole all before e x y (as_twice t) (as_clock free _ _) = absurd (free t)
one_error whole all before e x y (as_missing free m) (as_twice t) = absurd (free t)
one_error whole all before e x y (as_missing _ m) (as_missing _ _) = refl
one_error whole all before e x y (as_missing _ m) (as_clock _ free _) = absurd (free m)
one_error whole all before e x y (as_clock free _ c) (as_twice t) = absurd (free t)
one_error whole all before e x y (as_clock _ free c) (as_missing _ m) = absurd (free m)
one_error whole all before e x y (as_clock _ _ c) (as_clock _ _ _) = refl

pub right_none : (whole : Bool) (all : List LogEvent) (error : OrderError) → AreRight whole all all → IsFirstWrong whole all error → ⊥
right_none whole all error right (before, e, after, is, _, wrong) = not_both whole all before e error (right before e after is) wrong

pub first_one : (whole : Bool) (all : List LogEvent) (x y : OrderError) → IsFirstWrong whole all x → IsFirstWrong whole all y → x ≡ y
first_one whole all x y (b, e, a, is, prefix, wrong) (c, f, d, eq, prefix', wrong') =
    ⊎_elim
    (λ (p, q). one_error whole all b e x y wrong (subst (λ (l : List LogEvent). IsWrong whole all l e y) (sym p) (subst (λ (g : LogEvent). IsWrong whole all c g y) (sym q) wrong')))
    (λ o. ⊎_elim
    (λ (more, p). absurd (not_both whole all b e x (prefix' b e more p) wrong))
    (λ (more, p). absurd (not_both whole all c f y (prefix c f more p) wrong'))
    o)
    (splits b e a c f d (sym is ∙ eq))

-- the error names the event by its name
pub twice_named : (whole : Bool) (all before : List LogEvent) (e : LogEvent) (n : EventName) → n ≡ e.name → IsTwice before e → IsWrong whole all before e (Twice n)
twice_named whole all before e n is h = subst (λ (m : EventName). IsWrong whole all before e (Twice m)) (sym is) (as_twice h)

pub missing_named : (whole : Bool) (all before : List LogEvent) (e : LogEvent) (n : EventName) → n ≡ e.name → (IsTwice before e → ⊥) → IsMissing whole all e → IsWrong whole all before e (Missing n)
missing_named whole all before e n is free h = subst (λ (m : EventName). IsWrong whole all before e (Missing m)) (sym is) (as_missing free h)

pub clock_named : (whole : Bool) (all before : List LogEvent) (e : LogEvent) (n : EventName) → n ≡ e.name → (IsTwice before e → ⊥) → (IsMissing whole all e → ⊥) → IsClockWrong all (record { name = n; entry = e.entry }) → IsWrong whole all before e (Clock n)
clock_named whole all before e n is free nor h =
    subst (λ (m : EventName). IsWrong whole all before e (Clock m)) (sym is) (as_clock free nor (subst (λ (m : EventName). IsClockWrong all (record { name = m; entry = e.entry })) is h))
