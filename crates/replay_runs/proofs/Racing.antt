-- The test of a range for races, and of two threads the least.
use Rattle.std.proofs.Common.{◌≡◌, inl, inr, ⊎_elim, ℕ, suc, ◌+◌, ◌<◌, Bool, true, false, ◌&&◌, ◌||◌, not, eqb, leb, ltb, max, List, [], ◌∷◌, Option, Some, None, refl, sym, ap, ◌∙◌, subst, arith, eqb-true, eq-eqb}
use Rattle.std.proofs.Math.Nat.{le-max_left, le-max_right}
use Rattle.std.proofs.lemmas.Bool.{le-leb, lt-ltb, ltb-true, and_from, and_parts, or_cases, true≢false, cases_lt, ltb-false}
use Rattle.marks.specs.declared.breach.BreachKind.TheVariants.{Race}
use Rattle.marks.specs.Places.{is_constant}
use Rattle.marks.specs.declared.range.Range.{Range}
use Rattle.marks.specs.Ranges.{covers}
use Rattle.marks.specs.Marks.{Act, Mark}
use Rattle.marks.specs.Bytes.{touches, writes, place}
use Rattle.replay_runs.specs.Runs.{OfThread, In}
use Rattle.replay_runs.specs.Known.{known}
use Rattle.replay_runs.specs.Checks.{Finding, BreachFound, Least, Races, IsRace}
use Rattle.replay_runs.proofs.Tested.{all_from, all_from_true, none_some, Here, not_both, first_bad, first_is, one_bad, least_of, false_is, or_false}

unfoldable pub all_marks : List Mark → (Mark → Bool) → Bool
all_marks [] p = true
all_marks (a ∷ past) p = p a && all_marks past p

pub all_marks_true : (past : List Mark) (p : Mark → Bool) → all_marks past p ≡ true → (a : Mark) → In a past → p a ≡ true
unfolding all_marks
all_marks_true [] p h a j = absurd j
all_marks_true (b ∷ past) p h a (inl e) = ap p e ∙ (and_parts (p b) (all_marks past p) h).0
all_marks_true (b ∷ past) p h a (inr j) = all_marks_true past p (and_parts (p b) (all_marks past p) h).1 a j

-- an access of the byte by the act and one by t, of the two a write
abbrev pub meets : Bool → Act → ℕ → Bool
meets write a x = writes a x || (write && (not (is_constant x) && touches a x))

abbrev pub misses : Bool → Range → Act → Bool
misses write r a = all_from (λ x. not (meets write a x)) r.addr r.len

-- the threads of the marks are below it
unfoldable pub threads_of : List Mark → ℕ
threads_of [] = 0
threads_of (a ∷ past) = max (suc a.thread) (threads_of past)

pub among : (past : List Mark) (a : Mark) → In a past → a.thread < threads_of past
unfolding threads_of
among [] a i = absurd i
among (b ∷ past) a (inl e) = let k = le-max_left (suc b.thread) (threads_of past) in omega (arith, k, ap (λ m. m.thread) e)
among (b ∷ past) a (inr i) = let k = le-max_right (suc b.thread) (threads_of past) in omega (arith, k, among past a i)

-- it is t's own, touches nothing of the range, or t knows of it
abbrev pub is_ordered : List Mark → ℕ → Bool → Range → Mark → Bool
is_ordered past t write r a = eqb a.thread t || (misses write r a.act || ltb (place a) (known past (OfThread t) a.thread))

abbrev pub is_unraced : List Mark → ℕ → Bool → Range → Bool
is_unraced past t write r = all_marks past (is_ordered past t write r)

pub unraced : (past : List Mark) (t : ℕ) (write : Bool) (r : Range) → is_unraced past t write r ≡ true → (x : ℕ) → covers r x ≡ true → (u : ℕ) → Races past t write x u → ⊥
unraced past t write r h x e u b =
    ⊎_elim
    (λ z. b.3 (sym b.2 ∙ eqb-true _ _ z))
    (λ z. ⊎_elim
    (λ y. not_both (meets write b.0.act x) (all_from_true (λ x. not (meets write b.0.act x)) r.addr r.len y x e) b.4)
    (λ y. let k = ltb-true (place b.0) (known past (OfThread t) b.0.thread) y in let l = b.5 in omega (arith, k, l, ap (λ v. known past (OfThread t) v) b.2))
    (or_cases (misses write r b.0.act) (ltb (place b.0) (known past (OfThread t) b.0.thread)) z))
    (or_cases (eqb b.0.thread t) (misses write r b.0.act || ltb (place b.0) (known past (OfThread t) b.0.thread)) (all_marks_true past (is_ordered past t write r) h b.0 b.1))

pub one_mark : (past : List Mark) (p : Mark → Bool) → all_marks past p ≡ false → (a : Mark) × In a past × (p a ≡ false)
unfolding all_marks
one_mark [] p h = absurd (true≢false h)
one_mark (a ∷ past) p h = go (p a) refl h (λ z. one_mark past p z)
  where
    go : (b : Bool) → p a ≡ b → (b && all_marks past p) ≡ false → (all_marks past p ≡ false → (c : Mark) × In c past × (p c ≡ false)) → (c : Mark) × In c (a ∷ past) × (p c ≡ false)
    go false e h further = (a, inl refl, e)
    go true e h further = let w = further h in (w.0, inr w.1, w.2)

-- of one byte
abbrev pub is_ordered_at : List Mark → ℕ → Bool → ℕ → Mark → Bool
is_ordered_at past t write x a = eqb a.thread t || (not (meets write a.act x) || ltb (place a) (known past (OfThread t) a.thread))

pub no_race_at : (past : List Mark) (t : ℕ) (write : Bool) (x u : ℕ) (b : Races past t write x u) → is_ordered_at past t write x b.0 ≡ true → ⊥
no_race_at past t write x u b h =
    ⊎_elim
    (λ z. b.3 (sym b.2 ∙ eqb-true _ _ z))
    (λ z. ⊎_elim
    (λ y. not_both (meets write b.0.act x) y b.4)
    (λ y. let k = ltb-true (place b.0) (known past (OfThread t) b.0.thread) y in let l = b.5 in omega (arith, k, l, ap (λ v. known past (OfThread t) v) b.2))
    (or_cases (not (meets write b.0.act x)) (ltb (place b.0) (known past (OfThread t) b.0.thread)) z))
    (or_cases (eqb b.0.thread t) (not (meets write b.0.act x) || ltb (place b.0) (known past (OfThread t) b.0.thread)) h)

race_of : (past : List Mark) (t : ℕ) (write : Bool) (x : ℕ) (a : Mark) → In a past → is_ordered_at past t write x a ≡ false → Races past t write x a.thread
race_of past t write x a i h =
    let p = or_false (eqb a.thread t) (not (meets write a.act x) || ltb (place a) (known past (OfThread t) a.thread)) h in
    let q = or_false (not (meets write a.act x)) (ltb (place a) (known past (OfThread t) a.thread)) p.1 in
    (a, i, refl, λ e. true≢false (sym (eq-eqb a.thread t e) ∙ p.0), false_is (meets write a.act x) q.0, ltb-false (place a) (known past (OfThread t) a.thread) q.1)

abbrev is_byte_unraced : List Mark → ℕ → Bool → ℕ → Bool
is_byte_unraced past t write x = all_marks past (is_ordered_at past t write x)

-- by the thread u
abbrev is_unraced_by : List Mark → ℕ → Bool → ℕ → ℕ → Bool
is_unraced_by past t write x u = all_marks past (λ a. not (eqb a.thread u) || is_ordered_at past t write x a)

not_raced_by : (past : List Mark) (t : ℕ) (write : Bool) (x u : ℕ) → is_unraced_by past t write x u ≡ true → Races past t write x u → ⊥
not_raced_by past t write x u h b =
    ⊎_elim
    (λ z. not_both (eqb b.0.thread u) z (eq-eqb b.0.thread u b.2))
    (λ z. no_race_at past t write x u b z)
    (or_cases (not (eqb b.0.thread u)) (is_ordered_at past t write x b.0) (all_marks_true past (λ a. not (eqb a.thread u) || is_ordered_at past t write x a) h b.0 b.1))

raced_by : (past : List Mark) (t : ℕ) (write : Bool) (x u : ℕ) → is_unraced_by past t write x u ≡ false → Races past t write x u
raced_by past t write x u h =
    let w = one_mark past (λ a. not (eqb a.thread u) || is_ordered_at past t write x a) h in
    let p = or_false (not (eqb w.0.thread u)) (is_ordered_at past t write x w.0) w.2 in
    subst (Races past t write x) (eqb-true w.0.thread u (false_is (eqb w.0.thread u) p.0)) (race_of past t write x w.0 w.1 p.1)

abbrev race_by : ℕ → Option ℕ → Option Finding
race_by x None = None
race_by x (Some u) = Some (BreachFound Race x (Some u))

abbrev race_found : List Mark → ℕ → Bool → Option ℕ → Option Finding
race_found past t write None = None
race_found past t write (Some x) = race_by x (first_bad (is_unraced_by past t write x) 0 (threads_of past))

pub race_least : (past : List Mark) (t : ℕ) (write : Bool) (r : Range) (o : Option ℕ) → first_bad (is_byte_unraced past t write) r.addr r.len ≡ o → (f : Finding) → race_found past t write o ≡ Some f → (x : ℕ) × Least (λ x. (covers r x ≡ true) × ((u : ℕ) × Races past t write x u)) x × IsRace past t write x f
race_least past t write r None e f h = none_some f h
race_least past t write r (Some x) e f h = go (first_bad (is_unraced_by past t write x) 0 (threads_of past)) refl h
  where
    go : (o : Option ℕ) → first_bad (is_unraced_by past t write x) 0 (threads_of past) ≡ o → race_by x o ≡ Some f → (x : ℕ) × Least (λ x. (covers r x ≡ true) × ((u : ℕ) × Races past t write x u)) x × IsRace past t write x f
    go None d h = none_some f h
    go (Some u) d h =
        let w = first_is (is_byte_unraced past t write) r.addr r.len x e in
        let v = first_is (is_unraced_by past t write x) 0 (threads_of past) u d in
        let same : BreachFound Race x (Some u) ≡ f = cc in
        let race = raced_by past t write x u v.is_bad in (
          x,
          ((w.within_is, (u, race)), λ y b. least_of r (is_byte_unraced past t write) x w y b.0 (λ z. no_race_at past t write y b.1.0 b.1.1 (all_marks_true past (is_ordered_at past t write y) z b.1.1.0 b.1.1.1))),
          (u, (race, λ y b. ⊎_elim (λ z. absurd (not_raced_by past t write x y (v.before y (omega arith) z) b)) (λ z. omega (arith, z)) (cases_lt y u)), sym same),
        )

-- a mark that isn't ordered races at some byte
marks_differ : (past : List Mark) (p : Mark → Bool) (a : Mark) → In a past → p a ≡ false → all_marks past p ≡ false
marks_differ past p a i e = go (all_marks past p) refl
  where
    go : (b : Bool) → all_marks past p ≡ b → b ≡ false
    go true h = absurd (true≢false (sym (all_marks_true past p h a i) ∙ e))
    go false h = refl

from_or : (a b c : Bool) → a ≡ false → b ≡ false → c ≡ false → (a || (b || c)) ≡ false
from_or a b c e f g = ap (λ z. z || (b || c)) e ∙ ap (λ z. z || c) f ∙ g

one_byte : (past : List Mark) (t : ℕ) (write : Bool) (r : Range) → is_unraced past t write r ≡ false → all_from (is_byte_unraced past t write) r.addr r.len ≡ false
one_byte past t write r h = go (all_from (is_byte_unraced past t write) r.addr r.len) refl
  where
    w : (a : Mark) × In a past × (is_ordered past t write r a ≡ false)
    w = one_mark past (is_ordered past t write r) h

    p : (eqb w.0.thread t ≡ false) × ((misses write r w.0.act || ltb (place w.0) (known past (OfThread t) w.0.thread)) ≡ false)
    p = or_false (eqb w.0.thread t) (misses write r w.0.act || ltb (place w.0) (known past (OfThread t) w.0.thread)) w.2

    q : (misses write r w.0.act ≡ false) × (ltb (place w.0) (known past (OfThread t) w.0.thread) ≡ false)
    q = or_false (misses write r w.0.act) (ltb (place w.0) (known past (OfThread t) w.0.thread)) p.1

    go : (b : Bool) → all_from (is_byte_unraced past t write) r.addr r.len ≡ b → b ≡ false
    go false e = refl
    go true e =
        let x = one_bad (λ x. not (meets write w.0.act x)) r.addr r.len q.0 in
        let f = first_is (λ x. not (meets write w.0.act x)) r.addr r.len x.0 x.1 in
        let bad = from_or (eqb w.0.thread t) (not (meets write w.0.act x.0)) (ltb (place w.0) (known past (OfThread t) w.0.thread)) p.0 f.is_bad q.1 in
        absurd (true≢false (sym (all_from_true (is_byte_unraced past t write) r.addr r.len e x.0 f.within_is) ∙ marks_differ past (is_ordered_at past t write x.0) w.0 w.1 bad))

-- by some thread
one_thread : (past : List Mark) (t : ℕ) (write : Bool) (x : ℕ) → is_byte_unraced past t write x ≡ false → (u : ℕ) × (first_bad (is_unraced_by past t write x) 0 (threads_of past) ≡ Some u)
one_thread past t write x h = go (all_from (is_unraced_by past t write x) 0 (threads_of past)) refl
  where
    w : (a : Mark) × In a past × (is_ordered_at past t write x a ≡ false)
    w = one_mark past (is_ordered_at past t write x) h

    its : is_unraced_by past t write x w.0.thread ≡ false
    its = marks_differ past (λ a. not (eqb a.thread w.0.thread) || is_ordered_at past t write x a) w.0 w.1 (ap (λ z. not z || is_ordered_at past t write x w.0) (eq-eqb w.0.thread w.0.thread refl) ∙ w.2)

    go : (b : Bool) → all_from (is_unraced_by past t write x) 0 (threads_of past) ≡ b → (u : ℕ) × (first_bad (is_unraced_by past t write x) 0 (threads_of past) ≡ Some u)
    go false e = one_bad (is_unraced_by past t write x) 0 (threads_of past) e
    go true e =
        let k = among past w.0 w.1 in
        let there = and_from (leb 0 w.0.thread) (ltb w.0.thread (0 + threads_of past)) (le-leb 0 w.0.thread (omega arith)) (lt-ltb w.0.thread (0 + threads_of past) (omega (arith, k))) in
        absurd (true≢false (sym (all_from_true (is_unraced_by past t write x) 0 (threads_of past) e w.0.thread there) ∙ its))

pub race_some : (past : List Mark) (t : ℕ) (write : Bool) (r : Range) → is_unraced past t write r ≡ false → (f : Finding) × (race_found past t write (first_bad (is_byte_unraced past t write) r.addr r.len) ≡ Some f)
race_some past t write r h =
    let x = one_bad (is_byte_unraced past t write) r.addr r.len (one_byte past t write r h) in
    let f = first_is (is_byte_unraced past t write) r.addr r.len x.0 x.1 in
    let u = one_thread past t write x.0 f.is_bad in
    (BreachFound Race x.0 (Some u.0), ap (race_found past t write) x.1 ∙ ap (race_by x.0) u.1)

abbrev pub race_here : (past : List Mark) (t : ℕ) (write : Bool) (r : Range) → Here (λ x. (covers r x ≡ true) × ((u : ℕ) × Races past t write x u)) (IsRace past t write) (is_unraced past t write r)
race_here past t write r = record {
  none = λ h x b. unraced past t write r h x b.0 b.1.0 b.1.1;
  found = race_found past t write (first_bad (is_byte_unraced past t write) r.addr r.len);
  least = race_least past t write r (first_bad (is_byte_unraced past t write) r.addr r.len) refl;
  some = race_some past t write r;
}
