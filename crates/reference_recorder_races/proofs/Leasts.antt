-- The least byte of two tests, and of one range.
use Rattle.std.proofs.Common.{◌≡◌, ℕ, ◌+◌, ◌<◌, ◌≤◌, Bool, true, false, ◌&&◌, ◌||◌, not, leb, ltb, max, min, ◌∙◌, Option, Some, None, ◌⊎◌, inl, inr, ⊎_elim, sym, ap, subst, arith}
use Rattle.std.proofs.lemmas.Bool.{true≢false, cases_lt, or_cases, and_parts, and_from, and_cases, or_left, or_right, leb-true, ltb-true, leb-false, ltb-false, le-leb, lt-ltb, not_from_false, not-true}
use Rattle.marks.specs.declared.range.Range.{Range}
use Rattle.marks.specs.Places.{constants, is_constant, replay_globals}
use Rattle.marks.specs.Ranges.{covers}
use Rattle.reference_recorder_races.specs.declared.tested.Tested.{Tested}
use Rattle.reference_recorder_races.specs.Least.{IsLeastAt}
use Rattle.reference_recorder_races.specs.Hits.{reading, refused, writing}

-- ---- two tests

pub same_least : (f g : ℕ → Bool) → ((x : ℕ) → f x ≡ g x) → (o : Option ℕ) → IsLeastAt f o → IsLeastAt g o
same_least f g e None h = λ x t. h x (e x ∙ t)
same_least f g e (Some x) h = (sym (e x) ∙ h.0, λ y t. h.1 y (e y ∙ t))

pub no_least : (f : ℕ → Bool) → ((x : ℕ) → f x ≡ false) → IsLeastAt f None
no_least f e x t = true≢false (sym t ∙ e x)

pub least_right : (f g : ℕ → Bool) (o : Option ℕ) → IsLeastAt f None → IsLeastAt g o → IsLeastAt (λ x. f x || g x) o
least_right f g None h k = λ x t. ⊎_elim (h x) (k x) (or_cases (f x) (g x) t)
least_right f g (Some y) h k = (or_right (f y) (g y) k.0, λ x t. ⊎_elim (λ e. absurd (h x e)) (k.1 x) (or_cases (f x) (g x) t))

pub least_left : (f g : ℕ → Bool) (y : ℕ) → IsLeastAt f (Some y) → IsLeastAt g None → IsLeastAt (λ x. f x || g x) (Some y)
least_left f g y h k = (or_left (f y) (g y) h.0, λ x t. ⊎_elim (h.1 x) (λ e. absurd (k x e)) (or_cases (f x) (g x) t))

pub least_both : (f g : ℕ → Bool) (x y z : ℕ) → z ≡ min x y → IsLeastAt f (Some x) → IsLeastAt g (Some y) → IsLeastAt (λ x. f x || g x) (Some z)
least_both f g x y z is h k = (⊎_elim at_x at_y which, λ u t. ⊎_elim (λ e. omega (arith, is, h.1 u e)) (λ e. omega (arith, is, k.1 u e)) (or_cases (f u) (g u) t))
  where
    which : (z ≡ x) ⊎ (z ≡ y)
    which = ⊎_elim (λ (lt : x < y). inl (omega (arith, is, lt))) (λ (le : y ≤ x). inr (omega (arith, is, le))) (cases_lt x y)

    at_x : z ≡ x → (f z || g z) ≡ true
    at_x e = or_left (f z) (g z) (ap f e ∙ h.0)

    at_y : z ≡ y → (f z || g z) ≡ true
    at_y e = or_right (f z) (g z) (ap g e ∙ k.0)

-- one test after others, where what was accessed is told in two parts
pub more : (F : ℕ → Bool → Bool) → ((x : ℕ) (p q : Bool) → F x (p || q) ≡ (F x p || F x q)) → (now one next : ℕ → Bool) → ((x : ℕ) → next x ≡ (now x || one x)) → (best found new : Option ℕ)
    → ((f g : ℕ → Bool) → IsLeastAt f best → IsLeastAt g found → IsLeastAt (λ x. f x || g x) new) → IsLeastAt (λ x. F x (now x)) best → IsLeastAt (λ x. F x (one x)) found → IsLeastAt (λ x. F x (next x)) new
more F parts now one next e best found new least h k = same_least (λ x. F x (now x) || F x (one x)) (λ x. F x (next x)) (λ x. sym (ap (F x) (e x) ∙ parts x (now x) (one x))) new (least (λ x. F x (now x)) (λ x. F x (one x)) h k)

-- ---- one range

pub in_range : (r : Range) (x : ℕ) → covers r x ≡ true → (r.addr ≤ x) × (x < r.addr + r.len)
in_range r x h = let p = and_parts (leb r.addr x) (ltb x (r.addr + r.len)) h in (leb-true r.addr x p.0, ltb-true x (r.addr + r.len) p.1)

pub covered : (r : Range) (x : ℕ) → r.addr ≤ x → x < r.addr + r.len → covers r x ≡ true
covered r x from below = and_from (leb r.addr x) (ltb x (r.addr + r.len)) (le-leb r.addr x from) (lt-ltb x (r.addr + r.len) below)

-- where the first byte that both could have isn't one of both, none is
pub written_none : (a : Tested) (q : Range) (z : ℕ) → z ≡ max a.range.addr q.addr → (covers a.range z ≡ true → covers q z ≡ true → ⊥) → IsLeastAt (λ x. writing a x (covers q x)) None
written_none a q z is out x t =
    let p = and_parts (covers a.range x) (covers q x) t in
    let i = in_range a.range x p.0 in
    let j = in_range q x p.1 in
    out (covered a.range z (omega (arith, is)) (omega (arith, is, i.0, i.1, j.0))) (covered q z (omega (arith, is)) (omega (arith, is, i.0, j.0, j.1)))

pub written_some : (a : Tested) (q : Range) (z : ℕ) → z ≡ max a.range.addr q.addr → covers a.range z ≡ true → covers q z ≡ true → IsLeastAt (λ x. writing a x (covers q x)) (Some z)
written_some a q z is here there = (
  and_from (covers a.range z) (covers q z) here there,
  λ x t. let p = and_parts (covers a.range x) (covers q x) t in
      let i = in_range a.range x p.0 in
      let j = in_range q x p.1 in
      omega (arith, is, i.0, j.0),
)

-- the same of bytes that are no constants, from the first one on
pub record IsPast (addr z : ℕ) : Type 0 where
  pub variable : is_constant z ≡ false
  pub above : addr ≤ z
  pub least : (x : ℕ) → addr ≤ x → is_constant x ≡ false → z ≤ x

parts_of : (a : Tested) (q : Range) (x : ℕ) → refused a x (covers q x) ≡ true → record { mine : covers a.range x ≡ true; other : covers q x ≡ true; variable : is_constant x ≡ false }
parts_of a q x t =
    let p = and_parts (covers a.range x) (covers q x && not (is_constant x)) t in
    let r = and_parts (covers q x) (not (is_constant x)) p.1 in
    record { mine = p.0; other = r.0; variable = not-true (is_constant x) r.1 }

pub refused_none : (a : Tested) (q : Range) (z : ℕ) → IsPast (max a.range.addr q.addr) z → (covers a.range z ≡ true → covers q z ≡ true → ⊥) → IsLeastAt (λ x. refused a x (covers q x)) None
refused_none a q z is out x t =
    let p = parts_of a q x t in
    let i = in_range a.range x p.mine in
    let j = in_range q x p.other in
    let le : z ≤ x = is.least x (omega (arith, i.0, j.0)) p.variable in
    out (covered a.range z (omega (arith, is.above)) (omega (arith, le, i.1))) (covered q z (omega (arith, is.above)) (omega (arith, le, j.1)))

pub refused_some : (a : Tested) (q : Range) (z : ℕ) → IsPast (max a.range.addr q.addr) z → covers a.range z ≡ true → covers q z ≡ true → IsLeastAt (λ x. refused a x (covers q x)) (Some z)
refused_some a q z is here there = (
  and_from (covers a.range z) (covers q z && not (is_constant z)) here (and_from (covers q z) (not (is_constant z)) there (not_from_false (is_constant z) is.variable)),
  λ x t. let p = parts_of a q x t in
      let i = in_range a.range x p.mine in
      let j = in_range q x p.other in
      is.least x (omega (arith, i.0, j.0)) p.variable,
)

-- the same of both tests in one
pub written_yes : (a : Tested) (q : Range) (z : ℕ) → z ≡ max a.range.addr q.addr → (covers a.range z && covers q z) ≡ true → IsLeastAt (λ x. writing a x (covers q x)) (Some z)
written_yes a q z is h = let p = and_parts (covers a.range z) (covers q z) h in written_some a q z is p.0 p.1

pub written_no : (a : Tested) (q : Range) (z : ℕ) → z ≡ max a.range.addr q.addr → (covers a.range z && covers q z) ≡ false → IsLeastAt (λ x. writing a x (covers q x)) None
written_no a q z is h = written_none a q z is (λ mine other. true≢false (sym (and_from (covers a.range z) (covers q z) mine other) ∙ h))

pub past_from : (a : Tested) (q : Range) (both z : ℕ) → both ≡ max a.range.addr q.addr → IsPast both z → IsPast (max a.range.addr q.addr) z
past_from a q both z e p = subst (λ x. IsPast x z) e p

pub refused_yes : (a : Tested) (q : Range) (z : ℕ) → IsPast (max a.range.addr q.addr) z → (covers a.range z && covers q z) ≡ true → IsLeastAt (λ x. refused a x (covers q x)) (Some z)
refused_yes a q z is h = let p = and_parts (covers a.range z) (covers q z) h in refused_some a q z is p.0 p.1

pub refused_no : (a : Tested) (q : Range) (z : ℕ) → IsPast (max a.range.addr q.addr) z → (covers a.range z && covers q z) ≡ false → IsLeastAt (λ x. refused a x (covers q x)) None
refused_no a q z is h = refused_none a q z is (λ mine other. true≢false (sym (and_from (covers a.range z) (covers q z) mine other) ∙ h))

-- an address from a constant's on that is no constant's lies past all of them
pub past_all : (addr x : ℕ) → is_constant addr ≡ true → addr ≤ x → is_constant x ≡ false → replay_globals ≤ x
past_all addr x h le e =
    let p = and_parts (leb constants addr) (ltb addr replay_globals) h in
    let from : constants ≤ addr = leb-true constants addr p.0 in
    ⊎_elim (λ b. absurd (false_le (leb-false constants x b) from)) (λ b. ltb-false x replay_globals b) (and_cases (leb constants x) (ltb x replay_globals) e)
  where
    false_le : x < constants → constants ≤ addr → ⊥
    false_le lt from = omega (arith, lt, from, le)

pub below_all : (addr : ℕ) → is_constant addr ≡ true → addr ≤ replay_globals
below_all addr h =
    let p = and_parts (leb constants addr) (ltb addr replay_globals) h in
    let lt : addr < replay_globals = ltb-true addr replay_globals p.1 in
    omega (arith, lt)

-- ---- what was read

pub read_as : (a : Tested) (q : Range) (o : Option ℕ) → a.write ≡ true → IsLeastAt (λ x. refused a x (covers q x)) o → IsLeastAt (λ x. reading a x (covers q x)) o
read_as a q o e h = same_least (λ x. refused a x (covers q x)) (λ x. reading a x (covers q x)) (λ x. ap (λ b. b && refused a x (covers q x)) (sym e)) o h

pub not_read : (a : Tested) (q : Range) → a.write ≡ false → IsLeastAt (λ x. reading a x (covers q x)) None
not_read a q e = no_least (λ x. reading a x (covers q x)) (λ x. ap (λ b. b && refused a x (covers q x)) e)
