-- What a thread holds at a place: the mutexes of a set, which it took on one side, and those that the code outside keeps.
use Rattle.std.proofs.Common.{◌≡◌, ℕ, ℤ, Bool, true, false, cond, eqb, List, ◌∷◌, Option, Some, None, ◌⊎◌, inl, inr, ⊎_elim, refl, sym, ap, ◌∙◌, subst}
use Rattle.std.proofs.lemmas.Bool.{eqb-true, eq-eqb, both_ways}
use Rattle.r2_num.specs.declared.kinds.IntKind.TheVariants.{I32}
use Rattle.r2_num.specs.Kinds.{IsValue}
use Rattle.marks.specs.declared.side.Side.{Side}
use Rattle.marks.specs.Marks.{Mark}
use Rattle.c_code.specs.Values.{written}
use Rattle.lockset_check_rules.specs.Mutexes.{Locks, is_held, with_lock, without_lock}
use Rattle.lockset_check_laws.specs.Locks.{Deed, Takes, Other, deed, taken, taken_after}
use Rattle.lockset_check_laws.specs.Order.{IsFree}
use Rattle.lockset_check_threads.specs.Wants.{calls}
use Rattle.lockset_check_threads.proofs.Sets.{In, held_in, in_held, in_with, in_without}
use Rattle.lockset_check_threads.proofs.Patterns.{written_apart}

-- after these marks; `outside` says which patterns are kept on which side by the code that called this one
pub record Holds (s : Locks) (outside : ℕ → Side → Type 0) (side : Side) (mine : List Mark) : Type 0 where
  pub held : (k : ℤ) → In k s → taken calls (written k) mine ≡ Some side
  pub apart : (k : ℤ) (other : Side) → In k s → outside (written k) other → ⊥
  pub ints : (k : ℤ) → In k s → IsValue I32 k
  pub kept : (n : ℕ) (other : Side) → outside n other → taken calls n mine ≡ Some other

pub fewer_held : (s t : Locks) (outside : ℕ → Side → Type 0) (side : Side) (mine : List Mark) → ((k : ℤ) → In k t → In k s) → Holds s outside side mine → Holds t outside side mine
fewer_held s t outside side mine sub h = record {
  held = λ k i. h.held k (sub k i);
  apart = λ k other i. h.apart k other (sub k i);
  ints = λ k i. h.ints k (sub k i);
  kept = h.kept;
}

-- where nothing was taken or given back
pub still : (s : Locks) (outside : ℕ → Side → Type 0) (side : Side) (mine later : List Mark) → ((n : ℕ) → taken calls n later ≡ taken calls n mine) → Holds s outside side mine → Holds s outside side later
still s outside side mine later same h = record {
  held = λ k i. same (written k) ∙ h.held k i;
  apart = h.apart;
  ints = h.ints;
  kept = λ n other o. same n ∙ h.kept n other o;
}

-- ---- one mark more

-- by what the mark does
pub taken_by : (m : Mark) (mine : List Mark) (d : Deed) → deed calls m.act ≡ d → (n : ℕ) → taken calls n (m ∷ mine) ≡ taken_after n d (taken calls n mine)
taken_by m mine d e n = ap (λ x. taken_after n x (taken calls n mine)) e

pub quiet : (s : Locks) (outside : ℕ → Side → Type 0) (side : Side) (m : Mark) (mine : List Mark) → deed calls m.act ≡ Other → Holds s outside side mine → Holds s outside side (m ∷ mine)
quiet s outside side m mine e h = still s outside side mine (m ∷ mine) (taken_by m mine Other e) h

-- a mutex is locked that was free
pub locks : (s : Locks) (outside : ℕ → Side → Type 0) (side : Side) (m : Mark) (mine : List Mark) (j : ℤ) → IsValue I32 j → deed calls m.act ≡ Takes side (written j) → IsFree calls mine (deed calls m.act) → Holds s outside side mine → Holds (with_lock j s) outside side (m ∷ mine)
locks s outside side m mine j is e f h = record {
  held = λ k i. ⊎_elim (λ same. taken_by m mine (Takes side (written j)) e (written k) ∙ by (eqb (written j) (written k)) (taken calls (written k) mine) (inl (eq-eqb (written j) (written k) (ap written same)))) (λ old. taken_by m mine (Takes side (written j)) e (written k) ∙ by (eqb (written j) (written k)) (taken calls (written k) mine) (inr (h.held k old))) (in_with k j s i);
  apart = λ k other i o. ⊎_elim (λ same. clash (written j) other (subst (λ z. outside (written z) other) (sym same) o) refl) (λ old. h.apart k other old o) (in_with k j s i);
  ints = λ k i. ⊎_elim (λ same. subst (IsValue I32) same is) (h.ints k) (in_with k j s i);
  kept = λ n other o. taken_by m mine (Takes side (written j)) e n ∙ other_one n other o (eqb (written j) n) refl;
}
  where
    free : taken calls (written j) mine ≡ None
    free = subst (IsFree calls mine) e f

    by : (b : Bool) (t : Option Side) → (b ≡ true) ⊎ (t ≡ Some side) → cond b (Some side) t ≡ Some side
    by true t w = refl
    by false t (inl w) = absurd cc
    by false t (inr w) = w

    clash : (n : ℕ) (other : Side) → outside n other → written j ≡ n → ⊥
    clash n other o same = let one = h.kept n other o in let two = ap (λ x. taken calls x mine) (sym same) ∙ free in absurd cc

    other_one : (n : ℕ) (other : Side) → outside n other → (b : Bool) → eqb (written j) n ≡ b → cond b (Some side) (taken calls n mine) ≡ Some other
    other_one n other o true q = absurd (clash n other o (eqb-true (written j) n q))
    other_one n other o false q = h.kept n other o

-- a mutex that was held is given back
pub unlocks : (s : Locks) (outside : ℕ → Side → Type 0) (side : Side) (m : Mark) (mine : List Mark) (j : ℤ) → In j s → ((n : ℕ) → taken calls n (m ∷ mine) ≡ cond (eqb (written j) n) None (taken calls n mine)) → Holds s outside side mine → Holds (without_lock j s) outside side (m ∷ mine)
unlocks s outside side m mine j here e h = record {
  held = λ k i. let p = in_without k j s i in e (written k) ∙ other_mutex k p.0 p.1 (eqb (written j) (written k)) refl;
  apart = λ k other i. h.apart k other (in_without k j s i).0;
  ints = λ k i. h.ints k (in_without k j s i).0;
  kept = λ n other o. e n ∙ other_one n other o (eqb (written j) n) refl;
}
  where
    other_mutex : (k : ℤ) → In k s → (k ≡ j → ⊥) → (b : Bool) → eqb (written j) (written k) ≡ b → cond b None (taken calls (written k) mine) ≡ Some side
    other_mutex k i apart true q = absurd (apart (written_apart I32 k j (h.ints k i) (h.ints j here) (sym (eqb-true (written j) (written k) q))))
    other_mutex k i apart false q = h.held k i

    other_one : (n : ℕ) (other : Side) → outside n other → (b : Bool) → eqb (written j) n ≡ b → cond b None (taken calls n mine) ≡ Some other
    other_one n other o true q = absurd (h.apart j other here (subst (λ x. outside x other) (sym (eqb-true (written j) n q)) o))
    other_one n other o false q = h.kept n other o

-- ---- calls

-- what code keeps for its caller where it begins with `lent`: what the caller holds besides, and what is kept for that
abbrev pub Kept_by : Locks → Locks → (ℕ → Side → Type 0) → Side → ℕ → Side → Type 0
Kept_by s lent outside side n other = outside n other ⊎ ((k : ℤ) × In k s × (In k lent → ⊥) × (written k ≡ n) × (other ≡ side))

-- only mutexes that are held, and only on the side on which they were taken
abbrev pub Lends : Locks → Locks → (side there : Side) → Type 0
Lends s lent side there = (k : ℤ) → In k lent → In k s × (there ≡ side)

pub lend : (s lent : Locks) (outside : ℕ → Side → Type 0) (side there : Side) (mine : List Mark) → Lends s lent side there → Holds s outside side mine → Holds lent (Kept_by s lent outside side) there mine
lend s lent outside side there mine l h = record {
  held = λ k i. h.held k (l k i).0 ∙ ap Some (sym (l k i).1);
  apart = apart;
  ints = λ k i. h.ints k (l k i).0;
  kept = kept;
}
  where
    apart : (k : ℤ) (other : Side) → In k lent → Kept_by s lent outside side (written k) other → ⊥
    apart k other i (inl o) = h.apart k other (l k i).0 o
    apart k other i (inr p) = p.2 (subst (λ z. In z lent) (sym (written_apart I32 p.0 k (h.ints p.0 p.1) (h.ints k (l k i).0) p.3)) i)

    kept : (n : ℕ) (other : Side) → Kept_by s lent outside side n other → taken calls n mine ≡ Some other
    kept n other (inl o) = h.kept n other o
    kept n other (inr p) = ap (λ x. taken calls x mine) (sym p.3) ∙ h.held p.0 p.1 ∙ ap Some (sym p.4)

-- what was lent comes back, and what was kept
pub back : (s lent : Locks) (outside : ℕ → Side → Type 0) (side there : Side) (mine later : List Mark) → Lends s lent side there → Holds s outside side mine → Holds lent (Kept_by s lent outside side) there later → Holds s outside side later
back s lent outside side there mine later l h g = record {
  held = λ k i. by k i (is_held k lent) refl;
  apart = h.apart;
  ints = h.ints;
  kept = λ n other o. g.kept n other (inl o);
}
  where
    by : (k : ℤ) → In k s → (b : Bool) → is_held k lent ≡ b → taken calls (written k) later ≡ Some side
    by k i true e = let j = held_in k lent e in g.held k j ∙ ap Some (l k j).1
    by k i false e = g.kept (written k) side (inr (k, i, λ j. both_ways (is_held k lent) e (in_held k lent j), refl, refl))
