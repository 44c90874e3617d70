-- How deep what is found is, together with what is noted on the way to it. What a function returns is on the stack in any
-- case, so that depths count from 1.
use Rattle.std.proofs.Common.{◌≡◌, ℕ, max, Bool, true, false, ap, ◌∙◌, arith}
use Rattle.c_types_rules.specs.Checked.{Checked, Fine, Noted, Broken, keep, noting, ◌>>=◌, ◌>>◌}
use Rattle.c_lower.specs.Depths.{greatest_depth}
use Rattle.c_lower_depth_laws.proofs.Found.{Finds, greatest_joined}

-- equal from 1 on
abbrev pub Same : ℕ → ℕ → Type 0
Same m n = max 1 m ≡ max 1 n

-- what is found has Q, and its depth with what is noted is this
abbrev pub Reaches : {A : Type 0} → (A → ℕ) → (A → Type 0) → ℕ → Checked A → Type 0
Reaches d Q k (Fine x) = Q x × Same (d x) k
Reaches d Q k (Noted n x) = Q x × Same (max (d x) (greatest_depth n.unevaluated)) k
Reaches d Q k (Broken from rule) = Unit {0}

pub reaches_as : {A : Type 0} (d : A → ℕ) (Q : A → Type 0) (j k : ℕ) (c : Checked A) → Same j k → Reaches d Q j c → Reaches d Q k c
reaches_as d Q j k (Fine x) e h = (h.0, h.1 ∙ e)
reaches_as d Q j k (Noted n x) e h = (h.0, h.1 ∙ e)
reaches_as d Q j k (Broken from rule) e h = tt

-- by the numbers alone: i is the depth before, j that of a step, k that of what follows
step_fine : (i j k a b : ℕ) → Same a j → Same b (max (max i a) k) → Same b (max i (max j k))
step_fine i j k a b e h = omega (arith, e, h)

one_before : (b n : ℕ) → max 1 (max b n) ≡ max (max 1 b) n
one_before b n = omega arith

last_first : (i a k : ℕ) → max (max i a) k ≡ max (max i k) a
last_first i a k = omega arith

one_inside : (x a n : ℕ) → max (max 1 (max x a)) n ≡ max x (max 1 (max a n))
one_inside x a n = omega arith

one_outside : (x j : ℕ) → max x (max 1 j) ≡ max 1 (max x j)
one_outside x j = omega arith

between : (i j k : ℕ) → max (max i k) j ≡ max i (max j k)
between i j k = omega arith

others : (b n m : ℕ) → max b (max n m) ≡ max (max b m) n
others b n m = omega arith

step_first : (i j k a b n : ℕ) → Same (max a n) j → Same b (max (max i a) k) → Same (max b n) (max i (max j k))
step_first i j k a b n e h =
    one_before b n ∙ (ap (λ z. max z n) (h ∙ ap (max 1) (last_first i a k)) ∙ (one_inside (max i k) a n
    ∙ (ap (max (max i k)) e ∙ (one_outside (max i k) j ∙ ap (max 1) (between i j k)))))

step_noted : (i j k a b n m : ℕ) → Same (max a n) j → Same (max b m) (max (max i a) k) → Same (max b (max n m)) (max i (max j k))
step_noted i j k a b n m e h = ap (max 1) (others b n m) ∙ step_first i j k a (max b m) n e h

step_second : (i j k a b m : ℕ) → Same a j → Same (max b m) (max (max i a) k) → Same (max b m) (max i (max j k))
step_second i j k a b m e h = omega (arith, e, h)

pub reaches_then : {A B : Type 0} (d : A → ℕ) (Q : A → Type 0) (e : B → ℕ) (R : B → Type 0) (i j k : ℕ) (c : Checked A) (f : A → Checked B) → Reaches d Q j c → ((x : A) → Q x → Reaches e R (max (max i (d x)) k) (f x)) → Reaches e R (max i (max j k)) (c >>= f)
reaches_then {B = B} d Q e R i j k (Fine x) f h g = by (f x) (g x h.0)
  where
    by : (y : Checked B) → Reaches e R (max (max i (d x)) k) y → Reaches e R (max i (max j k)) y
    by (Fine y) l = (l.0, step_fine i j k (d x) (e y) h.1 l.1)
    by (Noted m y) l = (l.0, step_second i j k (d x) (e y) (greatest_depth m.unevaluated) h.1 l.1)
    by (Broken from rule) l = tt
reaches_then {B = B} d Q e R i j k (Noted n x) f h g = by (f x) (g x h.0)
  where
    by : (y : Checked B) → Reaches e R (max (max i (d x)) k) y → Reaches e R (max i (max j k)) (noting n y)
    by (Fine y) l = (l.0, step_first i j k (d x) (e y) (greatest_depth n.unevaluated) h.1 l.1)
    by (Noted m y) l =
        (l.0, ap (λ z. max 1 (max (e y) z)) (greatest_joined n.unevaluated m.unevaluated) ∙ step_noted i j k (d x) (e y) (greatest_depth n.unevaluated) (greatest_depth m.unevaluated) h.1 l.1)
    by (Broken from rule) l = tt
reaches_then d Q e R i j k (Broken from rule) f h g = tt

pub reaches_kept : {B : Type 0} (e : B → ℕ) (R : B → Type 0) (k : ℕ) (from rule : ℕ) (b : Bool) (y : Checked B) → Reaches e R k y → Reaches e R k (keep from rule b >> y)
reaches_kept e R k from rule true y h = h
reaches_kept e R k from rule false y h = tt

-- what is found at a depth, with what is noted
pub reaches_found : {A : Type 0} (d : A → ℕ) (Q : A → Type 0) (n k : ℕ) (c : Checked A) → Finds (λ a. Q a × (d a ≡ n)) k c → Reaches d Q (max n k) c
reaches_found d Q n k (Fine x) h = (h.0.0, fine (d x) n k h.0.1 h.1)
  where
    fine : (a n k : ℕ) → a ≡ n → 0 ≡ k → Same a (max n k)
    fine a n k e f = omega (arith, e, f)
reaches_found d Q n k (Noted m x) h = (h.0.0, ap (max 1) (ap (λ a. max a (greatest_depth m.unevaluated)) h.0.1 ∙ ap (max n) h.1))
reaches_found d Q n k (Broken from rule) h = tt

-- the first step
pub reaches_start : {A B : Type 0} (d : A → ℕ) (Q : A → Type 0) (e : B → ℕ) (R : B → Type 0) (j k : ℕ) (c : Checked A) (f : A → Checked B) → Reaches d Q j c → ((x : A) → Q x → Reaches e R (max (d x) k) (f x)) → Reaches e R (max j k) (c >>= f)
reaches_start d Q e R j k c f h g =
    reaches_as e R (max 0 (max j k)) (max j k) (c >>= f) (none (max j k)) (reaches_then d Q e R 0 j k c f h (λ x q. reaches_as e R (max (d x) k) (max (max 0 (d x)) k) (f x) (inner (d x) k) (g x q)))
  where
    none : (n : ℕ) → Same (max 0 n) n
    none n = omega arith

    inner : (a k : ℕ) → Same (max a k) (max (max 0 a) k)
    inner a k = omega arith

-- the last step, of which something is made
pub reaches_last : {A B : Type 0} (d : A → ℕ) (Q : A → Type 0) (e : B → ℕ) (R : B → Type 0) (i j : ℕ) (c : Checked A) (g : A → B) → Reaches d Q j c → ((x : A) → Q x → R (g x) × (e (g x) ≡ max i (d x))) → Reaches e R (max i j) (c >>= (λ x. Fine (g x)))
reaches_last d Q e R i j (Fine x) g h k = ((k x h.0).0, fine (e (g x)) (d x) i j (k x h.0).1 h.1)
  where
    fine : (b a i j : ℕ) → b ≡ max i a → Same a j → Same b (max i j)
    fine b a i j f l = omega (arith, f, l)
reaches_last d Q e R i j (Noted n x) g h k = ((k x h.0).0, noted (e (g x)) (d x) (greatest_depth n.unevaluated) i j (k x h.0).1 h.1)
  where
    noted : (b a n i j : ℕ) → b ≡ max i a → Same (max a n) j → Same (max b n) (max i j)
    noted b a n i j f l = omega (arith, f, l)
reaches_last d Q e R i j (Broken from rule) g h k = tt

-- the only step
pub reaches_once : {A B : Type 0} (d : A → ℕ) (Q : A → Type 0) (e : B → ℕ) (R : B → Type 0) (j : ℕ) (c : Checked A) (g : A → B) → Reaches d Q j c → ((x : A) → Q x → R (g x) × (e (g x) ≡ d x)) → Reaches e R j (c >>= (λ x. Fine (g x)))
reaches_once d Q e R j c g h k = reaches_as e R (max 0 j) j (c >>= (λ x. Fine (g x))) (none j) (reaches_last d Q e R 0 j c g h (λ x q. ((k x q).0, (k x q).1 ∙ bare (d x))))
  where
    none : (n : ℕ) → Same (max 0 n) n
    none n = omega arith

    bare : (n : ℕ) → n ≡ max 0 n
    bare n = omega arith
