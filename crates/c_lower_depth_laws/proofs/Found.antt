-- What holds of what is found, and how deep what is noted on the way to it is.
use Rattle.std.proofs.Common.{◌≡◌, ℕ, max, Bool, true, false, List, [], ◌∷◌, ◌++◌, Option, Some, None, refl, sym, ap, ◌∙◌, subst, arith}
use Rattle.c_types_rules.specs.Checked.{Checked, Fine, Noted, Notes, Broken, heard, keep, need, small, noting, unevaluated, ◌>>=◌, ◌>>◌}
use Rattle.c_types_rules.specs.TypedTree.{Typed}
use Rattle.c_lower.specs.Depths.{greatest_depth, typed_depth}

-- what is found has P, and the greatest depth over what is noted on the way is this
abbrev pub Finds : {A : Type 0} → (A → Type 0) → ℕ → Checked A → Type 0
Finds P k (Fine x) = P x × (0 ≡ k)
Finds P k (Noted n x) = P x × (greatest_depth n.unevaluated ≡ k)
Finds P k (Broken from rule) = Unit {0}

pub greatest_joined : (xs ys : List Typed) → greatest_depth (xs ++ ys) ≡ max (greatest_depth xs) (greatest_depth ys)
greatest_joined [] ys = omega arith
greatest_joined (x ∷ xs) ys = let e = greatest_joined xs ys in omega (arith, e)

pub max_zero : (k : ℕ) → max k 0 ≡ k
max_zero k = omega arith

pub zero_max : (k : ℕ) → k ≡ max 0 k
zero_max k = omega arith

pub finds_noting : {A : Type 0} (P : A → Type 0) (j k : ℕ) (n : Notes) (c : Checked A) → greatest_depth n.unevaluated ≡ j → Finds P k c → Finds P (max j k) (noting n c)
finds_noting P j k n (Fine x) e h = (h.0, e ∙ (sym (max_zero j) ∙ ap (max j) h.1))
finds_noting P j k n (Noted m x) e h = (h.0, greatest_joined n.unevaluated m.unevaluated ∙ (ap (λ i. max i (greatest_depth m.unevaluated)) e ∙ ap (max j) h.1))
finds_noting P j k n (Broken from rule) e h = tt

pub finds_as : {A : Type 0} (P : A → Type 0) (j k : ℕ) (c : Checked A) → j ≡ k → Finds P j c → Finds P k c
finds_as P j k c e h = subst (λ i. Finds P i c) e h

pub finds_then : {A B : Type 0} (P : A → Type 0) (Q : B → Type 0) (j k : ℕ) (c : Checked A) (f : A → Checked B) → Finds P j c → ((x : A) → P x → Finds Q k (f x)) → Finds Q (max j k) (c >>= f)
finds_then P Q j k (Fine x) f h g = finds_as Q k (max j k) (f x) (zero_max k ∙ ap (λ i. max i k) h.1) (g x h.0)
finds_then P Q j k (Noted n x) f h g = finds_noting Q j k n (f x) h.1 (g x h.0)
finds_then P Q j k (Broken from rule) f h g = tt

-- where nothing is noted after the first step
pub finds_last : {A B : Type 0} (P : A → Type 0) (Q : B → Type 0) (k : ℕ) (c : Checked A) (f : A → Checked B) → Finds P k c → ((x : A) → P x → Finds Q 0 (f x)) → Finds Q k (c >>= f)
finds_last P Q k c f h g = finds_as Q (max k 0) k (c >>= f) (max_zero k) (finds_then P Q k 0 c f h g)

-- where nothing is noted in the first step
pub finds_on : {A B : Type 0} (P : A → Type 0) (Q : B → Type 0) (k : ℕ) (c : Checked A) (f : A → Checked B) → Finds P 0 c → ((x : A) → P x → Finds Q k (f x)) → Finds Q k (c >>= f)
finds_on P Q k c f h g = finds_as Q (max 0 k) k (c >>= f) (sym (zero_max k)) (finds_then P Q 0 k c f h g)

pub finds_after : {A B : Type 0} (P : A → Type 0) (Q : B → Type 0) (j k : ℕ) (c : Checked A) (y : Checked B) → Finds P j c → Finds Q k y → Finds Q (max j k) (c >> y)
finds_after P Q j k (Fine x) y h g = finds_as Q k (max j k) y (zero_max k ∙ ap (λ i. max i k) h.1) g
finds_after P Q j k (Noted n x) y h g = finds_noting Q j k n y h.1 g
finds_after P Q j k (Broken from rule) y h g = tt

pub finds_kept : {B : Type 0} (Q : B → Type 0) (k : ℕ) (from rule : ℕ) (b : Bool) (y : Checked B) → Finds Q k y → Finds Q k (keep from rule b >> y)
finds_kept Q k from rule true y h = h
finds_kept Q k from rule false y h = tt

pub finds_small : {B : Type 0} (Q : B → Type 0) (k : ℕ) (b : Bool) (y : Checked B) → Finds Q k y → Finds Q k (small b >> y)
finds_small Q k true y h = h
finds_small Q k false y h = finds_as Q (max 0 k) k (small false >> y) (sym (zero_max k)) (finds_noting Q 0 k (record { large = true; unevaluated = [] }) y refl h)

pub finds_needed : {A B : Type 0} (Q : B → Type 0) (k : ℕ) (from rule : ℕ) (o : Option A) (f : A → Checked B) → ((x : A) → Finds Q k (f x)) → Finds Q k (need from rule o >>= f)
finds_needed Q k from rule (Some x) f h = h x
finds_needed Q k from rule None f h = tt

-- what isn't evaluated is noted
pub finds_unevaluated : {B : Type 0} (Q : B → Type 0) (k : ℕ) (a : Typed) (y : Checked B) → Finds Q k y → Finds Q (max (typed_depth a) k) (unevaluated a >> y)
finds_unevaluated Q k a y h = finds_noting Q (typed_depth a) k (record { large = false; unevaluated = a ∷ [] }) y (max_zero (typed_depth a)) h

pub finds_heard : {A : Type 0} (P : A → Type 0) (k : ℕ) (c : Checked A) → Finds P k c → Finds (λ a. P a.0 × (greatest_depth a.1 ≡ k)) 0 (heard c)
finds_heard P k (Fine x) h = (h, refl)
finds_heard P k (Noted n x) h = (h, refl)
finds_heard P k (Broken from rule) h = tt

pub finds_weaker : {A : Type 0} (P Q : A → Type 0) (k : ℕ) (c : Checked A) → ((x : A) → P x → Q x) → Finds P k c → Finds Q k c
finds_weaker P Q k (Fine x) f h = (f x h.0, h.1)
finds_weaker P Q k (Noted n x) f h = (f x h.0, h.1)
finds_weaker P Q k (Broken from rule) f h = tt
