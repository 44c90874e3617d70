-- Loops over lists that stand for parts of a source, where each step may break a rule.
use Rattle.std.proofs.Common.{◌≡◌, ℕ, ◌+◌, ◌<◌, ◌≤◌, List, [], ◌∷◌, length, get_or, drop, Result, Ok, Err, refl, ap, subst, add-one, drop-cons}
use Rattle.std.proofs.Math.ListN.{drop_of_length-le}
use Rattle.c_types_rules.specs.Checked.{Checked, Fine, Noted, Broken, ◌>>=◌, noting}
use Rattle.annot_reader_words.specs.declared.error.AnnotationError.{AnnotationError}
use Rattle.annot_reader_words.specs.Answers.{Tells}
use Rattle.annot_reader_words.proofs.Composing.{noting_tells, stops}

-- each stands for the one at its place
abbrev pub AllStand : {V X : Type 0} → (V → X → Type 0) → List V → List X → Type 0
AllStand Stands [] [] = Unit {0}
AllStand Stands (v ∷ vs) (x ∷ xs) = Stands v x × AllStand Stands vs xs
AllStand Stands _ _ = ⊥

-- the steps of all, one after another
abbrev pub fold : {X S : Type 0} → (X → S → Checked S) → List X → S → Checked S
fold step [] s = Fine s
fold step (x ∷ xs) s = step x s >>= fold step xs

pub same_after : {A B : Type 0} (c : Checked A) (f g : A → Checked B) → ((x : A) → f x ≡ g x) → (c >>= f) ≡ (c >>= g)
same_after (Fine x) f g h = h x
same_after (Noted n x) f g h = ap (noting n) (h x)
same_after (Broken a b) f g h = refl

-- what is left decides
abbrev pub Decides : {V X S Z : Type 0} → (V → X → Type 0) → (X → S → Checked S) → (S → Z → Type 0) → List V → S → Checked S → Type 0
Decides {X = X} {Z = Z} Stands step js vs s c = (xs : List X) × AllStand Stands vs xs × ((r : Result Z AnnotationError) → Tells js (fold step xs s) r → Tells js c r)

module _ {V X S Y Z : Type 0} (Stands : V → X → Type 0) (step : X → S → Checked S) (is : S → Y → Type 0) (js : S → Z → Type 0) where
  abbrev After : List V → S → Checked S → Type 0
  After vs s c = Decides Stands step js vs s c

  abbrev Next : V → List V → S → Checked S → Type 0
  Next v vs s c = (x : X) × (xs : List X) × Stands v x × AllStand Stands vs xs × ((r : Result Z AnnotationError) → Tells js (step x s >>= fold step xs) r → Tells js c r)

  head : (v : V) (vs : List V) (s : S) (c : Checked S) → After (v ∷ vs) s c → Next v vs s c
  head v vs s c ([], a, f) = absurd a
  head v vs s c (x ∷ xs, a, f) = (x, xs, a.0, a.1, f)

  next : (vs : List V) (k : ℕ) (d : V) (s : S) (c : Checked S) → k < length vs → After (drop k vs) s c → Next (get_or vs k d) (drop (k + 1) vs) s c
  next vs k d s c h a =
      let one : drop k vs ≡ get_or vs k d ∷ drop (k + 1) vs = rw add-one (drop-cons vs k d h) in
      head (get_or vs k d) (drop (k + 1) vs) s c (subst (λ ws. After ws s c) one a)

  pub at_first : (vs : List V) (xs : List X) (s : S) → AllStand Stands vs xs → After vs s (fold step xs s)
  at_first vs xs s a = (xs, a, λ r h. h)

  -- a rule that the next step breaks is the first that is broken
  pub broken_next : (vs : List V) (k : ℕ) (d : V) (s : S) (c : Checked S) (e : AnnotationError) → k < length vs → After (drop k vs) s c →
      ((x : X) → Stands (get_or vs k d) x → Tells is (step x s) (Err e)) → Tells js c (Err e)
  broken_next vs k d s c e h a p =
      let n = next vs k d s c h a in
      n.4 (Err e) (stops is js (step n.0 s) (fold step n.1) e (p n.0 n.2))

  -- the next one stands for something
  pub stands_next : (vs : List V) (k : ℕ) (d : V) (s : S) (c : Checked S) → k < length vs → After (drop k vs) s c → (x : X) × Stands (get_or vs k d) x
  stands_next vs k d s c h a = let n = next vs k d s c h a in (n.0, n.2)

  passed : (c : Checked S) (x : Checked S) (xs : List X) (y : Y) → Tells is x (Ok y) → ((r : Result Z AnnotationError) → Tells js (x >>= fold step xs) r → Tells js c r) → (s : S) × is s y × ((r : Result Z AnnotationError) → Tells js (fold step xs s) r → Tells js c r)
  passed c (Fine s) xs y h f = (s, h, f)
  passed c (Noted n s) xs y h f = (s, h, λ r k. f r (noting_tells js n (fold step xs s) r k))
  passed c (Broken a b) xs y h f = absurd h

  -- past a step that breaks no rule
  pub past_next : (vs : List V) (k : ℕ) (d : V) (s : S) (c : Checked S) (y : Y) → k < length vs → After (drop k vs) s c →
      ((x : X) → Stands (get_or vs k d) x → Tells is (step x s) (Ok y)) → (t : S) × is t y × After (drop (k + 1) vs) t c
  past_next vs k d s c y h a p =
      let n = next vs k d s c h a in
      let t = passed c (step n.0 s) n.1 y (p n.0 n.2) n.4 in
      (t.0, t.1, (n.1, n.3, t.2))

  last : (s : S) (c : Checked S) (z : Z) → After [] s c → js s z → Tells js c (Ok z)
  last s c z ([], a, f) h = f (Ok z) h
  last s c z (x ∷ xs, a, f) h = absurd a

  -- nothing is left
  pub at_end : (vs : List V) (k : ℕ) (s : S) (c : Checked S) (z : Z) → length vs ≤ k → After (drop k vs) s c → js s z → Tells js c (Ok z)
  at_end vs k s c z h a j = last s c z (subst (λ ws. After ws s c) (drop_of_length-le vs h) a) j
