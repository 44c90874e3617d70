-- What is found after steps that follow each other tells of each of them.
use Rattle.std.proofs.Common.{◌≡◌, Ok, refl}
use Rattle.c_types_rules.specs.Checked.{Checked, Fine, Noted, Broken, Notes as Told, noting, ◌>>=◌, ◌>>◌}
use Rattle.annot_reader_words.specs.Answers.{Passes, Tells}

-- it is this, in the answer of a call
abbrev pub Is : {A : Type 0} → A → A → Unit {0} → Type 0
Is y x u = x ≡ y

-- this is found
abbrev pub Finds : {A : Type 0} → A → Checked A → Type 0
Finds y c = Tells (Is y) c (Ok tt)

module _ {A B : Type 0} (is : A → B → Type 0) (y : B) where
  untold : (n : Told) (c : Checked A) → Tells is (noting n c) (Ok y) → Tells is c (Ok y)
  untold n (Fine x) h = h
  untold n (Noted m x) h = h
  untold n (Broken f r) h = absurd h

  -- the second step is made, and the first breaks no rule
  pub past : {C : Type 0} (c : Checked C) (d : Checked A) → Tells is (c >> d) (Ok y) → Tells is d (Ok y)
  past (Fine x) d h = h
  past (Noted n x) d h = untold n d h
  past (Broken f r) d h = absurd h

  pub before : (c : Checked (Unit {0})) (d : Checked A) → Tells is (c >> d) (Ok y) → Passes c (Ok tt)
  before (Fine x) d h = tt
  before (Noted n x) d h = tt
  before (Broken f r) d h = absurd h

  -- what the first step finds
  pub into : {C : Type 0} (c : Checked C) (f : C → Checked A) → Tells is (c >>= f) (Ok y) → (x : C) × Finds x c × Tells is (f x) (Ok y)
  into (Fine x) f h = (x, refl, h)
  into (Noted n x) f h = (x, refl, untold n (f x) h)
  into (Broken g r) f h = absurd h
