-- What is found where a rule may be broken.
use Rattle.std.specs.Prelude.{ℕ, Bool, true, false, ◌||◌, List, [], ◌∷◌, ◌++◌, Option, Some, None}
use Rattle.c_types_rules.specs.TypedTree.{Typed}

-- what is noted on the way
pub record Notes : Type 0 where
  -- whether an object is too large
  pub large : Bool
  -- what is typed and never evaluated: operands of sizeof, and lengths of arrays (C11 6.5.3.4, 2)
  pub unevaluated : List Typed

-- the notes of one part and then those of the next
abbrev pub together : Notes → Notes → Notes
together a b = record { large = b.large || a.large; unevaluated = a.unevaluated ++ b.unevaluated }

-- a value; a value with what is noted on the way; or a rule that is broken, and the offset of the node that
-- breaks it
pub data Checked (A : Type 0) : Type 0 where
  Fine : A → Checked A
  Noted : Notes → A → Checked A
  Broken : (from rule : ℕ) → Checked A

-- what is found, with these notes on the way to it
abbrev pub noting : {A : Type 0} → Notes → Checked A → Checked A
noting n (Fine x) = Noted n x
noting n (Noted m x) = Noted (together n m) x
noting n (Broken from rule) = Broken from rule

-- the second step, where the first breaks no rule
infixl 10 ◌>>=◌
abbrev pub ◌>>=◌ : {A B : Type 0} → Checked A → (A → Checked B) → Checked B
Fine x >>= f = f x
Noted n x >>= f = noting n (f x)
Broken from rule >>= f = Broken from rule

infixl 10 ◌>>◌
abbrev pub ◌>>◌ : {A B : Type 0} → Checked A → Checked B → Checked B
Fine x >> y = y
Noted n x >> y = noting n y
Broken from rule >> y = Broken from rule

-- a node keeps a rule where this holds
abbrev pub keep : (from rule : ℕ) → Bool → Checked (Unit {0})
keep from rule true = Fine tt
keep from rule false = Broken from rule

-- a node keeps a rule where this is there
abbrev pub need : {A : Type 0} → (from rule : ℕ) → Option A → Checked A
need from rule (Some x) = Fine x
need from rule None = Broken from rule

-- objects are small enough where this holds
abbrev pub small : Bool → Checked (Unit {0})
small true = Fine tt
small false = Noted (record { large = true; unevaluated = [] }) tt

-- this is typed and never evaluated
abbrev pub unevaluated : Typed → Checked (Unit {0})
unevaluated x = Noted (record { large = false; unevaluated = x ∷ [] }) tt

-- what is found, beside what stands unevaluated in it, of which no note is left
abbrev pub heard : {A : Type 0} → Checked A → Checked (A × List Typed)
heard (Fine x) = Fine (x, [])
heard (Noted n x) = Noted (record n { unevaluated = [] }) (x, n.unevaluated)
heard (Broken from rule) = Broken from rule
