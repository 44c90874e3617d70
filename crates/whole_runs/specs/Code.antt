-- Which functions the code of a function names in direct calls.
use Rattle.std.specs.Prelude.{◌≡◌, ◌≤◌, ℕ, ◌+◌, ◌-◌, true, false, List, [], ◌∷◌, Contains, Some, slice_get}
use Rattle.marks.specs.declared.side.Side.TheVariants.{Replay, System}
use Rattle.marks.specs.Places.{builtin_count}
use Rattle.c_code.specs.declared.instr.Instr.{Instr}
use Rattle.c_code.specs.declared.instr.Instr.TheVariants as instr
use Rattle.c_code.specs.Machine.{Laid, entry, is_face}
use Rattle.c_code.specs.MarkLists.{has_entry}
use Rattle.whole_runs.specs.World.{may_run}

-- where the thread goes on in a body after an instruction
abbrev pub next_places : (place : ℕ) → Instr → List ℕ
next_places p (instr.Push what) = (p + 1) ∷ []
next_places p (instr.Load k o) = (p + 1) ∷ []
next_places p (instr.LoadKeep k o) = (p + 1) ∷ []
next_places p (instr.Store k o) = (p + 1) ∷ []
next_places p (instr.StoreLocal k offset) = (p + 1) ∷ []
next_places p (instr.StoreStep k by old o) = (p + 1) ∷ []
next_places p (instr.Change how) = (p + 1) ∷ []
next_places p (instr.Combine how) = (p + 1) ∷ []
next_places p (instr.EndIfZero n) = (p + 1) ∷ (p + 1 + n) ∷ []
next_places p (instr.EndUnlessZero n) = (p + 1) ∷ (p + 1 + n) ∷ []
next_places p (instr.SkipIfZero n) = (p + 1) ∷ (p + 1 + n) ∷ []
next_places p (instr.GoOn n) = (p + 1 + n) ∷ []
next_places p instr.Turn = (p + 1) ∷ []
next_places p (instr.GoBack n) = (p - n) ∷ []
next_places p (instr.Call f n) = (p + 1) ∷ []
next_places p (instr.CallPointer sig n) = (p + 1) ∷ []
next_places p instr.Drop = (p + 1) ∷ []
next_places p instr.Finish = []

-- the body of the function g has the instruction at a place
pub data Reaches (l : Laid) (g : ℕ) : ℕ → Type 0 where
  begins : {p : ℕ} → entry l g ≡ Some p → Reaches l g p
  goes_on : {p q : ℕ} (i : Instr) → Reaches l g p → slice_get l.code.instrs p ≡ Some i →
      Contains (next_places p i) q → Reaches l g q

-- the body of g calls f by its name
pub record Names (l : Laid) (g f : ℕ) : Type 0 where
  pub place : ℕ
  pub reaches : Reaches l g place
  pub arity : ℕ
  pub calls : slice_get l.code.instrs place ≡ Some (instr.Call f arity)

-- f may run in the mode that a direct call above the cut gives it: below the cut where it is of the
-- interface, and above it where it isn't and is one of the source. It then has a body; so there is no
-- external outside the interface
pub record MayCallAbove (l : Laid) (f : ℕ) : Type 0 where
  pub face : is_face l f ≡ true → may_run l.placed System f ≡ true
  pub plain : is_face l f ≡ false → builtin_count ≤ f → may_run l.placed Replay f ≡ true
  pub body : is_face l f ≡ false → builtin_count ≤ f → has_entry (entry l f) ≡ true
