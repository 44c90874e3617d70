-- What is said of a list of marks, read from its prefix: each construct is given what follows it.
use Rattle.std.specs.Prelude.{ℕ, if◌then◌else◌, List, [], ◌∷◌, Option, Some, None, Result, Ok, Err}
use Rattle.marks.specs.declared.side.Side.{Side}
use Rattle.marks.specs.declared.fault.FaultKind.{FaultKind}
use Rattle.marks.specs.Marks.{Mark}
use Rattle.marks.specs.Wants.{Want, Fails, Answer, Go, Value, Frame, CalledBack, Stopped}
use Rattle.c_code.specs.declared.shape.Shape.{Shape}
use Rattle.c_code.specs.declared.shape.Shape.TheVariants.{Pointer}
use Rattle.c_code.specs.Values.{is_value}
use Rattle.c_code.specs.MarkLists.{Verdict, Ended, Expects, Wrong, closed, reply}

abbrev pub Marks : Type 0
Marks = List Mark → Verdict

-- no such marks are made
abbrev pub wrong : Marks
wrong ms = Wrong

-- nothing follows
abbrev pub ended : ℕ → Marks
ended v [] = Ended v
ended v (m ∷ ms) = Wrong

-- what a mark answers, and what follows; nothing comes after a fault
abbrev pub heard : Option Answer → (Answer → Marks) → Marks
heard None go ms = Wrong
heard (Some Stopped) go ms = closed ms
heard (Some Go) go ms = go Go ms
heard (Some (Value v)) go ms = go (Value v) ms
heard (Some (Frame at)) go ms = go (Frame at) ms
heard (Some (CalledBack g args)) go ms = go (CalledBack g args) ms

-- a mark is wanted, and its answer says what follows; a list may stop before it
abbrev pub ask : Side → Want → (Answer → Marks) → Marks
ask side want go [] = Expects side want
ask side want go (m ∷ ms) = heard (reply side want m) go ms

-- a fault in place of what follows
abbrev pub fails : Side → FaultKind → Marks
fails side kind = ask side (Fails kind) (λ a. wrong)

abbrev pub or_fault : Side → Result ℕ FaultKind → (ℕ → Marks) → Marks
or_fault side (Ok v) go = go v
or_fault side (Err kind) go = fails side kind

-- a value of this type that was answered
abbrev pub with_value : Shape → (ℕ → Marks) → Answer → Marks
with_value shape go (Value v) = if is_value shape v then go v else wrong
with_value shape go a = wrong

-- any value that was answered
abbrev pub with_any : (ℕ → Marks) → Answer → Marks
with_any go (Value v) = go v
with_any go a = wrong

-- where a frame lies that was answered
abbrev pub with_frame : (ℕ → Marks) → Answer → Marks
with_frame go (Frame base) = if is_value Pointer base then go base else wrong
with_frame go a = wrong
