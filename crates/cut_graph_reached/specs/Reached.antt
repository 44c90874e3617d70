-- Which function begins to run where a mark answers a want, and on which side of the cut.
use Rattle.std.specs.Prelude.{ℕ, Bool, true, false, Option, Some, None}
use Rattle.marks.specs.declared.side.Side.{Side}
use Rattle.marks.specs.declared.side.Side.TheVariants.{Replay, System}
use Rattle.marks.specs.Wants.{Want, Outside, Turns, Loads, Stores, Enters, Leaves, Allocs, Frees, Calls, Below, Gives, Returns, CallsBack, UpReturns, Steps, Fails, Answer, Go, Value, Frame, CalledBack, Stopped}

-- a function that runs from here on, and the side on which it does
pub record Reach : Type 0 where
  pub side : Side
  pub func : ℕ

abbrev pub reach : Side → (func : ℕ) → Option Reach
reach side f = Some (record { side = side; func = f })

-- ---- by what is answered; a fault stands in place of what it stops, so that nothing is reached

-- the function has a frame, and its body runs
abbrev pub entered : Side → (func : ℕ) → Answer → Option Reach
entered side f (Frame at) = reach side f
entered side f Go = None
entered side f (Value v) = None
entered side f (CalledBack g args) = None
entered side f Stopped = None

-- a function is called back above the cut
abbrev pub called_back : Answer → Option Reach
called_back (CalledBack g args) = reach Replay g
called_back Go = None
called_back (Value v) = None
called_back (Frame at) = None
called_back Stopped = None

-- a Call was made, and what it calls runs below the cut
abbrev pub called : (func : ℕ) → Answer → Option Reach
called f Go = reach System f
called f (Value v) = None
called f (Frame at) = None
called f (CalledBack g args) = None
called f Stopped = None

-- a builtin or external ran, and gave a value
abbrev pub stepped : Side → (func : ℕ) → Answer → Option Reach
stepped side f (Value v) = reach side f
stepped side f Go = None
stepped side f (Frame at) = None
stepped side f (CalledBack g args) = None
stepped side f Stopped = None

-- an indirect call below the cut: the function is called back above it, or runs below it as any other
abbrev pub called_below : (func : ℕ) → Answer → Option Reach
called_below f (CalledBack g args) = reach Replay g
called_below f (Frame at) = reach System f
called_below f Go = None
called_below f (Value v) = None
called_below f Stopped = None

-- ---- by what is wanted on a side

abbrev pub reached : Side → Want → Answer → Option Reach
-- code below the cut, whatever it is, calls a function back
reached side Outside x = called_back x
-- a round of a loop stays in its function
reached side Turns x = None
-- an access runs no function
reached side (Loads origin at width) x = None
reached side (Stores origin at bytes) x = None
-- a call that keeps the side, the body of a function that was called below the cut, or that of one that was
-- called back
reached side (Enters indirect f args bytes) x = entered side f x
-- the caller goes on, which was reached before
reached side (Leaves at size) x = None
-- the pool above the cut answers at once, and no function runs
reached side (Allocs size) x = None
reached side (Frees at) x = None
-- a call of the interface by replay code: what is called runs below the cut, with a body or without
reached side (Calls indirect f args) x = called f x
-- below a Call any code may call functions back; where the Call returns, its caller goes on
reached side (Below f args) x = called_back x
-- the caller goes on; what returns was reached at its Call
reached side (Gives f args) x = None
reached side (Returns f args result) x = None
-- an indirect call by system code, or the first call of a thread
reached side (CallsBack f args bytes) x = called_below f x
-- the code below the cut goes on that called the function back
reached side (UpReturns f result) x = None
-- a call of a builtin or external that makes no event: it runs on the side of its caller
reached side (Steps indirect f args) x = stepped side f x
-- a fault, after which nothing runs
reached side (Fails kind) x = None

-- ---- by what chooses the function

-- whether a pointer's value chooses what is reached, or code below the cut does, in place of a name in the
-- source
abbrev pub by_pointer : Want → Bool
-- code below the cut calls back what it has a pointer to
by_pointer Outside = true
-- nothing is reached
by_pointer Turns = false
by_pointer (Loads origin at width) = false
by_pointer (Stores origin at bytes) = false
-- an indirect call; else the source names the function, or it was reached before as what a Call or an Up
-- calls
by_pointer (Enters indirect f args bytes) = indirect
-- nothing is reached
by_pointer (Leaves at size) = false
by_pointer (Allocs size) = false
by_pointer (Frees at) = false
-- an indirect call; else the source names the function
by_pointer (Calls indirect f args) = indirect
-- code below the cut calls back what it has a pointer to
by_pointer (Below f args) = true
-- nothing is reached
by_pointer (Gives f args) = false
by_pointer (Returns f args result) = false
-- an indirect call, or the function that a thread was made with
by_pointer (CallsBack f args bytes) = true
-- nothing is reached
by_pointer (UpReturns f result) = false
-- an indirect call; else the source names the function
by_pointer (Steps indirect f args) = indirect
-- nothing is reached
by_pointer (Fails kind) = false
