-- What is told of what the code of a thread wants.
use Rattle.std.specs.Prelude.{◌≡◌, ℕ, ◌≤◌, true, List, length, Option}
use Rattle.marks.specs.declared.side.Side.{Side}
use Rattle.marks.specs.declared.fault.FaultKind.{FaultKind}
use Rattle.marks.specs.Kinds.{fault_number}
use Rattle.marks.specs.Ranges.{bytes_of_number}
use Rattle.marks.specs.Wants.{Want, Turns, Loads, Stores, Enters, Leaves, Allocs, Frees, Calls, Gives, Returns, CallsBack, UpReturns, Steps, Fails, Answer}
use Rattle.c_code.specs.Machine.{Laid, Config, entry, frame_of}
use Rattle.c_code.specs.MarkLists.{Next, Wants, Ends, has_entry}
use Rattle.recorder_threads.specs.declared.wants.Next.{Next as ToldNext}
use Rattle.recorder_threads.specs.declared.wants.Next.TheVariants as next
use Rattle.recorder_threads.specs.declared.wants.Want.{Want as Told}
use Rattle.recorder_threads.specs.declared.wants.Want.TheVariants as told

-- so many bytes are loaded or stored at a time
pub record IsWidth (n : ℕ) : Type 0 where
  pub some : 1 ≤ n
  pub few : n ≤ 8

-- the function has a body, and with these arguments the bytes of its frame are so many
pub record IsFrameSize (l : Laid) (func : ℕ) (args : List ℕ) (size : ℕ) : Type 0 where
  pub body : has_entry (entry l func) ≡ true
  pub count : length (frame_of l func args) ≡ size

-- a want with these arguments is told so. Not told are the global that a path begins with, the frame that
-- is left, which is the innermost one of its side, and the function that an UpRet ends, which is that of
-- the innermost open Up
abbrev pub IsTold : Laid → (args : List ℕ) → Told → Want → Type 0
IsTold l args told.Turn w = w ≡ Turns
IsTold l args (told.Load at n) w = (o : Option ℕ) × (w ≡ Loads o at n) × IsWidth n
IsTold l args (told.Store at n v) w = (o : Option ℕ) × (w ≡ Stores o at (bytes_of_number n v)) ×
    IsWidth n
IsTold l args (told.Enter indirect f size) w = (w ≡ Enters indirect f args (frame_of l f args)) ×
    IsFrameSize l f args size
IsTold l args told.Leave w = (at size : ℕ) × (w ≡ Leaves at size)
IsTold l args (told.Alloc n) w = w ≡ Allocs n
IsTold l args (told.Free at) w = w ≡ Frees at
IsTold l args (told.Call indirect f) w = w ≡ Calls indirect f args
IsTold l args (told.Give f) w = w ≡ Gives f args
IsTold l args (told.Return f v) w = w ≡ Returns f args v
IsTold l args (told.CallBack f size) w = (w ≡ CallsBack f args (frame_of l f args)) ×
    IsFrameSize l f args size
IsTold l args (told.UpReturn v) w = (f : ℕ) × (w ≡ UpReturns f v)
IsTold l args (told.Step indirect f) w = w ≡ Steps indirect f args
IsTold l args (told.Fault n) w = (kind : FaultKind) × (w ≡ Fails kind) × (n ≡ fault_number kind)

-- the code wants what is told, on the side
pub record WantsTold (l : Laid) (args : List ℕ) (side : Side) (said : Told) (n : Next) : Type 0 where
  pub want : Want
  pub to : Answer → Config
  pub wants : n ≡ Wants side want to
  pub is_told : IsTold l args said want

-- what the code comes to is told so
abbrev pub IsNextTold : Laid → (args : List ℕ) → ToldNext → Next → Type 0
IsNextTold l args (next.Ended v) n = n ≡ Ends v
IsNextTold l args (next.Wants side want) n = WantsTold l args side want n
