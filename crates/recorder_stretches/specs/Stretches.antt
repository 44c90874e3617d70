-- Accesses and rounds that the only thread of a run makes in one stretch.
use Rattle.std.specs.Prelude.{◌≡◌, ℕ, ◌+◌, ◌^◌, ◌<◌, length, Option, Some}
use Rattle.marks.specs.declared.side.Side.{Side}
use Rattle.marks.specs.Ranges.{bytes_of_number}
use Rattle.marks.specs.Marks.{Turn, Load, Store}
use Rattle.marks.specs.Wants.{Turns, Loads, Stores, Answer, Go, Value, Frame, CalledBack, Stopped}
use Rattle.c_machine.specs.declared.wants.Want.{Want as Shown}
use Rattle.c_machine.specs.declared.wants.Want.TheVariants as shows
use Rattle.recorder_memory.specs.declared.memory.Memory.{Memory}
use Rattle.recorder_memory.specs.Steps.{Makes}
use Rattle.recorder_threads.specs.declared.wants.Next.TheVariants as next
use Rattle.recorder_threads.specs.declared.wants.Want.{Want as Told}
use Rattle.recorder_threads.specs.declared.wants.Want.TheVariants as told
use Rattle.recorder_state.specs.declared.state.RunState.{RunState}

-- memory makes the access or the round of thread 0 on this side, whatever run comes to it, and it gives this
-- answer
abbrev pub IsMadeIn : Side → (old : Memory) → Shown → Answer → (new : Memory) → Type 0
IsMadeIn side old shows.Turn Go new = Makes old 0 side Turns Turn new
IsMadeIn side old (shows.Load at n) (Value v) new = (v < 256 ^ n) × ((o : Option ℕ) →
    Makes old 0 side (Loads o at n) (Load o at (bytes_of_number n v)) new)
IsMadeIn side old (shows.Store at n v) Go new = (o : Option ℕ) →
    Makes old 0 side (Stores o at (bytes_of_number n v)) (Store o at (bytes_of_number n v)) new
IsMadeIn side old shows.Turn (Value u) new = ⊥
IsMadeIn side old shows.Turn (Frame u) new = ⊥
IsMadeIn side old shows.Turn (CalledBack f args) new = ⊥
IsMadeIn side old shows.Turn Stopped new = ⊥
IsMadeIn side old (shows.Load at n) Go new = ⊥
IsMadeIn side old (shows.Load at n) (Frame u) new = ⊥
IsMadeIn side old (shows.Load at n) (CalledBack f args) new = ⊥
IsMadeIn side old (shows.Load at n) Stopped new = ⊥
IsMadeIn side old (shows.Store at n v) (Value u) new = ⊥
IsMadeIn side old (shows.Store at n v) (Frame u) new = ⊥
IsMadeIn side old (shows.Store at n v) (CalledBack f args) new = ⊥
IsMadeIn side old (shows.Store at n v) Stopped new = ⊥
IsMadeIn side old (shows.Ended v) x new = ⊥
IsMadeIn side old (shows.Enter f n) x new = ⊥
IsMadeIn side old shows.Leave x new = ⊥
IsMadeIn side old (shows.Ret f v) x new = ⊥
IsMadeIn side old (shows.Alloc n) x new = ⊥
IsMadeIn side old (shows.Free at) x new = ⊥
IsMadeIn side old (shows.Call f) x new = ⊥
IsMadeIn side old (shows.UpRet v) x new = ⊥
IsMadeIn side old (shows.Fault n) x new = ⊥

-- so it does, and one step less is left of the budget
pub record IsOneMore (side : Side) (old : Memory) (left : ℕ) (w : Shown) (x : Answer) (new : Memory)
    (less : ℕ) : Type 0 where
  pub less_is : left ≡ less + 1
  pub made : IsMadeIn side old w x new

-- an access or a round is wanted
abbrev pub IsAccessTold : Told → Type 0
IsAccessTold told.Turn = Unit {0}
IsAccessTold (told.Load at n) = Unit {0}
IsAccessTold (told.Store at n v) = Unit {0}
IsAccessTold (told.Enter indirect f size) = ⊥
IsAccessTold told.Leave = ⊥
IsAccessTold (told.Alloc n) = ⊥
IsAccessTold (told.Free at) = ⊥
IsAccessTold (told.Call indirect f) = ⊥
IsAccessTold (told.Give f) = ⊥
IsAccessTold (told.Return f v) = ⊥
IsAccessTold (told.CallBack f size) = ⊥
IsAccessTold (told.UpReturn v) = ⊥
IsAccessTold (told.Step indirect f) = ⊥
IsAccessTold (told.Fault n) = ⊥

-- one thread was started, and its code is known to come to an access or a round on this side
pub record IsAtAccess (s : RunState) (side : Side) : Type 0 where
  pub alone : length s.threads ≡ 1
  pub thread : ℕ
  pub want : Told
  pub known : s.known ≡ Some (record { thread = thread; next = next.Wants side want })
  pub access : IsAccessTold want
