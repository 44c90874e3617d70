-- What a thread of flat code shows of its next mark or call, as it is told.
use Rattle.std.specs.Prelude.{◌≡◌, ℕ, Bool, true, false, Option, Some, None}
use Rattle.marks.specs.declared.side.Side.{Side}
use Rattle.marks.specs.declared.side.Side.TheVariants.{Replay, System}
use Rattle.c_code.specs.declared.code.FuncInfo.{FuncInfo}
use Rattle.c_code.specs.Machine.{Laid, Config}
use Rattle.c_code.specs.MarkLists.{settled}
use Rattle.c_machine.specs.Makes.{IsCut}
use Rattle.c_machine.specs.Moves.{ThreadState, is_below, ready}
use Rattle.c_machine.specs.declared.wants.Want.{Want as Shown}
use Rattle.c_machine.specs.declared.wants.Want.TheVariants as shown
use Rattle.recorder_threads.specs.declared.wants.Next.{Next}
use Rattle.recorder_threads.specs.declared.wants.Next.TheVariants as next
use Rattle.recorder_threads.specs.declared.wants.Want.{Want as Told}
use Rattle.recorder_threads.specs.declared.wants.Want.TheVariants as told

-- a mark, on this side; its function comes from an address or not
abbrev pub told_mark : Side → (indirect : Bool) → Shown → Next
told_mark side i (shown.Ended v) = next.Ended v
told_mark side i shown.Turn = next.Wants side told.Turn
told_mark side i (shown.Load at n) = next.Wants side (told.Load at n)
told_mark side i (shown.Store at n v) = next.Wants side (told.Store at n v)
told_mark side i (shown.Enter f size) = next.Wants side (told.Enter i f size)
told_mark side i shown.Leave = next.Wants side told.Leave
told_mark side i (shown.Ret f v) = next.Wants side (told.Return f v)
told_mark side i (shown.Alloc n) = next.Wants side (told.Alloc n)
told_mark side i (shown.Free at) = next.Wants side (told.Free at)
told_mark side i (shown.Call f) = next.Wants side (told.Call i f)
told_mark side i (shown.UpRet v) = next.Wants side (told.UpReturn v)
told_mark side i (shown.Fault n) = next.Wants side (told.Fault n)

-- the bytes of its frame, where the function has a body
abbrev pub frame_in : Option ℕ → (frame : ℕ) → Option ℕ
frame_in (Some at) frame = Some frame
frame_in None frame = None

abbrev pub body_frame : Option FuncInfo → Option ℕ
body_frame (Some f) = frame_in f.entry f.frame
body_frame None = None

-- a call that crosses the cut, before its event or below the cut
abbrev pub told_crossing : Side → (indirect : Bool) → (func : ℕ) → Option ℕ → Next
told_crossing Replay i f frame = next.Wants Replay (told.Call i f)
told_crossing System i f (Some size) = next.Wants System (told.Enter false f size)
told_crossing System i f None = next.Wants Replay (told.Give f)

-- one that doesn't, of code of this side
abbrev pub entered_as : Side → (indirect : Bool) → (func size : ℕ) → Told
entered_as Replay i f size = told.Enter i f size
entered_as System true f size = told.CallBack f size
entered_as System false f size = told.Enter false f size

abbrev pub told_call : Side → (indirect : Bool) → (func : ℕ) → Option ℕ → Next
told_call side i f None = next.Wants side (told.Step i f)
told_call side i f (Some size) = next.Wants side (entered_as side i f size)

-- what is wanted so is wanted in replay mode, where code above the cut wants it
abbrev pub stands_at : Told → Bool
stands_at told.Turn = true
stands_at (told.Load at n) = true
stands_at (told.Store at n v) = true
stands_at (told.Enter i f size) = true
stands_at told.Leave = true
stands_at (told.Alloc n) = true
stands_at (told.Free at) = true
stands_at (told.Call i f) = true
stands_at (told.Give f) = false
stands_at (told.Return f v) = false
stands_at (told.CallBack f size) = false
stands_at (told.UpReturn v) = true
stands_at (told.Step i f) = true
stands_at (told.Fault n) = true

-- the thread rests where its code is before a mark
pub record RestsAt (l : Laid) (c : Config) (t : ThreadState) : Type 0 where
  pub settles : settled l c ≡ c
  pub cut : IsCut l c
  pub made : t.made ≡ is_below c
  pub config : t.config ≡ ready l c
