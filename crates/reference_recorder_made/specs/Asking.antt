-- The results that code waits for.
use Rattle.std.specs.Prelude.{◌≡◌, ◌≢◌, ℕ, List, Option, Some, None}
use Rattle.whole_runs.specs.World.{World}
use Rattle.whole_runs.specs.Below.{Given, NoMore, given}
use Rattle.recorder_threads.specs.declared.wants.Want.{Want}
use Rattle.recorder_threads.specs.declared.wants.Want.TheVariants as told
use Rattle.reference_recorder_marks.specs.declared.mark.Mark.{Mark}
use Rattle.reference_recorder_threads.specs.Telling.{IsPast}

-- the builtin or external whose result the code waits for
abbrev pub asked_func : Want → Option ℕ
asked_func told.Turn = None
asked_func (told.Load at n) = None
asked_func (told.Store at n v) = None
asked_func (told.Enter indirect f size) = None
asked_func told.Leave = None
asked_func (told.Alloc n) = None
asked_func (told.Free at) = None
asked_func (told.Call indirect f) = None
asked_func (told.Give f) = Some f
asked_func (told.Return f v) = None
asked_func (told.CallBack f size) = None
asked_func (told.UpReturn v) = None
asked_func (told.Step indirect f) = Some f
asked_func (told.Fault n) = None

-- where the code waits for one, its call comes to this, and the file has one more answer
abbrev pub IsGivenTo : World → List Mark → (thread : ℕ) → (args : List ℕ) → Option ℕ → Given → Type 0
IsGivenTo w marks t args None g = Unit {0}
IsGivenTo w marks t args (Some f) g = ((p : IsPast w marks) → g ≡ given w p.run t f args) × (g ≢ NoMore)
