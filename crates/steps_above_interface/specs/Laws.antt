-- What the state has to do with other marks, and with records.
use Rattle.std.specs.Prelude.{◌≡◌, ℕ, false, List, ◌∷◌, None, reverse}
use Rattle.run_events.specs.declared.event.Record.{Record}
use Rattle.run_events.specs.declared.key.Class.TheVariants.{Callback}
use Rattle.run_events.specs.declared.key.KeyMark.{KeyMark}
use Rattle.marks.specs.Marks.{EventKind, Call, Ret, Up, UpRet, Alloc, Free, Stop, Act, Turn, Load, Store, Enter, Leave, Step, Fault, Made, Mark}
use Rattle.marks.specs.Bytes.{Byte}
use Rattle.replay_runs.specs.Runs.{Run, history, is_listed, marks_of}
use Rattle.replay_runs.specs.Interface.{Interface, Program}
use Rattle.replay_runs.specs.Threads.{last_return}
use Rattle.replay_runs.specs.Keys.{key}
use Rattle.replay_runs.specs.Rules.{replay_rules}
use Rattle.replay_runs.specs.Laws.{fresh}
use Rattle.steps_above_interface.specs.State.{KeptState}
use Rattle.steps_above_interface.specs.Returns.{ShowReturns, ShowsAct, TellsReturn, last_index}
use Rattle.steps_above_interface.specs.Stands.{IsStateOf}

-- the event registers no function, and is no return of one with `cache`
abbrev pub IsOtherEvent : Interface → List KeyMark → EventKind → Type 0
IsOtherEvent i keys (Call func args ins outs prepared) = (f : ℕ) → is_listed keys (key Callback f) ≡ false
IsOtherEvent i keys (Ret func args result same outs commit) = i.is_cached func ≡ false
IsOtherEvent i keys (Up func args) = Unit {0}
IsOtherEvent i keys (UpRet func result) = Unit {0}
IsOtherEvent i keys (Alloc at size) = Unit {0}
IsOtherEvent i keys (Free at size) = Unit {0}
IsOtherEvent i keys (Stop fault) = Unit {0}

-- the same of any mark
abbrev pub IsOther : Interface → Act → Type 0
IsOther i Turn = Unit {0}
IsOther i (Load origin at bytes) = Unit {0}
IsOther i (Store origin at bytes) = Unit {0}
IsOther i (Enter func args at bytes) = Unit {0}
IsOther i (Leave at size) = Unit {0}
IsOther i (Step func args result ins pieces freed) = Unit {0}
IsOther i (Fault kind crosses ins outs access) = Unit {0}
IsOther i (Made e) = IsOtherEvent i e.keys e.kind

-- such a mark leaves the state as it is
abbrev pub OtherMarksLeaveTheState : Type 0
OtherMarksLeaveTheState = (i : Interface) (memory : ℕ → Byte) (past : List Mark) (m : Mark) (s : KeptState) →
    IsOther i m.act → IsStateOf i memory past s → IsStateOf i memory (m ∷ past) s

-- records of a form in which each return has what it gave, the oldest first, show the returns of a run
abbrev pub RecordsShowReturns : Type 0
RecordsShowReturns = (form : Mark → Record) → ((m : Mark) → ShowsAct (form m).event m.act) →
    (program : Program) (memory : ℕ → Byte) (past : List Mark) (t : ℕ) →
    Run (replay_rules program (fresh memory)) (fresh memory) past →
    ShowReturns (reverse (history form (fresh memory) t past)) (marks_of (fresh memory) t past)

-- the index of a last return is that of a record which shows it
abbrev pub ShownReturnsAreTold : Type 0
ShownReturnsAreTold = (records : List Record) (f : ℕ) (mine : List Mark) → ShowReturns records mine →
    TellsReturn records (last_index f mine) (last_return None f mine)
