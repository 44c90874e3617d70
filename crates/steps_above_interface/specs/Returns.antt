-- A thread's last return of a function, by its index among the thread's events, and the records that show it.
use Rattle.std.specs.Prelude.{◌≡◌, ℕ, if◌then◌else◌, ◌==◌, List, [], ◌∷◌, ◌++◌, Option, Some, None, slice_get}
use Rattle.run_events.specs.declared.event.Event.{Event}
use Rattle.run_events.specs.declared.event.Event.TheVariants as recorded
use Rattle.run_events.specs.declared.event.Record.{Record}
use Rattle.marks.specs.Ranges.{piece_bytes}
use Rattle.marks.specs.Marks.{EventKind, Call, Ret, Up, UpRet, Alloc, Free, Stop, Act, Turn, Load, Store, Enter, Leave, Step, Fault, Made, Mark, logged}
use Rattle.replay_runs.specs.Threads.{Returned}

-- after an event with this index
abbrev pub index_after : (func index : ℕ) → EventKind → Option ℕ → Option ℕ
index_after f n (Call func args ins outs prepared) last = last
index_after f n (Ret func args result same outs commit) last = if func == f then Some n else last
index_after f n (Up func args) last = last
index_after f n (UpRet func result) last = last
index_after f n (Alloc at size) last = last
index_after f n (Free at size) last = last
index_after f n (Stop fault) last = last

abbrev pub act_index : (func index : ℕ) → Act → Option ℕ → Option ℕ
act_index f n Turn last = last
act_index f n (Load origin at bytes) last = last
act_index f n (Store origin at bytes) last = last
act_index f n (Enter func args at bytes) last = last
act_index f n (Leave at size) last = last
act_index f n (Step func args result ins pieces freed) last = last
act_index f n (Fault kind crosses ins outs access) last = last
act_index f n (Made e) last = index_after f n e.kind last

-- the index of the last return of the function among a thread's own marks, the newest first
abbrev pub last_index : (func : ℕ) → List Mark → Option ℕ
last_index f [] = None
last_index f (m ∷ mine) = act_index f m.index m.act (last_index f mine)

-- the record is that of a return which gave this, also where it has the form `same`
abbrev pub HasReturn : Event → Returned → Type 0
HasReturn (recorded.Call func args) gave = ⊥
HasReturn (recorded.Ret same result outs) gave = (result ≡ gave.result) × (outs ≡ gave.bytes)
HasReturn (recorded.Up func args) gave = ⊥
HasReturn (recorded.UpRet result) gave = ⊥
HasReturn (recorded.Alloc size addr) gave = ⊥
HasReturn (recorded.Free addr) gave = ⊥
HasReturn (recorded.Stop reason) gave = ⊥

-- it has what an event gave, where that is a return
abbrev pub ShowsEvent : Event → EventKind → Type 0
ShowsEvent shown (Call func args ins outs prepared) = Unit {0}
ShowsEvent shown (Ret func args result same outs commit) =
    HasReturn shown (record { result = result; bytes = piece_bytes outs ++ logged commit })
ShowsEvent shown (Up func args) = Unit {0}
ShowsEvent shown (UpRet func result) = Unit {0}
ShowsEvent shown (Alloc at size) = Unit {0}
ShowsEvent shown (Free at size) = Unit {0}
ShowsEvent shown (Stop fault) = Unit {0}

-- the same of any mark
abbrev pub ShowsAct : Event → Act → Type 0
ShowsAct shown Turn = Unit {0}
ShowsAct shown (Load origin at bytes) = Unit {0}
ShowsAct shown (Store origin at bytes) = Unit {0}
ShowsAct shown (Enter func args at bytes) = Unit {0}
ShowsAct shown (Leave at size) = Unit {0}
ShowsAct shown (Step func args result ins pieces freed) = Unit {0}
ShowsAct shown (Fault kind crosses ins outs access) = Unit {0}
ShowsAct shown (Made e) = ShowsEvent shown e.kind

-- the record with the index of an event has what the event gave
abbrev pub IsShown : List Record → (index : ℕ) → Act → Type 0
IsShown records n Turn = Unit {0}
IsShown records n (Load origin at bytes) = Unit {0}
IsShown records n (Store origin at bytes) = Unit {0}
IsShown records n (Enter func args at bytes) = Unit {0}
IsShown records n (Leave at size) = Unit {0}
IsShown records n (Step func args result ins pieces freed) = Unit {0}
IsShown records n (Fault kind crosses ins outs access) = Unit {0}
IsShown records n (Made e) = (r : Record) × (slice_get records n ≡ Some r) × ShowsEvent r.event e.kind

-- the records of a thread's events have what its returns gave
abbrev pub ShowReturns : List Record → List Mark → Type 0
ShowReturns records [] = Unit {0}
ShowReturns records (m ∷ mine) = IsShown records m.index m.act × ShowReturns records mine

-- the record with this index shows what the last return gave; no index, no return
abbrev pub TellsReturn : List Record → (index : Option ℕ) → (last : Option Returned) → Type 0
TellsReturn records None last = last ≡ None
TellsReturn records (Some n) last = (r : Record) × (slice_get records n ≡ Some r) ×
    ((gave : Returned) × (last ≡ Some gave) × HasReturn r.event gave)
