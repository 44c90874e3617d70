-- What a watch is told of a run: of each mark its accesses and its event, in their order.
use Rattle.std.specs.Prelude.{ℕ, Bool, true, false, if◌then◌else◌, List, [], ◌∷◌, ◌++◌, map, length}
use Rattle.run_events.specs.declared.key.KeyMark.{KeyMark}
use Rattle.marks.specs.declared.range.Range.{Range}
use Rattle.marks.specs.Ranges.{range, piece_ranges, prepared_ranges}
use Rattle.marks.specs.Marks.{Access, Nowhere, Reading, Writing, Freeing, EventKind, Call, Ret, Up, UpRet, Alloc, Free, Stop, Event, Act, Turn, Load, Store, Enter, Leave, Step, Fault, Made, Mark, released}
use Rattle.marks.specs.Bytes.{granted, late_event}
use Rattle.logical_clock.specs.Events.{occurrence}
use Rattle.race_watch.specs.Told.{Told, Accessed, Happened}

-- the ranges that an event reads
abbrev pub read_by_event : EventKind → List Range
read_by_event (Call func args ins outs prepared) = piece_ranges ins
read_by_event (Ret func args result same outs commit) = []
read_by_event (Up func args) = []
read_by_event (UpRet func result) = []
read_by_event (Alloc at size) = []
read_by_event (Free at size) = []
read_by_event (Stop fault) = []

-- and those that it writes
abbrev pub written_by_event : EventKind → List Range
written_by_event (Call func args ins outs prepared) = outs ++ prepared_ranges prepared
written_by_event (Ret func args result same outs commit) = piece_ranges (outs ++ released commit)
written_by_event (Up func args) = []
written_by_event (UpRet func result) = []
written_by_event (Alloc at size) = range at (granted at size) ∷ []
written_by_event (Free at size) = range at size ∷ []
written_by_event (Stop fault) = []

-- the same of the access that a fault stops
abbrev pub read_by_access : Access → List Range
read_by_access Nowhere = []
read_by_access (Reading r) = r ∷ []
read_by_access (Writing r) = []
read_by_access (Freeing at) = []

abbrev pub written_by_access : Access → List Range
written_by_access Nowhere = []
written_by_access (Reading r) = []
written_by_access (Writing r) = r ∷ []
written_by_access (Freeing at) = range at 1 ∷ []

-- the same of a mark
abbrev pub read_by : Act → List Range
read_by Turn = []
read_by (Load origin at bytes) = range at (length bytes) ∷ []
read_by (Store origin at bytes) = []
read_by (Enter func args at bytes) = []
read_by (Leave at size) = []
read_by (Step func args result ins pieces freed) = []
read_by (Fault kind crosses ins outs access) = ins ++ read_by_access access
read_by (Made e) = read_by_event e.kind

abbrev pub written_by : Act → List Range
written_by Turn = []
written_by (Load origin at bytes) = []
written_by (Store origin at bytes) = range at (length bytes) ∷ []
written_by (Enter func args at bytes) = range at (length bytes) ∷ []
written_by (Leave at size) = range at size ∷ []
written_by (Step func args result ins pieces freed) = []
written_by (Fault kind crosses ins outs access) = outs ++ written_by_access access
written_by (Made e) = written_by_event e.kind

-- the thread reads, or writes, one range after the other
abbrev pub tell : ℕ → Bool → List Range → List Told → List Told
tell t write [] past = past
tell t write (r ∷ rs) past = tell t write rs (Accessed t r write ∷
    past)

-- it reads what the mark reads, then writes what the mark writes
abbrev pub accesses : ℕ → Act → List Told → List Told
accesses t act past = tell t true (written_by act) (tell t false (read_by act) past)

abbrev pub happens : ℕ → Event → List Told → List Told
happens t e past = Happened (occurrence t (map (λ (q : KeyMark). q.key) e.keys)) ∷ past

-- the accesses of an Alloc and of a Ret come after their event, those of other events before it
abbrev pub told_act : ℕ → Act → List Told → List Told
told_act t Turn past = accesses t Turn past
told_act t (Load origin at bytes) past = accesses t (Load origin at bytes) past
told_act t (Store origin at bytes) past = accesses t (Store origin at bytes) past
told_act t (Enter func args at bytes) past = accesses t (Enter func args at bytes) past
told_act t (Leave at size) past = accesses t (Leave at size) past
told_act t (Step func args result ins pieces freed) past =
    accesses t (Step func args result ins pieces freed) past
told_act t (Fault kind crosses ins outs access) past = accesses t (Fault kind crosses ins outs access) past
told_act t (Made e) past = if late_event e.kind then accesses t (Made e) (happens t e past)
    else happens t e (accesses t (Made e) past)

abbrev pub told : List Mark → List Told
told [] = []
told (m ∷ past) = told_act m.thread m.act (told past)
