-- The records of events: how long each is, and what a run keeps of it.
use Rattle.std.specs.Prelude.{ℕ, false, ◌++◌, length}
use Rattle.run_events.specs.declared.event.Record.{Record}
use Rattle.run_events.specs.declared.event.Event.{Event}
use Rattle.run_events.specs.declared.event.Event.TheVariants as recorded
use Rattle.marks.specs.Ranges.{piece_bytes}
use Rattle.marks.specs.Marks.{EventKind, Call, Ret, Up, UpRet, Alloc, Free, Stop, Act, Turn, Load, Store, Enter, Leave, Step, Fault, Made, Mark, logged}
use Rattle.log_codec.specs.LogText.{Version, version_1, record_text}
use Rattle.replay_runs.specs.Records.{event_of, record_of}

-- logs are written in this version of the format
abbrev pub version : Version
version = version_1

-- ---- how long it is

-- a Ret that is written in full
abbrev pub in_full : EventKind → EventKind
in_full (Call f args ins outs prepared) = Call f args ins outs prepared
in_full (Ret f args result same outs commit) = Ret f args result false outs commit
in_full (Up f args) = Up f args
in_full (UpRet f result) = UpRet f result
in_full (Alloc at size) = Alloc at size
in_full (Free at size) = Free at size
in_full (Stop fault) = Stop fault

abbrev pub act_in_full : Act → Act
act_in_full Turn = Turn
act_in_full (Load origin at bytes) = Load origin at bytes
act_in_full (Store origin at bytes) = Store origin at bytes
act_in_full (Enter f args at bytes) = Enter f args at bytes
act_in_full (Leave at size) = Leave at size
act_in_full (Step f args result ins pieces freed) = Step f args result ins pieces freed
act_in_full (Fault kind crosses ins outs access) = Fault kind crosses ins outs access
act_in_full (Made e) = Made (record e { kind = in_full e.kind })

-- the bytes of the record of an event, a Ret written in full
abbrev pub size_of : Mark → ℕ
size_of m = length (record_text version.number (record_of (record m { act = act_in_full m.act })))

-- ---- what a run keeps

-- a Ret has its values also where it has the form `same`
abbrev pub full_event : EventKind → Event
full_event (Call f args ins outs prepared) = event_of (Call f args ins outs prepared)
full_event (Ret f args result same outs commit) = recorded.Ret same result (piece_bytes outs ++ logged commit)
full_event (Up f args) = event_of (Up f args)
full_event (UpRet f result) = event_of (UpRet f result)
full_event (Alloc at size) = event_of (Alloc at size)
full_event (Free at size) = event_of (Free at size)
full_event (Stop fault) = event_of (Stop fault)

abbrev pub act_record : Mark → Act → Record
act_record m Turn = record_of m
act_record m (Load origin at bytes) = record_of m
act_record m (Store origin at bytes) = record_of m
act_record m (Enter f args at bytes) = record_of m
act_record m (Leave at size) = record_of m
act_record m (Step f args result ins pieces freed) = record_of m
act_record m (Fault kind crosses ins outs access) = record_of m
act_record m (Made e) = record (record_of m) { event = full_event e.kind }

-- the record of an event with its full values
abbrev pub full_record : Mark → Record
full_record m = act_record m m.act
