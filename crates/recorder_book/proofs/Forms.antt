-- A record with its full values, and as a log has it.
use Rattle.std.proofs.Common.{◌≡◌, ℕ, true, false, length, refl, ap}
use Rattle.run_events.specs.declared.event.Event.{Event}
use Rattle.run_events.specs.declared.event.Event.TheVariants as recorded
use Rattle.run_events.specs.declared.event.Record.{Record}
use Rattle.marks.specs.declared.side.Side.{Side}
use Rattle.marks.specs.Marks.{EventKind, Call, Ret, Up, UpRet, Alloc, Free, Stop, Act, Turn, Load, Store, Enter, Leave, Step, Fault, Made, Mark}
use Rattle.log_codec.specs.LogText.{record_text, IsBody}
use Rattle.log_codec.specs.Putting.{log_event, log_record, CanBePut}
use Rattle.replay_runs.specs.Records.{event_of, record_of}
use Rattle.whole_runs.specs.Records.{version, in_full as full_kind, full_event, full_record, size_of}
use Rattle.recorder_book.specs.Sizes.{IsInFull, full_size, in_full}
use Rattle.recorder_book.specs.Chunks.{IsRecordOf}

-- a log has of a full event what a log of runs has
logged_event : (k : EventKind) → log_event (full_event k) ≡ event_of k
logged_event (Call f args ins outs prepared) = refl
logged_event (Ret f args result true outs commit) = refl
logged_event (Ret f args result false outs commit) = refl
logged_event (Up f args) = refl
logged_event (UpRet f result) = refl
logged_event (Alloc at size) = refl
logged_event (Free at size) = refl
logged_event (Stop fault) = refl

logged_act : (t index : ℕ) (side : Side) (a : Act) → log_record (full_record (record { thread = t; side = side; index = index; act = a })) ≡ record_of (record { thread = t; side = side; index = index; act = a })
logged_act t index side Turn = refl
logged_act t index side (Load origin at bytes) = refl
logged_act t index side (Store origin at bytes) = refl
logged_act t index side (Enter f args at bytes) = refl
logged_act t index side (Leave at size) = refl
logged_act t index side (Step f args result ins pieces freed) = refl
logged_act t index side (Fault kind crosses ins outs access) = refl
logged_act t index side (Made e) = λ i. record { thread = t; steps = e.steps; clock = e.clock; keys = e.keys; event = logged_event e.kind i }

pub logged : (m : Mark) → log_record (full_record m) ≡ record_of m
logged m = logged_act m.thread m.index m.side m.act

thread_act : (t index : ℕ) (side : Side) (a : Act) → (full_record (record { thread = t; side = side; index = index; act = a })).thread ≡ t
thread_act t index side Turn = refl
thread_act t index side (Load origin at bytes) = refl
thread_act t index side (Store origin at bytes) = refl
thread_act t index side (Enter f args at bytes) = refl
thread_act t index side (Leave at size) = refl
thread_act t index side (Step f args result ins pieces freed) = refl
thread_act t index side (Fault kind crosses ins outs access) = refl
thread_act t index side (Made e) = refl

pub thread_is : (m : Mark) → (full_record m).thread ≡ m.thread
thread_is m = thread_act m.thread m.index m.side m.act

-- the bytes of a full record are those that a run counts

sized_event : (k : EventKind) → in_full (full_event k) ≡ event_of (full_kind k)
sized_event (Call f args ins outs prepared) = refl
sized_event (Ret f args result same outs commit) = refl
sized_event (Up f args) = refl
sized_event (UpRet f result) = refl
sized_event (Alloc at size) = refl
sized_event (Free at size) = refl
sized_event (Stop fault) = refl

sized_act : (t index : ℕ) (side : Side) (a : Act) → full_size (full_record (record { thread = t; side = side; index = index; act = a })) ≡ size_of (record { thread = t; side = side; index = index; act = a })
sized_act t index side Turn = refl
sized_act t index side (Load origin at bytes) = refl
sized_act t index side (Store origin at bytes) = refl
sized_act t index side (Enter f args at bytes) = refl
sized_act t index side (Leave at size) = refl
sized_act t index side (Step f args result ins pieces freed) = refl
sized_act t index side (Fault kind crosses ins outs access) = refl
sized_act t index side (Made e) = ap (λ k. length (record_text version.number (record { thread = t; steps = e.steps; clock = e.clock; keys = e.keys; event = k }))) (sized_event e.kind)

pub sized : (m : Mark) → full_size (full_record m) ≡ size_of m
sized m = sized_act m.thread m.index m.side m.act

-- what can stand in a log in full can be put

body_put : (e : Event) → IsBody (in_full e) → IsBody (log_event e)
body_put (recorded.Call func args) h = h
body_put (recorded.Ret true result outs) h = (refl, refl)
body_put (recorded.Ret false result outs) h = h
body_put (recorded.Up func args) h = h
body_put (recorded.UpRet result) h = h
body_put (recorded.Alloc size addr) h = h
body_put (recorded.Free addr) h = h
body_put (recorded.Stop reason) h = h

pub can_be_put : (r : Record) → IsInFull r → CanBePut r
can_be_put r h = record { thread = h.thread; steps = h.steps; clock = h.clock; key_count = h.key_count; keys = h.keys; body = body_put r.event h.body }

pub of_its_thread : (r : Record) → IsInFull r → IsRecordOf r.thread r
of_its_thread r h = record { own = refl; form = can_be_put r h }
