-- What becomes of records that are put into a log: a return that repeats the one before is put without its
-- result and pieces.
use Rattle.std.specs.Prelude.{ℕ, true, false, List, [], ◌++◌, length, map}
use Rattle.std.specs.List.{flat_map}
use Rattle.run_events.specs.declared.event.Event.{Event}
use Rattle.run_events.specs.declared.event.Event.TheVariants.{Call, Ret, Up, UpRet, Alloc, Free, Stop}
use Rattle.run_events.specs.declared.event.Record.{Record}
use Rattle.log_codec.specs.LogText.{Chunk, version_1, head_text, chunk_text, end_text, records_of, IsRecord}

-- an event as a log has it
abbrev pub log_event : Event → Event
log_event (Call func args) = Call func args
log_event (Ret true result outs) = Ret true 0 []
log_event (Ret false result outs) = Ret false result outs
log_event (Up func args) = Up func args
log_event (UpRet result) = UpRet result
log_event (Alloc size addr) = Alloc size addr
log_event (Free addr) = Free addr
log_event (Stop reason) = Stop reason

-- a record as a log has it
abbrev pub log_record : Record → Record
log_record r = record r { event = log_event r.event }

-- a chunk as a log has it
abbrev pub log_chunk : Chunk → Chunk
log_chunk c = record { thread = c.thread; records = map log_record c.records }

-- a record that can be put: what a log has of it can stand in a log
abbrev pub CanBePut : Record → Type 0
CanBePut r = IsRecord (log_record r)

-- what is put of these chunks, one after the other, between a head and an end with the number of records
abbrev pub put_text : List Chunk → List ℕ
put_text cs =
    head_text version_1
    ++ flat_map (λ c. chunk_text version_1.number (log_chunk c)) cs
    ++ end_text version_1.number (length (records_of cs))
