-- How many bytes a record has in a log in which each return is written in full.
use Rattle.std.specs.Prelude.{◌≡◌, ℕ, false, length}
use Rattle.run_events.specs.declared.event.Event.{Event}
use Rattle.run_events.specs.declared.event.Event.TheVariants.{Call, Ret, Up, UpRet, Alloc, Free, Stop}
use Rattle.run_events.specs.declared.event.Record.{Record}
use Rattle.marks.specs.Marks.{Mark}
use Rattle.log_codec.specs.LogText.{record_text, IsRecord}
use Rattle.whole_runs.specs.Records.{version, full_record, size_of}

-- an event as a log would have it in full
abbrev pub in_full : Event → Event
in_full (Call func args) = Call func args
in_full (Ret same result outs) = Ret false result outs
in_full (Up func args) = Up func args
in_full (UpRet result) = UpRet result
in_full (Alloc size addr) = Alloc size addr
in_full (Free addr) = Free addr
in_full (Stop reason) = Stop reason

abbrev pub record_in_full : Record → Record
record_in_full r = record r { event = in_full r.event }

-- a record that can stand in a log in full
abbrev pub IsInFull : Record → Type 0
IsInFull r = IsRecord (record_in_full r)

-- its bytes there
abbrev pub full_size : Record → ℕ
full_size r = length (record_text version.number (record_in_full r))

-- the bytes of each record of an event that has so many keys
abbrev pub IsSizeOf : Event → (keys : ℕ) → (size : ℕ) → Type 0
IsSizeOf e keys size = (r : Record) → r.event ≡ e → length r.keys ≡ keys → size ≡ full_size r

-- the record of a mark with its full values has the bytes that a run counts for the mark
abbrev pub FullRecordsHaveTheirSize : Type 0
FullRecordsHaveTheirSize = (m : Mark) → full_size (full_record m) ≡ size_of m
