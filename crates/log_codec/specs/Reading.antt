-- Reading a log from left to right: what the private functions answer. What a log is stands in LogText.
use Rattle.std.specs.Prelude.{◌≡◌, ℕ, Bool, true, false, nat_le, ◌==◌, if◌then◌else◌, List, [], ◌++◌, length, Option, Some, None, Result, Ok, Err}
use Rattle.std.specs.Int.{w16, w32, w64}
use Rattle.byte_format.specs.declared.stop.Stop.{Stop}
use Rattle.byte_format.specs.Reading.{Reading, Done, ◌>>=◌, StopsAfter, coded_at, at_most, flag_from, chars_at, counted_at, list_at, read_list, after, literal_at}
use Rattle.byte_format.specs.Numbers.{Numbers}
use Rattle.run_events.specs.declared.key.Class.{Class}
use Rattle.run_events.specs.declared.key.Class.TheVariants.{Mutex, User, Callback, Thread, Pool, Out, Async}
use Rattle.run_events.specs.declared.key.KeyMark.{KeyMark}
use Rattle.run_events.specs.declared.event.Reason.{Reason}
use Rattle.run_events.specs.declared.event.Reason.TheVariants.{Halted, Fault}
use Rattle.run_events.specs.declared.event.Event.{Event}
use Rattle.run_events.specs.declared.event.Event.TheVariants as event
use Rattle.run_events.specs.declared.event.Record.{Record}
use Rattle.log_codec.specs.declared.kind.EventTag.{EventTag}
use Rattle.log_codec.specs.declared.kind.EventTag.TheVariants as kind
use Rattle.log_codec.specs.declared.kind.Section.{Section}
use Rattle.log_codec.specs.declared.kind.Section.TheVariants as mark
use Rattle.log_codec.specs.LogText.{Chunk}

-- ---- bytes that stand for values

abbrev pub class_from : ℕ → Option Class
class_from b =
    if b == 1 then Some Mutex else
    if b == 2 then Some User else
    if b == 3 then Some Callback else
    if b == 4 then Some Thread else
    if b == 5 then Some Pool else
    if b == 6 then Some Out else
    if b == 7 then Some Async else None

abbrev pub kind_from : ℕ → Option EventTag
kind_from b =
    if b == 1 then Some kind.Call else
    if b == 2 then Some kind.Ret else
    if b == 3 then Some kind.Up else
    if b == 4 then Some kind.UpRet else
    if b == 5 then Some kind.Alloc else
    if b == 6 then Some kind.Free else
    if b == 7 then Some kind.Stop else None

abbrev pub reason_from : ℕ → Option Reason
reason_from b = if b == 0 then Some Halted else if nat_le b 6 then Some (Fault b) else None

abbrev pub mark_from : ℕ → Option Section
mark_from b = if b == 67 then Some mark.Chunk else if b == 69 then Some mark.End else None

-- ---- parts of a log, for any way to read numbers

module _ (n : Numbers) where
  unfoldable pub key_at : List ℕ → Reading KeyMark
  key_at bytes = do
    class ← coded_at class_from bytes
    value ← n.at w64 class.1
    ticket ← n.at w32 value.1
    Done (record { key = record { class = class.0; value = value.0 }; ticket = ticket.0 }, ticket.1)

  unfoldable pub piece_at : List ℕ → Reading (List ℕ)
  piece_at bytes = do
    len ← n.at w32 bytes
    chars_at len.0 len.1

  unfoldable pub call_at : List ℕ → Reading Event
  call_at bytes = do
    func ← n.at w16 bytes
    args ← counted_at (n.at w64) 8 func.1
    Done (event.Call func.0 args.0, args.1)

  unfoldable pub up_at : List ℕ → Reading Event
  up_at bytes = do
    func ← n.at w16 bytes
    args ← counted_at (n.at w64) 8 func.1
    Done (event.Up func.0 args.0, args.1)

  unfoldable pub values_at : Bool → List ℕ → Reading Event
  values_at true bytes = Done (event.Ret true 0 [], bytes)
  values_at false bytes = do
    result ← n.at w64 bytes
    outs ← counted_at piece_at 9 result.1
    Done (event.Ret false result.0 outs.0, outs.1)

  unfoldable pub ret_at : List ℕ → Reading Event
  ret_at bytes = do
    same ← coded_at flag_from bytes
    values_at same.0 same.1

  unfoldable pub upret_at : List ℕ → Reading Event
  upret_at bytes = do
    result ← n.at w64 bytes
    Done (event.UpRet result.0, result.1)

  unfoldable pub alloc_at : List ℕ → Reading Event
  alloc_at bytes = do
    size ← n.at w64 bytes
    addr ← n.at w64 size.1
    Done (event.Alloc size.0 addr.0, addr.1)

  unfoldable pub free_at : List ℕ → Reading Event
  free_at bytes = do
    addr ← n.at w64 bytes
    Done (event.Free addr.0, addr.1)

  unfoldable pub stop_at : List ℕ → Reading Event
  stop_at bytes = do
    reason ← coded_at reason_from bytes
    Done (event.Stop reason.0, reason.1)

  unfoldable pub body_at : EventTag → List ℕ → Reading Event
  body_at kind.Call bytes = call_at bytes
  body_at kind.Ret bytes = ret_at bytes
  body_at kind.Up bytes = up_at bytes
  body_at kind.UpRet bytes = upret_at bytes
  body_at kind.Alloc bytes = alloc_at bytes
  body_at kind.Free bytes = free_at bytes
  body_at kind.Stop bytes = stop_at bytes

  unfoldable pub record_at : ℕ → List ℕ → Reading Record
  record_at thread bytes = do
    kind ← coded_at kind_from bytes
    steps ← n.at w32 kind.1
    clock ← n.at w32 steps.1
    keys ← counted_at key_at 16 clock.1
    event ← body_at kind.0 keys.1
    Done (
      record { thread = thread; steps = steps.0; clock = clock.0; keys = keys.0; event = event.0 },
      event.1,
    )

  -- the thread and the count of a chunk, after its letter
  unfoldable pub chunk_head_at : List ℕ → Reading (ℕ × ℕ)
  chunk_head_at bytes = do
    thread ← coded_at (at_most 31) bytes
    count ← n.some_at thread.1
    Done ((thread.0, count.0), count.1)

  unfoldable pub chunk_at : List ℕ → Reading Chunk
  chunk_at bytes = do
    head ← chunk_head_at bytes
    records ← list_at (record_at head.0.0) head.0.1 head.1
    Done (record { thread = head.0.0; records = records.0 }, records.1)

  -- the records of a chunk that are read before the reading stops
  unfoldable pub read_chunk : List ℕ → List Record
  read_chunk bytes = after (chunk_head_at bytes) (λ head. read_list (record_at head.0.0) head.0.1 head.1)

  unfoldable pub after_mark : Section → ℕ → List ℕ → Reading (Option Chunk)
  after_mark mark.Chunk total bytes = do
    c ← chunk_at bytes
    Done (Some c.0, c.1)
  after_mark mark.End total bytes = do
    e ← literal_at (n.text w32 total) bytes
    Done (None, e.1)

  -- a chunk, or the end of a log with this many records
  unfoldable pub item_at : ℕ → List ℕ → Reading (Option Chunk)
  item_at total bytes = do
    m ← coded_at mark_from bytes
    after_mark m.0 total m.1

  unfoldable pub read_after : Section → List ℕ → List Record
  read_after mark.Chunk bytes = read_chunk bytes
  read_after mark.End bytes = []

  unfoldable pub read_item : List ℕ → List Record
  read_item bytes = after (coded_at mark_from bytes) (λ m. read_after m.0 m.1)

-- ---- what a function does that adds the records of a part of a log

abbrev pub AddsChunk : {X : Type 0} → Numbers → (X → List ℕ) → List Record → List Record → Result X Stop →
    List ℕ → Type 0
AddsChunk n view old new (Ok rest) bytes = (c : Chunk) × (chunk_at n bytes ≡ Done (c, view rest)) ×
    (new ≡ old ++ c.records)
AddsChunk n view old new (Err e) bytes = StopsAfter old new e (chunk_at n bytes) (read_chunk n bytes)

abbrev pub AddsItem : {X : Type 0} → Numbers → (X → List ℕ) → List Record → List Record →
    Result (Section × X) Stop → List ℕ → Type 0
AddsItem n view old new (Ok (mark.Chunk, rest)) bytes = (c : Chunk) ×
    (item_at n (length old) bytes ≡ Done (Some c, view rest)) × (new ≡ old ++ c.records)
AddsItem n view old new (Ok (mark.End, rest)) bytes =
    (item_at n (length old) bytes ≡ Done (None, view rest)) × (new ≡ old)
AddsItem n view old new (Err e) bytes = StopsAfter old new e (item_at n (length old) bytes)
    (read_item n bytes)
