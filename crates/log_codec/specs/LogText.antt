-- The text of a log: the bytes that spell a list of chunks. docs/FORMATS.md says the same in words.
use Rattle.std.specs.Prelude.{◌≡◌, ℕ, ◌<◌, ◌≤◌, ◌^◌, true, false, List, [], ◌∷◌, ◌++◌, length}
use Rattle.std.specs.List.{flat_map, AllByRecursion}
use Rattle.std.specs.Int.{Width, w16, w32, w64, to_be_bytes}
use Rattle.byte_format.specs.Spelling.{counted}
use Rattle.run_events.specs.Class.{number_of}
use Rattle.run_events.specs.declared.key.KeyMark.{KeyMark}
use Rattle.run_events.specs.declared.event.Reason.{Reason}
use Rattle.run_events.specs.declared.event.Reason.TheVariants.{Halted, Fault}
use Rattle.run_events.specs.declared.event.Event.{Event}
use Rattle.run_events.specs.declared.event.Event.TheVariants.{Call, Ret, Up, UpRet, Alloc, Free, Stop}
use Rattle.run_events.specs.declared.event.Record.{Record}

-- records that one thread put out together
pub record Chunk : Type 0 where
  pub thread : ℕ
  pub records : List Record

-- the records of the chunks, in file order
abbrev pub records_of : List Chunk → List Record
records_of cs = flat_map (λ c. c.records) cs

-- a version of the format: the byte that names it, and how it spells a number of a width
pub record Version : Type 0 where
  pub byte : ℕ
  pub number : Width → ℕ → List ℕ

-- version 1: numbers of fixed width, the high byte first
abbrev pub version_1 : Version
version_1 = record { byte = 1; number = to_be_bytes }

-- ---- the parts, for any spelling of numbers

-- the byte of the kind of an event
abbrev pub kind_number : Event → ℕ
kind_number (Call func args) = 1
kind_number (Ret same result outs) = 2
kind_number (Up func args) = 3
kind_number (UpRet result) = 4
kind_number (Alloc size addr) = 5
kind_number (Free addr) = 6
kind_number (Stop reason) = 7

-- the byte of the reason of a stop: 0, or the number of the fault
abbrev pub reason_number : Reason → ℕ
reason_number Halted = 0
reason_number (Fault n) = n

module _ (number : Width → ℕ → List ℕ) where
  abbrev pub key_text : KeyMark → List ℕ
  key_text m = number_of m.key.class ∷ (number w64 m.key.value ++ number w32 m.ticket)

  -- bytes, after their number
  abbrev pub piece_text : List ℕ → List ℕ
  piece_text bytes = number w32 (length bytes) ++ bytes

  -- what an event has besides its kind
  abbrev pub body_text : Event → List ℕ
  body_text (Call func args) = number w16 func ++ counted (number w64) args
  body_text (Ret true result outs) = 1 ∷ []
  body_text (Ret false result outs) = 0 ∷ (number w64 result ++ counted piece_text outs)
  body_text (Up func args) = number w16 func ++ counted (number w64) args
  body_text (UpRet result) = number w64 result
  body_text (Alloc size addr) = number w64 size ++ number w64 addr
  body_text (Free addr) = number w64 addr
  body_text (Stop reason) = reason_number reason ∷ []

  abbrev pub record_text : Record → List ℕ
  record_text r = kind_number r.event ∷ (number w32 r.steps ++ number w32 r.clock ++
      counted key_text r.keys ++ body_text r.event)

  -- the letter C, the thread, and how many records follow
  abbrev pub chunk_head : Chunk → List ℕ
  chunk_head c = 67 ∷ (c.thread ∷ number w16 (length c.records))

  abbrev pub chunk_text : Chunk → List ℕ
  chunk_text c = chunk_head c ++ flat_map record_text c.records

  -- the letter E, and how many records there are in all
  abbrev pub end_text : ℕ → List ℕ
  end_text total = 69 ∷ number w32 total

-- the letters R2LOG, and the byte of the version
abbrev pub head_text : Version → List ℕ
head_text v = 82 ∷ 50 ∷ 76 ∷ 79 ∷ 71 ∷ v.byte ∷ []

-- the text of a log: the head, the chunks, the end
abbrev pub log_text : Version → List Chunk → List ℕ
log_text v cs = head_text v ++ flat_map (chunk_text v.number) cs ++
    end_text v.number (length (records_of cs))

-- ---- what can be spelled

abbrev pub IsWord : ℕ → Type 0
IsWord n = n < 2 ^ 64

abbrev pub IsKey : KeyMark → Type 0
IsKey m = (m.key.value < 2 ^ 64) × (m.ticket < 2 ^ 32)

abbrev pub IsPiece : List ℕ → Type 0
IsPiece bytes = (length bytes < 2 ^ 32) × AllByRecursion (λ b. b < 256) bytes

-- one of the six faults has a number from 1
abbrev pub IsReason : Reason → Type 0
IsReason Halted = Unit {0}
IsReason (Fault n) = (1 ≤ n) × (n ≤ 6)

abbrev pub IsCall : ℕ → List ℕ → Type 0
IsCall func args = (func < 2 ^ 16) × (length args ≤ 8) × AllByRecursion IsWord args

-- a return that repeats the one before has the result 0 and no pieces
abbrev pub IsBody : Event → Type 0
IsBody (Call func args) = IsCall func args
IsBody (Ret true result outs) = (result ≡ 0) × (outs ≡ [])
IsBody (Ret false result outs) = IsWord result × (length outs ≤ 9) × AllByRecursion IsPiece outs
IsBody (Up func args) = IsCall func args
IsBody (UpRet result) = IsWord result
IsBody (Alloc size addr) = IsWord size × IsWord addr
IsBody (Free addr) = IsWord addr
IsBody (Stop reason) = IsReason reason

-- a record that can stand in a log
pub record IsRecord (r : Record) : Type 0 where
  pub thread : r.thread < 32
  pub steps : r.steps < 2 ^ 32
  pub clock : r.clock < 2 ^ 32
  pub key_count : length r.keys ≤ 16
  pub keys : AllByRecursion IsKey r.keys
  pub body : IsBody r.event

-- some records of one thread
pub record IsChunk (c : Chunk) : Type 0 where
  pub thread : c.thread < 32
  pub some : 1 ≤ length c.records
  pub few : length c.records < 2 ^ 16
  pub own : AllByRecursion (λ r. r.thread ≡ c.thread) c.records
  pub each : AllByRecursion IsRecord c.records

-- the chunks of a log
abbrev pub AreChunks : List Chunk → Type 0
AreChunks cs = AllByRecursion IsChunk cs × (length (records_of cs) < 2 ^ 32)

-- ---- logs

-- the bytes are the log text of these chunks
abbrev pub IsLogOf : List ℕ → List Chunk → Type 0
IsLogOf bytes cs = AreChunks cs × (bytes ≡ log_text version_1 cs)

-- the bytes are a log text
abbrev pub IsLog : List ℕ → Type 0
IsLog bytes = (cs : List Chunk) × IsLogOf bytes cs

-- a log text begins with the bytes
abbrev pub BeginsLog : List ℕ → Type 0
BeginsLog bytes = (cs : List Chunk) × (more : List ℕ) × IsLogOf (bytes ++ more) cs
