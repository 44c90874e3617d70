-- What is read of a log: the records that stand in the bytes in full, or the first wrong byte.
use Rattle.std.specs.Prelude.{◌≡◌, ℕ, ◌+◌, ◌-◌, ◌<◌, ◌^◌, Bool, nat_le, if◌then◌else◌, List, [], ◌∷◌, ◌++◌, length, take}
use Rattle.std.specs.List.{AllByRecursion}
use Rattle.std.specs.Int.{Width}
use Rattle.run_events.specs.declared.event.Record.{Record}
use Rattle.log_codec.specs.LogText.{Chunk, Version, version_1, record_text, chunk_head, chunk_text, head_text, records_of, IsRecord, IsLogOf, BeginsLog}

-- what is kept of a log: its records in file order, and whether the bytes are a whole log text
pub record KeptLog : Type 0 where
  pub records : List Record
  pub whole : Bool

-- what is true of every Kept: a log has fewer than 2^32 records, and each can stand in one
pub record CanBeKept (records : List Record) : Type 0 where
  pub few : length records < 2 ^ 32
  pub each : AllByRecursion IsRecord records

-- ---- the records that stand in full in the first n bytes of a text

module _ (number : Width → ℕ → List ℕ) where
  -- of records spelled one after the other, those that end within n bytes
  abbrev pub records_within : ℕ → List Record → List Record
  records_within n [] = []
  records_within n (r ∷ rs) = if nat_le (length (record_text number r)) n then r ∷
      records_within (n - length (record_text number r)) rs else []

  -- the same of chunks
  abbrev pub chunks_within : ℕ → List Chunk → List Record
  chunks_within n [] = []
  chunks_within n (c ∷ cs) = records_within (n - length (chunk_head number c)) c.records ++
      chunks_within (n - length (chunk_text number c)) cs

-- the same of a log
abbrev pub log_within : Version → ℕ → List Chunk → List Record
log_within v n cs = chunks_within v.number (n - length (head_text v)) cs

-- these records stand in the bytes in full, whatever log text begins with the bytes
abbrev pub StandInFull : List ℕ → List Record → Type 0
StandInFull bytes rs = (cs : List Chunk) (more : List ℕ) → IsLogOf (bytes ++ more) cs →
    rs ≡ log_within version_1 (length bytes) cs

-- these are all the records of the log text that the bytes are
abbrev pub AreAll : List ℕ → List Record → Type 0
AreAll bytes rs = (cs : List Chunk) → IsLogOf bytes cs → rs ≡ records_of cs

-- the byte at n is the first wrong one: a log text begins with the bytes before it, and none with it too
pub record IsFirstWrong (bytes : List ℕ) (n : ℕ) : Type 0 where
  pub within : n < length bytes
  pub before : BeginsLog (take n bytes)
  pub here : BeginsLog (take (n + 1) bytes) → ⊥
