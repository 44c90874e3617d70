-- What becomes of the records of a thread, the oldest first: which of them a chunk has, and which are kept
-- back.
use Rattle.std.specs.Prelude.{◌≡◌, ℕ, ◌+◌, ◌-◌, ◌%◌, ◌<◌, if◌then◌else◌, ◌==◌, List, [], ◌∷◌, ◌++◌, length, drop, get_or}
use Rattle.std.specs.List.{flat_map, AllByRecursion}
use Rattle.run_events.specs.declared.event.Record.{Record}
use Rattle.log_codec.specs.LogText.{Chunk, chunk_text}
use Rattle.log_codec.specs.Putting.{log_chunk, CanBePut}
use Rattle.whole_runs.specs.Records.{version}

-- a chunk of the last n records of a thread
abbrev pub last_of : (thread n : ℕ) → List Record → Chunk
last_of t n rs = record { thread = t; records = drop (length rs - n) rs }

-- the chunk that comes with the newest record, if the records number a multiple of `chunk` with it
abbrev pub filled : (chunk thread : ℕ) → List Record → List Chunk
filled chunk t rs = if length rs % chunk == 0 then last_of t chunk rs ∷ [] else []

-- what is kept back, if anything
abbrev pub rest : (chunk thread : ℕ) → List Record → List Chunk
rest chunk t rs = if length rs % chunk == 0 then [] else last_of t (length rs % chunk) rs ∷ []

-- what each thread keeps back, where the first of these has this number
abbrev pub rests : (chunk thread : ℕ) → List (List Record) → List Chunk
rests chunk t [] = []
rests chunk t (rs ∷ threads) = rest chunk t rs ++ rests chunk (t + 1) threads

-- the text of chunks that are put, in which a return that repeats the one before has no values
abbrev pub chunks_text : List Chunk → List ℕ
chunks_text cs = flat_map (λ c. chunk_text version.number (log_chunk c)) cs

-- a record of the thread, which can be put
pub record IsRecordOf (thread : ℕ) (r : Record) : Type 0 where
  pub own : r.thread ≡ thread
  pub form : CanBePut r

-- the records of each thread are its own
abbrev pub AreKept : List (List Record) → Type 0
AreKept threads =
    (t : ℕ) → t < length threads → AllByRecursion (IsRecordOf t) (get_or threads t [])
