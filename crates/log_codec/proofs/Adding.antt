-- What a function does that adds the records of a chunk to others.
use Rattle.std.proofs.Common.{◌≡◌, ℕ, List, ◌++◌, Result, Ok, Err, refl, sym}
use Rattle.byte_format.specs.declared.stop.Stop.{Stop}
use Rattle.byte_format.specs.declared.stop.Stop.TheVariants as halt
use Rattle.byte_format.specs.Reading.{Done, StopsAfter, Adds, list_at, read_list}
use Rattle.byte_format.specs.Numbers.{Numbers}
use Rattle.byte_format.proofs.Loops.{prefix_done}
use Rattle.run_events.specs.declared.event.Record.{Record}
use Rattle.log_codec.specs.LogText.{Chunk}
use Rattle.log_codec.specs.Reading.{record_at, chunk_head_at, chunk_at, read_chunk, AddsChunk}

module _ (num : Numbers) where
  stops_chunk : (e : Stop) (old new : List Record) (bytes : List ℕ) (t n : ℕ) (rest : List ℕ) → chunk_head_at num bytes ≡ Done ((t, n), rest)
      → StopsAfter old new e (list_at (record_at num t) n rest) (read_list (record_at num t) n rest) → StopsAfter old new e (chunk_at num bytes) (read_chunk num bytes)
  unfolding chunk_at read_chunk
  stops_chunk halt.Memory old new bytes t n rest h a = tt
  stops_chunk halt.Short old new bytes t n rest h a = rw (h, a.0) (refl, a.1)
  stops_chunk (halt.Wrong k) old new bytes t n rest h a = rw (h, a) refl

  made_chunk : (old new : List Record) (following bytes : List ℕ) (t n : ℕ) (rest : List ℕ) (y : List Record × List ℕ) → chunk_head_at num bytes ≡ Done ((t, n), rest)
      → list_at (record_at num t) n rest ≡ Done y → old ++ y.0 ≡ new → y.1 ≡ following → (c : Chunk) × (chunk_at num bytes ≡ Done (c, following)) × (new ≡ old ++ c.records)
  unfolding chunk_at
  made_chunk old new following bytes t n rest y h e parts is = (record { thread = t; records = y.0 }, rw (h, e, is) refl, sym parts)

  pub adds_chunk : {X : Type 0} (view : X → List ℕ) (old new : List Record) (r : Result X Stop) (bytes : List ℕ) (t n : ℕ) (rest : List ℕ) → chunk_head_at num bytes ≡ Done ((t, n), rest)
      → Adds view old new r (list_at (record_at num t) n rest) (read_list (record_at num t) n rest) → AddsChunk num view old new r bytes
  unfolding chunk_at
  adds_chunk view old new (Ok x) bytes t n rest h a =
      let d = prefix_done old (list_at (record_at num t) n rest) (new, view x) a in
      made_chunk old new (view x) bytes t n rest d.0 h d.1 d.2 d.3
  adds_chunk view old new (Err e) bytes t n rest h a = stops_chunk e old new bytes t n rest h a
