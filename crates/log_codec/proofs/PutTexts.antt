-- What a log has of records has their text, and what is put of chunks is a log text.
use Rattle.std.proofs.Common.{◌≡◌, ℕ, true, false, List, [], ◌∷◌, ◌++◌, length, map, Result, Ok, Err, OnOk, refl, sym, ap, ◌∙◌}
use Rattle.std.specs.List.{AllByRecursion, flat_map}
use Rattle.std.specs.Int.{Width}
use Rattle.std.proofs.lemmas.List.{length-map, map-append}
use Rattle.run_events.specs.declared.event.Event.{Event}
use Rattle.run_events.specs.declared.event.Event.TheVariants.{Call, Ret, Up, UpRet, Alloc, Free, Stop}
use Rattle.run_events.specs.declared.event.Record.{Record}
use Rattle.log_codec.specs.LogText.{Chunk, version_1, kind_number, body_text, record_text, chunk_text, log_text, records_of, IsRecord, AreChunks, IsLogOf}
use Rattle.log_codec.specs.Putting.{log_event, log_record, log_chunk, CanBePut, put_text}

kind_as_put : (e : Event) → kind_number (log_event e) ≡ kind_number e
kind_as_put (Call func args) = refl
kind_as_put (Ret true result outs) = refl
kind_as_put (Ret false result outs) = refl
kind_as_put (Up func args) = refl
kind_as_put (UpRet result) = refl
kind_as_put (Alloc size addr) = refl
kind_as_put (Free addr) = refl
kind_as_put (Stop reason) = refl

module _ (number : Width → ℕ → List ℕ) where
  body_as_put : (e : Event) → body_text number (log_event e) ≡ body_text number e
  body_as_put (Call func args) = refl
  body_as_put (Ret true result outs) = refl
  body_as_put (Ret false result outs) = refl
  body_as_put (Up func args) = refl
  body_as_put (UpRet result) = refl
  body_as_put (Alloc size addr) = refl
  body_as_put (Free addr) = refl
  body_as_put (Stop reason) = refl

  record_as_put : (r : Record) → record_text number (log_record r) ≡ record_text number r
  record_as_put r = rw (kind_as_put r.event, body_as_put r.event) refl

  records_as_put : (rs : List Record) → flat_map (record_text number) (map log_record rs) ≡ flat_map (record_text number) rs
  records_as_put [] = refl
  records_as_put (r ∷ rs) =
      ap (λ (w : List ℕ). w ++ flat_map (record_text number) (map log_record rs)) (record_as_put r)
      ∙ ap (λ (w : List ℕ). record_text number r ++ w) (records_as_put rs)

  pub chunk_as_put : (thread : ℕ) (rs : List Record) → chunk_text number (log_chunk (record { thread = thread; records = rs })) ≡ chunk_text number (record { thread = thread; records = rs })
  chunk_as_put thread rs = rw (length-map rs log_record, records_as_put rs) refl

pub each_as_put : (rs : List Record) → AllByRecursion IsRecord (map log_record rs) → AllByRecursion CanBePut rs
each_as_put [] each = tt
each_as_put (r ∷ rs) each = (each.0, each_as_put rs each.1)

-- ---- the text of what is put

pub records_put : (cs : List Chunk) → records_of (map log_chunk cs) ≡ map log_record (records_of cs)
records_put [] = refl
records_put (c ∷ cs) = rw (records_put cs) (sym (map-append log_record c.records (records_of cs)))

chunks_put : (cs : List Chunk) → flat_map (chunk_text version_1.number) (map log_chunk cs) ≡ flat_map (λ c. chunk_text version_1.number (log_chunk c)) cs
chunks_put [] = refl
chunks_put (c ∷ cs) = ap (λ (w : List ℕ). chunk_text version_1.number (log_chunk c) ++ w) (chunks_put cs)

pub put_is : (cs : List Chunk) → put_text cs ≡ log_text version_1 (map log_chunk cs)
put_is cs =
    let total : length (records_of (map log_chunk cs)) ≡ length (records_of cs) = ap length (records_put cs) ∙ length-map (records_of cs) log_record in
    rw (chunks_put cs, total) refl

pub put_is_log : (cs : List Chunk) → AreChunks (map log_chunk cs) → IsLogOf (put_text cs) (map log_chunk cs)
put_is_log cs are = (are, put_is cs)

-- what follows from a fact for Ok
pub on_ok : {A E P Q : Type 0} (r : Result A E) → (P → Q) → OnOk r P → OnOk r Q
on_ok (Ok x) f h = f h
on_ok (Err e) f h = tt
