-- The chunks of a run are what its threads' records put out.
use Rattle.std.proofs.Common.{◌≡◌, ℕ, zero, suc, ◌+◌, ◌%◌, Bool, true, false, ◌&&◌, cond, eqb, List, [], ◌∷◌, ◌++◌, map, length, take, reverse, refl, sym, ap, ◌∙◌, append_assoc}
use Rattle.std.specs.List.{flat_map, range_with_len}
use Rattle.std.proofs.lemmas.List.{map-append, take-map}
use Rattle.std.proofs.lemmas.List.Folds.{flat_map-map}
use Rattle.std.proofs.lemmas.Grind.{flat_map-append}
use Rattle.run_events.specs.declared.event.Record.{Record}
use Rattle.marks.specs.Places.{thread_count}
use Rattle.marks.specs.Marks.{Mark, is_event}
use Rattle.log_codec.specs.LogText.{Chunk, chunk_text, head_text}
use Rattle.log_codec.specs.Putting.{log_record, log_chunk}
use Rattle.replay_runs.specs.Runs.{OfThread, events_with, history}
use Rattle.replay_runs.specs.Records.{record_of}
use Rattle.whole_runs.specs.World.{World, begin}
use Rattle.whole_runs.specs.Records.{version, full_record}
use Rattle.whole_runs.specs.Recorded.{full_records}
use Rattle.whole_runs.specs.Log.{kept_back, last_records, fills_chunk, new_chunks, chunks}
use Rattle.whole_runs.specs.Log as runs
use Rattle.recorder_book.specs.Chunks.{chunks_text, filled, last_of, rest, rests}
use Rattle.recorder_book.proofs.Lists.{last_reversed, map_reverse, map_both}
use Rattle.recorder_book.proofs.Forms.{logged}
use Rattle.recorder_book.proofs.Threads.{records_by, count_is}

-- a chunk of a thread's last records, as a log has it
pub last_is : (w : World) (run : List Mark) (t n : ℕ) → log_chunk (last_of t n (records_by w t run)) ≡ last_records w run t n
last_is w run t n = ap (λ (rs : List Record). record { thread = t; records = rs }) (
    ap (map log_record) (last_reversed n (history full_record (begin w) t run))
    ∙ map_reverse log_record (take n (history full_record (begin w) t run))
    ∙ ap reverse (sym (take-map log_record n (history full_record (begin w) t run)) ∙ ap (take n) (map_both log_record full_record record_of logged (events_with (begin w) (OfThread t) run))))

-- the kept records number as many as are kept back
kept_is : (w : World) (run : List Mark) (t chunk : ℕ) → chunk ≡ w.file.chunk → length (records_by w t run) % chunk ≡ kept_back w run t
kept_is w run t chunk is = λ i. count_is w t run i % is i

pub filled_is : (w : World) (past : List Mark) (m : Mark) (chunk : ℕ) → chunk ≡ w.file.chunk → is_event m.act ≡ true → map log_chunk (filled chunk m.thread (records_by w m.thread (m ∷ past))) ≡ new_chunks w (m ∷ past) m
filled_is w past m chunk is made =
    go (eqb (length (records_by w m.thread (m ∷ past)) % chunk) 0)
    ∙ ap (λ b. cond b (last_records w (m ∷ past) m.thread w.file.chunk ∷ []) []) (λ i. sym made i && eqb (kept_is w (m ∷ past) m.thread chunk is i) 0)
  where
    go : (b : Bool) → map log_chunk (cond b (last_of m.thread chunk (records_by w m.thread (m ∷ past)) ∷ []) []) ≡ cond b (last_records w (m ∷ past) m.thread w.file.chunk ∷ []) []
    go true = ap (λ c. c ∷ []) (last_is w (m ∷ past) m.thread chunk ∙ ap (last_records w (m ∷ past) m.thread) is)
    go false = refl

pub rest_is : (w : World) (run : List Mark) (t chunk : ℕ) → chunk ≡ w.file.chunk → map log_chunk (rest chunk t (records_by w t run)) ≡ runs.rest w run t
rest_is w run t chunk is =
    go (eqb (length (records_by w t run) % chunk) 0)
    ∙ ap (λ b. cond b [] (last_records w run t (kept_back w run t) ∷ [])) (λ i. eqb (kept_is w run t chunk is i) 0)
  where
    go : (b : Bool) → map log_chunk (cond b [] (last_of t (length (records_by w t run) % chunk) (records_by w t run) ∷ [])) ≡ cond b [] (last_records w run t (kept_back w run t) ∷ [])
    go true = refl
    go false = ap (λ c. c ∷ []) (last_is w run t (length (records_by w t run) % chunk) ∙ ap (last_records w run t) (kept_is w run t chunk is))

rests_from : (w : World) (run : List Mark) (chunk : ℕ) → chunk ≡ w.file.chunk → (t n : ℕ) → map log_chunk (rests chunk t (map (λ u. records_by w u run) (range_with_len t n))) ≡ flat_map (runs.rest w run) (range_with_len t n)
rests_from w run chunk is t zero = refl
rests_from w run chunk is t (suc n) =
    map-append log_chunk (rest chunk t (records_by w t run)) (rests chunk (t + 1) (map (λ u. records_by w u run) (range_with_len (t + 1) n)))
    ∙ (λ i. rest_is w run t chunk is i ++ rests_from w run chunk is (t + 1) n i)

pub rests_are : (w : World) (run : List Mark) (chunk : ℕ) → chunk ≡ w.file.chunk → map log_chunk (rests chunk 0 (full_records w run)) ≡ flat_map (runs.rest w run) (range_with_len 0 thread_count)
rests_are w run chunk is = rests_from w run chunk is 0 thread_count

pub text_is : (cs : List Chunk) → chunks_text cs ≡ flat_map (chunk_text version.number) (map log_chunk cs)
text_is cs = sym (flat_map-map (chunk_text version.number) log_chunk cs)

-- the log of a run, one event further
pub log_after : (w : World) (past : List Mark) (m : Mark) (chunk : ℕ) (log now : List ℕ) (records : List Record) → chunk ≡ w.file.chunk → is_event m.act ≡ true → records ≡ records_by w m.thread (m ∷ past)
    → log ≡ head_text version ++ flat_map (chunk_text version.number) (chunks w past) → now ≡ log ++ chunks_text (filled chunk m.thread records) → now ≡ head_text version ++ flat_map (chunk_text version.number) (chunks w (m ∷ past))
log_after w past m chunk log now records is made own h e =
    e
    ∙ (λ i. h i ++ (text_is (filled chunk m.thread records) ∙ ap (λ rs. flat_map (chunk_text version.number) (map log_chunk (filled chunk m.thread rs))) own ∙ ap (flat_map (chunk_text version.number)) (filled_is w past m chunk is made)) i)
    ∙ append_assoc (head_text version) (flat_map (chunk_text version.number) (chunks w past)) (flat_map (chunk_text version.number) (new_chunks w (m ∷ past) m))
    ∙ ap (λ xs. head_text version ++ xs) (sym (flat_map-append (chunk_text version.number) (chunks w past) (new_chunks w (m ∷ past) m)))
