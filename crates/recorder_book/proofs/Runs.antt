-- A book stands for a run with one event more, and gives the whole log at its end.
use Rattle.std.proofs.Common.{◌≡◌, ℕ, suc, ◌+◌, ◌<◌, cond, List, [], ◌∷◌, ◌++◌, map, length, get_or, refl, sym, ap, subst, ◌∙◌, ⊎_elim, append_assoc, add-one, arith}
use Rattle.std.specs.List.{flat_map, range_with_len, AllByRecursion}
use Rattle.std.proofs.Math.ListN.{set}
use Rattle.std.proofs.lemmas.Bool.{cases_eq}
use Rattle.std.proofs.lemmas.List.{length-set, get_or-set_same, get_or-set_other, get_or-replicate, length-replicate}
use Rattle.std.proofs.lemmas.List.Sums.{sum_by-cons}
use Rattle.std.proofs.lemmas.Grind.{flat_map-append}
use Rattle.std.specs.Prelude.{replicate, sum_by}
use Rattle.run_events.specs.declared.event.Record.{Record}
use Rattle.marks.specs.Places.{thread_count}
use Rattle.marks.specs.Marks.{Mark}
use Rattle.log_codec.specs.LogText.{chunk_text, head_text, end_text, records_of}
use Rattle.log_codec.specs.Putting.{log_chunk}
use Rattle.whole_runs.specs.Records.{version, full_record, size_of}
use Rattle.whole_runs.specs.Ends.{bytes_of, events_of}
use Rattle.whole_runs.specs.Log.{chunks, all_chunks, log_of}
use Rattle.whole_runs.specs.Log as runs
use Rattle.whole_runs.specs.Recorded.{full_records}
use Rattle.recorder_book.specs.Sizes.{IsInFull, full_size}
use Rattle.recorder_book.specs.Chunks.{AreKept, IsRecordOf, chunks_text, filled, rests}
use Rattle.recorder_book.specs.Book.{BookState, IsSound, IsOfAThread, Begins, Adds, GivesLog}
use Rattle.recorder_book.proofs.Lists.{all_append}
use Rattle.recorder_book.proofs.Forms.{of_its_thread, sized, thread_is}
use Rattle.recorder_book.proofs.Threads.{records_by, own_records, records_at, records_after}
use Rattle.recorder_book.proofs.Logs.{log_after, rests_are, text_is}
use Rattle.recorder_book.proofs.Totals.{all_count}

-- ---- before any event

pub none_kept : (n : ℕ) → AreKept (replicate n [])
none_kept n t lt = subst (AllByRecursion (IsRecordOf t)) (sym (get_or-replicate n t [] [] (omega (arith, lt, length-replicate n (the_empty))))) tt
  where
    the_empty : List Record
    the_empty = []

pub begins_with : (chunk : ℕ) (log : List ℕ) (threads : List (List Record)) → log ≡ head_text version → threads ≡ replicate thread_count [] → Begins chunk (record { chunk = chunk; events = 0; bytes = 0; log = log; threads = threads })
begins_with chunk log threads head none w is = record { chunk = sym is; events = refl; bytes = refl; own = tt; threads = none; log = head }

-- ---- one event more

-- what becomes of a book to which a record is added
pub record IsAdded (r : Record) (old new : BookState) : Type 0 where
  pub full : IsInFull r
  pub chunk : new.chunk ≡ old.chunk
  pub events : new.events ≡ old.events + 1
  pub bytes : new.bytes ≡ old.bytes + full_size r
  pub threads : new.threads ≡ set old.threads r.thread (get_or old.threads r.thread [] ++ r ∷ [])
  pub log : new.log ≡ old.log ++ chunks_text (filled old.chunk r.thread (get_or old.threads r.thread [] ++ r ∷ []))

module _ (r : Record) (old new : BookState) (a : IsAdded r old new) where
  pub still_sound : IsSound old → IsSound new
  still_sound s =
      let lt : r.thread < 32 = a.full.thread in
      record {
        chunk = omega (arith, s.chunk, a.chunk);
        threads = ap length a.threads ∙ length-set old.threads r.thread (get_or old.threads r.thread [] ++ r ∷ []) ∙ s.threads;
        records = λ t below. subst (λ ts. AllByRecursion (IsRecordOf t) (get_or ts t [])) (sym a.threads) (⊎_elim (own t lt) (other t (omega (arith, below, ap length a.threads, length-set old.threads r.thread (get_or old.threads r.thread [] ++ r ∷ [])))) (cases_eq r.thread t));
      }
    where
      own : (t : ℕ) → r.thread < 32 → r.thread ≡ t → AllByRecursion (IsRecordOf t) (get_or (set old.threads r.thread (get_or old.threads r.thread [] ++ r ∷ [])) t [])
      own t lt is =
          subst (λ u. AllByRecursion (IsRecordOf u) (get_or (set old.threads r.thread (get_or old.threads r.thread [] ++ r ∷ [])) u [])) is
          (subst (AllByRecursion (IsRecordOf r.thread)) (sym (get_or-set_same old.threads r.thread (get_or old.threads r.thread [] ++ r ∷ []) [] (omega (arith, lt, s.threads))))
          (all_append (IsRecordOf r.thread) (get_or old.threads r.thread []) (r ∷ []) (s.records r.thread (omega (arith, lt, s.threads))) (of_its_thread r a.full, tt)))

      other : (t : ℕ) → t < length old.threads → (r.thread ≡ t → ⊥) → AllByRecursion (IsRecordOf t) (get_or (set old.threads r.thread (get_or old.threads r.thread [] ++ r ∷ [])) t [])
      other t below ne = subst (AllByRecursion (IsRecordOf t)) (sym (get_or-set_other old.threads r.thread t (get_or old.threads r.thread [] ++ r ∷ []) [] (λ e. ne (sym e)))) (s.records t below)

  pub is_added : Adds r old new
  is_added w past m made is h =
      record {
        chunk = a.chunk ∙ h.chunk;
        events = a.events ∙ add-one old.events ∙ ap suc h.events ∙ ap (λ b. length (cond b (m ∷ events_of past) (events_of past))) (sym made);
        bytes = a.bytes ∙ sizes ∙ sym (sum_by-cons size_of m (events_of past)) ∙ ap (λ b. bytes_in (cond b (m ∷ events_of past) (events_of past))) (sym made);
        own = subst (λ b. AllByRecursion IsOfAThread (cond b (m ∷ events_of past) (events_of past))) (sym made) (below, h.own);
        threads = a.threads ∙ ap (λ ts. set ts r.thread (get_or ts r.thread [] ++ r ∷ [])) h.threads ∙ places ∙ records_after w past m made below;
        log = log_after w past m old.chunk old.log new.log (get_or old.threads r.thread [] ++ r ∷ []) h.chunk made records h.log (a.log ∙ ap (λ t. old.log ++ chunks_text (filled old.chunk t (get_or old.threads r.thread [] ++ r ∷ []))) same);
      }
    where
      bytes_in : List Mark → ℕ
      bytes_in ms = sum_by size_of ms

      same : r.thread ≡ m.thread
      same = ap (λ (q : Record). q.thread) is ∙ thread_is m

      below : m.thread < thread_count
      below = let lt : r.thread < 32 = a.full.thread in omega (arith, lt, same)

      sizes : old.bytes + full_size r ≡ size_of m + bytes_of past
      sizes = let z : full_size r ≡ size_of m = ap full_size is ∙ sized m in omega (arith, z, h.bytes)

      places : set (full_records w past) r.thread (get_or (full_records w past) r.thread [] ++ r ∷ []) ≡ set (full_records w past) m.thread (records_by w m.thread past ++ full_record m ∷ [])
      places =
          ap (λ t. set (full_records w past) t (get_or (full_records w past) t [] ++ r ∷ [])) same
          ∙ (λ i. set (full_records w past) m.thread (records_at w past m.thread [] below i ++ is i ∷ []))

      records : get_or old.threads r.thread [] ++ r ∷ [] ≡ records_by w m.thread (m ∷ past)
      records =
          (λ i. get_or (h.threads i) (same i) [] ++ is i ∷ [])
          ∙ ap (λ rs. rs ++ full_record m ∷ []) (records_at w past m.thread [] below)
          ∙ sym (own_records w m.thread past m made refl)

-- ---- the end

pub whole_log : (b : BookState) (rested log : List ℕ) → IsSound b → rested ≡ b.log ++ chunks_text (rests b.chunk 0 b.threads) → log ≡ rested ++ end_text version.number b.events → GivesLog b log
whole_log b rested log s kept ended w run h =
    ended
    ∙ (λ i. (kept ∙ (λ j. h.log j ++ rest_text j)) i ++ end_text version.number (total i))
    ∙ append_assoc (head_text version ++ flat_map (chunk_text version.number) (chunks w run)) (flat_map (chunk_text version.number) (flat_map (runs.rest w run) (range_with_len 0 thread_count))) (end_text version.number (length (records_of (all_chunks w run))))
    ∙ append_assoc (head_text version) (flat_map (chunk_text version.number) (chunks w run)) (flat_map (chunk_text version.number) (flat_map (runs.rest w run) (range_with_len 0 thread_count)) ++ end_text version.number (length (records_of (all_chunks w run))))
    ∙ ap (λ xs. head_text version ++ xs) (sym (append_assoc (flat_map (chunk_text version.number) (chunks w run)) (flat_map (chunk_text version.number) (flat_map (runs.rest w run) (range_with_len 0 thread_count))) (end_text version.number (length (records_of (all_chunks w run))))))
    ∙ ap (λ xs. head_text version ++ (xs ++ end_text version.number (length (records_of (all_chunks w run))))) (sym (flat_map-append (chunk_text version.number) (chunks w run) (flat_map (runs.rest w run) (range_with_len 0 thread_count))))
  where
    rest_text : chunks_text (rests b.chunk 0 b.threads) ≡ flat_map (chunk_text version.number) (flat_map (runs.rest w run) (range_with_len 0 thread_count))
    rest_text = text_is (rests b.chunk 0 b.threads) ∙ ap (λ ts. flat_map (chunk_text version.number) (map log_chunk (rests b.chunk 0 ts))) h.threads ∙ ap (flat_map (chunk_text version.number)) (rests_are w run b.chunk h.chunk)

    total : b.events ≡ length (records_of (all_chunks w run))
    total = h.events ∙ sym (all_count w run (omega (arith, s.chunk, h.chunk)) h.own)
