-- The last records of a thread are a chunk.
use Rattle.std.proofs.Common.{◌≡◌, ℕ, ◌+◌, ◌-◌, ◌≤◌, ◌<◌, ◌^◌, List, [], ◌∷◌, ◌++◌, map, length, get_or, take, drop, sym, ap, subst, ◌∙◌, append_assoc, arith}
use Rattle.std.specs.List.{AllByRecursion}
use Rattle.std.proofs.lemmas.List.{length-map, length-drop, take_rest, drop_more, drop_all, append-nil}
use Rattle.std.proofs.lemmas.Grind.{flat_map-append}
use Rattle.run_events.specs.declared.event.Record.{Record}
use Rattle.log_codec.specs.LogText.{chunk_text, IsRecord, IsChunk}
use Rattle.log_codec.specs.Putting.{log_record, log_chunk}
use Rattle.whole_runs.specs.Records.{version}
use Rattle.recorder_book.specs.Chunks.{IsRecordOf, chunks_text, last_of, rest, rests}
use Rattle.recorder_book.proofs.Lists.{all_drop, all_map}

module _ (t : ℕ) (rs : List Record) (each : AllByRecursion (IsRecordOf t) rs) where
  pub last_is_chunk : (n : ℕ) → t < 32 → 1 ≤ n → n ≤ length rs → n < 2 ^ 16 → IsChunk (log_chunk (last_of t n rs))
  last_is_chunk n lt some few small =
      let size : length (map log_record (drop (length rs - n) rs)) ≡ n = length-map (drop (length rs - n) rs) log_record ∙ length-drop (length rs - n) rs ∙ omega (arith, few) in
      record {
        thread = lt;
        some = omega (arith, size, some);
        few = omega (arith, size, small);
        own = all_map (IsRecordOf t) (λ r. r.thread ≡ t) log_record (λ r h. h.own) (drop (length rs - n) rs) (all_drop (IsRecordOf t) (length rs - n) rs each);
        each = all_map (IsRecordOf t) IsRecord log_record (λ r h. h.form) (drop (length rs - n) rs) (all_drop (IsRecordOf t) (length rs - n) rs each);
      }

-- as a slice of the records up to their end
pub part_is_chunk : (t : ℕ) (rs : List Record) (n : ℕ) → IsChunk (log_chunk (last_of t n rs)) → IsChunk (log_chunk (record { thread = t; records = take (length rs - (length rs - n)) (drop (length rs - n) rs) }))
part_is_chunk t rs n h = subst (λ xs. IsChunk (log_chunk (record { thread = t; records = xs }))) (sym (take_rest rs (length rs - n))) h

-- a thread with records is one that a run can have
pub thread_small : (t : ℕ) (rs : List Record) → AllByRecursion (IsRecordOf t) rs → 1 ≤ length rs → t < 32
thread_small t [] each some = absurd (omega (arith, some))
thread_small t (r ∷ rs) each some = let lt : r.thread < 32 = each.0.form.thread in omega (arith, lt, each.0.own)

-- what the threads from one on keep back, put one after the other
pub rests_more : (chunk i : ℕ) (threads : List (List Record)) (d : List Record) (log now all : List ℕ) → i < length threads → log ++ chunks_text (rests chunk i (drop i threads)) ≡ all
    → now ≡ log ++ chunks_text (rest chunk i (get_or threads i d)) → now ++ chunks_text (rests chunk (i + 1) (drop (i + 1) threads)) ≡ all
rests_more chunk i threads d log now all lt h is =
    ap (λ xs. xs ++ chunks_text (rests chunk (i + 1) (drop (i + 1) threads))) is
    ∙ append_assoc log (chunks_text (rest chunk i (get_or threads i d))) (chunks_text (rests chunk (i + 1) (drop (i + 1) threads)))
    ∙ ap (λ xs. log ++ xs) (sym (flat_map-append (λ c. chunk_text version.number (log_chunk c)) (rest chunk i (get_or threads i d)) (rests chunk (i + 1) (drop (i + 1) threads))))
    ∙ ap (λ xs. log ++ chunks_text (rests chunk i xs)) (sym (drop_more threads i d lt))
    ∙ h

pub rests_none : (chunk i : ℕ) (threads : List (List Record)) (log all : List ℕ) → length threads ≤ i → log ++ chunks_text (rests chunk i (drop i threads)) ≡ all → log ≡ all
rests_none chunk i threads log all le h = sym (append-nil log) ∙ ap (λ xs. log ++ chunks_text (rests chunk i xs)) (sym (drop_all i threads le)) ∙ h
