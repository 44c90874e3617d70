-- What is written of a run doesn't depend on the globals with which paths begin.
use Rattle.std.proofs.Common.{◌≡◌, ℕ, ◌%◌, cond, eqb, ◌&&◌, List, [], ◌∷◌, ◌++◌, length, map, reverse, take, refl, ap, ◌∙◌}
use Rattle.std.specs.Prelude.{flat_map}
use Rattle.std.specs.List.{range_with_len}
use Rattle.run_events.specs.declared.key.Class.TheVariants.{Out}
use Rattle.run_events.specs.declared.event.Record.{Record}
use Rattle.marks.specs.Places.{thread_count}
use Rattle.marks.specs.Marks.{Mark, is_event}
use Rattle.log_codec.specs.LogText.{Chunk, log_text}
use Rattle.replay_runs.specs.Runs.{OfKey, OfThread, history}
use Rattle.replay_runs.specs.Keys.{key}
use Rattle.replay_runs.specs.Records.{printed_by, record_of}
use Rattle.whole_runs.specs.World.{World, begin}
use Rattle.whole_runs.specs.Sides.{events_by}
use Rattle.whole_runs.specs.Records.{full_record, version}
use Rattle.whole_runs.specs.Recorded.{full_records}
use Rattle.whole_runs.specs.Log.{act_printed, chunks, log_of, new_chunks, replay_output, rest, system_output}
use Rattle.reference_recorder_marks.specs.Marks.{without_origins}
use Rattle.reference_recorder_origins.proofs.Blind.{blank, blind, blind_acts}
use Rattle.reference_recorder_origins.proofs.Parts.{new_seen, new_without}

module _ (w : World) where
  history_same : {R : Type 0} (form : Mark → R) (t : ℕ) (p : List Mark) → history form (begin w) t (without_origins p) ≡ history form (begin w) t p
  history_same form t p = ap (map form) (new_without (OfThread t) p)

  count_same : (t : ℕ) (p : List Mark) → events_by w t (without_origins p) ≡ events_by w t p
  count_same t p = ap length (new_without (OfThread t) p)

  -- a chunk of these records, where so many events are made
  abbrev chunk_with : (t n : ℕ) → List Record → List Chunk
  chunk_with t n records = record { thread = t; records = reverse (take n records) } ∷ []

  new_same : (m : Mark) (p : List Mark) → new_chunks w (without_origins (m ∷ p)) (blank m) ≡ new_chunks w (m ∷ p) m
  new_same m p =
      let k = w.file.chunk in
      let old = history record_of (begin w) m.thread (without_origins (m ∷ p)) in
      ap (λ b. cond (b && eqb (events_by w m.thread (without_origins (m ∷ p)) % k) 0) (chunk_with m.thread k old) []) (blind is_event (λ o at bytes. refl) (λ o at bytes. refl) m.act)
      ∙ ap (λ n. cond (is_event m.act && eqb (n % k) 0) (chunk_with m.thread k old) []) (count_same m.thread (m ∷ p))
      ∙ ap (λ rs. cond (is_event m.act && eqb (events_by w m.thread (m ∷ p) % k) 0) (chunk_with m.thread k rs) []) (history_same record_of m.thread (m ∷ p))

  chunks_same : (p : List Mark) → chunks w (without_origins p) ≡ chunks w p
  chunks_same [] = refl
  chunks_same (m ∷ p) = ap (λ cs. cs ++ new_chunks w (without_origins (m ∷ p)) (blank m)) (chunks_same p) ∙ ap (λ cs. chunks w p ++ cs) (new_same m p)

  rest_same : (p : List Mark) (t : ℕ) → rest w (without_origins p) t ≡ rest w p t
  rest_same p t =
      let k = w.file.chunk in
      let old = history record_of (begin w) t (without_origins p) in
      ap (λ n. cond (eqb (n % k) 0) [] (chunk_with t (n % k) old)) (count_same t p)
      ∙ ap (λ rs. cond (eqb (events_by w t p % k) 0) [] (chunk_with t (events_by w t p % k) rs)) (history_same record_of t p)

  pub log_same : (p : List Mark) → log_of w (without_origins p) ≡ log_of w p
  log_same p = λ i. log_text version (chunks_same p i ++ flat_map (λ t. rest_same p t i) (range_with_len 0 thread_count))

  pub records_same : (p : List Mark) → full_records w (without_origins p) ≡ full_records w p
  records_same p = λ i. map (λ t. reverse (history_same full_record t p i)) (range_with_len 0 thread_count)

  pub output_same : (p : List Mark) → replay_output w (without_origins p) ≡ replay_output w p
  output_same p = ap (λ ms. (begin w).output ++ printed_by ms) (new_seen (OfKey (key Out 0)) p)

pub system_same : (p : List Mark) → system_output (without_origins p) ≡ system_output p
system_same p = blind_acts system_output (λ a xs. xs ++ act_printed a) (λ m p. refl) (λ o at bytes a. refl) (λ o at bytes a. refl) p
