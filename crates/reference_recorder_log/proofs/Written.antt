-- The records of threads, and the log that they are in, one mark or thread more.
use Rattle.std.proofs.Common.{◌≡◌, ℕ, zero, suc, ◌+◌, ◌<◌, ◌≤◌, Bool, true, false, ◌&&◌, cond, eqb, List, [], ◌∷◌, ◌++◌, map, length, get_or, take, reverse, refl, sym, ap, subst, ◌∙◌, arith, eq-eqb, eqb-true}
use Rattle.std.specs.List.{AllByRecursion, flat_map, range_with_len}
use Rattle.std.proofs.lemmas.Bool.{and_parts, and_from}
use Rattle.std.proofs.lemmas.List.{append-nil, length-append, length-map, map-append}
use Rattle.std.proofs.lemmas.List.FromFn.{get_or-range_with_len, length-range_with_len}
use Rattle.std.proofs.lemmas.List.{get_or-map}
use Rattle.run_events.specs.declared.event.Record.{Record}
use Rattle.marks.specs.Places.{thread_count}
use Rattle.marks.specs.Marks.{Mark, is_event}
use Rattle.replay_runs.specs.Runs.{OfThread, has, new_events}
use Rattle.whole_runs.specs.Records.{full_record, version}
use Rattle.whole_runs.specs.Ends.{bytes_of, events_of}
use Rattle.whole_runs.specs.Log.{chunks, kept_back, last_records}
use Rattle.log_codec.specs.LogText.{chunk_text, end_text, head_text}
use Rattle.recorder_book.specs.Sizes.{IsInFull}
use Rattle.recorder_book.specs.Chunks.{IsRecordOf, chunks_text, filled, rests}
use Rattle.recorder_book.specs.Book.{BookState, IsBookOf, IsOfAThread, IsSound}
use Rattle.recorder_book.proofs.Logs.{log_after}
use Rattle.recorder_book.proofs.Runs.{whole_log}
use Rattle.recorder_book.proofs.Lists.{all_append, all_map, reverse_cons}
use Rattle.recorder_book.proofs.Forms.{of_its_thread, thread_is}
use Rattle.reference_recorder_marks.specs.declared.mark.Mark as coded
use Rattle.reference_recorder_marks.specs.Marks.{mark_of, past}
use Rattle.reference_recorder_stamps.proofs.Counted.{events_yes, events_no}
use Rattle.reference_recorder_records.specs.Recordable.{AreRecordable, IsRecordable}
use Rattle.reference_recorder_log.specs.Logs.{HasChunks}
use Rattle.reference_recorder_log.specs.Records.{AreRecordsOf, IsLogOf, all_of, records_of}

module _ (ms : List coded.Mark) (i : ℕ) (m : coded.Mark) (lt : i < length ms) (is : m ≡ get_or ms i m) where
  pub records_more : (t : ℕ) (now next : List Record) → next ≡ cond (has (mark_of m) (OfThread t)) (now ++ full_record (mark_of m) ∷ []) now → now ≡ records_of (past (take i ms)) t → next ≡ records_of (past (take (i + 1) ms)) t
  records_more t now next e h = go (has (mark_of m) (OfThread t)) refl e
    where
      go : (b : Bool) → has (mark_of m) (OfThread t) ≡ b → next ≡ cond b (now ++ full_record (mark_of m) ∷ []) now → next ≡ records_of (past (take (i + 1) ms)) t
      go true there z =
          z ∙ ap (λ rs. rs ++ full_record (mark_of m) ∷ []) h
          ∙ sym (ap (λ es. reverse (map full_record es)) (events_yes ms i m lt is (OfThread t) there) ∙ reverse_cons (full_record (mark_of m)) (map full_record (new_events (OfThread t) (past (take i ms)))))
      go false absent z = z ∙ h ∙ sym (ap (λ es. reverse (map full_record es)) (events_no ms i m lt is (OfThread t) absent))

-- ---- threads, one after the other

range_end : (t n : ℕ) → range_with_len t (suc n) ≡ range_with_len t n ++ (t + n) ∷ []
range_end t zero = let z : t + 0 ≡ t = omega arith in ap (λ k. k ∷ []) (sym z)
range_end t (suc n) = let z : t + 1 + n ≡ t + suc n = omega arith in ap (λ ks. t ∷ ks) (range_end (t + 1) n ∙ ap (λ k. range_with_len (t + 1) n ++ k ∷ []) z)

pub range_more : {X : Type 0} (f : ℕ → X) (n : ℕ) (now next : List X) (x : X) → now ≡ map f (range_with_len 0 n) → next ≡ now ++ x ∷ [] → x ≡ f n → next ≡ map f (range_with_len 0 (n + 1))
range_more f n now next x h e is =
    let one : n + 1 ≡ suc n = omega arith in
    let none : 0 + n ≡ n = omega arith in
    e ∙ (λ j. h j ++ is j ∷ [])
    ∙ sym (ap (λ k. map f (range_with_len 0 k)) one ∙ ap (map f) (range_end 0 n ∙ ap (λ k. range_with_len 0 n ++ k ∷ []) none) ∙ map-append f (range_with_len 0 n) (n ∷ []))

pub all_records : (run : List Mark) (n : ℕ) (threads : List (List Record)) → threads ≡ map (records_of run) (range_with_len 0 n) → n ≡ thread_count → AreRecordsOf run threads
all_records run n threads h e w = h ∙ ap (λ k. map (records_of run) (range_with_len 0 k)) e

pub all_many : (run : List Mark) → length (all_of run) ≡ thread_count
all_many run = length-map (range_with_len 0 thread_count) (records_of run) ∙ length-range_with_len 0 thread_count

pub all_at : (run : List Mark) (t : ℕ) → t < thread_count → get_or (all_of run) t [] ≡ records_of run t
all_at run t lt =
    get_or-map (records_of run) (range_with_len 0 thread_count) t 0 [] (omega (arith, lt, length-range_with_len 0 thread_count))
    ∙ ap (records_of run) (get_or-range_with_len 0 thread_count t 0 lt ∙ omega arith)

-- ---- each record is one that can stand in the log

pub all_own : (t : ℕ) (run : List Mark) → AllByRecursion (λ (m : Mark). is_event m.act ≡ true → IsInFull (full_record m)) run → AllByRecursion (IsRecordOf t) (records_of run t)
all_own t [] h = tt
all_own t (m ∷ run) h = go (has m (OfThread t)) refl (all_own t run h.1)
  where
    go : (b : Bool) → has m (OfThread t) ≡ b → AllByRecursion (IsRecordOf t) (records_of run t) → AllByRecursion (IsRecordOf t) (reverse (map full_record (cond b (m ∷ new_events (OfThread t) run) (new_events (OfThread t) run))))
    go true there rest =
        let p = and_parts (is_event m.act) (eqb m.thread t) there in
        subst (AllByRecursion (IsRecordOf t)) (sym (reverse_cons (full_record m) (map full_record (new_events (OfThread t) run))))
        (all_append (IsRecordOf t) (records_of run t) (full_record m ∷ []) rest (subst (λ u. IsRecordOf u (full_record m)) (thread_is m ∙ eqb-true m.thread t p.1) (of_its_thread (full_record m) (h.0 p.0)), tt))
    go false absent rest = rest

all_reverse : {X : Type 0} (P : X → Type 0) (xs : List X) → AllByRecursion P xs → AllByRecursion P (reverse xs)
all_reverse P [] h = tt
all_reverse P (x ∷ xs) h = subst (AllByRecursion P) (sym (reverse_cons x xs)) (all_append P (reverse xs) (x ∷ []) (all_reverse P xs h.1) (h.0, tt))

pub own_records : (t : ℕ) (ms : List coded.Mark) → AreRecordable ms → AllByRecursion (IsRecordOf t) (records_of (past ms) t)
own_records t ms h = all_own t (past ms) (all_reverse (λ (m : Mark). is_event m.act ≡ true → IsInFull (full_record m)) (map mark_of ms) (all_map IsRecordable (λ (m : Mark). is_event m.act ≡ true → IsInFull (full_record m)) mark_of (λ m k. k) ms h))

-- ---- the log, one mark more

some_record : (run before : List Mark) (m : Mark) → is_event m.act ≡ true → run ≡ m ∷ before → 1 ≤ length (records_of run m.thread)
some_record run before m made is =
    let own : has m (OfThread m.thread) ≡ true = and_from (is_event m.act) (eqb m.thread m.thread) made (eq-eqb m.thread m.thread refl) in
    let parts : records_of run m.thread ≡ records_of before m.thread ++ full_record m ∷ [] =
    ap (λ r. records_of r m.thread) is ∙ ap (λ b. reverse (map full_record (cond b (m ∷ new_events (OfThread m.thread) before) (new_events (OfThread m.thread) before)))) own ∙ reverse_cons (full_record m) (map full_record (new_events (OfThread m.thread) before)) in
    omega (arith, ap length parts, length-append (records_of before m.thread) (full_record m ∷ []))

pub some_records : (run : List Mark) (m : Mark) (records : List Record) → is_event m.act ≡ true → (before : List Mark) × (run ≡ m ∷ before) → records ≡ records_of run m.thread → 1 ≤ length records
some_records run m records made last own = subst (λ rs. 1 ≤ length rs) (sym own) (some_record run last.0 m made last.1)

pub put_event : (chunk : ℕ) (run : List Mark) (m : Mark) (old new : List ℕ) (records : List Record) → is_event m.act ≡ true → records ≡ records_of run m.thread → new ≡ old ++ chunks_text (filled chunk m.thread records)
    → (before : List Mark) → run ≡ m ∷ before → HasChunks chunk before old → HasChunks chunk (m ∷ before) new
put_event chunk run m old new records made own e before is h w c = log_after w before m chunk old new records (sym c) made (own ∙ ap (λ r. records_of r m.thread) is) (h w c) e

pub put_plain : (chunk : ℕ) (run : List Mark) (m : Mark) (old : List ℕ) → is_event m.act ≡ false → (before : List Mark) → run ≡ m ∷ before → HasChunks chunk before old → HasChunks chunk (m ∷ before) old
put_plain chunk run m old plain before is h w c =
    h w c
    ∙ ap (λ cs. head_text version ++ flat_map (chunk_text version.number) cs) (
    sym (append-nil (chunks w before))
    ∙ ap (λ b. chunks w before ++ cond (b && eqb (kept_back w (m ∷ before) m.thread) 0) (last_records w (m ∷ before) m.thread w.file.chunk ∷ []) []) (sym plain))

-- ---- the whole log

abbrev CanStand : Mark → Type 0
CanStand m = is_event m.act ≡ true → IsInFull (full_record m)

all_threads : (run : List Mark) → AllByRecursion CanStand run → AllByRecursion IsOfAThread (events_of run)
all_threads [] h = tt
all_threads (m ∷ run) h = go (is_event m.act) refl (all_threads run h.1)
  where
    go : (b : Bool) → is_event m.act ≡ b → AllByRecursion IsOfAThread (events_of run) → AllByRecursion IsOfAThread (cond b (m ∷ events_of run) (events_of run))
    go true made rest = (let k = h.0 made in let lt : (full_record m).thread < 32 = k.thread in omega (arith, lt, thread_is m), rest)
    go false plain rest = rest

can_stand : (ms : List coded.Mark) → AreRecordable ms → AllByRecursion CanStand (past ms)
can_stand ms h = all_reverse CanStand (map mark_of ms) (all_map IsRecordable CanStand mark_of (λ m k. k) ms h)

abbrev book_of : (chunk : ℕ) → List Mark → List ℕ → BookState
book_of chunk run log = record { chunk = chunk; events = length (events_of run); bytes = bytes_of run; log = log; threads = all_of run }

pub whole : (chunk total : ℕ) (ms : List coded.Mark) (parted rested log : List ℕ) → 1 ≤ chunk → AreRecordable ms → total ≡ length (events_of (past ms)) → HasChunks chunk (past ms) parted → rested ≡ parted ++ chunks_text (rests chunk 0 (all_of (past ms))) → log ≡ rested ++ end_text version.number total → IsLogOf chunk (past ms) log
whole chunk total ms parted rested log some form count h kept ended w c =
    whole_log (book_of chunk (past ms) parted) rested log sound kept (ended ∙ ap (λ n. rested ++ end_text version.number n) count) w (past ms) of
  where
    sound : IsSound (book_of chunk (past ms) parted)
    sound = record {
      chunk = some;
      threads = all_many (past ms);
      records = λ t lt. let below : t < thread_count = omega (arith, lt, all_many (past ms)) in subst (AllByRecursion (IsRecordOf t)) (sym (all_at (past ms) t below)) (own_records t ms form);
    }

    of : IsBookOf w (past ms) (book_of chunk (past ms) parted)
    of = record { chunk = sym c; events = refl; bytes = refl; own = all_threads (past ms) (can_stand ms form); threads = refl; log = h w c }
