-- A log has as many records as its run has events.
use Rattle.std.proofs.Common.{◌≡◌, ℕ, zero, suc, ◌+◌, ◌%◌, min, ◌≤◌, ◌<◌, Bool, true, false, ◌&&◌, cond, eqb, List, [], ◌∷◌, ◌++◌, length, take, ⊎_elim, refl, sym, ap, subst, ◌∙◌, arith}
use Rattle.std.specs.List.{flat_map, range_with_len, AllByRecursion}
use Rattle.std.proofs.Math.Nat.{suc-mod, mod_self, mod-eq_of_lt, mod-le}
use Rattle.std.proofs.lemmas.Nat.{mod_below}
use Rattle.std.proofs.lemmas.Bool.{cases_eq, cases_lt}
use Rattle.std.proofs.lemmas.Bool.Decides.{nat_tests}
use Rattle.std.proofs.lemmas.List.{length-append, length-map, length-reverse, length-take}
use Rattle.std.proofs.lemmas.Grind.{flat_map-append}
use Rattle.marks.specs.Places.{thread_count}
use Rattle.marks.specs.Marks.{Mark, is_event}
use Rattle.log_codec.specs.LogText.{Chunk, records_of}
use Rattle.replay_runs.specs.Runs.{OfThread, events_with, history}
use Rattle.replay_runs.specs.Records.{record_of}
use Rattle.whole_runs.specs.World.{World, begin}
use Rattle.whole_runs.specs.Sides.{events_by}
use Rattle.whole_runs.specs.Ends.{events_of}
use Rattle.whole_runs.specs.Log.{kept_back, last_records, new_chunks, chunks, rest, all_chunks}
use Rattle.recorder_book.specs.Book.{IsOfAThread}
use Rattle.recorder_book.proofs.Threads.{own_event, other_event, plain_event}

-- the sum of a number of each thread, from one on
abbrev sum_from : (ℕ → ℕ) → ℕ → ℕ → ℕ
sum_from f t zero = 0
sum_from f t (suc n) = f t + sum_from f (t + 1) n

same_sum : (f g : ℕ → ℕ) (t n : ℕ) → ((u : ℕ) → t ≤ u → f u ≡ g u) → sum_from f t n ≡ sum_from g t n
same_sum f g t zero h = refl
same_sum f g t (suc n) h = (λ i. h t (omega arith) i + same_sum f g (t + 1) n (λ u le. h u (omega (arith, le))) i)

-- the number of one thread goes up by one, but for what is taken away
one_changed : (f g : ℕ → ℕ) (v d : ℕ) → ((u : ℕ) → (v ≡ u → ⊥) → f u ≡ g u) → f v + d ≡ suc (g v) → (t n : ℕ) → t ≤ v → v < t + n → sum_from f t n + d ≡ suc (sum_from g t n)
one_changed f g v d same more t zero le lt = absurd (omega (arith, le, lt))
one_changed f g v d same more t (suc n) le lt = ⊎_elim here (later (one_changed f g v d same more (t + 1) n)) (cases_eq v t)
  where
    here : v ≡ t → (f t + sum_from f (t + 1) n) + d ≡ suc (g t + sum_from g (t + 1) n)
    here is =
        let own : f t + d ≡ suc (g t) = subst (λ u. f u + d ≡ suc (g u)) is more in
        let others : sum_from f (t + 1) n ≡ sum_from g (t + 1) n = same_sum f g (t + 1) n (λ u above. same u (λ e. omega (arith, e, is, above))) in
        omega (arith, own, others)

    later : (t + 1 ≤ v → v < t + 1 + n → sum_from f (t + 1) n + d ≡ suc (sum_from g (t + 1) n)) → (v ≡ t → ⊥) → (f t + sum_from f (t + 1) n) + d ≡ suc (g t + sum_from g (t + 1) n)
    later again ne =
        let own : f t ≡ g t = same t ne in
        let others : sum_from f (t + 1) n + d ≡ suc (sum_from g (t + 1) n) = again (omega (arith, le, ne)) (omega (arith, lt)) in
        omega (arith, own, others)

-- a count by chunks
chunk_step : (n c : ℕ) → 1 ≤ c → suc n % c + cond (eqb (suc n % c) 0) c 0 ≡ suc (n % c)
chunk_step n c some = ⊎_elim full partly (cases_eq (suc (n % c)) c)
  where
    full : suc (n % c) ≡ c → suc n % c + cond (eqb (suc n % c) 0) c 0 ≡ suc (n % c)
    full is =
        let z : suc n % c ≡ 0 = suc-mod n c ∙ ap (λ k. k % c) is ∙ mod_self c in
        let whole : 0 + c ≡ suc (n % c) = omega (arith, is) in
        ap (λ k. k + cond (eqb k 0) c 0) z ∙ whole

    partly : (suc (n % c) ≡ c → ⊥) → suc n % c + cond (eqb (suc n % c) 0) c 0 ≡ suc (n % c)
    partly ne =
        let below : n % c < c = mod_below n c (omega (arith, some)) in
        let z : suc n % c ≡ suc (n % c) = suc-mod n c ∙ mod-eq_of_lt (omega (arith, below, ne)) in
        let more : eqb (suc (n % c)) 0 ≡ false = grind (arith, nat_tests) in
        let same : suc (n % c) + 0 ≡ suc (n % c) = omega arith in
        ap (λ k. k + cond (eqb k 0) c 0) z ∙ ap (λ b. suc (n % c) + cond b c 0) more ∙ same

-- how many records a thread's last chunk has
last_count : (w : World) (run : List Mark) (t n : ℕ) → n ≤ events_by w t run → length ((last_records w run t n).records) ≡ n
last_count w run t n le =
    length-reverse (take n (history record_of (begin w) t run))
    ∙ length-take n (history record_of (begin w) t run)
    ∙ ap (min n) (length-map (events_with (begin w) (OfThread t) run) record_of)
    ∙ omega (arith, le)

one_chunk : (c : Chunk) → length (records_of (c ∷ [])) ≡ length c.records
one_chunk c = length-append c.records [] ∙ omega arith

both_chunks : (cs ds : List Chunk) → length (records_of (cs ++ ds)) ≡ length (records_of cs) + length (records_of ds)
both_chunks cs ds = ap length (flat_map-append (λ (c : Chunk). c.records) cs ds) ∙ length-append (records_of cs) (records_of ds)

-- the rests have what is kept back
rest_count : (w : World) (run : List Mark) (t : ℕ) → length (records_of (rest w run t)) ≡ kept_back w run t
rest_count w run t = go (eqb (kept_back w run t) 0) refl
  where
    go : (b : Bool) → eqb (kept_back w run t) 0 ≡ b → length (records_of (cond b [] (last_records w run t (kept_back w run t) ∷ []))) ≡ kept_back w run t
    go true e = grind (arith, nat_tests)
    go false e = one_chunk (last_records w run t (kept_back w run t)) ∙ last_count w run t (kept_back w run t) (mod-le (events_by w t run) w.file.chunk)

rests_count : (w : World) (run : List Mark) (t n : ℕ) → length (records_of (flat_map (rest w run) (range_with_len t n))) ≡ sum_from (kept_back w run) t n
rests_count w run t zero = refl
rests_count w run t (suc n) = both_chunks (rest w run t) (flat_map (rest w run) (range_with_len (t + 1) n)) ∙ (λ i. rest_count w run t i + rests_count w run (t + 1) n i)

-- an event goes into a chunk with those that were kept back, or is kept back too
new_count : (w : World) (past : List Mark) (m : Mark) → 1 ≤ w.file.chunk → is_event m.act ≡ true → kept_back w (m ∷ past) m.thread + length (records_of (new_chunks w (m ∷ past) m)) ≡ suc (kept_back w past m.thread)
new_count w past m some made =
    let more : events_by w m.thread (m ∷ past) ≡ suc (events_by w m.thread past) = ap length (own_event w m.thread past m made refl) in
    ap (λ k. kept_back w (m ∷ past) m.thread + k) (ap (λ b. length (records_of (cond (b && eqb (kept_back w (m ∷ past) m.thread) 0) (last_records w (m ∷ past) m.thread w.file.chunk ∷ []) []))) made ∙ go (eqb (kept_back w (m ∷ past) m.thread) 0) refl)
    ∙ ap (λ n. n % w.file.chunk + cond (eqb (n % w.file.chunk) 0) w.file.chunk 0) more
    ∙ chunk_step (events_by w m.thread past) w.file.chunk some
  where
    full : eqb (kept_back w (m ∷ past) m.thread) 0 ≡ true → w.file.chunk ≤ events_by w m.thread (m ∷ past)
    full e =
        let more : events_by w m.thread (m ∷ past) ≡ suc (events_by w m.thread past) = ap length (own_event w m.thread past m made refl) in
        let none : events_by w m.thread (m ∷ past) % w.file.chunk ≡ 0 = grind (arith, nat_tests) in
        ⊎_elim (λ lt. absurd (omega (arith, sym (mod-eq_of_lt lt) ∙ none, more))) (λ le. le) (cases_lt (events_by w m.thread (m ∷ past)) w.file.chunk)

    go : (b : Bool) → eqb (kept_back w (m ∷ past) m.thread) 0 ≡ b → length (records_of (cond b (last_records w (m ∷ past) m.thread w.file.chunk ∷ []) [])) ≡ cond b w.file.chunk 0
    go true e = one_chunk (last_records w (m ∷ past) m.thread w.file.chunk) ∙ last_count w (m ∷ past) m.thread w.file.chunk (full e)
    go false e = refl

-- nothing is kept back before any event
nothing_kept : (w : World) → 1 ≤ w.file.chunk → (t n : ℕ) → sum_from (kept_back w []) t n ≡ 0
nothing_kept w some t zero = refl
nothing_kept w some t (suc n) = let none : 0 % w.file.chunk ≡ 0 = mod-eq_of_lt (omega (arith, some)) in omega (arith, none, nothing_kept w some (t + 1) n)

-- what stands in chunks and what is kept back are all events
put_and_kept : (n : ℕ) (w : World) (run : List Mark) → 1 ≤ w.file.chunk → AllByRecursion (λ (m : Mark). m.thread < n) (events_of run) → length (records_of (chunks w run)) + sum_from (kept_back w run) 0 n ≡ length (events_of run)
put_and_kept n w [] some own = let none = nothing_kept w some 0 n in omega (arith, none)
put_and_kept n w (m ∷ past) some own = go (is_event m.act) refl own (put_and_kept n w past some)
  where
    go : (b : Bool) → is_event m.act ≡ b → AllByRecursion (λ (m : Mark). m.thread < n) (cond b (m ∷ events_of past) (events_of past))
        → (AllByRecursion (λ (m : Mark). m.thread < n) (events_of past) → length (records_of (chunks w past)) + sum_from (kept_back w past) 0 n ≡ length (events_of past))
        → length (records_of (chunks w past ++ new_chunks w (m ∷ past) m)) + sum_from (kept_back w (m ∷ past)) 0 n ≡ length (cond b (m ∷ events_of past) (events_of past))
    go true made all before =
        let sums = one_changed (kept_back w (m ∷ past)) (kept_back w past) m.thread (length (records_of (new_chunks w (m ∷ past) m))) (λ u ne. ap (λ es. length es % w.file.chunk) (other_event w u past m ne)) (new_count w past m some made) 0 n (omega arith) (omega (arith, all.0)) in
        omega (arith, both_chunks (chunks w past) (new_chunks w (m ∷ past) m), sums, before all.1)
    go false plain all before =
        let none : new_chunks w (m ∷ past) m ≡ [] = ap (λ b. cond (b && eqb (kept_back w (m ∷ past) m.thread) 0) (last_records w (m ∷ past) m.thread w.file.chunk ∷ []) []) plain in
        let sums : sum_from (kept_back w (m ∷ past)) 0 n ≡ sum_from (kept_back w past) 0 n = same_sum (kept_back w (m ∷ past)) (kept_back w past) 0 n (λ u le. ap (λ es. length es % w.file.chunk) (plain_event w u past m plain)) in
        omega (arith, both_chunks (chunks w past) (new_chunks w (m ∷ past) m), ap (λ cs. length (records_of cs)) none, sums, before all)

pub all_count : (w : World) (run : List Mark) → 1 ≤ w.file.chunk → AllByRecursion IsOfAThread (events_of run) → length (records_of (all_chunks w run)) ≡ length (events_of run)
all_count w run some own =
    both_chunks (chunks w run) (flat_map (rest w run) (range_with_len 0 thread_count))
    ∙ ap (λ n. length (records_of (chunks w run)) + n) (rests_count w run 0 thread_count)
    ∙ put_and_kept thread_count w run some own
