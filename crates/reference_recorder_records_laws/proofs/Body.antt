-- What a record has of an event of a run can stand in a log.
use Rattle.std.proofs.Common.{◌≡◌, inl, inr, ℕ, ◌^◌, ◌<◌, ◌≤◌, Bool, true, false, cond, List, [], ◌∷◌, ◌++◌, length, map, Option, Some, None, refl, sym, ap, ◌∙◌, subst, arith}
use Rattle.std.specs.Prelude.{is_some}
use Rattle.std.specs.List.{AllByRecursion}
use Rattle.std.proofs.lemmas.Bool.{cases_lt}
use Rattle.std.proofs.lemmas.List.{length-map}
use Rattle.run_events.specs.declared.key.Class.TheVariants.{Callback, Pool, Thread, Async}
use Rattle.run_events.specs.declared.key.Key.{Key}
use Rattle.run_events.specs.declared.key.KeyMark.{KeyMark}
use Rattle.marks.specs.Places.{replay_pool}
use Rattle.marks.specs.declared.range.Range.{Range}
use Rattle.marks.specs.Ranges.{Piece, Prepared, any_piece, piece_bytes, piece_ranges}
use Rattle.marks.specs.Marks.{Commit, NoRegion, Withheld, Released, EventKind, Call, Ret, Up, UpRet, Alloc, Free, Stop, Event, Act, Made, Mark, is_event, logged, released}
use Rattle.marks.specs.Bytes.{IsHeld}
use Rattle.marks.specs.Wants.{answer_to, event_answer}
use Rattle.c_code.specs.Machine.{func_of}
use Rattle.c_code.specs.Typed.{AreArguments, CarriesValues}
use Rattle.log_codec.specs.LogText.{IsBody, IsKey, IsPiece, IsWord}
use Rattle.logical_clock.specs.Events.{AreDistinct}
use Rattle.stub_operations.specs.Stubs.{added_at, or_none}
use Rattle.stub_meaning.specs.Meaning.{called, type_of}
use Rattle.replay_runs.specs.Runs.{OfKey, Start, Allowed, clock_of, has, is_listed, keys_of, marks_of, new_events, steps_of, ticket_in}
use Rattle.replay_runs.specs.Interface.{Interface, Committing}
use Rattle.replay_runs.specs.Keys.{commit_keys, is_last, key, keys_for, sorted_keys}
use Rattle.replay_runs.specs.Threads.{open_ups, tail}
use Rattle.replay_runs.specs.Pool.{IsPlace, blocks_from, in_use}
use Rattle.replay_runs.specs.Records.{record_of_act}
use Rattle.replay_runs.specs.Rules.{Carries, Commits, CommitsUsed, EventCarries, HasKeys, IsReturn, ReleaseRule, SharedAct, SharedEvent}
use Rattle.replay_runs.specs.Returns.{ReleasesInUse}
use Rattle.replay_runs.proofs.Keys.{listed_last}
use Rattle.steps_above_stamps.proofs.Distinct.{are_distinct}
use Rattle.whole_runs.specs.World.{World, begin, interface}
use Rattle.whole_runs.specs.Sides.{seen}
use Rattle.whole_runs.specs.Records.{act_record, full_event, full_record}
use Rattle.whole_runs.specs.Steps.{Agrees, EventAgrees, IsMade, Picked, rules_above}
use Rattle.whole_runs.specs.Ends.{Follows}
use Rattle.whole_runs.specs.Fits.{IsFit}
use Rattle.whole_runs_laws.proofs.FaultsAbove.{events_seen, few_threads}
use Rattle.whole_runs_seen.proofs.Threads.{carried, threads_known}
use Rattle.whole_runs_memory.proofs.KeptOff.{handed_held_by, replied}
use Rattle.whole_runs_memory.proofs.RealRuns.{seen_whole}
use Rattle.whole_runs_memory.proofs.Rets.{ret_handed}
use Rattle.recorder_book.proofs.Lists.{all_append}
use Rattle.recorder_book.specs.Sizes.{IsInFull, in_full}
use Rattle.recorder_calls.proofs.FewKeys.{keys_few}
use Rattle.recorder_events.proofs.Arguments.{call_body}
use Rattle.recorder_returns.proofs.Copied.{few_pieces}
use Rattle.reference_recorder_laws.proofs.Low.{low}
use Rattle.reference_recorder_laws.proofs.Short.{few_marks}
use Rattle.reference_recorder_laws.proofs.Stamped.{above, clock_low}
use Rattle.reference_recorder_records_laws.proofs.Few.{number_low, ret_keys, ret_sizes}
use Rattle.reference_recorder_records_laws.proofs.Numbers.{events_low, keys_are, steps_low}
use Rattle.reference_recorder_records_laws.proofs.Pieces.{all_pieces, as_many}
use Rattle.reference_recorder_records_laws.proofs.Wanted.{call_takes, freed_word, result_word, ret_takes, size_word}
use Rattle.reference_recorder_records_laws.proofs.Words.{HasWord, HaveWords, at_call, at_return, handed_down, of_commit, word, words_sorted}

module _ (w : World) (fit : IsFit w) (past : List Mark) (follows : Follows w past) (s : Picked w past) (m : Mark) (made : IsMade w past s m) (e : Event) (is : m.act ≡ Made e) where
  abbrev i : Interface
  i = interface w

  abbrev st : Start
  st = begin w

  abbrev rs : List Mark
  rs = seen past

  abbrev mine : List Mark
  mine = marks_of st m.thread rs

  event : is_event m.act ≡ true
  event = ap is_event is

  allowed : Allowed (rules_above i st s.want) st rs m
  allowed = made.mark.above (above w past m s made event)

  values : CarriesValues w.laid s.want
  values = carried w fit.code past (threads_known w fit.code past follows) s

  answers : is_some (event_answer s.want e.kind) ≡ true
  unfolding answer_to
  answers = subst (λ a. is_some (answer_to s.want a) ≡ true) is (replied s.side s.want m made.replies).1

  answers_so : (k : EventKind) → e.kind ≡ k → is_some (event_answer s.want k) ≡ true
  answers_so k kind = subst (λ j. is_some (event_answer s.want j) ≡ true) kind answers

  carries : EventCarries i st m.thread mine e.kind
  carries = subst (Carries i st m.thread mine s.want) is allowed.own.1

  carries_so : (k : EventKind) → e.kind ≡ k → EventCarries i st m.thread mine k
  carries_so k kind = subst (EventCarries i st m.thread mine) kind carries

  keyed : map (λ (q : KeyMark). q.key) e.keys ≡ sorted_keys (keys_for i m.thread mine e.kind)
  keyed = subst (HasKeys i m.thread mine) is allowed.own.0

  -- the rule of its last key
  last_rule : (k : EventKind) (ks : List Key) (j : Key) → e.kind ≡ k → keys_for i m.thread mine k ≡ ks ++ j ∷ [] → SharedEvent i st j.class j.value (new_events (OfKey j) rs) k
  last_rule k ks j kind are =
      let sorted : map (λ (q : KeyMark). q.key) e.keys ≡ sorted_keys (ks ++ j ∷ []) = keyed ∙ (ap (λ q. sorted_keys (keys_for i m.thread mine q)) kind ∙ ap sorted_keys are) in
      let there : has m (OfKey j) ≡ true = ap (λ a. is_listed (keys_of a) j) is ∙ listed_last e.keys ks j sorted in
      subst (SharedEvent i st j.class j.value (new_events (OfKey j) rs)) kind (subst (SharedAct i st j (new_events (OfKey j) rs)) is (allowed.shared (OfKey j) there))

  -- the arguments of a function are words
  arguments : (f : ℕ) (args : List ℕ) → AreArguments w.laid f args → AllByRecursion IsWord args
  arguments f args takes = (call_body w.laid fit.code.valid f args (number_low w fit args 0 f takes) takes).2

  -- ---- a Ret

  module _ (f : ℕ) (args : List ℕ) (v : ℕ) (same : Bool) (outs : List Piece) (commit : Commit) (kind : e.kind ≡ Ret f args v same outs commit) where
    ret : IsReturn i st m.thread mine f args v same outs commit
    ret = carries_so (Ret f args v same outs commit) kind

    ret_arguments : AreArguments w.laid f args
    ret_arguments = ret_takes w.laid s.want f args v same outs commit (answers_so (Ret f args v same outs commit) kind) values

    -- what is released is the region in use
    released_in_use : (o : Option Committing) → i.commits f args v ≡ o → (c : Commit) → commit ≡ c → Commits o c → ReleasesInUse st rs c
    released_in_use o eo NoRegion ec c = tt
    released_in_use o eo Withheld ec c = tt
    released_in_use None eo (Released j p) ec c = absurd cc
    released_in_use (Some q) eo (Released j p) ec c =
        let here : j ≡ q.key = released_key q.used c in
        let rule : ReleaseRule q.key (in_use st q.key rs) commit = last_rule (Ret f args v same outs commit) (i.keys_at_return f args) (key Async q.key) kind (ap (λ z. i.keys_at_return f args ++ commit_keys z) eo) in
        ap (λ z. in_use st z rs) here ∙ subst (ReleaseRule q.key (in_use st q.key rs)) ec rule here
      where
        released_key : (u : Option ℕ) → CommitsUsed q.key u (Released j p) → j ≡ q.key
        released_key None z = absurd cc
        released_key (Some n) z = z.0

    -- its regions are pending, so that they lie in memory
    held_low : (x : ℕ) → any_piece (outs ++ released commit) x ≡ true → x < 2 ^ 31
    held_low x there = elim (cases_lt x (2 ^ 31)) [
      | inl lt ↦ lt
      | inr high ↦ absurd (subst IsHeld (low w fit past follows x high).0 (handed_held_by w past m.thread x (seen_whole w fit past follows)
          (ret_handed st rs m.thread x f args outs commit ret.closes (released_in_use (i.commits f args v) refl commit refl ret.committed) there)))
    ]

    ret_body : IsWord v × (length (piece_bytes outs ++ logged commit) ≤ 9) × AllByRecursion IsPiece (piece_bytes outs ++ logged commit)
    ret_body =
        let sizes = ret_sizes w fit args v f ret_arguments in
        let many = as_many (i.used f args v) outs ret.used in
        let ranges = length-map outs (λ (p : Piece). p.range) in (
          word (type_of (func_of w.laid.code f)).result v ret.result_is,
          few_pieces outs commit (piece_ranges outs) refl (omega (arith, sizes, many, ranges)),
          all_pieces (i.used f args v) outs (i.commits f args v) commit ret.used ret.committed held_low,
        )

    ret_words : HaveWords (i.keys_at_return f args ++ commit_keys (i.commits f args v))
    ret_words =
        let all = arguments f args ret_arguments in
        let ops = or_none (added_at w.stubs f) in
        all_append HasWord (i.keys_at_return f args) (commit_keys (i.commits f args v))
        (at_return w.laid.code (called (func_of w.laid.code f) args 0) all ops)
        (of_commit w.laid.code (called (func_of w.laid.code f) args v) all ops)

  -- ---- a Call

  module _ (f : ℕ) (args : List ℕ) (ins : List Piece) (outs : List Range) (prepared : List Prepared) (kind : e.kind ≡ Call f args ins outs prepared) where
    call_arguments : AreArguments w.laid f args
    call_arguments = call_takes w.laid s.want f args ins outs prepared (answers_so (Call f args ins outs prepared) kind) values

    prepared_is : prepared ≡ i.prepares f args
    prepared_is = (carries_so (Call f args ins outs prepared) kind).3

    abbrev keys_with : List Prepared → List Key
    keys_with ps = i.keys_at_call f args ++ (map (key Callback) (i.registers f args) ++ map (λ (p : Prepared). key Async p.key) ps)

    call_few : length (sorted_keys (keys_with prepared)) ≤ 16
    call_few = subst (λ ps. length (sorted_keys (keys_with ps)) ≤ 16) (sym prepared_is) (keys_few w fit f args call_arguments)

    call_words : HaveWords (keys_with prepared)
    call_words =
        let all = arguments f args call_arguments in
        let ops = or_none (added_at w.stubs f) in
        subst (λ ps. HaveWords (keys_with ps)) (sym prepared_is)
        (all_append HasWord (i.keys_at_call f args) (map (key Callback) (i.registers f args) ++ map (λ (p : Prepared). key Async p.key) (i.prepares f args))
        (at_call w.laid.code (called (func_of w.laid.code f) args 0) all ops)
        (handed_down w.laid.code (called (func_of w.laid.code f) args 0) all ops))

  -- ---- a new block

  place_word : (bs : List Range) (n at : ℕ) → IsPlace replay_pool bs n at → at < 2 ^ 64
  place_word bs n at (inl p) = let high = p.0.high in omega (arith, high)
  place_word bs n at (inr p) = let none = p.0 in omega (arith, none)

  alloc_place : (at n : ℕ) → e.kind ≡ Alloc at n → at < 2 ^ 64
  alloc_place at n kind = place_word (blocks_from st.blocks (new_events (OfKey (key Pool 0)) rs)) n at (last_rule (Alloc at n) [] (key Pool 0) kind refl)

  -- ---- each event

  body_of : (k : EventKind) → e.kind ≡ k → IsBody (in_full (full_event k))
  body_of (Call f args ins outs prepared) kind =
      let takes = call_arguments f args ins outs prepared kind in
      call_body w.laid fit.code.valid f args (number_low w fit args 0 f takes) takes
  body_of (Ret f args v same outs commit) kind = ret_body f args v same outs commit kind
  body_of (Up f args) kind =
      let takes = (carries_so (Up f args) kind).1 in
      call_body w.laid fit.code.valid f args (number_low w fit args 0 f takes) takes
  body_of (UpRet f v) kind = result_word w.laid s.want f v (answers_so (UpRet f v) kind) values
  body_of (Alloc at n) kind = (size_word w.laid s.want at n (answers_so (Alloc at n) kind) values, alloc_place at n kind)
  body_of (Free at n) kind = freed_word w.laid s.want at n (answers_so (Free at n) kind) values
  body_of (Stop fault) kind = absurd (subst (EventAgrees w past s.thread s.want) kind (subst (Agrees w past s.thread s.side s.want) is made.agrees))

  thread_low : m.thread < 32
  thread_low = let lt = few_threads w fit.file past s in let same = made.mark.of_thread in omega (arith, lt, same)

  few_of : (k : EventKind) → e.kind ≡ k → length (sorted_keys (keys_for i m.thread mine k)) ≤ 16
  few_of (Call f args ins outs prepared) kind = call_few f args ins outs prepared kind
  few_of (Ret f args v same outs commit) kind = ret_keys w fit args v f (ret_arguments f args v same outs commit kind)
  few_of (Up f args) kind = omega arith
  few_of (UpRet f v) kind = by (is_last (tail (open_ups mine)))
    where
      by : (b : Bool) → length (sorted_keys (cond b (key Thread m.thread ∷ []) [])) ≤ 16
      by true = omega arith
      by false = omega arith
  few_of (Alloc at n) kind = omega arith
  few_of (Free at n) kind = omega arith
  few_of (Stop fault) kind = omega arith

  words_of : (k : EventKind) → e.kind ≡ k → HaveWords (keys_for i m.thread mine k)
  words_of (Call f args ins outs prepared) kind = call_words f args ins outs prepared kind
  words_of (Ret f args v same outs commit) kind = ret_words f args v same outs commit kind
  words_of (Up f args) kind = let lt = number_low w fit args 0 f (carries_so (Up f args) kind).1 in (omega (arith, lt), tt)
  words_of (UpRet f v) kind = by (is_last (tail (open_ups mine)))
    where
      by : (b : Bool) → HaveWords (cond b (key Thread m.thread ∷ []) [])
      by true = (omega (arith, thread_low), tt)
      by false = tt
  words_of (Alloc at n) kind = (omega arith, tt)
  words_of (Free at n) kind = (omega arith, tt)
  words_of (Stop fault) kind = tt

  many : length past ≤ 100_000_000
  many = few_marks w fit past follows

  tickets_low : (k : Key) → is_listed e.keys k ≡ true → ticket_in e.keys k ≤ length past
  tickets_low k there =
      let has_it : has m (OfKey k) ≡ true = ap (λ a. is_listed (keys_of a) k) is ∙ there in
      let is_so : ticket_in e.keys k ≡ length (new_events (OfKey k) rs) = sym (ap (λ a. ticket_in (keys_of a) k) is) ∙ allowed.tickets (OfKey k) has_it in
      let same : length (new_events (OfKey k) past) ≡ length (new_events (OfKey k) rs) = ap length (events_seen w past follows (OfKey k)) in
      let le = events_low (OfKey k) past in
      omega (arith, is_so, same, le)

  keys_can : AllByRecursion IsKey e.keys
  keys_can = keys_are e.keys (length past) (omega (arith, many))
      (subst HaveWords (sym keyed) (words_sorted (keys_for i m.thread mine e.kind) (words_of e.kind refl)))
      (subst AreDistinct (sym keyed) (are_distinct (keys_for i m.thread mine e.kind)))
      tickets_low

  steps_can : e.steps < 2 ^ 32
  steps_can =
      let is_so = sym (ap steps_of is) ∙ allowed.steps event in
      let le = steps_low w m.thread past in
      omega (arith, is_so, le, many)

  clock_can : e.clock < 2 ^ 32
  clock_can =
      let is_so = ap clock_of is in
      let le = clock_low w past s m made follows event in
      omega (arith, is_so, le, many)

  key_count : length e.keys ≤ 16
  key_count =
      let a = length-map e.keys (λ (q : KeyMark). q.key) in
      let b = ap length keyed in
      let c = few_of e.kind refl in
      omega (arith, a, b, c)

  record_is : full_record m ≡ record { thread = m.thread; steps = e.steps; clock = e.clock; keys = e.keys; event = full_event e.kind }
  record_is = ap (act_record m) is ∙ ap (λ (a : Act). record (record_of_act m.thread a) { event = full_event e.kind }) is

  pub can_stand : IsInFull (full_record m)
  can_stand = subst IsInFull (sym record_is) (record {
    thread = thread_low;
    steps = steps_can;
    clock = clock_can;
    key_count = key_count;
    keys = keys_can;
    body = body_of e.kind refl;
  })
