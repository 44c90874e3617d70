-- A thread after the other gets its Stop, up to the end of the recording.
use Rattle.std.proofs.Common.{◌≡◌, ℕ, suc, ◌+◌, ◌<◌, ◌≤◌, true, false, List, [], ◌∷◌, ◌++◌, map, length, Option, Some, None, Result, Ok, Err, refl, sym, ap, ◌∙◌, subst, add-one, arith}
use Rattle.std.proofs.lemmas.List.{append-nil}
use Rattle.std.specs.Prelude.{OnOk}
use Rattle.run_events.specs.declared.event.Reason.{Reason}
use Rattle.run_events.specs.declared.event.Record.{Record}
use Rattle.run_events.specs.declared.key.KeyMark.{KeyMark}
use Rattle.marks.specs.declared.fault.FaultKind.{FaultKind}
use Rattle.marks.specs.declared.fault.FaultKind.TheVariants.{Divide, Shift, NotLive, ReadOnly, StackFull, BadCall}
use Rattle.marks.specs.Marks.{Mark}
use Rattle.log_codec.specs.LogText.{IsReason}
use Rattle.replay_runs.specs.Runs.{marks_of}
use Rattle.replay_runs.specs.Records.{reason_of}
use Rattle.replay_runs.specs.Threads.{fault_of}
use Rattle.space_memory.specs.Spaces.{SpaceState}
use Rattle.space_memory_laws.specs.StandsFor.{StandsFor}
use Rattle.space_memory_laws.proofs.Quiet.{quiet}
use Rattle.steps_above_stamps.specs.State.{StampsState}
use Rattle.steps_above_stamps.specs.Stamps.{AreStampsOf, CanBeRecorded, CountsEvent, IsStampAfter}
use Rattle.steps_above_stamps.specs.declared.stamps.EventStamp.{EventStamp}
use Rattle.whole_runs.specs.declared.ending.Ending.{Ending}
use Rattle.whole_runs.specs.World.{World, begin}
use Rattle.whole_runs.specs.Sides.{seen}
use Rattle.whole_runs.specs.Outcomes.{started}
use Rattle.whole_runs.specs.Threads.{in_replay_mode}
use Rattle.whole_runs.specs.Log.{replay_output, system_output}
use Rattle.whole_runs.specs.Ends.{stop_of}
use Rattle.whole_runs.specs.Recorded.{IsRecording}
use Rattle.whole_runs_seen.proofs.BeforeStops.{IsBeforeStops, after_last}
use Rattle.recorder_memory.specs.Stands.{placed}
use Rattle.recorder_threads.proofs.Places.{count_is}
use Rattle.recorder_book.specs.Book.{Adds, BookState, GivesLog, GivesRecords, IsBookOf}
use Rattle.recorder_book.specs.Sizes.{IsInFull}
use Rattle.recorder_state.specs.declared.state.RunState.{RunState}
use Rattle.recorder_state.specs.Ends.{IsEnded}
use Rattle.recorder_end.specs.Stops.{IsStopping, reason_at, with_stops}
use Rattle.recorder_end.proofs.Stopped.{all_keep, entry_is, entry_of, no_keys, no_more, one_more, stamps_after}
use Rattle.recorder_end.proofs.Reasons.{reason_is}
use Rattle.recorder_end.proofs.Few.{IsBookSmall, book_small, stamps_few}

-- a fault has a number that logs have
numbered : (fault : Option FaultKind) → IsReason (reason_of fault)
numbered None = tt
numbered (Some Divide) = (omega arith, omega arith)
numbered (Some Shift) = (omega arith, omega arith)
numbered (Some NotLive) = (omega arith, omega arith)
numbered (Some ReadOnly) = (omega arith, omega arith)
numbered (Some StackFull) = (omega arith, omega arith)
numbered (Some BadCall) = (omega arith, omega arith)

-- what is given on
pub on_ok : {A E P Q : Type 0} (r : Result A E) → (P → Q) → OnOk r P → OnOk r Q
on_ok (Ok a) go p = go p
on_ok (Err e) go p = p

-- before the first Stop
pub begins : (w : World) (s : RunState) (e : Ending) → IsEnded w s e → IsStopping w s e 0
begins w s e h = record {
  fit = h.fit;
  past = h.past;
  follows = h.follows;
  last = h.last;
  ends = h.ends;
  spaces = h.spaces;
  threads = h.shown.threads;
  output = h.shown.output;
  system_output = h.shown.system_output;
  stamps = h.shown.stamps;
  book = h.shown.book;
}

module _ (w : World) (s : RunState) (e : Ending) (n : ℕ) (h : IsStopping w s e n) where
  abbrev run : List Mark
  run = h.last ++ h.past

  abbrev before : List Mark
  before = with_stops w run n

  there : IsBeforeStops w run
  there = after_last w h.fit h.past h.follows h.last e h.ends

  pub is_few : length s.threads ≤ 32
  is_few = let c = count_is w run s.threads h.threads in let few = there.few in omega (arith, c, few)

  -- the state with other stamps and another book
  moved : (m : List Mark) → with_stops w run (suc n) ≡ m → (stamps : StampsState) (book : BookState) → AreStampsOf (placed w) (seen m) stamps → IsBookOf w m book → IsStopping w (record s { stamps = stamps; book = book }) e (n + 1)
  moved m is stamps book stand books = record {
    fit = h.fit;
    past = h.past;
    follows = h.follows;
    last = h.last;
    ends = h.ends;
    spaces = h.spaces;
    threads = h.threads;
    output = h.output;
    system_output = h.system_output;
    stamps = subst (λ k. AreStampsOf (placed w) (seen (with_stops w run k)) stamps) (sym (add-one n)) (subst (λ ms. AreStampsOf (placed w) (seen ms) stamps) (sym is) stand);
    book = subst (λ k. IsBookOf w (with_stops w run k) book) (sym (add-one n)) (subst (λ ms. IsBookOf w ms book) (sym is) books);
  }

  -- the thread doesn't stand in replay mode
  pub passed : in_replay_mode w run n ≡ false → IsStopping w s e (n + 1)
  passed out = moved before (no_more w run n out) s.stamps s.book h.stamps h.book

  -- it does
  module _ (small : n < length s.threads) where
    pub below : n < 32
    below = let few = is_few in omega (arith, small, few)

    pub few_events : s.stamps.clocks.events < 4000000000
    few_events = stamps_few w h.past h.follows h.last e h.ends n below h.fit s.stamps h.stamps

    pub few_records : IsBookSmall w h.past h.follows h.last e h.ends n below s.book
    few_records = book_small w h.past h.follows h.last e h.ends n below s.book h.book

  module _ (stamp : EventStamp) (none : map (λ (q : KeyMark). q.key) stamp.keys ≡ []) (r : Reason) (told : r ≡ reason_at e n) where
    reason_so : r ≡ reason_of (fault_of (marks_of (begin w) n (seen run)))
    reason_so = told ∙ reason_is w h.past h.follows n h.last e h.ends

    pub in_full_form : n < 32 → CanBeRecorded stamp → IsInFull (entry_of n stamp r)
    in_full_form small ranges = record {
      thread = small;
      steps = ranges.steps;
      clock = ranges.clock;
      key_count = let z = ap length (no_keys stamp.keys none) in omega (arith, z);
      keys = ranges.keys;
      body = subst IsReason (sym reason_so) (numbered (fault_of (marks_of (begin w) n (seen run))));
    }

    pub stopped : in_replay_mode w run n ≡ true → (stamps : StampsState) → IsStampAfter s.stamps n stamp → CountsEvent n stamp s.stamps stamps
        → (book : BookState) → Adds (entry_of n stamp r) s.book book → IsStopping w (record s { stamps = stamps; book = book }) e (n + 1)
    stopped on stamps after counts book adds =
        moved (stop_of w run n ∷ before) (one_more w run n on) stamps book
        (stamps_after w run there n stamp none s.stamps after h.stamps stamps counts)
        (adds w before (stop_of w run n) refl (entry_is w run there n stamp none s.stamps after h.stamps r reason_so) h.book)

-- ---- the end

module _ (w : World) (s : RunState) (e : Ending) (h : IsStopping w s e (length s.threads)) where
  abbrev all : List Mark
  all = h.last ++ h.past

  abbrev whole : List Mark
  whole = with_stops w all (started all)

  same : length s.threads ≡ started all
  same = count_is w all s.threads h.threads

  pub recording : (log : List ℕ) (threads : List (List Record)) (memory : SpaceState) (printed under : List ℕ) → GivesLog s.book log → GivesRecords s.book threads
      → memory ≡ s.memory.above.spaces → printed ≡ s.output.items → under ≡ s.system_output.items
      → IsRecording w (record { log = log; threads = threads; memory = memory; output = printed; system_output = under; ending = e })
  recording log threads memory printed under logs records kept out quiet_below =
      let books : IsBookOf w whole s.book = subst (λ k. IsBookOf w (with_stops w all k) s.book) same h.book in
      record {
        run = whole;
        is_run = record { past = h.past; follows = h.follows; last = h.last; ends = h.ends; run_is = refl };
        log = logs w whole books;
        threads = records w whole books;
        memory = subst (StandsFor (begin w) (seen whole)) (sym kept) (all_keep w all (λ ms. StandsFor (begin w) (seen ms) s.memory.above.spaces) h.spaces (λ t ms k. quiet (begin w) (seen ms) s.memory.above.spaces (stop_of w all t) k tt) (started all));
        output = out ∙ (h.output ∙ sym (all_keep w all (λ ms. replay_output w ms ≡ replay_output w all) refl (λ t ms k. k) (started all)));
        system_output = quiet_below ∙ (h.system_output ∙ sym (all_keep w all (λ ms. system_output ms ≡ system_output all) refl (λ t ms k. append-nil (system_output ms) ∙ k) (started all)));
      }
