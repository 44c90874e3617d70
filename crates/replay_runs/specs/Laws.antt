-- The laws of replay runs.
use Rattle.std.specs.Prelude.{◌≡◌, ◌≢◌, ◌↔◌, ℕ, ◌-◌, ◌<◌, ◌≤◌, Bool, true, false, if◌then◌else◌, ◌==◌, ltb, List, [], ◌∷◌, ◌++◌, length, drop, Option, None}
use Rattle.run_events.specs.declared.event.Record.{Record}
use Rattle.marks.specs.Places.{is_constant, is_system}
use Rattle.marks.specs.declared.range.Range.{Range}
use Rattle.marks.specs.Ranges.{range, covers}
use Rattle.marks.specs.Marks.{Load, Store, Leave, Mark, is_event}
use Rattle.marks.specs.Bytes.{AllLive, Byte, Asks}
use Rattle.marks.specs.Wants.{Want, Loads, Stores, Leaves, is_above}
use Rattle.replay_runs.specs.Runs.{Link, OfThread, In, Start, has, marks_of, events_with, byte, DirectCause, RaceFree, Allowed, Run, Disciplined, EndsWithEvent, Trimmed, rank_in, history}
use Rattle.replay_runs.specs.Known.{NoRace, Watched}
use Rattle.replay_runs.specs.Chains.{IsLongest}
use Rattle.replay_runs.specs.Interface.{Interface, Program}
use Rattle.replay_runs.specs.Checks.{Finding, Passes, Finds, checks}
use Rattle.replay_runs.specs.Threads.{is_stopped}
use Rattle.replay_runs.specs.Rules.{OwnRules, replay_rules}
use Rattle.replay_runs.specs.Records.{record_of, output}

-- a start at which nothing was done, with this memory
abbrev pub fresh : (ℕ → Byte) → Start
fresh memory =
    record {
      parts = λ t. [];
      events = λ l. [];
      memory = memory;
      faults = 0;
      output = [];
      blocks = [];
      registered = λ f. false;
      in_use = λ k. None;
      returned = λ t f. None;
    }

abbrev pub IsReplayRun : Program → Start → List Mark → Type 0
IsReplayRun program s run = Disciplined (replay_rules program s) s run

-- q is a disciplined run too, in which each thread makes the same marks and each link has the same events,
-- so that
-- history and output are the same, and it leaves the same memory
pub record Rearranged (program : Program) (s : Start) (p q : List Mark) : Type 0 where
  pub disciplined : IsReplayRun program s q
  pub parts : (t : ℕ) → marks_of s t p ≡ marks_of s t q
  pub links : (l : Link) → events_with s l p ≡ events_with s l q
  pub bytes : (x : ℕ) → byte s x p ≡ byte s x q
  pub histories : (t : ℕ) → history record_of s t p ≡ history record_of s t q
  pub outputs : output s p ≡ output s q

-- two neighbouring marks of two threads that share no key can change places
abbrev pub NeighboursChangePlaces : Program → Start → Type 0
NeighboursChangePlaces program s =
    (later past : List Mark) (a b : Mark) → IsReplayRun program s (later ++ (b ∷ a ∷ past)) →
    a.thread ≢ b.thread → ((l : Link) → has a l ≡ true → has b l ≡ true → ⊥) →
    Rearranged program s (later ++ (b ∷ a ∷ past)) (later ++ (a ∷ b ∷ past))

abbrev pub IsAtMost : {M : Type 0} → (M → ℕ) → ℕ → List M → Type 0
IsAtMost rank n [] = Unit {0}
IsAtMost rank n (x ∷ xs) = (rank x ≤ n) × IsAtMost rank n xs

-- the newest first, so the greatest first
abbrev pub IsOrdered : {M : Type 0} → (M → ℕ) → List M → Type 0
IsOrdered rank [] = Unit {0}
IsOrdered rank (x ∷ xs) = IsAtMost rank (rank x) xs × IsOrdered rank xs

-- the interleaving of a trimmed run by (clock, thread) is such a run
abbrev pub ClocksGiveTheOrder : Program → Start → Type 0
ClocksGiveTheOrder program s =
    (p : List Mark) → IsReplayRun program s p → Trimmed s p → (q : List Mark) × IsOrdered (rank_in p) q ×
    Rearranged program s p q

-- two trimmed runs with one history are alike
abbrev pub OneHistoryOneRun : Program → Start → Type 0
OneHistoryOneRun program s =
    (p q : List Mark) → IsReplayRun program s p → Trimmed s p → IsReplayRun program s q → Trimmed s q →
    ((t : ℕ) → history record_of s t p ≡ history record_of s t q) → Rearranged program s p q

abbrev pub keep : {M : Type 0} → (M → Bool) → List M → List M
keep p [] = []
keep p (x ∷ xs) = if p x then x ∷ keep p xs else keep p xs

-- the marks up to the first k events of each thread
abbrev pub kept : (ℕ → ℕ) → Mark → Bool
kept k m = ltb m.index (k m.thread)

-- these events hold those that come directly before
abbrev pub IsClosed : (ℕ → ℕ) → List Mark → Type 0
IsClosed k run = (e f : Mark) → DirectCause run e f → f.index < k f.thread → e.index < k e.thread

-- a closed set of a run's events is a run, with every later mark of each thread dropped
abbrev pub LaterMarksCanBeDropped : Program → Start → Type 0
LaterMarksCanBeDropped program s =
    (k : ℕ → ℕ) (p : List Mark) → IsReplayRun program s p → IsClosed k p →
    IsReplayRun program s (keep (kept k) p)

-- the records of each thread, the newest first, are those of some trimmed run
pub record OfProgram (program : Program) (s : Start) (h : ℕ → List Record) : Type 0 where
  pub run : List Mark
  pub disciplined : IsReplayRun program s run
  pub trimmed : Trimmed s run
  pub is : (t : ℕ) → history record_of s t run ≡ h t

-- the first n of a list that has the newest first
abbrev pub first_of : {R : Type 0} → ℕ → List R → List R
first_of n rs = drop (length rs - n) rs

-- q ends with events, and has the first k records of each thread of p
pub record HasFirst (s : Start) (k : ℕ → ℕ) (p q : List Mark) : Type 0 where
  pub trimmed : Trimmed s q
  pub records : (t : ℕ) → history record_of s t q ≡ first_of (k t) (history record_of s t p)

-- where the start ends with events, of which none is dropped, a trimmed run without its later marks is so
abbrev pub DroppedRunsAreTrimmed : Program → Start → Type 0
DroppedRunsAreTrimmed program s =
    (k : ℕ → ℕ) (p : List Mark) → Run (replay_rules program s) s p → Trimmed s p →
    ((t : ℕ) → EndsWithEvent (s.parts t)) → ((t : ℕ) → length (s.events (OfThread t)) ≤ k t) →
    HasFirst s k p (keep (kept k) p)

-- so the records of a closed set of events are of the program
abbrev pub ClosedSetsAreRuns : Program → Start → Type 0
ClosedSetsAreRuns program s =
    (k : ℕ → ℕ) (h : ℕ → List Record) (of : OfProgram program s h) → IsClosed k of.run →
    ((t : ℕ) → EndsWithEvent (s.parts t)) → ((t : ℕ) → length (s.events (OfThread t)) ≤ k t) →
    OfProgram program s (λ t. first_of (k t) (h t))

-- no thread is left above the cut without a Stop
abbrev pub NoneLeft : Program → Start → List Mark → Type 0
NoneLeft program s run = (t : ℕ) → is_above (program.want t (marks_of s t run)) ≡ true →
    is_stopped (marks_of s t run) ≡ true

-- and in such a run no thread is left above the cut
pub record WhollyOfProgram (program : Program) (s : Start) (h : ℕ → List Record) : Type 0 where
  pub of : OfProgram program s h
  pub none_left : NoneLeft program s of.run

-- whether a thread is left is a matter of the records
abbrev pub RecordsTellWhoIsLeft : Program → Start → Type 0
RecordsTellWhoIsLeft program s =
    (h : ℕ → List Record) → WhollyOfProgram program s h → (of : OfProgram program s h) →
    NoneLeft program s of.run

-- the start's parts end with events, which are among these records
pub record Begins (s : Start) (h : ℕ → List Record) : Type 0 where
  pub trimmed : (t : ℕ) → EndsWithEvent (s.parts t)
  pub among : (t : ℕ) → length (s.events (OfThread t)) ≤ length (h t)

-- one more record of a thread
abbrev pub added : (ℕ → List Record) → ℕ → Record → ℕ → List Record
added h t e u = if u == t then e ∷ h u else h u

abbrev pub ClocksAtMost : ℕ → List Record → Type 0
ClocksAtMost n [] = Unit {0}
ClocksAtMost n (e ∷ es) = (e.clock ≤ n) × ClocksAtMost n es

abbrev pub AllOf : ℕ → List Mark → Type 0
AllOf t [] = Unit {0}
AllOf t (m ∷ ms) = (m.thread ≡ t) × AllOf t ms

-- o goes on with marks of the thread t up to its next event, and has these records then
pub record GoesOn (program : Program) (s : Start) (o : List Mark) (t : ℕ) (h : ℕ → List Record) :
    Type 0 where
  pub new : List Mark
  pub of_t : AllOf t new
  pub disciplined : IsReplayRun program s (new ++ o)
  pub trimmed : Trimmed s (new ++ o)
  pub is : (u : ℕ) → history record_of s u (new ++ o) ≡ h u

-- where records with one more, of the greatest clock, are of the program, each run of the others goes on to
-- it
abbrev pub OneMoreRecord : Program → Start → Type 0
OneMoreRecord program s =
    (t : ℕ) (h : ℕ → List Record) (e : Record) → ((u : ℕ) → ClocksAtMost e.clock (h u)) → Begins s h →
    OfProgram program s (added h t e) → (o : List Mark) → IsReplayRun program s o → Trimmed s o →
    ((u : ℕ) → history record_of s u o ≡ h u) → GoesOn program s o t (added h t e)

-- and the others are of the program
abbrev pub OneRecordLess : Program → Start → Type 0
OneRecordLess program s =
    (t : ℕ) (h : ℕ → List Record) (e : Record) → ((u : ℕ) → ClocksAtMost e.clock (h u)) → Begins s h →
    OfProgram program s (added h t e) → OfProgram program s h

-- the next mark of a run is allowed and passes the test for races; if it is no event, it is the only mark
-- of its thread
-- that the code and memory allow there
pub record IsNext (program : Program) (s : Start) (past : List Mark) (m : Mark) : Type 0 where
  pub allowed : Allowed (replay_rules program s) s past m
  pub no_race : NoRace past m
  pub only : is_event m.act ≡ false → (n : Mark) → m.thread ≡ n.thread → m.index ≡ n.index →
      is_event n.act ≡ false → OwnRules program s (marks_of s n.thread past) n →
      Asks n.act (λ x. byte s x past) → m ≡ n

abbrev pub EachMarkIsTheNext : Program → Start → Type 0
EachMarkIsTheNext program s =
    (later past : List Mark) (m : Mark) → IsReplayRun program s (later ++ (m ∷ past)) →
    IsNext program s past m

-- step by step, no race with an earlier access is the rule of the whole run
abbrev pub RacesAreFoundStepByStep : Program → Start → Type 0
RacesAreFoundStepByStep program s =
    (past : List Mark) (m : Mark) → Run (replay_rules program s) s (m ∷ past) →
    RaceFree (m ∷ past) ↔ (RaceFree past × NoRace past m)

-- and it is enough to look at the last accesses of each thread
abbrev pub LastAccessesTell : Program → Start → Type 0
LastAccessesTell program s =
    (past : List Mark) (m : Mark) → Run (replay_rules program s) s past → NoRace past m ↔ Watched past m

-- from a start before which there was no event, clocks that are counted step by step are the lengths of the
-- longest chains
abbrev pub ClocksAreLongestChains : Program → Start → Type 0
ClocksAreLongestChains program s =
    ((l : Link) → s.events l ≡ []) → (run : List Mark) → Run (replay_rules program s) s run → (e : Mark) →
    In e run → is_event e.act ≡ true → IsLongest run e

-- nothing disturbs the access of a range by m: it races with no earlier one, and each byte is live, not
-- pending, of
-- replay memory and, if it is written, no constant
pub record Undisturbed (s : Start) (past : List Mark) (m : Mark) (write : Bool) (r : Range) : Type 0 where
  pub no_race : NoRace past m
  pub live : AllLive r (λ x. byte s x past)
  pub own_space : (x : ℕ) → covers r x ≡ true → is_system x ≡ false
  pub writable : write ≡ true → (x : ℕ) → covers r x ≡ true → is_constant x ≡ false

-- the checks of a load, a store and the end of a frame pass exactly where nothing disturbs the access
pub record ChecksAreExact (i : Interface) (s : Start) (past : List Mark) (m : Mark) : Type 0 where
  pub loads : (o : Option ℕ) (at : ℕ) (bytes : List ℕ) → m.act ≡ Load o at bytes →
      Passes (checks i s past m.thread (Loads o at (length bytes))) ↔ Undisturbed s past m false
      (range at (length bytes))
  pub stores : (o : Option ℕ) (at : ℕ) (bytes : List ℕ) → m.act ≡ Store o at bytes →
      Passes (checks i s past m.thread (Stores o at bytes)) ↔ Undisturbed s past m true
      (range at (length bytes))
  pub leaves : (at size : ℕ) → m.act ≡ Leave at size →
      Passes (checks i s past m.thread (Leaves at size)) ↔ Undisturbed s past m true (range at size)

-- what a list of checks finds and that it passes exclude each other
abbrev pub FindsOrPasses : Interface → Start → List Mark → ℕ → Want → Type 0
FindsOrPasses i s past t want = (f : Finding) → Finds (checks i s past t want) f →
    Passes (checks i s past t want) → ⊥
