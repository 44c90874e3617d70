-- Whole runs that are tried out: each mark as the next one, and the end.
use Rattle.std.proofs.Common.{◌≡◌, inl, ⊎_elim, ℕ, ◌+◌, ◌%◌, ◌≤◌, Bool, true, false, ◌&&◌, ◌||◌, not, eqb, leb, ltb, List, [], ◌∷◌, ◌++◌, length, Option, Some, None, refl, sym, ap, ◌∙◌, arith, eqb-true}
use Rattle.std.specs.Prelude.{is_some}
use Rattle.std.proofs.lemmas.Bool.{leb-true, ltb-true, and_parts, or_cases, true≢false}
use Rattle.marks.specs.declared.side.Side.{Side}
use Rattle.marks.specs.declared.side.Side.TheVariants.{Replay, System}
use Rattle.marks.specs.declared.fault.FaultKind.{FaultKind}
use Rattle.marks.specs.declared.breach.BreachKind.{BreachKind}
use Rattle.marks.specs.Places.{is_constant, pool_size, alignment, system_pool}
use Rattle.marks.specs.declared.range.Range.{Range}
use Rattle.marks.specs.Ranges.{Piece, piece_ranges}
use Rattle.marks.specs.Marks.{EventKind, Call, Ret, Up, UpRet, Alloc, Free, Stop, Act, Turn, Load, Store, Enter, Leave, Step, Made, Mark, is_event, released}
use Rattle.marks.specs.Marks as marks
use Rattle.marks.specs.Bytes.{granted, reads, writes}
use Rattle.marks.specs.Wants.{Want, Outside, Turns, Loads, Stores, Enters, Leaves, Allocs, Frees, Calls, Below, Gives, Returns, CallsBack, UpReturns, Steps, Fails, Answer, Go, Value, Frame, CalledBack, Stopped, same_numbers}
use Rattle.c_builtins.specs.declared.builtin.Builtin.{Builtin}
use Rattle.c_builtins.specs.declared.builtin.Builtin.TheVariants as builtins
use Rattle.c_code.specs.Machine.{Config, first}
use Rattle.c_code.specs.MarkLists.{Next, Quiet, Wants, Ends, No, same_side, reply}
use Rattle.replay_runs.specs.Pool.{IsPlace}
use Rattle.replay_runs.specs.Rules.{AreWhole}
use Rattle.replay_runs.specs.Checks.{FaultFound, BreachFound}
use Rattle.replay_runs.specs.Threads.{act_fault}
use Rattle.replay_runs.proofs.Replies.{same_numbers_true}
use Rattle.marks.proofs.Touched.{or_true_right}
use Rattle.replay_runs_examples.proofs.Bytes.{for_touched, for_touched_true}
use Rattle.replay_runs_examples.proofs.Parts.{not_true, same_ranges, same_ranges_true, whole, whole_true}
use Rattle.system_side.specs.System.{is_thread}
use Rattle.whole_runs.specs.declared.ending.Ending.TheVariants as ending
use Rattle.whole_runs.specs.declared.ending.Halt.TheVariants as halt
use Rattle.whole_runs.specs.World.{World}
use Rattle.whole_runs.specs.Sides.{seen, events_by, place_on}
use Rattle.whole_runs.specs.Outcomes.{builtin_of}
use Rattle.whole_runs.specs.Threads.{comes}
use Rattle.whole_runs.specs.Picks.{asked, stepping, all_ended}
use Rattle.whole_runs.specs.Memory.{real, HasAll}
use Rattle.whole_runs.specs.Below.{Given, ByPool, Says, NoMore, given, system_blocks, block_at, targets, pieces_for}
use Rattle.whole_runs.specs.Tests.{with_answer}
use Rattle.whole_runs.specs.Steps.{StepOf, IsAllocation, IsRelease, GivesStep, IsOtherStep, IsStep, BringsGiven, Brings, EventAgrees, Agrees, GoesOn, Picked, goes_up, read_by, zeros}
use Rattle.whole_runs.specs.Records.{size_of}
use Rattle.whole_runs.specs.Ends.{IsLast, breach, fault, script, fault_end, breach_end, IsNext, HasRoomFor, Follows, most_events, most_bytes, events_of, bytes_of}
use Rattle.whole_runs_laws.proofs.Deciding.{tests_tested}
use Rattle.whole_runs_examples.proofs.Tried.{Tried, always, never, both, same_number, is_so, not_so}
use Rattle.whole_runs_examples.proofs.Allowing.{is_allowed, allowed, has}

-- ---- lists

abbrev same_pieces : List Piece → List Piece → Bool
same_pieces [] [] = true
same_pieces (p ∷ ps) (q ∷ qs) = (eqb p.range.addr q.range.addr && eqb p.range.len q.range.len) && (same_numbers p.bytes q.bytes && same_pieces ps qs)
same_pieces [] (q ∷ qs) = false
same_pieces (p ∷ ps) [] = false

pub same_pieces_true : (ps qs : List Piece) → same_pieces ps qs ≡ true → ps ≡ qs
same_pieces_true [] [] h = refl
same_pieces_true [] (q ∷ qs) h = absurd (true≢false (sym h))
same_pieces_true (p ∷ ps) [] h = absurd (true≢false (sym h))
same_pieces_true (p ∷ ps) (q ∷ qs) h =
    let a = and_parts (eqb p.range.addr q.range.addr && eqb p.range.len q.range.len) (same_numbers p.bytes q.bytes && same_pieces ps qs) h in
    let b = and_parts (eqb p.range.addr q.range.addr) (eqb p.range.len q.range.len) a.0 in
    let c = and_parts (same_numbers p.bytes q.bytes) (same_pieces ps qs) a.1 in
    let addr : p.range.addr ≡ q.range.addr = eqb-true _ _ b.0 in
    let len : p.range.len ≡ q.range.len = eqb-true _ _ b.1 in
    let bytes : p.bytes ≡ q.bytes = same_numbers_true p.bytes q.bytes c.0 in
    let others : ps ≡ qs = same_pieces_true ps qs c.1 in
    λ i. record { range = record { addr = addr i; len = len i }; bytes = bytes i } ∷ others i

abbrev pieces_are : (ps qs : List Piece) → Tried (ps ≡ qs)
pieces_are ps qs = record { test = same_pieces ps qs; holds = λ h. same_pieces_true ps qs h }

abbrev ranges_are : (rs qs : List Range) → Tried (rs ≡ qs)
ranges_are rs qs = record { test = same_ranges rs qs; holds = λ h. same_ranges_true rs qs h }

abbrev are_whole : (ps : List Piece) → Tried (AreWhole ps)
are_whole ps = record { test = whole ps; holds = λ h. whole_true ps h }

abbrev has_all : (memory : ℕ → Option ℕ) (ps : List Piece) → Tried (HasAll memory ps)
has_all memory [] = always tt
has_all memory (p ∷ ps) = both (has memory p.range.addr p.bytes) (has_all memory ps)

-- ---- the first block below the cut

abbrev first_place : List Range → ℕ → ℕ → Bool
first_place [] size at = eqb at system_pool && (leb 1 size && leb size pool_size)
first_place (b ∷ bs) size at = false

pub first_place_true : (bs : List Range) (size at : ℕ) → first_place bs size at ≡ true → IsPlace system_pool bs size at
first_place_true [] size at h =
    let a = and_parts (eqb at system_pool) _ h in
    let b = and_parts (leb 1 size) (leb size pool_size) a.1 in
    let is : at ≡ system_pool = eqb-true _ _ a.0 in
    let low : 1 ≤ size = leb-true _ _ b.0 in
    let high : size ≤ pool_size = leb-true _ _ b.1 in
    inl (record { some = low; aligned = ap (λ z. z % alignment) is; low = omega (arith, is); high = omega (arith, is, high); free = tt }, λ x f. omega (arith, is, f.low))
first_place_true (b ∷ bs) size at h = absurd (true≢false (sym h))

abbrev is_placed : (bs : List Range) (size at : ℕ) → Tried (IsPlace system_pool bs size at)
is_placed bs size at = record { test = first_place bs size at; holds = λ h. first_place_true bs size at h }

-- ---- what memory and the file say of a mark

module _ (w : World) (past : List Mark) (t : ℕ) where
  abbrev allocates : (s : StepOf) → Tried (IsAllocation past s)
  allocates s =
      let a = both (is_placed (system_blocks past) (first s.args) s.result) (both (pieces_are s.ins []) (both (pieces_are s.pieces (zeros s.result (granted s.result (first s.args)))) (ranges_are s.freed []))) in
      record { test = a.test; holds = λ h. let p = a.holds h in record { place = p.0; ins = p.1.0; pieces = p.1.1.0; freed = p.1.1.1 } }

  abbrev releases : (s : StepOf) → Tried (IsRelease past s)
  releases s =
      let a = both (same_number s.result 0) (both (pieces_are s.ins []) (both (pieces_are s.pieces []) (ranges_are s.freed (block_at (first s.args) past)))) in
      record { test = a.test; holds = λ h. let p = a.holds h in record { result = p.0; ins = p.1.0; pieces = p.1.1.0; freed = p.1.1.1 } }

  abbrev gives_step : (s : StepOf) (g : Given) → Tried (GivesStep w past s g)
  gives_step s ByPool = never
  gives_step s (Says v pieces) =
      let a = both (same_number s.result v) (both (ranges_are (piece_ranges s.ins) (read_by w s.func s.args (builtin_of s.func))) (both (are_whole s.ins) (both (has_all (real w past) s.ins) (both (pieces_are s.pieces (pieces_for (targets w System past s.func s.args s.result) pieces)) (ranges_are s.freed []))))) in
      record { test = a.test; holds = λ h. let p = a.holds h in record { result_is = p.0; ins = p.1.0; whole = p.1.1.0; read = p.1.1.1.0; pieces_are = p.1.1.1.1.0; freed = p.1.1.1.1.1 } }
  gives_step s NoMore = never

  abbrev other_step : (s : StepOf) → Tried (IsOtherStep w past t s)
  other_step s = gives_step s (given w past t s.func s.args)

  abbrev is_step : (s : StepOf) (b : Option Builtin) → Tried (IsStep w past t s b)
  is_step s (Some builtins.Malloc) = allocates s
  is_step s (Some builtins.Free) = releases s
  is_step s (Some builtins.Spawn) = other_step s
  is_step s (Some builtins.Join) = other_step s
  is_step s (Some builtins.Lock) = other_step s
  is_step s (Some builtins.Unlock) = other_step s
  is_step s (Some builtins.Print) = other_step s
  is_step s None = other_step s

  abbrev brings_given : (f : ℕ) (args : List ℕ) (v : ℕ) (up : List Piece) (g : Given) → Tried (BringsGiven w past f args v up g)
  brings_given f args v up ByPool = never
  brings_given f args v up (Says u pieces) = both (same_number v u) (has_all (with_answer w past f args v pieces) up)
  brings_given f args v up NoMore = never

  abbrev brings : (want : Want) (v : ℕ) (up : List Piece) → Tried (Brings w past t want v up)
  brings (Gives f args) v up = brings_given f args v up (given w past t f args)
  brings (Returns f args u) v up = has_all (real w past) up
  brings Outside v up = never
  brings Turns v up = never
  brings (Loads origin at width) v up = never
  brings (Stores origin at bytes) v up = never
  brings (Enters indirect f args bytes) v up = never
  brings (Leaves at size) v up = never
  brings (Allocs size) v up = never
  brings (Frees at) v up = never
  brings (Calls indirect f args) v up = never
  brings (Below f args) v up = never
  brings (CallsBack f args bytes) v up = never
  brings (UpReturns f u) v up = never
  brings (Steps indirect f args) v up = never
  brings (Fails kind) v up = never

  abbrev event_agrees : (want : Want) (k : EventKind) → Tried (EventAgrees w past t want k)
  event_agrees want (Call f args ins outs prepared) = always tt
  event_agrees want (Ret f args v same outs commit) = brings want v (outs ++ released commit)
  event_agrees want (Up f args) = is_so (goes_up w past want)
  event_agrees want (UpRet f v) = always tt
  event_agrees want (Alloc at size) = always tt
  event_agrees want (Free at size) = always tt
  event_agrees want (Stop reason) = never

  abbrev pub agrees : (side : Side) (want : Want) (a : Act) → Tried (Agrees w past t side want a)
  agrees side want Turn = always tt
  agrees side want (Load origin at bytes) = has (real w past) at bytes
  agrees side want (Store origin at bytes) = always tt
  agrees side want (Enter f args at bytes) = both (not_so (goes_up w past want)) (same_number at (place_on w side t past))
  agrees side want (Leave at size) = always tt
  agrees side want (Step f args v ins pieces freed) = is_step (record { func = f; args = args; result = v; ins = ins; pieces = pieces; freed = freed }) (builtin_of f)
  agrees side want (marks.Fault kind crosses ins outs access) = never
  agrees side want (Made e) = event_agrees want e.kind

-- ---- the next mark

abbrev pub has_room_for : List Mark → Mark → Bool
has_room_for past m = not (is_event m.act) || (ltb (length (events_of past)) most_events && leb (bytes_of past + size_of m) most_bytes)

room_parts : (past : List Mark) (m : Mark) → has_room_for past m ≡ true → is_event m.act ≡ true → (ltb (length (events_of past)) most_events && leb (bytes_of past + size_of m) most_bytes) ≡ true
room_parts past m h e =
    ⊎_elim
    (λ z. absurd (true≢false (sym e ∙ not_true (is_event m.act) z)))
    (λ z. z)
    (or_cases (not (is_event m.act)) (ltb (length (events_of past)) most_events && leb (bytes_of past + size_of m) most_bytes) h)

room_for : (past : List Mark) (m : Mark) → has_room_for past m ≡ true → HasRoomFor past m
room_for past m h = record {
  events = λ e. ltb-true _ _ (and_parts (ltb (length (events_of past)) most_events) (leb (bytes_of past + size_of m) most_bytes) (room_parts past m h e)).0;
  bytes = λ e. leb-true _ _ (and_parts (ltb (length (events_of past)) most_events) (leb (bytes_of past + size_of m) most_bytes) (room_parts past m h e)).1;
}

thread_is : (t : ℕ) (o : Option ℕ) → is_thread t o ≡ true → o ≡ Some t
thread_is t None h = absurd (true≢false (sym h))
thread_is t (Some u) h = ap Some (eqb-true u t h)

module _ (w : World) where
  abbrev pub going : List Mark → Bool
  going past = not (all_ended w past) && ltb (length past) w.file.budget

  pub goes_on : (past : List Mark) → going past ≡ true → GoesOn w past
  goes_on past h =
      let p = and_parts (not (all_ended w past)) (ltb (length past) w.file.budget) h in
      record { running = not_true (all_ended w past) p.0; in_budget = ltb-true _ _ p.1 }

  abbrev allowed_or_below : List Mark → Want → Mark → Bool
  allowed_or_below past want m = same_side m.side System || is_allowed w (seen past) want m

  -- the mark is what the code comes to
  abbrev answers : List Mark → Mark → Next → Bool
  answers past m (Quiet c) = false
  answers past m (Wants side want to) = is_some (reply side want m) && ((agrees w past m.thread side want m.act).test && ((tests_tested w past m.thread side want).test && allowed_or_below past want m))
  answers past m (Ends v) = false
  answers past m No = false

  abbrev pub is_next : List Mark → Mark → Bool
  is_next past m = going past && (is_thread m.thread (stepping w past) && (eqb m.index (events_by w m.thread past) && (answers past m (comes w past m.thread) && has_room_for past m)))

  pub next_is : (past : List Mark) (m : Mark) → is_next past m ≡ true → IsNext w past m
  next_is past m h =
      let a = and_parts (going past) _ h in
      let b = and_parts (is_thread m.thread (stepping w past)) _ a.1 in
      let c = and_parts (eqb m.index (events_by w m.thread past)) _ b.1 in
      let d = and_parts (answers past m (comes w past m.thread)) (has_room_for past m) c.1 in
      go (comes w past m.thread) refl a.0 b.0 c.0 d.0 d.1
    where
      above_is : (want : Want) → allowed_or_below past want m ≡ true → m.side ≡ Replay → is_allowed w (seen past) want m ≡ true
      above_is want h s =
          ⊎_elim
          (λ z. absurd (true≢false (sym z ∙ ap (λ d. same_side d System) s)))
          (λ z. z)
          (or_cases (same_side m.side System) (is_allowed w (seen past) want m) h)

      go : (n : Next) → comes w past m.thread ≡ n → going past ≡ true → is_thread m.thread (stepping w past) ≡ true → eqb m.index (events_by w m.thread past) ≡ true → answers past m n ≡ true → has_room_for past m ≡ true → IsNext w past m
      go (Quiet c) e a b i x r = absurd (true≢false (sym x))
      go (Ends v) e a b i x r = absurd (true≢false (sym x))
      go No e a b i x r = absurd (true≢false (sym x))
      go (Wants side want to) e a b i x r =
          let p = and_parts (is_some (reply side want m)) _ x in
          let q = and_parts ((agrees w past m.thread side want m.act).test) _ p.1 in
          let y = and_parts ((tests_tested w past m.thread side want).test) (allowed_or_below past want m) q.1 in
          record {
            step = record { goes_on = goes_on past a; thread = m.thread; picked = thread_is m.thread (stepping w past) b; side = side; want = want; to = to; comes_is = e };
            made = record {
              mark = record { of_thread = refl; index = eqb-true _ _ i; above = λ s. allowed w (seen past) want m (above_is want y.1 s) };
              replies = p.0;
              agrees = (agrees w past m.thread side want m.act).holds q.0;
              passes = (tests_tested w past m.thread side want).passes y.0;
            };
            room = room_for past m r;
          }

  abbrev pub follows : List Mark → Bool
  follows [] = true
  follows (m ∷ past) = is_next past m && follows past

  pub follows_is : (run : List Mark) → follows run ≡ true → Follows w run
  follows_is [] h = tt
  follows_is (m ∷ past) h = let p = and_parts (is_next past m) (follows past) h in (next_is past m p.0, follows_is past p.1)

-- ---- the end

abbrev pub pick : (w : World) (past : List Mark) (t : ℕ) (side : Side) (want : Want) (to : Answer → Config) → going w past ≡ true → stepping w past ≡ Some t → comes w past t ≡ Wants side want to → Picked w past
pick w past t side want to g p c = record { goes_on = goes_on w past g; thread = t; picked = p; side = side; want = want; to = to; comes_is = c }

pub breach_ends : (w : World) (past : List Mark) (t : ℕ) (side : Side) (want : Want) (to : Answer → Config) (kind : BreachKind) (x : ℕ) (other : Option ℕ) → going w past ≡ true → stepping w past ≡ Some t → comes w past t ≡ Wants side want to → (tests_tested w past t side want).found ≡ Some (BreachFound kind x other) → IsLast w past [] (breach_end kind t x other)
breach_ends w past t side want to kind x other g p c f = breach kind x other (pick w past t side want to g p c) ((tests_tested w past t side want).finds (BreachFound kind x other) f)

pub script_ends : (w : World) (past : List Mark) (t : ℕ) (side : Side) (want : Want) (to : Answer → Config) (f : ℕ) (args : List ℕ) → going w past ≡ true → stepping w past ≡ Some t → comes w past t ≡ Wants side want to → (tests_tested w past t side want).test ≡ true → asked want ≡ Some (record { func = f; args = args }) → given w past t f args ≡ NoMore → IsLast w past [] (ending.Halted (halt.Script f))
script_ends w past t side want to f args g p c h a n = script (pick w past t side want to g p c) ((tests_tested w past t side want).passes h) (record { args = args; asks = a; none = n })

-- ---- faults

abbrev pub is_stopped_by : Option Answer → Bool
is_stopped_by None = false
is_stopped_by (Some Go) = false
is_stopped_by (Some (Value v)) = false
is_stopped_by (Some (Frame at)) = false
is_stopped_by (Some (CalledBack f args)) = false
is_stopped_by (Some Stopped) = true

stopped_by : (o : Option Answer) → is_stopped_by o ≡ true → o ≡ Some Stopped
stopped_by (Some Stopped) h = refl
stopped_by None h = absurd (true≢false (sym h))
stopped_by (Some Go) h = absurd (true≢false (sym h))
stopped_by (Some (Value v)) h = absurd (true≢false (sym h))
stopped_by (Some (Frame at)) h = absurd (true≢false (sym h))
stopped_by (Some (CalledBack f args)) h = absurd (true≢false (sym h))

abbrev pub writes_no_constant : Act → Bool
writes_no_constant a = for_touched a (λ x. not (writes a x) || not (is_constant x))

no_constant : (a : Act) → writes_no_constant a ≡ true → (x : ℕ) → writes a x ≡ true → is_constant x ≡ false
no_constant a h x e =
    ⊎_elim
    (λ z. absurd (true≢false (sym e ∙ not_true (writes a x) z)))
    (λ z. not_true (is_constant x) z)
    (or_cases (not (writes a x)) (not (is_constant x)) (for_touched_true a (λ x. not (writes a x) || not (is_constant x)) h x (or_true_right (reads a x) (writes a x) e)))

-- above the cut
pub fault_ends : (w : World) (past : List Mark) (m : Mark) (want : Want) (to : Answer → Config) (kind : FaultKind) → going w past ≡ true → stepping w past ≡ Some m.thread → comes w past m.thread ≡ Wants Replay want to → (tests_tested w past m.thread Replay want).found ≡ Some (FaultFound kind) → same_side m.side Replay ≡ true → m.index ≡ events_by w m.thread past → is_allowed w (seen past) want m ≡ true → is_stopped_by (reply Replay want m) ≡ true → act_fault m.act None ≡ Some kind → writes_no_constant m.act ≡ true → IsLast w past (m ∷ []) (fault_end Replay kind m.thread)
fault_ends w past m want to kind g p c f side index above stops is free =
    fault kind (pick w past m.thread Replay want to g p c) ((tests_tested w past m.thread Replay want).finds (FaultFound kind) f)
    (record {
      mark = record { of_thread = refl; index = index; above = λ s. allowed w (seen past) want m above };
      stops = stopped_by (reply Replay want m) stops;
      kind_is = is;
      read_only = no_constant m.act free;
      below = λ s. absurd (true≢false (sym side ∙ ap (λ d. same_side d Replay) s));
    })

abbrev pub is_steps : Want → Bool
is_steps (Steps i f args) = true
is_steps want = false

-- below it, but for builtins and externals
pub system_ends : (w : World) (past : List Mark) (m : Mark) (want : Want) (to : Answer → Config) (kind : FaultKind) → going w past ≡ true → stepping w past ≡ Some m.thread → comes w past m.thread ≡ Wants System want to → (tests_tested w past m.thread System want).found ≡ Some (FaultFound kind) → same_side m.side System ≡ true → m.index ≡ events_by w m.thread past → is_steps want ≡ false → is_stopped_by (reply System want m) ≡ true → act_fault m.act None ≡ Some kind → writes_no_constant m.act ≡ true → IsLast w past (m ∷ []) (fault_end System kind m.thread)
system_ends w past m want to kind g p c f side index other stops is free =
    fault kind (pick w past m.thread System want to g p c) ((tests_tested w past m.thread System want).finds (FaultFound kind) f)
    (record {
      mark = record { of_thread = refl; index = index; above = λ s. absurd (true≢false (sym side ∙ ap (λ d. same_side d System) s)) };
      stops = stopped_by (reply System want m) stops;
      kind_is = is;
      read_only = no_constant m.act free;
      below = λ s i f args e. absurd (true≢false (sym (ap is_steps e) ∙ other));
    })
