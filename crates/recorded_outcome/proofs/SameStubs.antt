-- Worlds whose stubs say the same of each function have the same recordings.
use Rattle.std.proofs.Common.{◌≡◌, ◌<◌, ℕ, zero, suc, Bool, true, false, ◌&&◌, ◌||◌, not, ltb, List, [], ◌∷◌, ◌++◌, length, map, Option, Some, None, refl, sym, ap, ◌∙◌, subst}
use Rattle.std.specs.Prelude.{filter, find, flat_map, get_or, if◌then◌else◌, is_some, reverse, unwrap_or}
use Rattle.std.specs.List.{list_all, range_with_len}
use Rattle.std.specs.Option.{option_or}
use Rattle.marks.specs.declared.side.Side.{Side}
use Rattle.marks.specs.declared.side.Side.TheVariants.{Replay, System}
use Rattle.marks.specs.declared.fault.FaultKind.{FaultKind}
use Rattle.marks.specs.declared.fault.FaultKind.TheVariants.{NotLive}
use Rattle.marks.specs.declared.breach.BreachKind.TheVariants.{OtherSpace}
use Rattle.marks.specs.Places.{thread_count}
use Rattle.marks.specs.declared.range.Range.{Range}
use Rattle.marks.specs.Ranges.{Piece, covers, range}
use Rattle.marks.specs.Marks.{EventKind, Call, Ret, Up, UpRet, Alloc, Free, Stop, Act, Turn, Load, Store, Enter, Leave, Step, Fault, Made, Mark, released}
use Rattle.marks.specs.Wants.{Want, Outside, Turns, Loads, Stores, Enters, Leaves, Allocs, Frees, Calls, Below, Gives, Returns, CallsBack, UpReturns, Steps, Fails}
use Rattle.c_builtins.specs.declared.builtin.Builtin.{Builtin}
use Rattle.c_builtins.specs.declared.builtin.Builtin.TheVariants as builtins
use Rattle.c_code.specs.Machine.{Config, Flat, first, func_of}
use Rattle.c_code.specs.Values.{is_value}
use Rattle.c_code.specs.MarkLists.{Next, Quiet, Wants, Ends, No, Split, state, step, takes_values}
use Rattle.stub_operations.specs.declared.operation.StubOp.{StubOp}
use Rattle.stub_operations.specs.Stubs.{Stubs, added_at, below_at, or_none}
use Rattle.stub_meaning.specs.Calls as calls
use Rattle.stub_meaning.specs.Meaning.{called, first_of, type_of}
use Rattle.replay_runs.specs.Runs.{Allowed, byte}
use Rattle.replay_runs.specs.Interface.{Committing, Interface}
use Rattle.replay_runs.specs.Pool.{in_use}
use Rattle.replay_runs.specs.Checks.{BreachFound, Check, Checks, Done, FaultFound, Finding, Finds, Passes, checks, constant_check, indirect_check, is_breach_found, is_fault_found, mode_checks, return_checks}
use Rattle.system_side.specs.Schedule.{wish_at}
use Rattle.system_side.specs.Threads.{order_of}
use Rattle.log_codec.specs.LogText.{Chunk, log_text}
use Rattle.whole_runs.specs.declared.ending.Ending.{Ending}
use Rattle.whole_runs.specs.World.{World, begin, interface, interface_on, main_of, may_run}
use Rattle.whole_runs.specs.Sides.{own, seen}
use Rattle.whole_runs.specs.Outcomes.{builtin_of, minus_one, started}
use Rattle.whole_runs.specs.Threads.{beginning, comes, ended_with, has_ended, in_replay_mode, is_next_above, result_of}
use Rattle.whole_runs.specs.Picks.{Asked, all_ended, asked, can_step, is_free, is_other, is_unblocked, may_go_on, stepping}
use Rattle.whole_runs.specs.Memory.{Has, HasAll, filled, left_by, real}
use Rattle.whole_runs.specs.Below.{ByPool, Given, IsForbidden, Missing, NoMore, Nowhere, Says, Target, To, commit_target, given, given_by, last_under, pieces_for, prepared_below, prepared_by, read_checks, region_under, target_at, target_used, targets, touch_checks}
use Rattle.whole_runs.specs.Tests.{back_checks, checks_above, checks_below, comes_up, external_checks, free_checks, full_check, give_checks, is_back, is_changed, piece_check, piece_checks, replay_checks, ret_checks, step_checks, tests, with_answer}
use Rattle.whole_runs.specs.Steps.{Agrees, Brings, BringsGiven, EventAgrees, GivesStep, GoesOn, IsFault, IsGiven, IsMade, IsMark, IsStep, Picked, StepOf, called_below, calls_back, fault_below, first_read, read_by, rules_above}
use Rattle.whole_runs.specs.Records.{version}
use Rattle.whole_runs.specs.Ends as ends
use Rattle.whole_runs.specs.Ends.{Follows, IsFound, IsLast, IsMadeEvent, IsNext, IsRun, Lacks, stop_of, stops}
use Rattle.whole_runs.specs.Log.{chunks, log_of, new_chunks, rest}
use Rattle.whole_runs.specs.Recorded.{IsRecording, Told}

-- the interface of a world, by what its stubs say of each function
abbrev interface_by : Flat → ℕ → (Side → ℕ → Bool) → (ℕ → Option (List StubOp)) → Interface
interface_by code main may added = record {
  main = main;
  ins = λ f args. (calls.done code (called (func_of code f) args 0) (or_none (added f))).ins;
  outs = λ f args. (calls.done code (called (func_of code f) args 0) (or_none (added f))).outs;
  prepares = λ f args. (calls.done code (called (func_of code f) args 0) (or_none (added f))).prepares;
  used = λ f args result. (calls.done code (called (func_of code f) args result) (or_none (added f))).used;
  commits = λ f args result. first_of (calls.done code (called (func_of code f) args result) (or_none (added f))).commits;
  registers = λ f args. (calls.done code (called (func_of code f) args 0) (or_none (added f))).registers;
  keys_at_call = λ f args. (calls.done code (called (func_of code f) args 0) (or_none (added f))).keys_at_call;
  keys_at_return = λ f args. (calls.done code (called (func_of code f) args 0) (or_none (added f))).keys_at_return;
  is_cached = λ f. (calls.done code (called (func_of code f) [] 0) (or_none (added f))).is_cached;
  may_run = may;
  takes = λ f args. takes_values (func_of code f) args;
  gives = λ f result. is_value (type_of (func_of code f)).result result;
}

abbrev faced : World → (ℕ → Option (List StubOp)) → Interface
faced w added = interface_by w.laid.code (main_of w.laid.code) (may_run w.laid.placed) added

abbrev chosen : Bool → Stubs → Stubs
chosen b s = if b then s else record { added = s.below; below = [] }

module _ (w : World) (s : Stubs) (added : (f : ℕ) → added_at w.stubs f ≡ added_at s f) (below : (f : ℕ) → below_at w.stubs f ≡ below_at s f) where
  abbrev v : World
  v = record w { stubs = s }

  -- ---- the interface

  chosen_same : (b c : Bool) → b ≡ c → (g : ℕ) → added_at (chosen b w.stubs) g ≡ added_at (chosen c s) g
  chosen_same true true e g = added g
  chosen_same false false e g = below g
  chosen_same true false e g = absurd (cc e)
  chosen_same false true e g = absurd (cc e)

  face_same : interface w ≡ interface v
  face_same = λ j. faced w (λ f. added f j)

  faces_same : (side : Side) (f : ℕ) → interface_on w side f ≡ interface_on v side f
  faces_same Replay f = face_same
  faces_same System f = λ j. faced w (λ g. chosen_same (is_some (added_at w.stubs f)) (is_some (added_at s f)) (ap is_some (added f)) g j)

  -- ---- threads

  begins_same : (past : List Mark) (t : ℕ) → beginning w past t ≡ beginning v past t
  begins_same past zero = refl
  begins_same past (suc t) = refl

  comes_same : (past : List Mark) (t : ℕ) → comes w past t ≡ comes v past t
  comes_same past t = ap (λ (c : Config). step Split w.laid (state Split w.laid c (own w t past))) (begins_same past t)

  result_same : (past : List Mark) (t : ℕ) → result_of w past t ≡ result_of v past t
  result_same past t = ap ended_with (comes_same past t)

  ended_same : (past : List Mark) (t : ℕ) → has_ended w past t ≡ has_ended v past t
  ended_same past t = ap (λ (n : Next). is_some (ended_with n)) (comes_same past t)

  free_same : (past : List Mark) (t : ℕ) (args : List ℕ) (b : Option Builtin) → is_free w past t args b ≡ is_free v past t args b
  free_same past t args (Some builtins.Malloc) = refl
  free_same past t args (Some builtins.Free) = refl
  free_same past t args (Some builtins.Spawn) = refl
  free_same past t args (Some builtins.Join) = ap (λ (e : Bool). not (is_other past t (first args)) || e) (ended_same past (first args))
  free_same past t args (Some builtins.Lock) = refl
  free_same past t args (Some builtins.Unlock) = refl
  free_same past t args (Some builtins.Print) = refl
  free_same past t args None = refl

  unblocked_same : (past : List Mark) (t : ℕ) (a : Option Asked) → is_unblocked w past t a ≡ is_unblocked v past t a
  unblocked_same past t None = refl
  unblocked_same past t (Some a) = free_same past t a.args (builtin_of a.func)

  go_on_same : (past : List Mark) (t : ℕ) (n : Next) → may_go_on w past t n ≡ may_go_on v past t n
  go_on_same past t (Quiet c) = refl
  go_on_same past t (Wants side want to) = unblocked_same past t (asked want)
  go_on_same past t (Ends u) = refl
  go_on_same past t No = refl

  can_same : (past : List Mark) (t : ℕ) → can_step w past t ≡ can_step v past t
  can_same past t = ap (λ (b : Bool). ltb t (started past) && b) (go_on_same past t (comes w past t) ∙ ap (may_go_on v past t) (comes_same past t))

  stepping_same : (past : List Mark) → stepping w past ≡ stepping v past
  stepping_same past = λ j. find (λ t. can_same past t j) (order_of (wish_at w.file.schedule (length past)))

  all_same : (past : List Mark) → all_ended w past ≡ all_ended v past
  all_same past = λ j. list_all (λ t. ended_same past t j) (range_with_len 0 (started past))

  -- ---- memory and what is given

  left_same : (now : List Mark) (x : ℕ) (a : Act) (u : Option ℕ) → left_by w now x a u ≡ left_by v now x a u
  left_same now x Turn u = refl
  left_same now x (Load origin at bytes) u = refl
  left_same now x (Store origin at bytes) u = refl
  left_same now x (Enter f args at bytes) u = refl
  left_same now x (Leave at size) u = refl
  left_same now x (Step f args result ins pieces freed) u = refl
  left_same now x (Fault kind crosses ins outs access) u = refl
  left_same now x (Made e) u = refl

  real_same : (past : List Mark) (x : ℕ) → real w past x ≡ real v past x
  real_same [] x = refl
  real_same (m ∷ past) x = left_same (m ∷ past) x m.act (real w past x) ∙ ap (left_by v (m ∷ past) x m.act) (real_same past x)

  reals : (past : List Mark) → real w past ≡ real v past
  reals past = λ j x. real_same past x j

  given_by_same : (past : List Mark) (t f : ℕ) (args : List ℕ) (b : Option Builtin) → given_by w past t f args b ≡ given_by v past t f args b
  given_by_same past t f args (Some builtins.Malloc) = refl
  given_by_same past t f args (Some builtins.Free) = refl
  given_by_same past t f args (Some builtins.Spawn) = refl
  given_by_same past t f args (Some builtins.Join) =
      ap (λ (r : Option ℕ). Says (if is_other past t (first args) then unwrap_or r 0 else minus_one) []) (result_same past (first args))
  given_by_same past t f args (Some builtins.Lock) = refl
  given_by_same past t f args (Some builtins.Unlock) = refl
  given_by_same past t f args (Some builtins.Print) = refl
  given_by_same past t f args None = refl

  given_same : (past : List Mark) (t f : ℕ) (args : List ℕ) → given w past t f args ≡ given v past t f args
  given_same past t f args = given_by_same past t f args (builtin_of f)

  prepared_by_same : (k : ℕ) (a : Act) → prepared_by w k a ≡ prepared_by v k a
  prepared_by_same k Turn = refl
  prepared_by_same k (Load origin at bytes) = refl
  prepared_by_same k (Store origin at bytes) = refl
  prepared_by_same k (Enter f args at bytes) = refl
  prepared_by_same k (Leave at size) = refl
  prepared_by_same k (Step f args result ins pieces freed) = ap (λ (i : Interface). last_under k (i.prepares f args)) (faces_same System f)
  prepared_by_same k (Fault kind crosses ins outs access) = refl
  prepared_by_same k (Made e) = refl

  prepared_same : (k : ℕ) (past : List Mark) → prepared_below w k past ≡ prepared_below v k past
  prepared_same k [] = refl
  prepared_same k (m ∷ past) = λ j. option_or (prepared_by_same k m.act j) (prepared_same k past j)

  region_same : (side : Side) (k : ℕ) (past : List Mark) → region_under w side k past ≡ region_under v side k past
  region_same Replay k past = refl
  region_same System k past = ap (option_or (in_use (begin w) k (seen past))) (prepared_same k past)

  used_same : (side : Side) (k : ℕ) (past : List Mark) (u : Option ℕ) → target_used w side k past u ≡ target_used v side k past u
  used_same side k past None = refl
  used_same side k past (Some n) = ap target_at (region_same side k past)

  commit_same : (side : Side) (past : List Mark) (c : Option Committing) → commit_target w side past c ≡ commit_target v side past c
  commit_same side past None = refl
  commit_same side past (Some c) = ap (λ (t : Target). t ∷ []) (used_same side c.key past c.used)

  targets_same : (side : Side) (past : List Mark) (f : ℕ) (args : List ℕ) (u : ℕ) → targets w side past f args u ≡ targets v side past f args u
  targets_same side past f args u =
      ap (λ (i : Interface). map To (i.outs f args) ++ commit_target w side past (i.commits f args u)) (faces_same side f) ∙
      ap (λ ts. map To ((interface_on v side f).outs f args) ++ ts) (commit_same side past ((interface_on v side f).commits f args u))

  answer_same : (past : List Mark) (f : ℕ) (args : List ℕ) (u : ℕ) (pieces : List (List ℕ)) → with_answer w past f args u pieces ≡ with_answer v past f args u pieces
  answer_same past f args u pieces = λ j x. filled (pieces_for (targets_same Replay past f args u j) pieces) x (real_same past x j)

  -- ---- tests

  up_same : (past : List Mark) (f : ℕ) (args : List ℕ) (u : ℕ) (pieces : List (List ℕ)) → comes_up w past f args u pieces ≡ comes_up v past f args u pieces
  up_same past f args u pieces = λ j. record {
    pieces = map length pieces;
    committed = length (get_or pieces (length ((face_same j).outs f args)) []);
    changed = λ x. is_changed (byte (begin w) x (seen past)).cell (answer_same past f args u pieces j x);
  }

  ret_same : (past : List Mark) (f : ℕ) (args : List ℕ) (u : ℕ) (pieces : List (List ℕ)) → ret_checks w past f args u pieces ≡ ret_checks v past f args u pieces
  ret_same past f args u pieces = λ j. return_checks (face_same j) (begin w) (seen past) (up_same past f args u pieces j) f args u

  give_same : (past : List Mark) (f : ℕ) (args : List ℕ) (g : Given) → give_checks w past f args g ≡ give_checks v past f args g
  give_same past f args ByPool = refl
  give_same past f args (Says u pieces) = ret_same past f args u pieces
  give_same past f args NoMore = refl

  replay_same : (past : List Mark) (t : ℕ) (want : Want) → replay_checks w past t want ≡ replay_checks v past t want
  replay_same past t want = λ j. checks (face_same j) (begin w) (seen past) t want

  above_same : (past : List Mark) (t : ℕ) (want : Want) → checks_above w past t want ≡ checks_above v past t want
  above_same past t Outside = replay_same past t Outside
  above_same past t Turns = replay_same past t Turns
  above_same past t (Loads origin at width) = replay_same past t (Loads origin at width)
  above_same past t (Stores origin at bytes) = replay_same past t (Stores origin at bytes)
  above_same past t (Enters indirect f args bytes) = replay_same past t (Enters indirect f args bytes)
  above_same past t (Leaves at size) = replay_same past t (Leaves at size)
  above_same past t (Allocs size) = replay_same past t (Allocs size)
  above_same past t (Frees at) = replay_same past t (Frees at)
  above_same past t (Calls indirect f args) = replay_same past t (Calls indirect f args)
  above_same past t (Below f args) = replay_same past t (Below f args)
  above_same past t (Gives f args) = give_same past f args (given w past t f args) ∙ ap (give_checks v past f args) (given_same past t f args)
  above_same past t (Returns f args u) = ret_same past f args u []
  above_same past t (CallsBack f args bytes) = replay_same past t (CallsBack f args bytes)
  above_same past t (UpReturns f u) = replay_same past t (UpReturns f u)
  above_same past t (Steps indirect f args) = replay_same past t (Steps indirect f args)
  above_same past t (Fails kind) = replay_same past t (Fails kind)

  touch_same : (past : List Mark) (t : ℕ) (write : Bool) (r : Range) (cs ds : Checks) → cs ≡ ds → touch_checks w past t write r cs ≡ touch_checks v past t write r ds
  touch_same past t write r cs ds e = λ j. Check (λ x. (covers r x ≡ true) × IsForbidden w past t write x) (is_breach_found OtherSpace)
      (Check (λ x. (covers r x ≡ true) × (real_same past x j ≡ None)) (is_fault_found NotLive) (constant_check write r (e j)))

  reads_same : (past : List Mark) (t : ℕ) (rs : List Range) → read_checks w past t rs ≡ read_checks v past t rs
  reads_same past t [] = refl
  reads_same past t (r ∷ rs) = touch_same past t false r (read_checks w past t rs) (read_checks v past t rs) (reads_same past t rs)

  frees_same : (past : List Mark) (at : ℕ) → free_checks w past at ≡ free_checks v past at
  frees_same past zero = refl
  frees_same past (suc a) = refl

  piece_same : (past : List Mark) (t : ℕ) (to : Target) (b : List ℕ) (cs ds : Checks) → cs ≡ ds → piece_check w past t to b cs ≡ piece_check v past t to b ds
  piece_same past t (To r) b cs ds e = λ j. Check (λ x. r.len < length b) (is_fault_found NotLive) (touch_same past t true (range r.addr (length b)) cs ds e j)
  piece_same past t Nowhere b cs ds e = e
  piece_same past t Missing b cs ds e = λ j. Check (λ x. Unit {0}) (is_fault_found NotLive) (e j)

  pieces_same : (past : List Mark) (t : ℕ) (to : List Target) (bs : List (List ℕ)) → piece_checks w past t to bs ≡ piece_checks v past t to bs
  pieces_same past t [] bs = refl
  pieces_same past t (x ∷ xs) [] = refl
  pieces_same past t (x ∷ xs) (b ∷ bs) = piece_same past t x b (piece_checks w past t xs bs) (piece_checks v past t xs bs) (pieces_same past t xs bs)

  external_same : (past : List Mark) (t f : ℕ) (args : List ℕ) (g : Given) → external_checks w past t f args g ≡ external_checks v past t f args g
  external_same past t f args ByPool = refl
  external_same past t f args (Says u pieces) =
      pieces_same past t (targets w System past f args u) pieces ∙ ap (λ ts. piece_checks v past t ts pieces) (targets_same System past f args u)
  external_same past t f args NoMore = refl

  step_same : (past : List Mark) (t f : ℕ) (args : List ℕ) (b : Option Builtin) → step_checks w past t f args b ≡ step_checks v past t f args b
  step_same past t f args (Some builtins.Malloc) = refl
  step_same past t f args (Some builtins.Free) = frees_same past (first args)
  step_same past t f args (Some builtins.Spawn) = refl
  step_same past t f args (Some builtins.Join) = refl
  step_same past t f args (Some builtins.Lock) = refl
  step_same past t f args (Some builtins.Unlock) = refl
  step_same past t f args (Some builtins.Print) =
      reads_same past t ((interface_on w System f).ins f args) ∙ ap (λ (i : Interface). read_checks v past t (i.ins f args)) (faces_same System f)
  step_same past t f args None = external_same past t f args (given w past t f args) ∙ ap (external_checks v past t f args) (given_same past t f args)

  back_same : (past : List Mark) (t f : ℕ) (bytes : List ℕ) (b : Bool) → back_checks w past t f bytes b ≡ back_checks v past t f bytes b
  back_same past t f bytes true = refl
  back_same past t f bytes false = λ j. mode_checks (face_same j) System (f ∷ []) (full_check w past t (length bytes))

  below_same : (past : List Mark) (t : ℕ) (want : Want) → checks_below w past t want ≡ checks_below v past t want
  below_same past t Outside = refl
  below_same past t Turns = refl
  below_same past t (Loads origin at width) = touch_same past t false (range at width) Done Done refl
  below_same past t (Stores origin at bytes) = touch_same past t true (range at (length bytes)) Done Done refl
  below_same past t (Enters indirect f args bytes) = λ j. indirect_check (face_same j) indirect System f (full_check w past t (length bytes))
  below_same past t (Leaves at size) = refl
  below_same past t (Allocs size) = refl
  below_same past t (Frees at) = refl
  below_same past t (Calls indirect f args) = refl
  below_same past t (Below f args) = refl
  below_same past t (Gives f args) = refl
  below_same past t (Returns f args u) = refl
  below_same past t (CallsBack f args bytes) = back_same past t f bytes (is_back w past f)
  below_same past t (UpReturns f u) = refl
  below_same past t (Steps indirect f args) = λ j. indirect_check (face_same j) indirect System f (step_same past t f args (builtin_of f) j)
  below_same past t (Fails kind) = refl

  tests_same : (past : List Mark) (t : ℕ) (side : Side) (want : Want) → tests w past t side want ≡ tests v past t side want
  tests_same past t Replay want = above_same past t want
  tests_same past t System want = below_same past t want

  -- ---- one step

  read_by_same : (f : ℕ) (args : List ℕ) (b : Option Builtin) → read_by w f args b ≡ read_by v f args b
  read_by_same f args (Some builtins.Malloc) = refl
  read_by_same f args (Some builtins.Free) = refl
  read_by_same f args (Some builtins.Spawn) = refl
  read_by_same f args (Some builtins.Join) = refl
  read_by_same f args (Some builtins.Lock) = refl
  read_by_same f args (Some builtins.Unlock) = refl
  read_by_same f args (Some builtins.Print) = ap (λ (i : Interface). i.ins f args) (faces_same System f)
  read_by_same f args None = refl

  is_given : (past : List Mark) (x : StepOf) (r : ℕ) (pieces : List (List ℕ)) → IsGiven w past x r pieces → IsGiven v past x r pieces
  is_given past x r pieces h = record {
    result_is = h.result_is;
    ins = h.ins ∙ read_by_same x.func x.args (builtin_of x.func);
    whole = h.whole;
    read = subst (λ m. HasAll m x.ins) (reals past) h.read;
    pieces_are = h.pieces_are ∙ ap (λ ts. pieces_for ts pieces) (targets_same System past x.func x.args x.result);
    freed = h.freed;
  }

  gives_step : (past : List Mark) (x : StepOf) (g : Given) → GivesStep w past x g → GivesStep v past x g
  gives_step past x ByPool h = h
  gives_step past x (Says r pieces) h = is_given past x r pieces h
  gives_step past x NoMore h = h

  other_step : (past : List Mark) (t : ℕ) (x : StepOf) → GivesStep w past x (given w past t x.func x.args) → GivesStep v past x (given v past t x.func x.args)
  other_step past t x h = subst (GivesStep v past x) (given_same past t x.func x.args) (gives_step past x (given w past t x.func x.args) h)

  is_step : (past : List Mark) (t : ℕ) (x : StepOf) (b : Option Builtin) → IsStep w past t x b → IsStep v past t x b
  is_step past t x (Some builtins.Malloc) h = h
  is_step past t x (Some builtins.Free) h = h
  is_step past t x (Some builtins.Spawn) h = other_step past t x h
  is_step past t x (Some builtins.Join) h = other_step past t x h
  is_step past t x (Some builtins.Lock) h = other_step past t x h
  is_step past t x (Some builtins.Unlock) h = other_step past t x h
  is_step past t x (Some builtins.Print) h = other_step past t x h
  is_step past t x None h = other_step past t x h

  brings_given : (past : List Mark) (f : ℕ) (args : List ℕ) (u : ℕ) (up : List Piece) (g : Given) → BringsGiven w past f args u up g → BringsGiven v past f args u up g
  brings_given past f args u up ByPool h = h
  brings_given past f args u up (Says r pieces) h = (h.0, subst (λ m. HasAll m up) (answer_same past f args u pieces) h.1)
  brings_given past f args u up NoMore h = h

  brings : (past : List Mark) (t : ℕ) (want : Want) (u : ℕ) (up : List Piece) → Brings w past t want u up → Brings v past t want u up
  brings past t Outside u up h = h
  brings past t Turns u up h = h
  brings past t (Loads origin at width) u up h = h
  brings past t (Stores origin at bytes) u up h = h
  brings past t (Enters indirect f args bytes) u up h = h
  brings past t (Leaves at size) u up h = h
  brings past t (Allocs size) u up h = h
  brings past t (Frees at) u up h = h
  brings past t (Calls indirect f args) u up h = h
  brings past t (Below f args) u up h = h
  brings past t (Gives f args) u up h = subst (BringsGiven v past f args u up) (given_same past t f args) (brings_given past f args u up (given w past t f args) h)
  brings past t (Returns f args r) u up h = subst (λ m. HasAll m up) (reals past) h
  brings past t (CallsBack f args bytes) u up h = h
  brings past t (UpReturns f r) u up h = h
  brings past t (Steps indirect f args) u up h = h
  brings past t (Fails kind) u up h = h

  back_calls : (past : List Mark) (o : Option ℕ) → calls_back w past o ≡ calls_back v past o
  back_calls past None = refl
  back_calls past (Some f) = refl

  event_agrees : (past : List Mark) (t : ℕ) (want : Want) (k : EventKind) → EventAgrees w past t want k → EventAgrees v past t want k
  event_agrees past t want (Call f args ins outs prepared) h = h
  event_agrees past t want (Ret f args u same outs commit) h = brings past t want u (outs ++ released commit) h
  event_agrees past t want (Up f args) h = sym (back_calls past (called_below want)) ∙ h
  event_agrees past t want (UpRet f u) h = h
  event_agrees past t want (Alloc at size) h = h
  event_agrees past t want (Free at size) h = h
  event_agrees past t want (Stop why) h = h

  agrees : (past : List Mark) (t : ℕ) (side : Side) (want : Want) (a : Act) → Agrees w past t side want a → Agrees v past t side want a
  agrees past t side want Turn h = h
  agrees past t side want (Load origin at bytes) h = subst (λ m. Has m at bytes) (reals past) h
  agrees past t side want (Store origin at bytes) h = h
  agrees past t side want (Enter f args at bytes) h = (sym (back_calls past (called_below want)) ∙ h.0, h.1)
  agrees past t side want (Leave at size) h = h
  agrees past t side want (Step f args u ins pieces freed) h =
      is_step past t (record { func = f; args = args; result = u; ins = ins; pieces = pieces; freed = freed }) (builtin_of f) h
  agrees past t side want (Fault kind crosses ins outs access) h = h
  agrees past t side want (Made e) h = event_agrees past t want e.kind h

  goes_on : (past : List Mark) → GoesOn w past → GoesOn v past
  goes_on past g = record { running = sym (all_same past) ∙ g.running; in_budget = g.in_budget }

  abbrev picked : (past : List Mark) → Picked w past → Picked v past
  picked past p = record {
    goes_on = goes_on past p.goes_on;
    thread = p.thread;
    picked = sym (stepping_same past) ∙ p.picked;
    side = p.side;
    want = p.want;
    to = p.to;
    comes_is = sym (comes_same past p.thread) ∙ p.comes_is;
  }

  is_mark : (past : List Mark) (p : Picked w past) (m : Mark) → IsMark w past p m → IsMark v past (picked past p) m
  is_mark past p m h = record {
    of_thread = h.of_thread;
    index = h.index;
    above = λ e. subst (λ (i : Interface). Allowed (rules_above i (begin w) p.want) (begin w) (seen past) m) face_same (h.above e);
  }

  is_made : (past : List Mark) (p : Picked w past) (m : Mark) → IsMade w past p m → IsMade v past (picked past p) m
  is_made past p m h = record {
    mark = is_mark past p m h.mark;
    replies = h.replies;
    agrees = agrees past p.thread p.side p.want m.act h.agrees;
    passes = subst Passes (tests_same past p.thread p.side p.want) h.passes;
  }

  fault_same : (kind : FaultKind) (f : ℕ) (args : List ℕ) (b : Option Builtin) → fault_below w kind f args b ≡ fault_below v kind f args b
  fault_same kind f args (Some builtins.Malloc) = refl
  fault_same kind f args (Some builtins.Free) = refl
  fault_same kind f args (Some builtins.Spawn) = refl
  fault_same kind f args (Some builtins.Join) = refl
  fault_same kind f args (Some builtins.Lock) = refl
  fault_same kind f args (Some builtins.Unlock) = refl
  fault_same kind f args (Some builtins.Print) = ap (λ (i : Interface). Fault kind false [] [] (first_read (i.ins f args))) (faces_same System f)
  fault_same kind f args None = refl

  is_fault : (past : List Mark) (p : Picked w past) (kind : FaultKind) (m : Mark) → IsFault w past p kind m → IsFault v past (picked past p) kind m
  is_fault past p kind m h = record {
    mark = is_mark past p m h.mark;
    stops = h.stops;
    kind_is = h.kind_is;
    read_only = h.read_only;
    below = λ e indirect f args is. h.below e indirect f args is ∙ fault_same kind f args (builtin_of f);
  }

  -- ---- the run

  is_next : (past : List Mark) (m : Mark) → IsNext w past m → IsNext v past m
  is_next past m h = record { step = picked past h.step; made = is_made past h.step m h.made; room = h.room }

  follows : (past : List Mark) → Follows w past → Follows v past
  follows [] h = h
  follows (m ∷ past) h = (is_next past m h.0, follows past h.1)

  lacks : (past : List Mark) (p : Picked w past) (f : ℕ) → Lacks w past p f → Lacks v past (picked past p) f
  lacks past p f h = record { args = h.args; asks = h.asks; none = sym (given_same past p.thread f h.args) ∙ h.none }

  made_event : (past : List Mark) (p : Picked w past) (m : Mark) → IsMadeEvent w past p m → IsMadeEvent v past (picked past p) m
  made_event past p m h = record { made = is_made past p m h.made; event = h.event }

  found : (past : List Mark) (p : Picked w past) (f : Finding) → IsFound w past p f → IsFound v past (picked past p) f
  found past p f h = subst (λ cs. Finds cs f) (tests_same past p.thread p.side p.want) h

  is_last : (past last : List Mark) (e : Ending) → IsLast w past last e → IsLast v past last e
  is_last past last e (ends.done h) = ends.done (sym (all_same past) ∙ h)
  is_last past last e (ends.budget h k) = ends.budget (sym (all_same past) ∙ h) k
  is_last past last e (ends.blocked g h) = ends.blocked (goes_on past g) (sym (stepping_same past) ∙ h)
  is_last past last e (ends.fault {m = m} kind p f h) = ends.fault kind (picked past p) (found past p (FaultFound kind) f) (is_fault past p kind m h)
  is_last past last e (ends.breach kind x other p f) = ends.breach kind x other (picked past p) (found past p (BreachFound kind x other) f)
  is_last past last e (ends.script {f = f} p h l) = ends.script (picked past p) (subst Passes (tests_same past p.thread p.side p.want) h) (lacks past p f l)
  is_last past last e (ends.events m p h k) = ends.events m (picked past p) (made_event past p m h) k
  is_last past last e (ends.full m p h k l) = ends.full m (picked past p) (made_event past p m h) k l

  in_replay_same : (run : List Mark) (t : ℕ) → in_replay_mode w run t ≡ in_replay_mode v run t
  in_replay_same run t = ap is_next_above (comes_same run t)

  stops_same : (run : List Mark) → stops w run ≡ stops v run
  stops_same run = λ j. reverse (map (stop_of w run) (filter (λ t. in_replay_same run t j) (range_with_len 0 (started run))))

  is_run : (run : List Mark) (e : Ending) → IsRun w run e → IsRun v run e
  is_run run e h = record {
    past = h.past;
    follows = follows h.past h.follows;
    last = h.last;
    ends = is_last h.past h.last e h.ends;
    run_is = h.run_is ∙ ap (λ ms. ms ++ (h.last ++ h.past)) (stops_same (h.last ++ h.past));
  }

  chunks_same : (run : List Mark) → chunks w run ≡ chunks v run
  chunks_same [] = refl
  chunks_same (m ∷ past) = ap (λ (cs : List Chunk). cs ++ new_chunks w (m ∷ past) m) (chunks_same past)

  log_same : (run : List Mark) → log_of w run ≡ log_of v run
  log_same run = ap (λ (cs : List Chunk). log_text version (cs ++ flat_map (rest w run) (range_with_len 0 thread_count))) (chunks_same run)

  pub same_recording : (told : Told) → IsRecording w told → IsRecording v told
  same_recording told h = record {
    run = h.run;
    is_run = is_run h.run told.ending h.is_run;
    log = h.log ∙ log_same h.run;
    threads = h.threads;
    memory = h.memory;
    output = h.output;
    system_output = h.system_output;
  }
