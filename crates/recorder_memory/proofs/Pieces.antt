-- The pieces of an external, one after the other.
use Rattle.std.proofs.Common.{◌≡◌, ℕ, suc, ◌+◌, ◌^◌, ◌<◌, ◌≤◌, Bool, true, List, [], ◌∷◌, ◌++◌, length, get_or, take, drop, refl, sym, ap, ◌∙◌, subst, arith}
use Rattle.std.proofs.lemmas.List.{append-nil, length-append, map-append, take-append-drop, take_all, take_more}
use Rattle.std.proofs.Math.Seq.{drop-cons}
use Rattle.marks.specs.declared.side.Side.TheVariants.{System}
use Rattle.marks.specs.declared.fault.FaultKind.TheVariants.{NotLive}
use Rattle.marks.specs.Places.{thread_count}
use Rattle.marks.specs.declared.range.Range.{Range}
use Rattle.marks.specs.Marks.{Act, Step, Mark}
use Rattle.marks.specs.Wants.{Steps}
use Rattle.space_memory_bytes.specs.Numbers.{HasBytes, SameOutside}
use Rattle.space_memory_access.specs.declared.refusal.Refusal.{Refusal}
use Rattle.space_memory_access.specs.Accesses.{IsAllowed, IsRefused}
use Rattle.replay_runs.specs.Checks.{Finding, FaultFound, BreachFound, Checks, Passes, Finds}
use Rattle.steps_above_memory.specs.declared.refusal.StepRefusal.{StepRefusal}
use Rattle.steps_above_memory.specs.declared.refusal.StepRefusal.TheVariants.{Fault, Breach}
use Rattle.steps_above_memory.specs.declared.refusal.StepRefusal.TheVariants as refusal
use Rattle.steps_above_memory.specs.Refusals.{IsFound, refusal_of}
use Rattle.steps_above_memory.proofs.Ranges.{as_found}
use Rattle.whole_runs.specs.World.{World}
use Rattle.whole_runs.specs.Below.{Target, To, Nowhere, Missing, pieces_for}
use Rattle.whole_runs.specs.Tests.{external_checks, piece_checks, step_checks, tests}
use Rattle.whole_runs.specs.Steps.{StepOf, IsStep, GivesStep, read_by}
use Rattle.whole_runs_memory.specs.Stands.{InStep}
use Rattle.whole_runs_memory.specs.Plain.{LeavesPool}
use Rattle.whole_runs_memory.specs.Refusals.{access_below}
use Rattle.whole_runs_memory.proofs.Refusals.{refused_pieces, long_pieces, missing_regions, written_pieces, nowhere}
use Rattle.whole_runs_memory.proofs.Steps.{steps_begin, writes, grow, steps}
use Rattle.recorder_memory.specs.declared.memory.Memory.{Memory}
use Rattle.recorder_memory.specs.declared.target.PieceTarget.{PieceTarget}
use Rattle.recorder_memory.specs.Steps.{next_mark}
use Rattle.recorder_memory.specs.Below.{ComesToExternal, Answers, RefusesAnswer, LeavesSeen, IsWriting, WritesPiece, WritesAll, RefusesPiece, target_of, targets_of}
use Rattle.recorder_memory.proofs.Replies.{step_answers}
use Rattle.recorder_memory.proofs.Modes.{step_passes, step_finds}
use Rattle.recorder_memory.proofs.Marking.{still_seen, below_stands, below_marked}

-- ---- one piece

pub more_pieces : (places : List Target) (pieces : List (List ℕ)) (x : Target) (b : List ℕ) → length places ≡ length pieces → length (places ++ x ∷ []) ≡ length (pieces ++ b ∷ [])
more_pieces places pieces x b e = let l = length-append places (x ∷ []) in let r = length-append pieces (b ∷ []) in omega (arith, e, l, r)

module _ (old new : Memory) (t : ℕ) (r : Range) (bytes : List ℕ) (small : r.addr < 2 ^ 64) where
  abbrev front : Range
  front = record { addr = r.addr; len = length bytes }

  pub piece_written : length bytes ≤ r.len → IsAllowed old.above.spaces.bytes old.above.spaces.held.regions (access_below t true front) →
      HasBytes new.above.spaces.bytes r.addr bytes → SameOutside front old.above.spaces.bytes new.above.spaces.bytes →
      new.above.spaces ≡ record old.above.spaces { bytes = new.above.spaces.bytes } → new.above.watch ≡ old.above.watch →
      WritesPiece old t (To r) bytes new
  piece_written fits ok has outside rest same w past places pieces h = record {
    at = record {
      step = step;
      thread = h.at.thread;
      count = more_pieces places pieces (To r) bytes h.at.count;
      passed = written_pieces w past old.above.spaces t places pieces (pieces_for places pieces) r bytes h.at small fits ok;
    };
    above = still_seen w past old new h.above same step.stands.above;
  }
    where
      step : InStep w past (pieces_for (places ++ To r ∷ []) (pieces ++ bytes ∷ [])) new.above.spaces
      step = subst (λ ps. InStep w past ps new.above.spaces) (sym (grow places pieces (To r) bytes h.at.count))
          (writes w past old.above.spaces new.above.spaces t (pieces_for places pieces) r bytes h.at.step small fits (record { allowed = ok; bytes_are = has; others = outside; rest = rest }))

  pub piece_refused : length bytes ≤ r.len → (refused : Refusal) (found : StepRefusal) →
      IsRefused old.above.spaces.bytes old.above.spaces.held.regions (access_below t true front) refused → found ≡ refusal_of refused →
      RefusesPiece old t (To r) bytes found
  piece_refused fits refused found p is w past places more pieces rest h =
      subst (IsFound (piece_checks w past t (places ++ To r ∷ more) (pieces ++ bytes ∷ rest))) (sym is)
      (as_found (piece_checks w past t (places ++ To r ∷ more) (pieces ++ bytes ∷ rest)) refused
      (refused_pieces w past old.above.spaces t places more pieces rest (pieces_for places pieces) r bytes refused h.at small fits p))

pub piece_too_long : (old : Memory) (t : ℕ) (r : Range) (bytes : List ℕ) → r.len < length bytes → RefusesPiece old t (To r) bytes (Fault NotLive)
piece_too_long old t r bytes long w past places more pieces rest h = long_pieces w past old.above.spaces t places more pieces rest (pieces_for places pieces) r bytes h.at long

pub piece_nowhere : (old : Memory) (t : ℕ) (bytes : List ℕ) → WritesPiece old t Nowhere bytes old
piece_nowhere old t bytes w past places pieces h = record {
  at = record {
    step = subst (λ ps. InStep w past ps old.above.spaces) (sym (grow places pieces Nowhere bytes h.at.count ∙ append-nil (pieces_for places pieces))) h.at.step;
    thread = h.at.thread;
    count = more_pieces places pieces Nowhere bytes h.at.count;
    passed = nowhere w past old.above.spaces t places pieces (pieces_for places pieces) bytes h.at;
  };
  above = h.above;
}

pub piece_missing : (old : Memory) (t : ℕ) (bytes : List ℕ) → RefusesPiece old t Missing bytes (Fault NotLive)
piece_missing old t bytes w past places more pieces rest h = missing_regions w past old.above.spaces t places more pieces rest (pieces_for places pieces) bytes h.at

-- ---- all of them

pub none_written : (old : Memory) (t : ℕ) → t < thread_count → WritesAll old t [] [] old
none_written old t lt w past h = record {
  at = record { step = steps_begin w past old.above.spaces h.whole; thread = lt; count = refl; passed = tt };
  above = h.above;
}

places_more : (xs : List PieceTarget) (i : ℕ) (d : PieceTarget) → i < length xs → targets_of (take (i + 1) xs) ≡ targets_of (take i xs) ++ target_of (get_or xs i d) ∷ []
places_more xs i d lt = ap targets_of (take_more xs i d lt) ∙ map-append target_of (take i xs) (get_or xs i d ∷ [])

pub one_more_written : (old mid new : Memory) (t : ℕ) (xs : List PieceTarget) (bs : List (List ℕ)) (i : ℕ) (d : PieceTarget) (b e : List ℕ) →
    i < length xs → i < length bs → b ≡ get_or bs i e → WritesAll old t (targets_of (take i xs)) (take i bs) mid →
    WritesPiece mid t (target_of (get_or xs i d)) b new → WritesAll old t (targets_of (take (i + 1) xs)) (take (i + 1) bs) new
one_more_written old mid new t xs bs i d b e lt lt' is before one w past h =
    subst (λ ps. IsWriting w past t ps (take (i + 1) bs) new) (sym (places_more xs i d lt))
    (subst (λ qs. IsWriting w past t (targets_of (take i xs) ++ target_of (get_or xs i d) ∷ []) qs new) (sym (take_more bs i e lt' ∙ ap (λ q. take i bs ++ q ∷ []) (sym is)))
    (one w past (targets_of (take i xs)) (take i bs) (before w past h)))

pub split_at : {A : Type 0} (xs : List A) (i : ℕ) (d : A) → i < length xs → xs ≡ take i xs ++ get_or xs i d ∷ drop (suc i) xs
split_at xs i d lt = sym (take-append-drop i xs) ∙ ap (λ l. take i xs ++ l) (drop-cons xs i d lt)

splits : (xs : List PieceTarget) (i : ℕ) (d : PieceTarget) → i < length xs → targets_of xs ≡ targets_of (take i xs) ++ target_of (get_or xs i d) ∷ targets_of (drop (suc i) xs)
splits xs i d lt = ap targets_of (split_at xs i d lt) ∙ map-append target_of (take i xs) (get_or xs i d ∷ drop (suc i) xs)

-- what is found in some tests is found in others
pub found_in : (cs ds : Checks) → ((g : Finding) → Finds cs g → Finds ds g) → (found : StepRefusal) → IsFound cs found → IsFound ds found
found_in cs ds go (Fault kind) p = go (FaultFound kind) p
found_in cs ds go (Breach kind addr other) p = go (BreachFound kind addr other) p
found_in cs ds go refusal.Memory p = tt

-- the tests of the step are those of its pieces
module _ (w : World) (past : List Mark) (old : Memory) (t : ℕ) (indirect : Bool) (func : ℕ) (args : List ℕ) (result : ℕ)
    (places : List Target) (pieces : List (List ℕ)) (e : ComesToExternal w past old t indirect func args result places pieces) where
  pieces_pass : Passes (piece_checks w past t places pieces) → Passes (tests w past t System (Steps indirect func args))
  pieces_pass p = step_passes w past t func args indirect e.to.modes
      (subst (λ o. Passes (step_checks w past t func args o)) (sym e.external)
      (subst (λ g. Passes (external_checks w past t func args g)) (sym e.says)
      (subst (λ ps. Passes (piece_checks w past t ps pieces)) (sym e.places_are) p)))

  pieces_find : (g : Finding) → Finds (piece_checks w past t places pieces) g → Finds (tests w past t System (Steps indirect func args)) g
  pieces_find g p = step_finds w past t func args indirect g e.to.modes
      (subst (λ o. Finds (step_checks w past t func args o) g) (sym e.external)
      (subst (λ a. Finds (external_checks w past t func args a) g) (sym e.says)
      (subst (λ ps. Finds (piece_checks w past t ps pieces) g) (sym e.places_are) p)))

pub piece_found : (old mid : Memory) (t : ℕ) (xs : List PieceTarget) (bs : List (List ℕ)) (i : ℕ) (d : PieceTarget) (b e : List ℕ) (found : StepRefusal) →
    i < length xs → i < length bs → b ≡ get_or bs i e → WritesAll old t (targets_of (take i xs)) (take i bs) mid →
    RefusesPiece mid t (target_of (get_or xs i d)) b found → RefusesAnswer old t (targets_of xs) bs found
piece_found old mid t xs bs i d b e found lt lt' is before one w past indirect func args result x =
    found_in (piece_checks w past t (targets_of xs) bs) (tests w past t System (Steps indirect func args)) (pieces_find w past old t indirect func args result (targets_of xs) bs x) found
    (subst (λ ps. IsFound (piece_checks w past t ps bs) found) (sym (splits xs i d lt))
    (subst (λ qs. IsFound (piece_checks w past t (targets_of (take i xs) ++ target_of (get_or xs i d) ∷ targets_of (drop (suc i) xs)) qs) found) (sym (split_at bs i e lt' ∙ ap (λ q. take i bs ++ q ∷ drop (suc i) bs) (sym is)))
    (one w past (targets_of (take i xs)) (targets_of (drop (suc i) xs)) (take i bs) (drop (suc i) bs) (before w past x.to.stands))))

-- a step that is broken off
pub broken_off : (old mid : Memory) (t : ℕ) (places : List Target) (pieces : List (List ℕ)) → WritesAll old t places pieces mid → LeavesSeen old mid
broken_off old mid t places pieces all w past h = (all w past h).above

-- ---- the step

pub answered : (old new : Memory) (t : ℕ) (places : List Target) (pieces : List (List ℕ)) → new.above.watch ≡ old.above.watch → WritesAll old t places pieces new → Answers old t places pieces new
answered old new t places pieces same all w past indirect func args result e =
    below_marked w past old new t (Steps indirect func args) e.to act refl (step_answers indirect func args result [] (pieces_for places pieces) [])
    (subst (IsStep w past t s) (sym e.external) (subst (GivesStep w past s) (sym e.says) (record {
      result_is = refl;
      ins = sym (ap (read_by w func args) e.external);
      whole = tt;
      read = tt;
      pieces_are = ap (λ ps. pieces_for ps pieces) (sym e.places_are);
      freed = refl;
    })))
    (pieces_pass w past old t indirect func args result places pieces e done.at.passed)
    (below_stands w past old new (next_mark w past t System act) refl e.to.stands same
    (steps w past new.above.spaces (next_mark w past t System act) func args result [] (pieces_for places pieces) done.at.step refl (subst LeavesPool (sym e.external) tt) refl))
  where
    act : Act
    act = Step func args result [] (pieces_for places pieces) []

    s : StepOf
    s = record { func = func; args = args; result = result; ins = []; pieces = pieces_for places pieces; freed = [] }

    done : IsWriting w past t places pieces new
    done = all w past e.to.stands

-- at the end of the loop all were written
pub all_written : (old new : Memory) (t : ℕ) (xs : List PieceTarget) (bs : List (List ℕ)) (i : ℕ) → length xs ≤ i → length bs ≤ i →
    WritesAll old t (targets_of (take i xs)) (take i bs) new → WritesAll old t (targets_of xs) bs new
all_written old new t xs bs i le le' all =
    subst (λ ys. WritesAll old t (targets_of ys) bs new) (take_all i xs le)
    (subst (λ cs. WritesAll old t (targets_of (take i xs)) cs new) (take_all i bs le') all)
