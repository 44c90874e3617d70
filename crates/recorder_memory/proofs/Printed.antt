-- What `r2_print` reads below the cut.
use Rattle.std.proofs.Common.{◌≡◌, inl, inr, ℕ, suc, ◌+◌, ◌<◌, ◌≤◌, List, [], ◌∷◌, ◌++◌, length, get_or, take, drop, Option, Some, refl, sym, ap, ◌∙◌, subst, append_assoc}
use Rattle.std.specs.Prelude.{All}
use Rattle.std.proofs.lemmas.List.{append-nil, map-append, take-append-drop, take_all, take_more}
use Rattle.std.proofs.lemmas.List.Elements.{All-head, All-tail, All-map, All-nil, All-push, All-weaker}
use Rattle.std.proofs.Math.Seq.{drop-cons}
use Rattle.marks.specs.declared.side.Side.TheVariants.{System}
use Rattle.marks.specs.Places.{thread_count}
use Rattle.marks.specs.declared.range.Range.{Range}
use Rattle.marks.specs.Ranges.{Piece, piece_ranges}
use Rattle.marks.specs.Marks.{Act, Step, Mark}
use Rattle.marks.specs.Wants.{Steps}
use Rattle.c_builtins.specs.declared.builtin.Builtin.{Builtin}
use Rattle.c_builtins.specs.declared.builtin.Builtin.TheVariants.{Print}
use Rattle.replay_runs.specs.Checks.{Passes, Finds}
use Rattle.replay_runs.specs.Records.{pieces_in_a_row}
use Rattle.replay_runs.specs.Rules.{AreWhole}
use Rattle.space_memory.specs.Spaces.{SpaceState}
use Rattle.space_memory_laws.specs.Refusals.{finding_of}
use Rattle.steps_above_memory.specs.declared.refusal.StepRefusal.{StepRefusal}
use Rattle.steps_above_memory.specs.Refusals.{IsFound}
use Rattle.steps_above_memory.proofs.Ranges.{as_found}
use Rattle.whole_runs.specs.World.{World}
use Rattle.whole_runs.specs.Outcomes.{builtin_of}
use Rattle.whole_runs.specs.Memory.{real, HasAll}
use Rattle.whole_runs.specs.Below.{given_by, targets, read_checks}
use Rattle.whole_runs.specs.Tests.{step_checks, tests}
use Rattle.whole_runs.specs.Steps.{StepOf, IsStep, GivesStep, read_by}
use Rattle.whole_runs_memory.specs.Stands.{StandsForWhole}
use Rattle.whole_runs_memory.specs.Plain.{LeavesPool}
use Rattle.whole_runs_memory.specs.Refusals.{MayRead}
use Rattle.whole_runs_memory.proofs.Plain.{plain, copies}
use Rattle.whole_runs_memory.proofs.Refusals.{reads, reads_pass}
use Rattle.whole_runs_memory.proofs.RetChecks.{no_pieces}
use Rattle.recorder_memory.specs.declared.memory.Memory as declared
use Rattle.recorder_memory.specs.Steps.{next_mark}
use Rattle.recorder_memory.specs.Below.{Prints, RefusesPrint}
use Rattle.recorder_memory.specs.Printing.{IsRead, ReadsOn, RefusesOn, AreRead}
use Rattle.recorder_memory.proofs.Replies.{step_answers}
use Rattle.recorder_memory.proofs.Modes.{step_passes, step_finds}
use Rattle.recorder_memory.proofs.Marking.{below_stands, below_marked}

-- ---- range by range

in_a_row_more : (ps : List Piece) (p : Piece) → pieces_in_a_row (ps ++ p ∷ []) ≡ pieces_in_a_row ps ++ p.bytes
in_a_row_more [] p = append-nil p.bytes
in_a_row_more (q ∷ ps) p = ap (λ bs. q.bytes ++ bs) (in_a_row_more ps p) ∙ sym (append_assoc q.bytes (pieces_in_a_row ps) p.bytes)

pub none_read : (memory : SpaceState) (t : ℕ) → AreRead memory t [] []
none_read memory t = record { pieces = []; ranges_are = refl; read = All-nil (IsRead memory t); bytes_are = refl }

pub read_more : (memory : SpaceState) (t : ℕ) (ranges : List Range) (i : ℕ) (d : Range) (old new : List ℕ) → i < length ranges →
    AreRead memory t (take i ranges) old → ReadsOn memory t (get_or ranges i d) old new → AreRead memory t (take (i + 1) ranges) new
read_more memory t ranges i d old new lt before one =
    let piece : Piece = record { range = get_or ranges i d; bytes = one.0 } in
    record {
      pieces = before.pieces ++ piece ∷ [];
      ranges_are = map-append (λ (p : Piece). p.range) before.pieces (piece ∷ []) ∙ ap (λ rs. rs ++ get_or ranges i d ∷ []) before.ranges_are ∙ sym (take_more ranges i d lt);
      read = All-push (IsRead memory t) before.pieces piece before.read one.1;
      bytes_are = in_a_row_more before.pieces piece ∙ ap (λ bs. bs ++ one.0) before.bytes_are ∙ sym one.2;
    }

may_read : (memory : SpaceState) (t : ℕ) (ps : List Piece) → All (IsRead memory t) ps → All (MayRead memory t) (piece_ranges ps)
may_read memory t ps all = All-map (MayRead memory t) (λ (p : Piece). p.range) ps (All-weaker (IsRead memory t) (λ (p : Piece). MayRead memory t p.range) (λ p r. r.may) ps all)

all_may : (memory : SpaceState) (t : ℕ) (ranges : List Range) (bytes : List ℕ) → AreRead memory t ranges bytes → All (MayRead memory t) ranges
all_may memory t ranges bytes are = subst (All (MayRead memory t)) are.ranges_are (may_read memory t are.pieces are.read)

-- ---- the step

whole_pieces : (memory : SpaceState) (t : ℕ) (ps : List Piece) → All (IsRead memory t) ps → AreWhole ps
whole_pieces memory t [] all = tt
whole_pieces memory t (p ∷ ps) all = ((All-head (IsRead memory t) p ps all).shown.whole, whole_pieces memory t ps (All-tail (IsRead memory t) p ps all))

real_pieces : (w : World) (past : List Mark) (memory : SpaceState) (t : ℕ) (ps : List Piece) → StandsForWhole w past memory → All (IsRead memory t) ps → HasAll (real w past) ps
real_pieces w past memory t [] h all = tt
real_pieces w past memory t (p ∷ ps) h all = (copies w past memory p h (All-head (IsRead memory t) p ps all).shown, real_pieces w past memory t ps h (All-tail (IsRead memory t) p ps all))

printed : (memory : declared.Memory) (t : ℕ) (ranges : List Range) (bytes : List ℕ) → t < thread_count → AreRead memory.above.spaces t ranges bytes → Prints memory t ranges bytes
printed memory t ranges bytes lt are w past indirect func args b is = record {
  ins = are.pieces;
  bytes_are = are.bytes_are;
  marked = below_marked w past memory memory t (Steps indirect func args) b.to act refl (step_answers indirect func args 0 are.pieces [] [])
      agrees
      (step_passes w past t func args indirect b.to.modes passes)
      (below_stands w past memory memory (next_mark w past t System act) refl b.to.stands refl
      (plain w past memory.above.spaces (next_mark w past t System act) b.to.stands.whole (subst LeavesPool (sym b.builtin) tt, refl, refl)));
}
  where
    act : Act
    act = Step func args 0 are.pieces [] []

    s : StepOf
    s = record { func = func; args = args; result = 0; ins = are.pieces; pieces = []; freed = [] }

    read_is : piece_ranges are.pieces ≡ read_by w func args (builtin_of func)
    read_is = are.ranges_are ∙ sym is ∙ sym (ap (read_by w func args) b.builtin)

    print_agrees : piece_ranges are.pieces ≡ read_by w func args (builtin_of func) → (o : Option Builtin) → builtin_of func ≡ o → o ≡ Some Print → IsStep w past t s o
    print_agrees ranges' o e p = subst (IsStep w past t s) (sym p) (subst (λ k. GivesStep w past s (given_by w past t func args k)) (sym (e ∙ p)) (record {
      result_is = refl;
      ins = ranges';
      whole = whole_pieces memory.above.spaces t are.pieces are.read;
      read = real_pieces w past memory.above.spaces t are.pieces b.to.stands.whole are.read;
      pieces_are = sym (no_pieces (targets w System past func args 0));
      freed = refl;
    }))

    agrees : IsStep w past t s (builtin_of func)
    agrees = print_agrees read_is (builtin_of func) refl b.builtin

    passes : Passes (step_checks w past t func args (builtin_of func))
    passes = subst (λ o. Passes (step_checks w past t func args o)) (sym b.builtin)
        (subst (λ rs. Passes (read_checks w past t rs)) (sym is)
        (reads_pass w past memory.above.spaces t ranges b.to.stands.whole lt (all_may memory.above.spaces t ranges bytes are)))

-- at the end of the loop all were read
pub all_printed : (memory : declared.Memory) (t : ℕ) (ranges : List Range) (i : ℕ) (bytes : List ℕ) → t < thread_count → length ranges ≤ i →
    AreRead memory.above.spaces t (take i ranges) bytes → Prints memory t ranges bytes
all_printed memory t ranges i bytes lt le are = printed memory t ranges bytes lt (subst (λ rs. AreRead memory.above.spaces t rs bytes) (take_all i ranges le) are)

-- a range that memory refuses, after those before it were read
pub print_refused : (memory : declared.Memory) (t : ℕ) (ranges : List Range) (i : ℕ) (d : Range) (bytes : List ℕ) (found : StepRefusal) →
    t < thread_count → i < length ranges → AreRead memory.above.spaces t (take i ranges) bytes →
    RefusesOn memory.above.spaces t (get_or ranges i d) found → RefusesPrint memory t ranges found
print_refused memory t ranges i d bytes found lt there before (inl is) w past indirect func args b e = subst (IsFound (tests w past t System (Steps indirect func args))) (sym is) tt
print_refused memory t ranges i d bytes found lt there before (inr r) w past indirect func args b e =
    subst (IsFound (tests w past t System (Steps indirect func args))) (sym r.refusal_is)
    (as_found (tests w past t System (Steps indirect func args)) r.cause
    (step_finds w past t func args indirect (finding_of r.cause) b.to.modes
    (subst (λ o. Finds (step_checks w past t func args o) (finding_of r.cause)) (sym b.builtin)
    (subst (λ rs. Finds (read_checks w past t rs) (finding_of r.cause)) (sym (e ∙ splits))
    (reads w past memory.above.spaces t (take i ranges) (drop (suc i) ranges) (get_or ranges i d) r.cause b.to.stands.whole lt (all_may memory.above.spaces t (take i ranges) bytes before) r.small r.refused)))))
  where
    splits : ranges ≡ take i ranges ++ get_or ranges i d ∷ drop (suc i) ranges
    splits = sym (take-append-drop i ranges) ∙ ap (λ l. take i ranges ++ l) (drop-cons ranges i d there)
