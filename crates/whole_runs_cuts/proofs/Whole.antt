-- So a run keeps the cut.
use Rattle.std.proofs.Common.{◌≡◌, ℕ, zero, suc, ◌<◌, true, leb, List, Option, Some, None, sym, ap, ◌∙◌, subst, arith}
use Rattle.std.specs.Prelude.{reverse}
use Rattle.std.proofs.lemmas.Bool.{le-leb}
use Rattle.marks.specs.declared.side.Side.{Side}
use Rattle.marks.specs.Marks.{Mark}
use Rattle.marks.specs.Wants.{Want, Answer}
use Rattle.marks.specs.Places.{builtin_count}
use Rattle.c_code.specs.Frames.{are_values}
use Rattle.c_code.specs.Machine.{Config, Laid, Starting, first}
use Rattle.c_code.specs.MarkLists.{Split, Wants, at_end, lists, thread_lists}
use Rattle.c_code.specs.Typed.{StartsWell}
use Rattle.c_code.specs.Valid.{start_sig}
use Rattle.c_types_model.specs.Types.{CType}
use Rattle.c_types_rules.specs.Sources.{params_of}
use Rattle.c_semantics.specs.Context.{Source, shapes_of}
use Rattle.c_lower_placement.specs.Laws.{laid}
use Rattle.c_lower_placement.specs.Placement.{IsSigOf}
use Rattle.cut_graph_rules.specs.Findings.{Cut, May}
use Rattle.cut_graph_reached.specs.Answers.{ModesKept}
use Rattle.cut_graph_laws.specs.Granted.{WantGranted}
use Rattle.cut_graph_laws.specs.SoundCut.{Part, SoundCut, StaysWithin, permits}
use Rattle.cut_graph_run_laws.specs.Code.{IsCodeThread}
use Rattle.whole_runs.specs.World.{World, main_of}
use Rattle.whole_runs.specs.Sides.{own}
use Rattle.whole_runs.specs.Outcomes.{started, started_with}
use Rattle.whole_runs.specs.Threads.{beginning, comes}
use Rattle.whole_runs.specs.Ends.{Follows}
use Rattle.whole_runs_seen.proofs.Answered.{said_all}
use Rattle.whole_runs_seen.proofs.Threads.{AreThreads, args_at, begins_so, func_at, threads_known}
use Rattle.whole_runs_cuts.specs.Laws.{KeepsCut, RunsUnder, ThreadKeeps, thread_of}
use Rattle.whole_runs_cuts.proofs.Apart.{apart}
use Rattle.whole_runs_cuts.proofs.Begun.{IsWithin, begun_within, callee_least}
use Rattle.whole_runs_cuts.proofs.Kept.{modes_kept}
use Rattle.whole_runs_cuts.proofs.Ran.{ran, stepped_below}

abbrev number_or : ℕ → Option ℕ → ℕ
number_or d None = d
number_or d (Some x) = x

-- what a thread begins with is a function of the source
begun_least : (w : World) (past : List Mark) (t f : ℕ) → func_at w past t ≡ Some f → leb builtin_count f ≡ true
begun_least w past zero f e = subst (λ n. leb builtin_count n ≡ true) (ap (number_or 0) e) (le-leb builtin_count (main_of w.laid.code) (omega arith))
begun_least w past (suc t) f e = callee_least w.laid start_sig (first (started_with (suc t) past)) f e

module _ (s : Source) (c : Cut) (w : World) (under : RunsUnder s c w) (sound : SoundCut s c (IsCodeThread s w.laid.code)) (stays : (t : CType) (sig address : ℕ) (args : List ℕ) → IsSigOf s w.laid.code t sig → are_values (shapes_of (params_of t)) args ≡ true → StaysWithin c (thread_lists (laid s w.laid.code) sig address args)) where
  same : laid s w.laid.code ≡ w.laid
  same = λ i. record { code = w.laid.code; placed = sym under.source.placed i }

  module _ (past : List Mark) (f : Follows w past) where
    known : AreThreads w past
    known = threads_known w under.source.code past f

    begun : (t : ℕ) → t < started past → IsWithin s w.laid.code c (thread_of w past t)
    begun t lt =
        let o = func_at w past t in
        let args = args_at w past t in
        let main = under.source.code.main in
        let well : StartsWell (laid s w.laid.code) o args = subst (λ (z : Laid). StartsWell z o args) (sym same) (known.well t lt) in
        let here = begun_within s w.laid.code c under.source.sigs under.source.params stays (main_of w.laid.code) main.info main.known main.params o args (begun_least w past t) well in
        subst (λ (b : Config). IsWithin s w.laid.code c (λ ms. lists Split ms w.laid b)) (sym (begins_so w past t))
        (subst (λ (z : Laid). IsWithin s w.laid.code c (λ ms. lists Split ms z (Starting o args))) same here)

    kept : (t : ℕ) → t < started past → ModesKept (May c) (thread_of w past t) (reverse (own w t past))
    kept t lt r k = under.keeps r.side r.func (modes_kept w under.source.code past f t lt r k)

    granted : (t : ℕ) (lt : t < started past) (side : Side) (want : Want) (to : Answer → Config) → comes w past t ≡ Wants side want to → WantGranted s (permits s c) side want
    granted t lt side want to e =
        let part : Part c (IsCodeThread s w.laid.code) = record { behaviour = thread_of w past t; thread = (begun t lt).thread; marks = reverse (own w t past); kept = kept t lt } in
        sound.wants part side want (said_all Split w.laid (beginning w past t) (own w t past) (known.go_on t lt) ∙ ap at_end e)

    keeps : (t : ℕ) → t < started past → ThreadKeeps s c w past t
    keeps t lt = let b = begun t lt in record { thread = b.thread; within = b.within; kept = kept t lt; granted = granted t lt }

    pub keeps_cut : KeepsCut s c w past
    keeps_cut = record { threads = keeps; marks = record { runs = ran s c w past known keeps; steps = stepped_below s c w past known keeps; apart = apart s c w sound past known keeps } }
