-- An Alloc.
use Rattle.std.proofs.Common.{◌≡◌, ℕ, List, Some, refl, sym, ap, ◌∙◌, subst, eq-eqb}
use Rattle.std.specs.Prelude.{is_some}
use Rattle.run_events.specs.declared.key.Class.TheVariants.{Pool}
use Rattle.marks.specs.declared.side.Side.TheVariants.{Replay}
use Rattle.marks.specs.declared.range.Range.{Range}
use Rattle.marks.specs.Places.{replay_pool}
use Rattle.marks.specs.Marks.{Alloc, Mark}
use Rattle.marks.specs.Wants.{Value, answer_if, event_answer}
use Rattle.replay_runs.specs.Runs.{OfKey, new_events}
use Rattle.replay_runs.specs.Keys.{key}
use Rattle.replay_runs.specs.Pool.{IsPlace, blocks}
use Rattle.replay_runs.specs.Rules.{SharedEvent}
use Rattle.whole_runs.specs.World.{World, begin, interface}
use Rattle.whole_runs.specs.Sides.{seen}
use Rattle.whole_runs.specs.Steps.{Picked}
use Rattle.recorder_threads.specs.declared.wants.Want.TheVariants as told
use Rattle.recorder_events.specs.Making.{CanBe}
use Rattle.recorder_events.proofs.Allocs.{only_key}
use Rattle.reference_recorder_marks.specs.declared.mark.Mark.{Mark as Told}
use Rattle.reference_recorder_marks.specs.Marks.{past}
use Rattle.reference_recorder_origins.proofs.Memory.{blocks_seen}
use Rattle.reference_recorder_threads.specs.Telling.{IsPast}
use Rattle.reference_recorder_rules.specs.Steps.{IsToMake}

-- what the marks say, the run says
module _ (w : World) (marks : List Told) (p : IsPast w marks) where
  blocks_are : blocks (begin w) (seen (past marks)) ≡ blocks (begin w) (seen p.run)
  blocks_are = ap (λ ms. blocks (begin w) (seen ms)) (sym p.same) ∙ blocks_seen w p.run

module _ (w : World) (marks : List Told) (t size : ℕ) (args : List ℕ) (h : IsToMake w marks t Replay args (told.Alloc size)) where
  abbrev run : List Mark
  run = h.at.past.run

  abbrev s : Picked w run
  s = h.at.step

  answer : (at : ℕ) → event_answer s.want (Alloc at size) ≡ Some (Value at)
  answer at = ap (λ v. event_answer v (Alloc at size)) h.at.told ∙ ap (λ b. answer_if b (Value at)) (eq-eqb size size refl)

  pub can_be_alloc : (bs : List Range) (at : ℕ) → bs ≡ blocks (begin w) (seen (past marks)) → IsPlace replay_pool bs size at → CanBe w run s (Alloc at size)
  can_be_alloc bs at are place = record {
    answers = ap is_some (answer at);
    agrees = tt;
    carries = tt;
    shared = λ k among. subst (λ j. SharedEvent (interface w) (begin w) j.class j.value (new_events (OfKey j) (seen run)) (Alloc at size)) (only_key (key Pool 0) k among)
        (subst (λ cs. IsPlace replay_pool cs size at) (are ∙ blocks_are w marks h.at.past) place);
    bytes = λ x. tt;
    passes = h.passes;
  }
