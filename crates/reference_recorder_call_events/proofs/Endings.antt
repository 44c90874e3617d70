-- What a Ret has whose call ends with a result.
use Rattle.std.proofs.Common.{◌≡◌, ℕ, List, [], ◌∷◌, ◌++◌, map, Option, Some, None, refl, sym, ap, ◌∙◌}
use Rattle.marks.specs.declared.side.Side.TheVariants.{Replay}
use Rattle.marks.specs.Ranges.{Piece}
use Rattle.c_code.specs.declared.code.FuncInfo.{FuncInfo}
use Rattle.c_code.specs.MarkLists.{result_shape}
use Rattle.stub_meaning.specs.Meaning.{type_of}
use Rattle.replay_runs.specs.Interface.{Committing}
use Rattle.whole_runs.specs.World.{World, begin, interface}
use Rattle.whole_runs.specs.Sides.{seen}
use Rattle.whole_runs.specs.Memory.{HasAll}
use Rattle.whole_runs.specs.Below.{To, commit_target, target_at, targets}
use Rattle.reference_recorder_marks.specs.declared.mark.Mark.{Mark as Told}
use Rattle.reference_recorder_marks.specs.Marks.{past}
use Rattle.reference_recorder_threads.specs.Telling.{IsPast}
use Rattle.reference_recorder_call_events.specs.Returns.{HasRegion, HasRegionUsed}
use Rattle.reference_recorder_call_events.proofs.Rets.{in_use_are}
use Rattle.reference_recorder_call_events.proofs.Weaker.{InUse, InUseFor}

-- ---- memory

module _ (m n : ℕ → Option ℕ) (same : (x : ℕ) → m x ≡ n x) where
  pub all_same : (ps : List Piece) → HasAll m ps → HasAll n ps
  all_same [] h = tt
  all_same (p ∷ ps) h = ((λ x e. sym (same x) ∙ h.0 x e), all_same ps h.1)

-- ---- what marks say of a run that comes to them

module _ (w : World) (marks : List Told) (p : IsPast w marks) where
  target_are : (o : Option Committing) → commit_target w Replay (past marks) o ≡ commit_target w Replay p.run o
  target_are None = refl
  target_are (Some c) = by c.used
    where
      by : (u : Option ℕ) → commit_target w Replay (past marks) (Some (record { key = c.key; used = u })) ≡
          commit_target w Replay p.run (Some (record { key = c.key; used = u }))
      by None = refl
      by (Some n) = ap (λ r. target_at r ∷ []) (in_use_are w marks p c.key)

  pub targets_are : (f : ℕ) (args : List ℕ) (v : ℕ) → targets w Replay (past marks) f args v ≡ targets w Replay p.run f args v
  targets_are f args v = ap (λ xs. map To ((interface w).outs f args) ++ xs) (target_are ((interface w).commits f args v))

  -- a region that is in use in the run is so by its marks
  region_used : (k : ℕ) (o : Option ℕ) → InUseFor (begin w) (seen p.run) k o → HasRegionUsed (past marks) k o
  region_used k None h = tt
  region_used k (Some n) h = λ e. h (sym (in_use_are w marks p k) ∙ e)

  pub region_so : (o : Option Committing) → InUse (begin w) (seen p.run) o → HasRegion (past marks) o
  region_so None h = tt
  region_so (Some c) h = region_used c.key c.used h

pub shape_is : (o : Option FuncInfo) → result_shape o ≡ (type_of o).result
shape_is (Some f) = refl
shape_is None = refl
