-- Where the pieces go of an external that is called below the cut.
use Rattle.std.proofs.Common.{◌≡◌, ℕ, List, ◌∷◌, [], map, ◌++◌, Option, Some, None, refl, sym, ap, ◌∙◌}
use Rattle.std.specs.Option.{option_or}
use Rattle.marks.specs.declared.side.Side.TheVariants.{System}
use Rattle.marks.specs.declared.range.Range.{Range}
use Rattle.marks.specs.Marks.{Mark}
use Rattle.replay_runs.specs.Interface.{Committing}
use Rattle.replay_runs.specs.Pool.{in_use}
use Rattle.whole_runs.specs.World.{World, begin, interface_on}
use Rattle.whole_runs.specs.Sides.{seen}
use Rattle.whole_runs.specs.Below.{Target, To, commit_target, prepared_below, region_under, target_at, target_used, targets}
use Rattle.reference_recorder_marks.specs.Marks.{without_origins}
use Rattle.reference_recorder_origins.proofs.Memory.{in_use_seen, prepared_without}

-- that doesn't depend on origins
module _ (w : World) (p q : List Mark) (same : without_origins p ≡ q) where
  region_same : (k : ℕ) → region_under w System k q ≡ region_under w System k p
  region_same k =
      ap (λ ms. region_under w System k ms) (sym same)
      ∙ (ap (λ (r : Option Range). option_or r (prepared_below w k (without_origins p))) (in_use_seen w k p)
      ∙ ap (option_or (in_use (begin w) k (seen p))) (prepared_without w k p))

  used_target : (k : ℕ) (n : Option ℕ) → target_used w System k q n ≡ target_used w System k p n
  used_target k None = refl
  used_target k (Some n) = ap target_at (region_same k)

  target_same : (o : Option Committing) → commit_target w System q o ≡ commit_target w System p o
  target_same None = refl
  target_same (Some c) = ap (λ (x : Target). x ∷ []) (used_target c.key c.used)

  pub targets_same : (f : ℕ) (args : List ℕ) (v : ℕ) → targets w System q f args v ≡ targets w System p f args v
  targets_same f args v = ap (λ xs. map To ((interface_on w System f).outs f args) ++ xs) (target_same ((interface_on w System f).commits f args v))
