-- Where the pieces of an answer go, as values of this crate say it.
use Rattle.std.specs.Prelude.{List, [], ◌∷◌, map, Option, Some, None}
use Rattle.whole_runs.specs.Below as below
use Rattle.reference_recorder_targets.specs.declared.places.Target.{Target}
use Rattle.reference_recorder_targets.specs.declared.places.Target.TheVariants as target

-- the place that a value stands for
abbrev pub target_of : Target → below.Target
target_of (target.To r) = below.To r
target_of target.Nowhere = below.Nowhere
target_of target.Missing = below.Missing

-- those of a list, in order
abbrev pub targets_of : List Target → List below.Target
targets_of xs = map target_of xs

-- one or none
abbrev pub some_targets : Option Target → List below.Target
some_targets None = []
some_targets (Some x) = target_of x ∷ []
