-- What is found of the guards of a source, for the code.
use Rattle.std.specs.Prelude.{◌≡◌, ℕ, Bool, List}
use Rattle.std.specs.List.{flat_map}
use Rattle.isolation_check_rows.specs.declared.sides.Counts.TheVariants.{Either}
use Rattle.isolation_check_rows.specs.Rows.{counts}
use Rattle.lockset_check_rules.specs.declared.finding.LockFinding.{LockFinding}
use Rattle.lockset_check_rules.specs.Order.{AreSorted}
use Rattle.lockset_check_lines.specs.Texts.{ended_line}

-- whether a function may run, by the flags of both sides of the cut
abbrev pub runs : (above below : List Bool) → (number : ℕ) → Bool
runs above below number = counts above below Either number

-- the text has the lines of all that is found, in order
pub record IsGuardsText (found : List LockFinding) (text : List ℕ) : Type 0 where
  pub sorted : List LockFinding
  pub are : AreSorted found sorted
  pub lines : text ≡ flat_map ended_line sorted
