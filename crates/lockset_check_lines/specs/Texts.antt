-- Lines with their ends.
use Rattle.std.specs.Prelude.{ℕ, List, ◌++◌, codes}
use Rattle.lockset_check_rules.specs.declared.finding.LockFinding.{LockFinding}
use Rattle.lockset_check_rules.specs.Lines.{line_of}

abbrev pub ended_line : LockFinding → List ℕ
ended_line f = line_of f ++ codes "\n"
