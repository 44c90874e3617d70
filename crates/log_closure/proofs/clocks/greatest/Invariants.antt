use Rattle.std.proofs.Common.{◌≡◌, map, Some, drop}
use Rattle.log_closure.specs.Ties.{key_tie, needs}
use Rattle.log_closure.specs.FirstWrong.{greatest, both}
use Rattle.log_closure.specs.Tables.{Numbers, clock_in}
use Rattle.log_closure.specs.KeyNumbers.{HaveNumbers}
use Rattle.log_closure.proofs.clocks.greatest.Given as goal

abbrev pub invariant-loop-at : goal.invariant-loop-at
invariant-loop-at l = (number : Numbers) → HaveNumbers number l.marks l.numbers → both (Some l.least) (greatest (clock_in number l.table) (needs (map key_tie l.marks))) ≡ both (Some l.most) (greatest (clock_in number l.table) (needs (map key_tie (drop l.at l.marks))))
