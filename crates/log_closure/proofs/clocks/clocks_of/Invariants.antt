use Rattle.std.proofs.Common.{◌≡◌, [], take, drop}
use Rattle.log_closure.specs.Events.{events_of}
use Rattle.log_closure.specs.FirstWrong.{first_twice}
use Rattle.log_closure.specs.Tables.{Owns, clock_in}
use Rattle.log_closure.specs.KeyNumbers.{HaveNumbers, marks_of, number_in}
use Rattle.log_closure.proofs.clocks.clocks_of.Given as goal

abbrev pub invariant-loop-at : goal.invariant-loop-at
invariant-loop-at l = record {
  owns : Owns (clock_in (number_in l.numbering) l.table) (events_of (take l.at l.records));
  twice : l.twice ≡ first_twice 0 [] (events_of (take l.at l.records));
  left : HaveNumbers (number_in l.numbering) (marks_of (drop l.at l.records)) l.left;
}
