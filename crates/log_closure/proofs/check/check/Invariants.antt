use Rattle.std.proofs.Common.{◌≡◌, ◌≤◌, ℕ, [], Some, take, drop, length}
use Rattle.log_closure.specs.Events.{events_of}
use Rattle.log_closure.specs.FirstWrong.{first_wrong}
use Rattle.log_closure.specs.Tables.{Numbers, Owns, clock_in}
use Rattle.log_closure.specs.KeyNumbers.{HaveNumbers, marks_of}
use Rattle.log_closure.proofs.CheckSteps.{LastIs}
use Rattle.log_closure.proofs.check.check.Given as goal

abbrev pub invariant-loop-at : goal.invariant-loop-at
invariant-loop-at l = record {
  wide : length l.last ≡ 256;
  last : LastIs l.records l.at l.last;
  later : (m : ℕ) → l.clocks.twice ≡ Some m → l.at ≤ m;
  left : (number : Numbers) × Owns (clock_in number l.clocks.table) (events_of l.records) × HaveNumbers number (marks_of (drop l.at l.records)) l.left;
  same : first_wrong l.whole (events_of l.records) [] (events_of l.records) ≡ first_wrong l.whole (events_of l.records) (take l.at (events_of l.records)) (drop l.at (events_of l.records));
}
