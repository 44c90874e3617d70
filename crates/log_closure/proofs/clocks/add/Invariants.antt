use Rattle.std.proofs.Common.{◌≡◌, ◌<◌, List, map, take, Some, None, cond}
use Rattle.std.specs.Prelude.{is_some}
use Rattle.log_closure.specs.declared.tie.Tie.{Tie}
use Rattle.log_closure.specs.Ties.{listed, key_tie}
use Rattle.log_closure.specs.FirstWrong.{or_else, repeats}
use Rattle.log_closure.specs.Tables.{AreApart, Numbers, clock_in}
use Rattle.log_closure.specs.KeyNumbers.{HaveNumbers}
use Rattle.log_closure.proofs.clocks.add.Given as goal

abbrev pub invariant-loop-at : goal.invariant-loop-at
invariant-loop-at l = record {
  clocks : (number : Numbers) → AreApart number → HaveNumbers number l.marks l.numbers → (t : Tie) → clock_in number l.table t ≡ or_else (clock_in number l.fn.table t) (cond (listed (map key_tie (take l.at l.marks)) t) (Some l.clock) None);
  repeats : (number : Numbers) → AreApart number → HaveNumbers number l.marks l.numbers → (before : List Tie) → ((t : Tie) → 0 < t.class → is_some (clock_in number l.fn.table t) ≡ listed before t) → l.repeats ≡ repeats before (map key_tie (take l.at l.marks));
}
