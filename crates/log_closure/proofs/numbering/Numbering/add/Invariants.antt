use Rattle.std.proofs.Common.{◌++◌, List, vec_len, take}
use Rattle.run_events.specs.declared.key.KeyMark.{KeyMark}
use Rattle.log_closure.specs.KeyNumbers.{AreNumbers, HaveNumbers, number_in}
use Rattle.log_closure.proofs.numbering.Numbering.add.Given as goal

abbrev pub invariant-loop-mark : goal.invariant-loop-mark
invariant-loop-mark l = record {
  numbers : AreNumbers l.self.keys.numbers (vec_len l.self.keys.counts);
  marks : (seen : List KeyMark) → HaveNumbers (number_in l.fn.self) seen l.fn.self.marks.items → HaveNumbers (number_in l.self) (seen ++ take l.mark-index l.marks) l.self.marks.items;
}
