use Rattle.std.proofs.Common.{◌≡◌, ◌++◌, drop}
use Rattle.call_inspector.specs.EventText.{more_args_text}
use Rattle.call_inspector.proofs.values.put_more_args.Given as goal

abbrev pub invariant-loop-i : goal.invariant-loop-i
invariant-loop-i l = l.text.items ++ more_args_text (drop l.i l.shapes) (drop l.i l.args) ≡ l.fn.text.items ++ more_args_text l.shapes l.args
