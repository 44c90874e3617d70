use Rattle.call_inspector.specs.Parts.{PutsLines}
use Rattle.call_inspector.proofs.lines.put_lines.Given as goal

abbrev pub invariant-loop-index : goal.invariant-loop-index
invariant-loop-index l = PutsLines l.code l.threads l.records l.from l.fn.text.items l.fn.passed l.index l.text.items l.passed
