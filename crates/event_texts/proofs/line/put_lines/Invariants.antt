use Rattle.std.proofs.Common.{◌≡◌, ◌++◌, take}
use Rattle.event_texts.specs.EventTexts.{lines_text}
use Rattle.event_texts.proofs.line.put_lines.Given as goal

abbrev pub invariant-loop-line : goal.invariant-loop-line
invariant-loop-line l = l.text.items ≡ l.fn.text.items ++ lines_text (take l.line-index l.lines)
