use Rattle.std.proofs.Common.{◌≡◌, ◌++◌, take}
use Rattle.std.specs.List.{flat_map}
use Rattle.event_texts.specs.EventTexts.{event_line, lines_text}
use Rattle.r2_cli_outcome.proofs.sending.read_lines.Given as goal

abbrev pub invariant-loop-place : goal.invariant-loop-place
invariant-loop-place l = flat_map event_line (take l.place l.part.events) ≡ flat_map event_line (take l.from l.part.events) ++ lines_text l.lines.items
