use Rattle.std.proofs.Common.{◌≡◌, length}
use Rattle.sys_script_lines.specs.Each.{each}
use Rattle.sys_script_lines.specs.Parts.{parts}
use Rattle.sys_script_lines.specs.Turns.{turn}
use Rattle.sys_script_lines.proofs.Joined.{joined}
use Rattle.sys_script_lines.proofs.turns.add_turns.Given as goal

abbrev pub invariant-loop-word : goal.invariant-loop-word
invariant-loop-word l = joined l.turns (each turn (parts 32 l.rest)) ≡ joined l.initial.turns (each turn (parts 32 l.words))

abbrev pub decreases-loop-word : goal.decreases-loop-word
decreases-loop-word l = length l.rest
