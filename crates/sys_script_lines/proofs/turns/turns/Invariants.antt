use Rattle.std.proofs.Common.{◌≡◌, length}
use Rattle.sys_script_lines.specs.Each.{each}
use Rattle.sys_script_lines.specs.Parts.{parts}
use Rattle.sys_script_lines.specs.Turns.{turn}
use Rattle.sys_script_lines.proofs.Joined.{joined}
use Rattle.sys_script_lines.proofs.turns.turns.Given as goal

abbrev pub invariant-loop-thread : goal.invariant-loop-thread
invariant-loop-thread l = joined l.turns (each turn (parts 32 l.rest)) ≡ each turn (parts 32 l.words)

abbrev pub decreases-loop-thread : goal.decreases-loop-thread
decreases-loop-thread l = length l.rest
