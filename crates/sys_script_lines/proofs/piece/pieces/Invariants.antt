use Rattle.std.proofs.Common.{◌≡◌, length}
use Rattle.sys_script_lines.specs.Each.{each}
use Rattle.sys_script_lines.specs.Parts.{parts}
use Rattle.sys_script_lines.specs.Pieces.{piece}
use Rattle.sys_script_lines.proofs.Joined.{joined}
use Rattle.sys_script_lines.proofs.piece.pieces.Given as goal

abbrev pub invariant-loop-word : goal.invariant-loop-word
invariant-loop-word l = record {
  read : joined l.answers.begun (each piece (parts 32 l.rest)) ≡ each piece (parts 32 l.words);
  same : l.answers.ended ≡ l.initial.answers.ended;
}

abbrev pub decreases-loop-word : goal.decreases-loop-word
decreases-loop-word l = length l.rest
