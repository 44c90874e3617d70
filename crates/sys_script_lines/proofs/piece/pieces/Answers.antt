use Rattle.std.proofs.Common.{◌∙◌}
use Rattle.sys_script_lines.specs.Parts.{parts}
use Rattle.sys_script_lines.specs.Pieces.{piece}
use Rattle.sys_script_lines.proofs.Joined.{each_added}
use Rattle.sys_script_lines.proofs.piece.pieces.Goals as goal

pub loop-word-preserved : goal.loop-word-preserved
loop-word-preserved c = record {
  read =
      each_added piece c.loop-word.answers.begun c.add_piece.new.answers.begun c.in-Some.word.now (parts 32 c.in-Some.after.now) (parts 32 c.loop-word.rest.now) c.in-Some.ensures.parts c.in_ok-add_piece.ensures.added
      ∙ c.loop-word.invariant.read;
  same = c.in_ok-add_piece.ensures.same ∙ c.loop-word.invariant.same;
}
