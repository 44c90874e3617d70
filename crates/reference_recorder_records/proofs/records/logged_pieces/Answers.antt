use Rattle.std.proofs.Common.{◌++◌, ap, ◌∙◌}
use Rattle.marks.specs.Marks.{logged}
use Rattle.marks.specs.Ranges.{piece_bytes}
use Rattle.reference_recorder_marks.specs.Marks.{commit_of}
use Rattle.reference_recorder_records.proofs.records.logged_pieces.Goals as goal

pub returns : goal.returns
returns c = c.in_ok-add_commit.ensures ∙ ap (λ xs. xs ++ logged (commit_of c.args.commit.now)) (c.in_ok-add_pieces.ensures ∙ (λ i. c.new-given.ensures.items i ++ piece_bytes (c.as_slice.ensures i)))
