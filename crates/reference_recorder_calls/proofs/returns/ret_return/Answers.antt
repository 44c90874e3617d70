use Rattle.std.proofs.Common.{◌++◌, ◌∙◌}
use Rattle.marks.specs.Marks.{logged}
use Rattle.marks.specs.Ranges.{piece_bytes}
use Rattle.reference_recorder_marks.specs.Marks.{commit_of}
use Rattle.reference_recorder_calls.proofs.Lists.{gives_nothing, gives_this}
use Rattle.reference_recorder_calls.proofs.returns.ret_return.Goals as goal

pub returns-then-of-func : goal.returns-then-of-func
returns-then-of-func c = gives_this c.args.of c.args.func c.args.value (piece_bytes c.args.outs.now ++ logged (commit_of c.args.commit.now)) c.in_ok-bytes.bytes c.if-of-func.true (c.in_ok-bytes.ensures ∙ c.in_ok-logged.ensures)

pub returns : goal.returns
returns c = gives_nothing c.args.of c.args.func c.args.value (piece_bytes c.args.outs.now ++ logged (commit_of c.args.commit.now)) c.if-of-func.false
