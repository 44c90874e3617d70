use Rattle.std.proofs.Common.{sym, ◌∙◌}
use Rattle.marks.specs.Places.{is_replay}
use Rattle.reference_recorder_rights.proofs.Touching.{kept_out, let_in}
use Rattle.reference_recorder_rights.proofs.rights.is_forbidden.Goals as goal

pub returns-then-is_replay : goal.returns-then-is_replay
returns-then-is_replay c = λ w e. kept_out (is_replay c.args.addr) c.in_ok-may.may (c.in_ok-may.ensures w e) (sym c.is_replay.ensures ∙ c.if-is_replay.true)

pub returns-else-is_replay : goal.returns-else-is_replay
returns-else-is_replay c = λ w e. let_in (is_replay c.args.addr) (sym c.is_replay.ensures ∙ c.if-is_replay.false)
