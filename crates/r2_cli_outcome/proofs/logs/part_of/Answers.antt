use Rattle.r2_cli_outcome.specs.Plans.{gives, ends}
use Rattle.r2_cli_outcome.proofs.LogLemmas.{kept_of, part_passes, byte_refused, event_refused}
use Rattle.r2_cli_outcome.proofs.logs.part_of.Goals as goal

pub returns-in-Err-BadByte : goal.returns-in-Err-BadByte
returns-in-Err-BadByte c = ends (byte_refused _ _ c.in-Err-BadByte.at _ _ _ c.deref.ensures.value (c.in-Err-BadByte.ensures.bad_byte c.in-Err-BadByte.at (cc c.in-Err-BadByte.field-0-is)) c.wrong_byte.ensures)

pub returns-in-Err-Memory : goal.returns-in-Err-Memory
returns-in-Err-Memory c = ends tt

pub returns-in-Ok-closed : goal.returns-in-Ok-closed
returns-in-Ok-closed c =
    gives (part_passes _ c.in-Ok.kept c.in-Ok-closed.part (kept_of _ _ c.in-Ok.kept c.deref.ensures.value c.in-Ok.ensures.begins c.in-Ok.ensures.records c.in-Ok.ensures.whole)
    c.in-Ok-closed.ensures.fits c.in-Ok-closed.ensures.part c.in-Ok-closed.ensures.whole)

pub returns-in-Err : goal.returns-in-Err
returns-in-Err c =
    ends (event_refused _ c.in-Ok.kept c.in-Err.error _ _ _ (kept_of _ _ c.in-Ok.kept c.deref.ensures.value c.in-Ok.ensures.begins c.in-Ok.ensures.records c.in-Ok.ensures.whole)
    c.in-Err.ensures.refused c.wrong_order.ensures.words c.wrong_order.ensures.memory)
