use Rattle.recorder_events.proofs.Few.{thread_few}
use Rattle.recorder_events.proofs.Frees.{ends, refused}
use Rattle.recorder_events.proofs.pool.end_at_free.Goals as goal

pub test_free-requires : goal.test_free-requires
test_free-requires c = let h = c.requires.step in thread_few _ h.reached.fit h.reached.past h.step c.args.thread h.thread

pub returns-in-Ok : goal.returns-in-Ok
returns-in-Ok c = ends _ c.args.state.now c.args.thread c.args.addr c.requires.step c.in-Ok.field-0 c.in-Ok.ensures.passes c.in-Ok.ensures.block c.args.ending c.requires.full

pub returns-in-Err : goal.returns-in-Err
returns-in-Err c = c.stop_above.ensures _ c.args.state.now (λ z. refused _ c.args.state.now c.args.thread c.args.addr c.requires.step c.in-Err.refusal c.in-Err.ensures.refused)
