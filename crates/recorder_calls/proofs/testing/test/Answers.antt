use Rattle.recorder_calls.proofs.Undone.{opened_depth, undone_spaces, left_spaces, left_watch}
use Rattle.recorder_calls.proofs.testing.test.Goals as goal

pub undo-requires-clause-open : goal.undo-requires-clause-open
undo-requires-clause-open c = opened_depth c.args.above.now c.args.thread _ c.call.new.self.spaces c.in-Ok.ensures.spaces c.requires.run

pub returns-in-Ok-clause-spaces : goal.returns-in-Ok-clause-spaces
returns-in-Ok-clause-spaces c = undone_spaces c.args.above.now c.args.thread _ c.call.new.self.spaces c.undo.new.self c.in-Ok.ensures.spaces c.requires.run c.undo.ensures.regions c.undo.ensures.depths c.undo.ensures.rest

pub returns-in-Ok-clause-parts : goal.returns-in-Ok-clause-parts
returns-in-Ok-clause-parts c = (c.call.new.self.spaces, c.in-Ok.ensures.spaces)

pub returns-in-Err-clause-unchanged : goal.returns-in-Err-clause-unchanged
returns-in-Err-clause-unchanged c cause = left_spaces c.args.above.now c.call.new.self (c.in-Err.ensures.unchanged cause) c.requires.run

pub returns-in-Err-clause-watch : goal.returns-in-Err-clause-watch
returns-in-Err-clause-watch c cause = left_watch c.args.above.now c.call.new.self (c.in-Err.ensures.unchanged cause) c.requires.run
