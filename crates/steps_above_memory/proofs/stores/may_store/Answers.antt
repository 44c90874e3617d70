use Rattle.steps_above_memory.proofs.Tests.{refused_too}
use Rattle.steps_above_memory.proofs.stores.may_store.Goals as goal

pub returns-in-Err-clause-refused : goal.returns-in-Err-clause-refused
returns-in-Err-clause-refused c = refused_too c.args.spaces.now.bytes c.args.spaces.now.held.regions c.args.thread c.args.addr c.args.width c.in-Err.refusal ((c.load.ensures.refused c.in-Err.refusal).0 c.in-Err.is)
