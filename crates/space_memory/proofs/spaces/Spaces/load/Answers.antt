use Rattle.std.proofs.Common.{ℕ, false}
use Rattle.space_memory_access.specs.Accesses.{IsRefused}
use Rattle.space_memory.proofs.Refused.{carried}
use Rattle.space_memory.proofs.spaces.Spaces.load.Goals as goal

pub returns-in-Err-clause-refused : goal.returns-in-Err-clause-refused
returns-in-Err-clause-refused c =
    carried ℕ c.in-Err.refusal (λ q. IsRefused c.args.self.now.bytes c.args.self.now.held.regions (record { side = c.args.side; thread = c.args.thread; range = record { addr = c.args.addr; len = c.args.width }; write = false }) q) c.in-Err.ensures.refused
