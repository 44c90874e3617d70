use Rattle.std.proofs.Common.{sym}
use Rattle.space_memory.proofs.Returned.{prepared_whole}
use Rattle.space_memory.proofs.spaces.Spaces.is_committed_filled.Goals as goal

-- the region has its bytes
pub is_filled-requires-clause-len : goal.is_filled-requires-clause-len
is_filled-requires-clause-len c = (prepared_whole c.self.inside.held.regions c.args.key c.in-Some.region.now c.self.invariant.regions (sym c.in-Some.ensures)).0

pub is_filled-requires-clause-ends : goal.is_filled-requires-clause-ends
is_filled-requires-clause-ends c = (prepared_whole c.self.inside.held.regions c.args.key c.in-Some.region.now c.self.invariant.regions (sym c.in-Some.ensures)).1
