use Rattle.std.proofs.Common.{refl, sym, subst}
use Rattle.recorder_state.specs.Inputs.{world_of}
use Rattle.reference_recorder_call_events.specs.Memory.{IsPieceOf, memory_of}
use Rattle.reference_recorder_call_events.proofs.returning.released.Goals as goal

pub unreachable-requires : goal.unreachable-requires
unreachable-requires c = c.requires (sym (c.in-None.ensures (world_of c.args.memory.inputs)))

pub returns : goal.returns
returns c = record {
  range = c.in-Some.range;
  in_use = sym (c.in-Some.ensures (world_of c.args.memory.inputs));
  region = c.in_ok-region-in-Some.region;
  read = subst (λ n. IsPieceOf (memory_of c.args.memory) c.in-Some.range n c.in_ok-region-in-Some.region) c.used_of.ensures c.in_ok-region-in-Some.ensures;
  commit_is = refl;
}
