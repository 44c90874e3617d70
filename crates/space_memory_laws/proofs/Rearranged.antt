-- Runs with the same marks in another order leave the same.
use Rattle.std.proofs.Common.{List, ap}
use Rattle.run_events.specs.declared.key.Class.TheVariants.{Pool, Async}
use Rattle.marks.specs.Marks.{Mark}
use Rattle.replay_runs.specs.Runs.{OfKey, Start}
use Rattle.replay_runs.specs.Interface.{Program}
use Rattle.replay_runs.specs.Threads.{frames, open_calls}
use Rattle.replay_runs.specs.Pool.{blocks_from, in_use_from}
use Rattle.replay_runs.specs.Keys.{key}
use Rattle.replay_runs.specs.Laws.{Rearranged}
use Rattle.replay_runs.proofs.Swap.{same_new}
use Rattle.space_memory_laws.specs.Checkpoints.{LeaveTheSame}
use Rattle.space_memory_laws.specs.Rearranged.{RearrangedRunsShareMemory}
use Rattle.space_memory_laws.proofs.Checkpoints.{stands}

same : (program : Program) (s : Start) (a b : List Mark) → Rearranged program s a b → LeaveTheSame s a s b
same program s a b r = record {
  bytes = λ x own. r.bytes x;
  stacks = λ t. ap frames (r.parts t);
  calls = λ t. ap open_calls (r.parts t);
  pool = ap (blocks_from s.blocks) (same_new s (OfKey (key Pool 0)) a b (r.links (OfKey (key Pool 0))));
  keys = λ k. ap (in_use_from k (s.in_use k)) (same_new s (OfKey (key Async k)) a b (r.links (OfKey (key Async k))));
}

pub shared : RearrangedRunsShareMemory
shared program s a b memory r h = stands s s a b memory (same program s a b r) h
