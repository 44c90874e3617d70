use Rattle.reference_recorder_origins.proofs.Memory.{blocks_below, blocks_seen, byte_seen, frames_on_without, in_use_seen, prepared_without, real_without, registered_seen}
use Rattle.reference_recorder_origins.proofs.laws.memory_has_no_origins.Goals as goal

pub returns : goal.returns
returns c = record {
  above = byte_seen;
  both = real_without;
  frames = frames_on_without;
  pool = blocks_seen;
  pool_below = blocks_below;
  region = in_use_seen;
  prepared = prepared_without;
  registered = registered_seen;
}
