use Rattle.std.proofs.Common.{◌≡◌, take}
use Rattle.recorder_calls.specs.Reading.{AllMayBeRead, read_in}
use Rattle.recorder_calls.proofs.printing.read_all.Given as goal

abbrev pub invariant-loop-range : goal.invariant-loop-range
invariant-loop-range l = AllMayBeRead l.spaces l.thread l.ranges → l.bytes.items ≡ read_in l.spaces.bytes (take l.range-index l.ranges)
