use Rattle.std.proofs.Common.{◌≡◌, ◌-◌}
use Rattle.byte_format.specs.Reading.{list_at, with_prefix}
use Rattle.byte_format.specs.Numbers.{fixed}
use Rattle.log_codec.specs.Reading.{key_at}
use Rattle.log_codec.proofs.lists.marks_at.Given as goal

abbrev pub invariant-loop : goal.invariant-loop
invariant-loop l = with_prefix l.marks.items (list_at (key_at fixed) (l.count - l.counter) l.rest) ≡ list_at (key_at fixed) l.count l.bytes
