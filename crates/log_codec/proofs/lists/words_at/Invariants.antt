use Rattle.std.proofs.Common.{◌≡◌, ◌-◌}
use Rattle.std.specs.Int.{w64}
use Rattle.byte_format.specs.Reading.{list_at, with_prefix, number_at}
use Rattle.log_codec.proofs.lists.words_at.Given as goal

abbrev pub invariant-loop : goal.invariant-loop
invariant-loop l = with_prefix l.words.items (list_at (number_at w64) (l.count - l.counter) l.rest) ≡ list_at (number_at w64) l.count l.bytes
