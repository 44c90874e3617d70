use Rattle.std.proofs.Common.{◌≡◌, ◌-◌, ◌++◌}
use Rattle.byte_format.specs.Reading.{list_at, read_list, with_prefix}
use Rattle.byte_format.specs.Numbers.{fixed}
use Rattle.log_codec.specs.Reading.{record_at}
use Rattle.log_codec.proofs.records.records_at.Given as goal

abbrev pub invariant-loop : goal.invariant-loop
invariant-loop l = record {
  reading : with_prefix l.records.items (list_at (record_at fixed l.thread) (l.count - l.counter) l.rest) ≡ with_prefix l.fn.records.items (list_at (record_at fixed l.thread) l.count l.bytes);
  read : l.records.items ++ read_list (record_at fixed l.thread) (l.count - l.counter) l.rest ≡ l.fn.records.items ++ read_list (record_at fixed l.thread) l.count l.bytes;
}
