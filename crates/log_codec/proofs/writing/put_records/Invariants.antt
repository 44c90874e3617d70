use Rattle.std.proofs.Common.{◌≡◌, ◌++◌, take}
use Rattle.std.specs.Int.{to_be_bytes}
use Rattle.std.specs.List.{flat_map}
use Rattle.log_codec.specs.LogText.{record_text}
use Rattle.log_codec.proofs.writing.put_records.Given as goal

abbrev pub invariant-loop-record : goal.invariant-loop-record
invariant-loop-record l = record {
  before : l.out.before ≡ l.fn.out.before;
  added : l.out.added ≡ l.fn.out.added ++ flat_map (record_text to_be_bytes) (take l.record-index l.records);
}
