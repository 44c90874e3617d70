use Rattle.std.proofs.Common.{◌≡◌, ◌++◌, take}
use Rattle.std.specs.Int.{to_be_bytes}
use Rattle.std.specs.List.{flat_map}
use Rattle.log_codec.specs.LogText.{key_text}
use Rattle.log_codec.proofs.writing.put_keys.Given as goal

abbrev pub invariant-loop-key : goal.invariant-loop-key
invariant-loop-key l = record {
  before : l.out.before ≡ l.fn.out.before;
  added : l.out.added ≡ l.fn.out.added ++ flat_map (key_text to_be_bytes) (take l.key-index l.keys);
}
