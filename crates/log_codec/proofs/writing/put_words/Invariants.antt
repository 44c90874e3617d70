use Rattle.std.proofs.Common.{◌≡◌, ◌++◌, take}
use Rattle.std.specs.Int.{w64, to_be_bytes}
use Rattle.std.specs.List.{flat_map}
use Rattle.log_codec.proofs.writing.put_words.Given as goal

abbrev pub invariant-loop-word : goal.invariant-loop-word
invariant-loop-word l = record {
  before : l.out.before ≡ l.fn.out.before;
  added : l.out.added ≡ l.fn.out.added ++ flat_map (to_be_bytes w64) (take l.word-index l.words);
}
