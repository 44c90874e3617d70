-- The source that is generated.
use Rattle.std.specs.Prelude.{ℕ, List, ◌++◌, decimal}
use Rattle.generated_files.specs.declared.texts.TheConstants.{BEFORE, AFTER}

-- one text for all numbers of rounds, in which the number stands
abbrev pub source_text : ℕ → List ℕ
source_text rounds = BEFORE.now ++ decimal rounds ++ AFTER.now
