use Rattle.std.proofs.Common.{◌≡◌, ◌++◌, drop}
use Rattle.c_syntax_laws.specs.Named.{by_values}
use Rattle.annot_reader_words.proofs.collect.+in_value.Given as goal

-- what is left to be put after makes the whole
abbrev pub invariant-loop-value : goal.invariant-loop-value
invariant-loop-value l = l.held.items ++ by_values (drop l.value-index l.value-items) ≡ l.initial.held.items ++ by_values l.value-items
