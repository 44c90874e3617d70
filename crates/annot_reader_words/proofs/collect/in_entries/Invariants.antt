use Rattle.std.proofs.Common.{◌≡◌, ◌++◌, drop}
use Rattle.c_syntax_laws.specs.Named.{by_entries}
use Rattle.annot_reader_words.proofs.collect.in_entries.Given as goal

-- what is left to be put after makes the whole
abbrev pub invariant-loop-entry : goal.invariant-loop-entry
invariant-loop-entry l = l.held.items ++ by_entries (drop l.entry-index l.entries) ≡ l.initial.held.items ++ by_entries l.entries
