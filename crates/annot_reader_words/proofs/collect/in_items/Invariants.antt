use Rattle.std.proofs.Common.{◌≡◌, ◌++◌, drop}
use Rattle.c_syntax_laws.specs.Named.{by_items}
use Rattle.annot_reader_words.proofs.collect.in_items.Given as goal

-- what is left to be put after makes the whole
abbrev pub invariant-loop-item : goal.invariant-loop-item
invariant-loop-item l = l.held.items ++ by_items (drop l.item-index l.items) ≡ l.initial.held.items ++ by_items l.items
