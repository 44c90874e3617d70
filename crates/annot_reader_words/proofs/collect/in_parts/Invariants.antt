use Rattle.std.proofs.Common.{◌≡◌, ◌++◌, drop}
use Rattle.c_syntax_laws.specs.Named.{by_parts}
use Rattle.annot_reader_words.proofs.collect.in_parts.Given as goal

-- what is left to be put after makes the whole
abbrev pub invariant-loop-part : goal.invariant-loop-part
invariant-loop-part l = l.held.items ++ by_parts (drop l.part-index l.parts) ≡ l.initial.held.items ++ by_parts l.parts
