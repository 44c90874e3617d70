use Rattle.std.proofs.Common.{◌≡◌, ◌++◌, drop}
use Rattle.c_syntax_laws.specs.Named.{by_annots}
use Rattle.annot_reader_words.proofs.collect.in_annots.Given as goal

-- what is left to be put after makes the whole
abbrev pub invariant-loop-annot : goal.invariant-loop-annot
invariant-loop-annot l = l.held.items ++ by_annots (drop l.annot-index l.annots) ≡ l.initial.held.items ++ by_annots l.annots
