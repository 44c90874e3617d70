use Rattle.std.proofs.Common.{◌≡◌, ◌++◌, drop}
use Rattle.c_syntax_laws.specs.Named.{by_decls}
use Rattle.annot_reader_words.proofs.collect.decls.Given as goal

-- what is left to be put after makes the whole
abbrev pub invariant-loop-id : goal.invariant-loop-id
invariant-loop-id l = l.held.items ++ by_decls (drop l.id-index l.ids) ≡ l.initial.held.items ++ by_decls l.ids
