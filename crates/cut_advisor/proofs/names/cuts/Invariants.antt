use Rattle.std.proofs.Common.{drop}
use Rattle.c_syntax.specs.Syntax.{Decls}
use Rattle.c_types_rules.specs.Sources.{Program, at_file, tags_of}
use Rattle.c_types_source.specs.Sources.{IsTypedSource}
use Rattle.annot_reader_rules.specs.Cuts.{annotations}
use Rattle.annot_reader.proofs.FunctionTypes.{typed_functions}
use Rattle.cut_advisor.specs.CutNodes.{IsPut, texts_of}
use Rattle.cut_advisor.proofs.CutLeft.{Left}
use Rattle.cut_advisor.proofs.names.cuts.Given as goal

-- the declarations that are left decide
abbrev pub invariant-loop-id : goal.invariant-loop-id
invariant-loop-id l = record {
  put : IsPut l.source.tree l.last (texts_of l.names.keys);
  left : (ds : Decls) (p : Program) → (t : IsTypedSource ds p l.source) → Left l.source.tree (at_file (tags_of ds) p) p (typed_functions ds p t.typed).functions (annotations ds p) (drop l.id-index l.id-items) l.count (texts_of l.names.keys);
}
