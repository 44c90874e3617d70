use Rattle.std.proofs.Common.{◌≡◌, drop}
use Rattle.cut_advisor.specs.CutNames.{with_names}
use Rattle.cut_advisor.specs.CutNodes.{names_by_annots, texts_of}
use Rattle.cut_advisor.proofs.put.put_annots.Given as goal

-- those that are left still make the whole
abbrev pub invariant-loop-annot : goal.invariant-loop-annot
invariant-loop-annot l = with_names (texts_of l.names.keys) (names_by_annots (drop l.annot-index l.annots)) ≡ with_names (texts_of l.initial.names.keys) (names_by_annots l.annots)
