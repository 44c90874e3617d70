use Rattle.std.proofs.Common.{◌≡◌, drop}
use Rattle.cut_advisor.specs.CutNames.{with_names}
use Rattle.cut_advisor.specs.CutNodes.{names_by_items, texts_of}
use Rattle.cut_advisor.proofs.put.put_items.Given as goal

-- those that are left still make the whole
abbrev pub invariant-loop-item : goal.invariant-loop-item
invariant-loop-item l = with_names (texts_of l.names.keys) (names_by_items (drop l.item-index l.items)) ≡ with_names (texts_of l.initial.names.keys) (names_by_items l.items)
