-- What holds of all of a list holds of each.
use Rattle.std.proofs.Common.{◌<◌, ℕ, zero, suc, List, [], ◌∷◌, length, get_or, arith}
use Rattle.c_syntax.specs.declared.id.DeclId.{DeclId}
use Rattle.c_syntax.specs.declared.id.ExprId.{ExprId}
use Rattle.c_syntax.specs.declared.declaration.Annot.{Annot}
use Rattle.c_syntax.specs.declared.declaration.Item.{Item}
use Rattle.c_syntax.specs.declared.declaration.Part.{Part}
use Rattle.c_syntax.specs.declared.declaration.Value.{Value}
use Rattle.c_syntax.specs.declared.statement.Entry.{Entry}
use Rattle.c_syntax.specs.Nodes.{Nodes}
use Rattle.test_trees.specs.Parts.{IsExpr, IsDecl, AreExprs, AreDecls, AreParts, AreEntries, AreItems, AreAnnots, AreValues, KindFits, EntryFits, ItemFits, ValueFits}

pub expr_among : (N : Nodes) (xs : List ExprId) (k : ℕ) (d : ExprId) → k < length xs → AreExprs N xs → IsExpr N (get_or xs k d)
expr_among N [] k d h p = absurd (omega arith)
expr_among N (x ∷ xs) zero d h p = p.0
expr_among N (x ∷ xs) (suc k) d h p = expr_among N xs k d (omega arith) p.1

pub decl_among : (N : Nodes) (xs : List DeclId) (k : ℕ) (d : DeclId) → k < length xs → AreDecls N xs → IsDecl N (get_or xs k d)
decl_among N [] k d h p = absurd (omega arith)
decl_among N (x ∷ xs) zero d h p = p.0
decl_among N (x ∷ xs) (suc k) d h p = decl_among N xs k d (omega arith) p.1

pub part_among : (N : Nodes) (xs : List Part) (k : ℕ) (d : Part) → k < length xs → AreParts N xs → let v = get_or xs k d in KindFits N v.kind
part_among N [] k d h p = absurd (omega arith)
part_among N (x ∷ xs) zero d h p = p.0
part_among N (x ∷ xs) (suc k) d h p = part_among N xs k d (omega arith) p.1

pub entry_among : (N : Nodes) (xs : List Entry) (k : ℕ) (d : Entry) → k < length xs → AreEntries N xs → EntryFits N (get_or xs k d)
entry_among N [] k d h p = absurd (omega arith)
entry_among N (x ∷ xs) zero d h p = p.0
entry_among N (x ∷ xs) (suc k) d h p = entry_among N xs k d (omega arith) p.1

pub item_among : (N : Nodes) (xs : List Item) (k : ℕ) (d : Item) → k < length xs → AreItems N xs → ItemFits N (get_or xs k d)
item_among N [] k d h p = absurd (omega arith)
item_among N (x ∷ xs) zero d h p = p.0
item_among N (x ∷ xs) (suc k) d h p = item_among N xs k d (omega arith) p.1

pub annot_among : (N : Nodes) (xs : List Annot) (k : ℕ) (d : Annot) → k < length xs → AreAnnots N xs → let v = get_or xs k d in AreItems N v.items
annot_among N [] k d h p = absurd (omega arith)
annot_among N (x ∷ xs) zero d h p = p.0
annot_among N (x ∷ xs) (suc k) d h p = annot_among N xs k d (omega arith) p.1

pub value_among : (N : Nodes) (xs : List Value) (k : ℕ) (d : Value) → k < length xs → AreValues N xs → ValueFits N (get_or xs k d)
value_among N [] k d h p = absurd (omega arith)
value_among N (x ∷ xs) zero d h p = p.0
value_among N (x ∷ xs) (suc k) d h p = value_among N xs k d (omega arith) p.1
