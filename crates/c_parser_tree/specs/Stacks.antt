-- The pieces that wait: a stack of each kind, the newest first.
use Rattle.std.specs.Prelude.{List, [], ◌∷◌, Option}
use Rattle.c_syntax.specs.declared.id.DeclId.{DeclId}
use Rattle.c_syntax.specs.declared.id.StmtId.{StmtId}
use Rattle.c_syntax.specs.declared.id.ExprId.{ExprId}
use Rattle.c_syntax.specs.declared.declaration.Annot.{Annot}
use Rattle.c_syntax.specs.declared.declaration.Item.{Item}
use Rattle.c_syntax.specs.declared.declaration.Atom.{Atom}
use Rattle.c_syntax.specs.declared.declaration.Value.{Value}
use Rattle.c_syntax.specs.declared.statement.Entry.{Entry}
use Rattle.c_syntax.specs.declared.statement.First.{First}
use Rattle.c_parser_tree.specs.declared.piece.Declarator.{Declarator}
use Rattle.c_parser_tree.specs.declared.piece.Shared.{Shared}
use Rattle.c_parser_tree.specs.declared.piece.Tag.{Tag}

pub record Stacks : Type 0 where
  pub exprs : List ExprId
  pub expr_lists : List (List ExprId)
  pub maybes : List (Option ExprId)
  pub declarators : List Declarator
  pub shared : List Shared
  pub decls : List DeclId
  pub decl_lists : List (List DeclId)
  pub annot_lists : List (List Annot)
  pub annots : List Annot
  pub items : List Item
  pub atoms : List Atom
  pub values : List Value
  pub value_lists : List (List Value)
  pub entry_lists : List (List Entry)
  pub stmts : List StmtId
  pub firsts : List First
  pub tags : List Tag

abbrev pub no_pieces : Stacks
no_pieces = record {
  exprs = [];
  expr_lists = [];
  maybes = [];
  declarators = [];
  shared = [];
  decls = [];
  decl_lists = [];
  annot_lists = [];
  annots = [];
  items = [];
  atoms = [];
  values = [];
  value_lists = [];
  entry_lists = [];
  stmts = [];
  firsts = [];
  tags = [];
}

-- the pieces with one more

abbrev pub push_expr : ExprId → Stacks → Stacks
push_expr x S = record S { exprs = x ∷ S.exprs }

abbrev pub push_exprs : List ExprId → Stacks → Stacks
push_exprs x S = record S { expr_lists = x ∷ S.expr_lists }

abbrev pub push_maybe : (Option ExprId) → Stacks → Stacks
push_maybe x S = record S { maybes = x ∷ S.maybes }

abbrev pub push_declarator : Declarator → Stacks → Stacks
push_declarator x S = record S { declarators = x ∷ S.declarators }

abbrev pub push_shared : Shared → Stacks → Stacks
push_shared x S = record S { shared = x ∷ S.shared }

abbrev pub push_decl : DeclId → Stacks → Stacks
push_decl x S = record S { decls = x ∷ S.decls }

abbrev pub push_decls : (List DeclId) → Stacks → Stacks
push_decls x S = record S { decl_lists = x ∷ S.decl_lists }

abbrev pub push_annots : (List Annot) → Stacks → Stacks
push_annots x S = record S { annot_lists = x ∷ S.annot_lists }

abbrev pub push_annot : Annot → Stacks → Stacks
push_annot x S = record S { annots = x ∷ S.annots }

abbrev pub push_item : Item → Stacks → Stacks
push_item x S = record S { items = x ∷ S.items }

abbrev pub push_atom : Atom → Stacks → Stacks
push_atom x S = record S { atoms = x ∷ S.atoms }

abbrev pub push_value : Value → Stacks → Stacks
push_value x S = record S { values = x ∷ S.values }

abbrev pub push_values : (List Value) → Stacks → Stacks
push_values x S = record S { value_lists = x ∷ S.value_lists }

abbrev pub push_entries : (List Entry) → Stacks → Stacks
push_entries x S = record S { entry_lists = x ∷ S.entry_lists }

abbrev pub push_stmt : StmtId → Stacks → Stacks
push_stmt x S = record S { stmts = x ∷ S.stmts }

abbrev pub push_first : First → Stacks → Stacks
push_first x S = record S { firsts = x ∷ S.firsts }

abbrev pub push_tag : Tag → Stacks → Stacks
push_tag x S = record S { tags = x ∷ S.tags }
