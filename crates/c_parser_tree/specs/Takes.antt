-- The newest piece of a kind, and the pieces without it.
use Rattle.std.specs.Prelude.{List, [], ◌∷◌, Option, Some, None}
use Rattle.c_syntax.specs.declared.id.DeclId.{DeclId}
use Rattle.c_syntax.specs.declared.id.StmtId.{StmtId}
use Rattle.c_syntax.specs.declared.id.ExprId.{ExprId}
use Rattle.c_syntax.specs.declared.declaration.Annot.{Annot}
use Rattle.c_syntax.specs.declared.declaration.Item.{Item}
use Rattle.c_syntax.specs.declared.declaration.Atom.{Atom}
use Rattle.c_syntax.specs.declared.declaration.Value.{Value}
use Rattle.c_syntax.specs.declared.statement.Entry.{Entry}
use Rattle.c_syntax.specs.declared.statement.First.{First}
use Rattle.c_parser_tree.specs.declared.piece.Declarator.{Declarator}
use Rattle.c_parser_tree.specs.declared.piece.Shared.{Shared}
use Rattle.c_parser_tree.specs.declared.piece.Tag.{Tag}
use Rattle.c_parser_tree.specs.Stacks.{Stacks}

-- the newest of some, and what is left where those without it take their place
abbrev pub newest : {A : Type 0} → List A → (List A → Stacks) → Option (A × Stacks)
newest [] back = None
newest (x ∷ xs) back = Some (x, back xs)

abbrev pub expr_in : Stacks → Option (ExprId × Stacks)
expr_in S = newest S.exprs (λ xs. record S { exprs = xs })

abbrev pub exprs_in : Stacks → Option (List ExprId × Stacks)
exprs_in S = newest S.expr_lists (λ xs. record S { expr_lists = xs })

abbrev pub maybe_in : Stacks → Option (Option ExprId × Stacks)
maybe_in S = newest S.maybes (λ xs. record S { maybes = xs })

abbrev pub declarator_in : Stacks → Option (Declarator × Stacks)
declarator_in S = newest S.declarators (λ xs. record S { declarators = xs })

abbrev pub shared_in : Stacks → Option (Shared × Stacks)
shared_in S = newest S.shared (λ xs. record S { shared = xs })

abbrev pub decl_in : Stacks → Option (DeclId × Stacks)
decl_in S = newest S.decls (λ xs. record S { decls = xs })

abbrev pub decls_in : Stacks → Option (List DeclId × Stacks)
decls_in S = newest S.decl_lists (λ xs. record S { decl_lists = xs })

abbrev pub annots_in : Stacks → Option (List Annot × Stacks)
annots_in S = newest S.annot_lists (λ xs. record S { annot_lists = xs })

abbrev pub annot_in : Stacks → Option (Annot × Stacks)
annot_in S = newest S.annots (λ xs. record S { annots = xs })

abbrev pub item_in : Stacks → Option (Item × Stacks)
item_in S = newest S.items (λ xs. record S { items = xs })

abbrev pub atom_in : Stacks → Option (Atom × Stacks)
atom_in S = newest S.atoms (λ xs. record S { atoms = xs })

abbrev pub value_in : Stacks → Option (Value × Stacks)
value_in S = newest S.values (λ xs. record S { values = xs })

abbrev pub values_in : Stacks → Option (List Value × Stacks)
values_in S = newest S.value_lists (λ xs. record S { value_lists = xs })

abbrev pub entries_in : Stacks → Option (List Entry × Stacks)
entries_in S = newest S.entry_lists (λ xs. record S { entry_lists = xs })

abbrev pub stmt_in : Stacks → Option (StmtId × Stacks)
stmt_in S = newest S.stmts (λ xs. record S { stmts = xs })

abbrev pub first_in : Stacks → Option (First × Stacks)
first_in S = newest S.firsts (λ xs. record S { firsts = xs })

abbrev pub tag_in : Stacks → Option (Tag × Stacks)
tag_in S = newest S.tags (λ xs. record S { tags = xs })

-- the two newest expressions, the older first

abbrev pub with_older : ExprId → Option (ExprId × Stacks) → Option ((ExprId × ExprId) × Stacks)
with_older y None = None
with_older y (Some (x, R)) = Some ((x, y), R)

abbrev pub older_too : Option (ExprId × Stacks) → Option ((ExprId × ExprId) × Stacks)
older_too None = None
older_too (Some (y, R)) = with_older y (expr_in R)

abbrev pub two_exprs_in : Stacks → Option ((ExprId × ExprId) × Stacks)
two_exprs_in R = older_too (expr_in R)

-- a statement, and the test before it, which comes first

abbrev pub with_test : StmtId → Option (ExprId × Stacks) → Option ((ExprId × StmtId) × Stacks)
with_test s None = None
with_test s (Some (x, R)) = Some ((x, s), R)

abbrev pub test_too : Option (StmtId × Stacks) → Option ((ExprId × StmtId) × Stacks)
test_too None = None
test_too (Some (s, R)) = with_test s (expr_in R)

abbrev pub tested_in : Stacks → Option ((ExprId × StmtId) × Stacks)
tested_in R = test_too (stmt_in R)
