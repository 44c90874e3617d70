-- Nodes and pieces after an action.
use Rattle.std.specs.Prelude.{ℕ, List, [], ◌∷◌, ◌++◌, length, reverse, Option, Some, None}
use Rattle.std.specs.Option.{option_map}
use Rattle.c_syntax.specs.declared.expression.ExprKind.{ExprKind}
use Rattle.c_syntax.specs.declared.statement.StmtKind.{StmtKind}
use Rattle.c_syntax.specs.declared.statement.Entry.{Entry}
use Rattle.c_syntax.specs.declared.declaration.Annot.{Annot}
use Rattle.c_syntax.specs.declared.declaration.Item.{Item}
use Rattle.c_syntax.specs.declared.declaration.PartKind.{PartKind}
use Rattle.c_syntax.specs.declared.declaration.Value.{Value}
use Rattle.c_syntax.specs.declared.id.DeclId.{DeclId}
use Rattle.c_syntax.specs.declared.id.ExprId.{ExprId}
use Rattle.c_syntax.specs.declared.declaration.Base.{Base}
use Rattle.c_syntax.specs.declared.declaration.Base.TheVariants as bases
use Rattle.c_syntax.specs.declared.declaration.Rest.{Rest}
use Rattle.c_syntax.specs.declared.declaration.Rest.TheVariants as rests
use Rattle.c_syntax.specs.declared.declaration.Decl.{Decl}
use Rattle.c_syntax.specs.Nodes.{Nodes, decl_at}
use Rattle.c_parser_tree.specs.declared.piece.Declarator.{Declarator}
use Rattle.c_parser_tree.specs.declared.piece.Shared.{Shared}
use Rattle.c_parser_tree.specs.declared.piece.Shared.TheVariants as shares
use Rattle.c_parser_tree.specs.declared.piece.Tag.{Tag}
use Rattle.c_parser_tree.specs.Nodes.{with_decl, with_stmt, with_expr}
use Rattle.c_parser_tree.specs.Stacks.{Stacks, push_expr, push_exprs, push_declarator, push_shared, push_decl, push_decls, push_annots, push_annot, push_values, push_entries, push_stmt}
use Rattle.c_parser_tree.specs.Takes.{exprs_in, declarator_in, shared_in, decls_in, annots_in, annot_in, values_in, entries_in}

pub record Built : Type 0 where
  pub nodes : Nodes
  pub stack : Stacks

-- what is made of what is taken, if it is there
abbrev pub taking : {A : Type 0} → Option (A × Stacks) → (A → Stacks → Option Built) → Option Built
taking None k = None
taking (Some (a, R)) k = k a R

-- the pieces become these
abbrev pub puts : Nodes → Stacks → Option Built
puts N R = Some (record { nodes = N; stack = R })

-- a new expression comes on top
abbrev pub put_expr : Nodes → ℕ → ExprKind → Stacks → Option Built
put_expr N f k R =
    puts (with_expr N (record { from = f; kind = k })) (push_expr (record { 0 = length N.exprs }) R)

-- a new statement comes on top
abbrev pub put_stmt : Nodes → ℕ → StmtKind → Stacks → Option Built
put_stmt N f k R =
    puts (with_stmt N (record { from = f; kind = k })) (push_stmt (record { 0 = length N.stmts }) R)

-- a declaration of this declarator, with these annotations and this type before it
abbrev pub decl_of : Declarator → List Annot × Base → Rest → Decl
decl_of d w q = record {
  from = d.from;
  annots = w.0;
  base = w.1;
  parts = reverse d.parts;
  name = d.name;
  rest = q;
}

-- the annotations and the type that names share, if they are there
abbrev pub words_of : Nodes → Shared → Option (List Annot × Base)
words_of N (shares.Words an b) = Some (an, b)
words_of N (shares.Like i) = option_map (λ d. (d.annots, d.base)) (decl_at N i)

-- what the names after that of this number share
abbrev pub shared_after : DeclId → Shared → Shared
shared_after i (shares.Words an b) = shares.Like i
shared_after i (shares.Like j) = shares.Like j

-- a new declaration with these comes on top, above what the names after it share
abbrev pub put_with : Nodes → Declarator → Shared → Rest → Stacks → Option (List Annot × Base) →
    Option Built
put_with N d s q R None = None
put_with N d s q R (Some w) =
    let new : DeclId = record { 0 = length N.decls } in
    puts (with_decl N (decl_of d w q)) (push_decl new (push_shared (shared_after new s) R))

-- so it is with those that the names share
abbrev pub put_decl : Nodes → Declarator → Shared → Rest → Stacks → Option Built
put_decl N d s q R = put_with N d s q R (words_of N s)

-- the declarator on top gets one more part
abbrev pub with_part : Declarator → ℕ → PartKind → Declarator
with_part d f k =
    record { parts = d.parts ++ record { from = f; kind = k } ∷ []; name = d.name; from = d.from }

abbrev pub add_part : Nodes → ℕ → PartKind → Stacks → Option Built
add_part N f k R = taking (declarator_in R) (λ d R. puts N (push_declarator (with_part d f k) R))

-- the declarator on top is declared, with what the declarations share
abbrev pub declare : Nodes → Rest → Stacks → Option Built
declare N q R = taking (declarator_in R) (λ d R. taking (shared_in R) (λ s R. put_decl N d s q R))

-- a definition of a struct
abbrev pub struct_of : Tag → List DeclId → Decl
struct_of t ms = record {
  from = t.from;
  annots = [];
  base = bases.Struct t.name;
  parts = [];
  name = None;
  rest = rests.Members ms;
}

-- the nodes with it
abbrev pub with_struct : Nodes → Tag → List DeclId → Nodes
with_struct N t ms = with_decl N (struct_of t ms)

-- lists on top with one more

abbrev pub add_expr : Nodes → ExprId → Stacks → Option Built
add_expr N x R = taking (exprs_in R) (λ xs R. puts N (push_exprs (xs ++ x ∷ []) R))

abbrev pub add_decl : Nodes → DeclId → Stacks → Option Built
add_decl N d R = taking (decls_in R) (λ ds R. puts N (push_decls (ds ++ d ∷ []) R))

abbrev pub add_annot : Nodes → Annot → Stacks → Option Built
add_annot N a R = taking (annots_in R) (λ an R. puts N (push_annots (an ++ a ∷ []) R))

-- the annotation with one more item
abbrev pub with_item : Annot → Item → Annot
with_item a x = record { from = a.from; name = a.name; items = a.items ++ x ∷ [] }

abbrev pub add_item : Nodes → Item → Stacks → Option Built
add_item N x R = taking (annot_in R) (λ a R. puts N (push_annot (with_item a x) R))

abbrev pub add_value : Nodes → Value → Stacks → Option Built
add_value N v R = taking (values_in R) (λ vs R. puts N (push_values (vs ++ v ∷ []) R))

abbrev pub add_entry : Nodes → Entry → Stacks → Option Built
add_entry N e R = taking (entries_in R) (λ es R. puts N (push_entries (es ++ e ∷ []) R))
