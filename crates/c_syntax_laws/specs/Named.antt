-- Which nodes of a tree a node names, in the order of the source, and how high it stands above them.
use Rattle.std.specs.Prelude.{ℕ, ◌+◌, ◌*◌, List, [], ◌∷◌, ◌++◌, map, length, Option, Some, None}
use Rattle.c_syntax.specs.declared.id.DeclId.{DeclId}
use Rattle.c_syntax.specs.declared.id.StmtId.{StmtId}
use Rattle.c_syntax.specs.declared.id.ExprId.{ExprId}
use Rattle.c_syntax.specs.declared.expression.Expr.{Expr}
use Rattle.c_syntax.specs.declared.expression.ExprKind.{ExprKind}
use Rattle.c_syntax.specs.declared.expression.ExprKind.TheVariants as exprs
use Rattle.c_syntax.specs.declared.declaration.Decl.{Decl}
use Rattle.c_syntax.specs.declared.declaration.Annot.{Annot}
use Rattle.c_syntax.specs.declared.declaration.Item.{Item}
use Rattle.c_syntax.specs.declared.declaration.Atom.{Atom}
use Rattle.c_syntax.specs.declared.declaration.Atom.TheVariants as atoms
use Rattle.c_syntax.specs.declared.declaration.Part.{Part}
use Rattle.c_syntax.specs.declared.declaration.PartKind.{PartKind}
use Rattle.c_syntax.specs.declared.declaration.PartKind.TheVariants as parts
use Rattle.c_syntax.specs.declared.declaration.Value.{Value, fold-Value}
use Rattle.c_syntax.specs.declared.declaration.Value.TheOpen.{Value-F}
use Rattle.c_syntax.specs.declared.declaration.Rest.{Rest}
use Rattle.c_syntax.specs.declared.declaration.Rest.TheVariants as rests
use Rattle.c_syntax.specs.declared.statement.Stmt.{Stmt}
use Rattle.c_syntax.specs.declared.statement.StmtKind.{StmtKind}
use Rattle.c_syntax.specs.declared.statement.StmtKind.TheVariants as stmts
use Rattle.c_syntax.specs.declared.statement.Entry.{Entry}
use Rattle.c_syntax.specs.declared.statement.Entry.TheVariants as entries
use Rattle.c_syntax.specs.declared.statement.First.{First}
use Rattle.c_syntax.specs.declared.statement.First.TheVariants as firsts
use Rattle.c_syntax.specs.Nodes.{Nodes, decl_at, stmt_at, expr_at}
use Rattle.c_syntax_laws.specs.declared.node.Node.{Node}
use Rattle.c_syntax_laws.specs.declared.node.Node.TheVariants as nodes
use Rattle.c_syntax_laws.specs.Heights.{height}

abbrev pub by_exprs : List ExprId → List Node
by_exprs is = map nodes.Expr is

abbrev pub by_decls : List DeclId → List Node
by_decls is = map nodes.Decl is

abbrev pub by_maybe : Option ExprId → List Node
by_maybe None = []
by_maybe (Some i) = nodes.Expr i ∷ []

abbrev pub by_other : Option StmtId → List Node
by_other None = []
by_other (Some i) = nodes.Stmt i ∷ []

-- the nodes that an expression names
abbrev pub by_expr : ExprKind → List Node
by_expr (exprs.Name n) = []
by_expr (exprs.Number v s d) = []
by_expr (exprs.Char v) = []
by_expr (exprs.Text n) = []
by_expr (exprs.Binary s a b) = nodes.Expr a ∷ nodes.Expr b ∷ []
by_expr (exprs.Assign s a b) = nodes.Expr a ∷ nodes.Expr b ∷ []
by_expr (exprs.Cond a b c) = nodes.Expr a ∷ nodes.Expr b ∷ nodes.Expr c ∷ []
by_expr (exprs.Prefix s a) = nodes.Expr a ∷ []
by_expr (exprs.Postfix s a) = nodes.Expr a ∷ []
by_expr (exprs.SizeofExpr a) = nodes.Expr a ∷ []
by_expr (exprs.SizeofType d) = nodes.Decl d ∷ []
by_expr (exprs.Cast d a) = nodes.Decl d ∷ nodes.Expr a ∷ []
by_expr (exprs.Index a b) = nodes.Expr a ∷ nodes.Expr b ∷ []
by_expr (exprs.Call a is) = nodes.Expr a ∷ by_exprs is
by_expr (exprs.Member a n) = nodes.Expr a ∷ []
by_expr (exprs.Arrow a n) = nodes.Expr a ∷ []

abbrev pub by_kind : PartKind → List Node
by_kind parts.Pointer = []
by_kind (parts.Array a) = nodes.Expr a ∷ []
by_kind (parts.Params is) = by_decls is

-- the nodes that the parts of a declarator name
abbrev pub by_parts : List Part → List Node
by_parts [] = []
by_parts (v ∷ vs) = by_kind v.kind ++ by_parts vs

abbrev pub by_atom : Atom → List Node
by_atom (atoms.Name n) = []
by_atom (atoms.Number v) = []
by_atom atoms.Return = []
by_atom (atoms.Sizeof d) = nodes.Decl d ∷ []

abbrev pub by_second : Option Atom → List Node
by_second None = []
by_second (Some a) = by_atom a

abbrev pub by_item : Item → List Node
by_item v = by_atom v.a ++ by_second v.b

abbrev pub by_items : List Item → List Node
by_items [] = []
by_items (v ∷ vs) = by_item v ++ by_items vs

-- the nodes that annotations name
abbrev pub by_annots : List Annot → List Node
by_annots [] = []
by_annots (v ∷ vs) = by_items v.items ++ by_annots vs

abbrev pub by_all : List (List Node) → List Node
by_all [] = []
by_all (vs ∷ vss) = vs ++ by_all vss

abbrev pub by_layer : Value-F (List Node) → List Node
by_layer (Value-F.Plain a) = nodes.Expr a ∷ []
by_layer (Value-F.Braces f w) = by_all w.items

-- the nodes that a value names
abbrev pub by_value : Value → List Node
by_value v = fold-Value (List Node) by_layer v

abbrev pub by_values : List Value → List Node
by_values vs = by_all (map by_value vs)

abbrev pub by_rest : Rest → List Node
by_rest rests.None = []
by_rest (rests.Value v) = by_value v
by_rest (rests.Body s) = nodes.Stmt s ∷ []
by_rest (rests.Members is) = by_decls is

-- the nodes that a declaration names
abbrev pub by_decl : Decl → List Node
by_decl d = by_annots d.annots ++ (by_parts d.parts ++ by_rest d.rest)

abbrev pub by_entry : Entry → List Node
by_entry (entries.Local is) = by_decls is
by_entry (entries.Stmt i) = nodes.Stmt i ∷ []

abbrev pub by_entries : List Entry → List Node
by_entries [] = []
by_entries (v ∷ vs) = by_entry v ++ by_entries vs

abbrev pub by_first : First → List Node
by_first firsts.None = []
by_first (firsts.Local is) = by_decls is
by_first (firsts.Expr i) = nodes.Expr i ∷ []

abbrev pub by_choice : ExprId → StmtId → Option StmtId → List Node
by_choice a b c = nodes.Expr a ∷ nodes.Stmt b ∷ by_other c

-- the nodes that a statement names
abbrev pub by_stmt : StmtKind → List Node
by_stmt (stmts.Block vs) = by_entries vs
by_stmt (stmts.Expr a) = by_maybe a
by_stmt (stmts.If a b c) = by_choice a b c
by_stmt (stmts.While a b) = nodes.Expr a ∷ nodes.Stmt b ∷ []
by_stmt (stmts.Do a b) = nodes.Stmt a ∷ nodes.Expr b ∷ []
by_stmt (stmts.For a b c d) = by_first a ++ (by_maybe b ++ (by_maybe c ++ nodes.Stmt d ∷ []))
by_stmt stmts.Break = []
by_stmt stmts.Continue = []
by_stmt (stmts.Return a) = by_maybe a

abbrev pub by_expr_node : Option Expr → List Node
by_expr_node None = []
by_expr_node (Some e) = by_expr e.kind

abbrev pub by_decl_node : Option Decl → List Node
by_decl_node None = []
by_decl_node (Some d) = by_decl d

abbrev pub by_stmt_node : Option Stmt → List Node
by_stmt_node None = []
by_stmt_node (Some s) = by_stmt s.kind

-- the nodes that a node names
abbrev pub named_by : Nodes → Node → List Node
named_by N (nodes.Expr i) = by_expr_node (expr_at N i)
named_by N (nodes.Decl i) = by_decl_node (decl_at N i)
named_by N (nodes.Stmt i) = by_stmt_node (stmt_at N i)

-- more than as many as all nodes
abbrev pub bound : Nodes → ℕ
bound N = 3 * (length N.exprs + length N.decls + length N.stmts) + 1

-- how many nodes, each named by the one before, begin with this one
abbrev pub height_in : Nodes → Node → ℕ
height_in N v = height (named_by N) (bound N) v
