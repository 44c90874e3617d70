-- What actions make of nodes and pieces, as `act` of `c_parser_actions` does of trees.
use Rattle.std.specs.Prelude.{[], length, Option, Some, None}
use Rattle.c_syntax.specs.declared.expression.ExprKind.TheVariants as exprs
use Rattle.c_syntax.specs.declared.statement.StmtKind.TheVariants as stmts
use Rattle.c_syntax.specs.declared.statement.Entry.TheVariants as entries
use Rattle.c_syntax.specs.declared.statement.First.TheVariants as firsts
use Rattle.c_syntax.specs.declared.declaration.Atom.TheVariants as atoms
use Rattle.c_syntax.specs.declared.declaration.PartKind.TheVariants as parts
use Rattle.c_syntax.specs.declared.declaration.Rest.TheVariants as rests
use Rattle.c_syntax.specs.declared.declaration.Value.{roll-Value}
use Rattle.c_syntax.specs.declared.declaration.Value.TheOpen.{Value-F}
use Rattle.c_syntax.specs.Nodes.{Nodes}
use Rattle.c_parser_moves.specs.declared.action.Action.{Action}
use Rattle.c_parser_moves.specs.declared.action.Action.TheVariants as acts
use Rattle.c_parser_tree.specs.declared.piece.Shared.TheVariants as shares
use Rattle.c_parser_tree.specs.Built.{Built, taking, puts, put_expr, put_stmt, add_part, declare, with_struct, add_expr, add_decl, add_annot, add_item, add_value, add_entry}
use Rattle.c_parser_tree.specs.Stacks.{Stacks, push_exprs, push_maybe, push_declarator, push_shared, push_decls, push_annots, push_annot, push_item, push_atom, push_value, push_values, push_entries, push_first, push_tag}
use Rattle.c_parser_tree.specs.Takes.{expr_in, exprs_in, maybe_in, shared_in, decl_in, decls_in, annots_in, annot_in, item_in, atom_in, value_in, entries_in, stmt_in, first_in, tag_in, two_exprs_in, tested_in}

unfoldable pub made_control : Action → Nodes → Stacks → Option Built
made_control (acts.If f) N R = taking (tested_in R) (λ p R. put_stmt N f (stmts.If p.0 p.1 None) R)
made_control (acts.IfElse f) N R =
    taking (stmt_in R) (λ z R. taking (tested_in R) (λ p R. put_stmt N f (stmts.If p.0 p.1 (Some z)) R))
made_control (acts.While f) N R = taking (tested_in R) (λ p R. put_stmt N f (stmts.While p.0 p.1) R)
made_control (acts.Do f) N R =
    taking (expr_in R) (λ x R. taking (stmt_in R) (λ s R. put_stmt N f (stmts.Do s x) R))
made_control (acts.For f) N R =
    taking (stmt_in R) (λ s R. taking (maybe_in R) (λ y R. taking (maybe_in R) (λ x R.
    taking (first_in R) (λ a R. put_stmt N f (stmts.For a x y s) R))))
made_control _ N R = None

unfoldable pub made_stmt : Action → Nodes → Stacks → Option Built
made_stmt (acts.Block f) N R = taking (entries_in R) (λ es R. put_stmt N f (stmts.Block es) R)
made_stmt (acts.Expression f) N R = taking (maybe_in R) (λ x R. put_stmt N f (stmts.Expr x) R)
made_stmt (acts.Break f) N R = put_stmt N f stmts.Break R
made_stmt (acts.Continue f) N R = put_stmt N f stmts.Continue R
made_stmt (acts.Return f) N R = taking (maybe_in R) (λ x R. put_stmt N f (stmts.Return x) R)
made_stmt a N R = made_control a N R

-- what statements hold
unfoldable pub made_entry : Action → Nodes → Stacks → Option Built
made_entry acts.NoEntries N R = puts N (push_entries [] R)
made_entry acts.AddLocal N R = taking (decls_in R) (λ ds R. add_entry N (entries.Local ds) R)
made_entry acts.AddStmt N R = taking (stmt_in R) (λ s R. add_entry N (entries.Stmt s) R)
made_entry acts.NoFirst N R = puts N (push_first firsts.None R)
made_entry acts.LocalFirst N R = taking (decls_in R) (λ ds R. puts N (push_first (firsts.Local ds) R))
made_entry acts.ExprFirst N R = taking (expr_in R) (λ x R. puts N (push_first (firsts.Expr x) R))
made_entry a N R = made_stmt a N R

unfoldable pub made_value : Action → Nodes → Stacks → Option Built
made_value acts.Plain N R = taking (expr_in R) (λ x R. puts N (push_value (roll-Value (Value-F.Plain x)) R))
made_value acts.NoValues N R = puts N (push_values [] R)
made_value acts.AddValue N R = taking (value_in R) (λ v R. add_value N v R)
made_value a N R = made_entry a N R

-- the factors and items of annotations
unfoldable pub made_item : Action → Nodes → Stacks → Option Built
made_item (acts.NameAtom n) N R = puts N (push_atom (atoms.Name n) R)
made_item (acts.NumberAtom v) N R = puts N (push_atom (atoms.Number v) R)
made_item acts.ReturnAtom N R = puts N (push_atom atoms.Return R)
made_item acts.SizeofAtom N R = taking (decl_in R) (λ d R. puts N (push_atom (atoms.Sizeof d) R))
made_item (acts.OneFactor f) N R =
    taking (atom_in R) (λ a R. puts N (push_item (record { from = f; a = a; b = None }) R))
made_item (acts.TwoFactors f) N R =
    taking (atom_in R) (λ b R. taking (atom_in R) (λ a R.
    puts N (push_item (record { from = f; a = a; b = Some b }) R)))
made_item a N R = made_value a N R

unfoldable pub made_annot : Action → Nodes → Stacks → Option Built
made_annot acts.NoAnnots N R = puts N (push_annots [] R)
made_annot (acts.AnnotName f n) N R = puts N (push_annot (record { from = f; name = n; items = [] }) R)
made_annot acts.AddAnnot N R = taking (annot_in R) (λ a R. add_annot N a R)
made_annot acts.AddItem N R = taking (item_in R) (λ x R. add_item N x R)
made_annot a N R = made_item a N R

-- structs, and lists of declarations
unfoldable pub made_list : Action → Nodes → Stacks → Option Built
made_list acts.NoDecls N R = puts N (push_decls [] R)
made_list acts.AddName N R = taking (decl_in R) (λ d R. add_decl N d R)
made_list (acts.Tag f n) N R = puts N (push_tag (record { from = f; name = n }) R)
made_list acts.Struct N R =
    taking (decls_in R) (λ ms R. taking (tag_in R) (λ t R.
    add_decl (with_struct N t ms) (record { 0 = length N.decls }) R))
made_list a N R = made_annot a N R

-- a declaration stays when what it shares with others is done with
unfoldable pub made_decl : Action → Nodes → Stacks → Option Built
made_decl (acts.Specs b) N R =
    taking (annots_in R) (λ an R. puts N (push_shared (shares.Words an b) R))
made_decl acts.Declare N R = declare N rests.None R
made_decl acts.DeclareValue N R = taking (value_in R) (λ v R. declare N (rests.Value v) R)
made_decl acts.DeclareBody N R = taking (stmt_in R) (λ s R. declare N (rests.Body s) R)
made_decl acts.EndSpecs N R = taking (shared_in R) (λ s R. puts N R)
made_decl acts.DropSpecs N R = taking (shared_in R) (λ s R. puts N R)
made_decl a N R = made_list a N R

unfoldable pub made_declr : Action → Nodes → Stacks → Option Built
made_declr (acts.Named f n) N R = puts N (push_declarator (record { parts = []; name = Some n; from = f })
    R)
made_declr (acts.Nameless f) N R = puts N (push_declarator (record { parts = []; name = None; from = f }) R)
made_declr (acts.Pointer f) N R = add_part N f parts.Pointer R
made_declr (acts.Array f) N R = taking (expr_in R) (λ x R. add_part N f (parts.Array x) R)
made_declr (acts.Params f) N R = taking (decls_in R) (λ ds R. add_part N f (parts.Params ds) R)
made_declr a N R = made_decl a N R

-- lists of expressions, and expressions that may lack
unfoldable pub made_exprs : Action → Nodes → Stacks → Option Built
made_exprs acts.NoExprs N R = puts N (push_exprs [] R)
made_exprs acts.AddExpr N R = taking (expr_in R) (λ x R. add_expr N x R)
made_exprs acts.NoExpr N R = puts N (push_maybe None R)
made_exprs acts.OneExpr N R = taking (expr_in R) (λ x R. puts N (push_maybe (Some x) R))
made_exprs a N R = made_declr a N R

-- expressions of three parts, of a type or of a list
unfoldable pub made_mixed : Action → Nodes → Stacks → Option Built
made_mixed (acts.Cond f) N R =
    taking (expr_in R) (λ z R. taking (two_exprs_in R) (λ p R. put_expr N f (exprs.Cond p.0 p.1 z) R))
made_mixed (acts.SizeofType f) N R = taking (decl_in R) (λ d R. put_expr N f (exprs.SizeofType d) R)
made_mixed (acts.Cast f) N R =
    taking (expr_in R) (λ x R. taking (decl_in R) (λ d R. put_expr N f (exprs.Cast d x) R))
made_mixed (acts.Call f) N R =
    taking (exprs_in R) (λ xs R. taking (expr_in R) (λ x R. put_expr N f (exprs.Call x xs) R))
made_mixed a N R = made_exprs a N R

-- expressions of two expressions
unfoldable pub made_pair : Action → Nodes → Stacks → Option Built
made_pair (acts.Binary f s) N R = taking (two_exprs_in R) (λ p R. put_expr N f (exprs.Binary s p.0 p.1) R)
made_pair (acts.Assign f s) N R = taking (two_exprs_in R) (λ p R. put_expr N f (exprs.Assign s p.0 p.1) R)
made_pair (acts.Index f) N R = taking (two_exprs_in R) (λ p R. put_expr N f (exprs.Index p.0 p.1) R)
made_pair a N R = made_mixed a N R

-- expressions of one
unfoldable pub made_part : Action → Nodes → Stacks → Option Built
made_part (acts.Prefix f s) N R = taking (expr_in R) (λ x R. put_expr N f (exprs.Prefix s x) R)
made_part (acts.Postfix f s) N R = taking (expr_in R) (λ x R. put_expr N f (exprs.Postfix s x) R)
made_part (acts.SizeofExpr f) N R = taking (expr_in R) (λ x R. put_expr N f (exprs.SizeofExpr x) R)
made_part (acts.Member f n) N R = taking (expr_in R) (λ x R. put_expr N f (exprs.Member x n) R)
made_part (acts.Arrow f n) N R = taking (expr_in R) (λ x R. put_expr N f (exprs.Arrow x n) R)
made_part a N R = made_pair a N R

-- expressions without parts
unfoldable pub made_leaf : Action → Nodes → Stacks → Option Built
made_leaf (acts.Name f n) N R = put_expr N f (exprs.Name n) R
made_leaf (acts.Number f v s d) N R = put_expr N f (exprs.Number v s d) R
made_leaf (acts.Char f v) N R = put_expr N f (exprs.Char v) R
made_leaf (acts.Text f n) N R = put_expr N f (exprs.Text n) R
made_leaf a N R = made_part a N R
