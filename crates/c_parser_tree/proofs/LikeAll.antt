-- Each action does to pieces with numbers what it does to trees.
use Rattle.c_parser_moves.specs.declared.action.Action.{Action}
use Rattle.c_parser_moves.specs.declared.action.Action.TheVariants as acts
use Rattle.c_parser_tree.specs.Made.{made_leaf, made_part, made_pair, made_mixed, made_exprs, made_declr, made_decl, made_list, made_annot, made_item, made_value, made_entry, made_stmt, made_control}
use Rattle.c_parser_tree.proofs.Likewise.{Likewise}
use Rattle.c_parser_tree.proofs.LikeExpr.{like_name, like_number, like_char, like_text, like_prefix, like_postfix, like_sizeof_expr, like_sizeof_type, like_member, like_arrow, like_binary, like_assign, like_cond, like_cast, like_index, like_call, like_no_exprs, like_add_expr, like_no_expr, like_one_expr}
use Rattle.c_parser_tree.proofs.LikeDecl.{like_named, like_nameless, like_pointer, like_array, like_params, like_specs, like_declare, like_declare_value, like_declare_body, like_end_specs, like_drop_specs, like_no_decls, like_add_name, like_tag, like_struct}
use Rattle.c_parser_tree.proofs.LikeAnnot.{like_no_annots, like_annot_name, like_add_annot, like_add_item, like_name_atom, like_number_atom, like_return_atom, like_sizeof_atom, like_one_factor, like_two_factors, like_plain, like_no_values, like_add_value}
use Rattle.c_parser_tree.proofs.LikeStmt.{like_no_entries, like_add_local, like_add_stmt, like_no_first, like_local_first, like_expr_first, like_block, like_expression, like_break, like_continue, like_return, like_if, like_if_else, like_while, like_do, like_for}

-- braces are not among the others, since their `Vec` is no part of what is seen
abbrev pub IsOther : Action → Type 0
IsOther (acts.Braces f) = ⊥
IsOther _ = Unit {0}

pub like_all : (a : Action) → IsOther a → Likewise (made_leaf a) a
unfolding made_leaf made_part made_pair made_mixed made_exprs made_declr made_decl made_list made_annot made_item made_value made_entry made_stmt made_control
like_all (acts.Name f n) o = like_name f n
like_all (acts.Number f v u d) o = like_number f v u d
like_all (acts.Char f c) o = like_char f c
like_all (acts.Text f n) o = like_text f n
like_all (acts.Prefix f s) o = like_prefix f s
like_all (acts.Postfix f s) o = like_postfix f s
like_all (acts.SizeofExpr f) o = like_sizeof_expr f
like_all (acts.SizeofType f) o = like_sizeof_type f
like_all (acts.Member f n) o = like_member f n
like_all (acts.Arrow f n) o = like_arrow f n
like_all (acts.Binary f s) o = like_binary f s
like_all (acts.Assign f s) o = like_assign f s
like_all (acts.Cond f) o = like_cond f
like_all (acts.Cast f) o = like_cast f
like_all (acts.Index f) o = like_index f
like_all (acts.Call f) o = like_call f
like_all acts.NoExprs o = like_no_exprs
like_all acts.AddExpr o = like_add_expr
like_all acts.NoExpr o = like_no_expr
like_all acts.OneExpr o = like_one_expr
like_all (acts.Named f n) o = like_named f n
like_all (acts.Nameless f) o = like_nameless f
like_all (acts.Pointer f) o = like_pointer f
like_all (acts.Array f) o = like_array f
like_all (acts.Params f) o = like_params f
like_all (acts.Specs b) o = like_specs b
like_all acts.Declare o = like_declare
like_all acts.DeclareValue o = like_declare_value
like_all acts.DeclareBody o = like_declare_body
like_all acts.EndSpecs o = like_end_specs
like_all acts.DropSpecs o = like_drop_specs
like_all acts.NoDecls o = like_no_decls
like_all acts.AddName o = like_add_name
like_all (acts.Tag f n) o = like_tag f n
like_all acts.Struct o = like_struct
like_all acts.NoAnnots o = like_no_annots
like_all (acts.AnnotName f n) o = like_annot_name f n
like_all acts.AddAnnot o = like_add_annot
like_all acts.AddItem o = like_add_item
like_all (acts.NameAtom n) o = like_name_atom n
like_all (acts.NumberAtom v) o = like_number_atom v
like_all acts.ReturnAtom o = like_return_atom
like_all acts.SizeofAtom o = like_sizeof_atom
like_all (acts.OneFactor f) o = like_one_factor f
like_all (acts.TwoFactors f) o = like_two_factors f
like_all acts.Plain o = like_plain
like_all acts.NoValues o = like_no_values
like_all acts.AddValue o = like_add_value
like_all acts.NoEntries o = like_no_entries
like_all acts.AddLocal o = like_add_local
like_all acts.AddStmt o = like_add_stmt
like_all acts.NoFirst o = like_no_first
like_all acts.LocalFirst o = like_local_first
like_all acts.ExprFirst o = like_expr_first
like_all (acts.Block f) o = like_block f
like_all (acts.Expression f) o = like_expression f
like_all (acts.Break f) o = like_break f
like_all (acts.Continue f) o = like_continue f
like_all (acts.Return f) o = like_return f
like_all (acts.If f) o = like_if f
like_all (acts.IfElse f) o = like_if_else f
like_all (acts.While f) o = like_while f
like_all (acts.Do f) o = like_do f
like_all (acts.For f) o = like_for f
like_all (acts.Braces f) o = absurd o
