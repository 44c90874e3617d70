-- Actions on expressions do to pieces with numbers what they do to trees.
use Rattle.std.proofs.Common.{ℕ, ℤ, Bool, List, [], Some, None, refl}
use Rattle.c_lexer.specs.declared.token.Sign.{Sign}
use Rattle.c_lexer.specs.declared.token.Suffix.{Suffix}
use Rattle.c_syntax.specs.declared.expression.ExprKind.TheVariants as exprs
use Rattle.c_syntax.specs.Syntax as c
use Rattle.c_parser_moves.specs.declared.action.Action.TheVariants as acts
use Rattle.c_parser_tree.specs.Nodes.{with_expr}
use Rattle.c_parser_tree.specs.Made.{made_leaf, made_part, made_pair, made_mixed, made_exprs}
use Rattle.c_parser_tree.specs.Stacked as on
use Rattle.c_parser_tree.proofs.Grow.{Grows, grow, grow_exprs, grow_decl}
use Rattle.c_parser_tree.proofs.Ends.{new_expr, grows_expr, exprs_end}
use Rattle.c_parser_tree.proofs.Likewise.{Likewise, goes_broken, grow_stack}

pub like_name : (f : ℕ) (n : List ℕ) → Likewise (made_leaf (acts.Name f n)) (acts.Name f n)
unfolding made_leaf
like_name f n N R P t =
    let g : Grows N (with_expr N (record { from = f; kind = exprs.Name n })) = grows_expr N _ in
    on.expr _ _ (new_expr N f _) (grow_stack g t)

pub like_number : (f : ℕ) (v : ℕ) (u : Suffix) (d : Bool) → Likewise (made_leaf (acts.Number f v u d)) (acts.Number f v u d)
unfolding made_leaf
like_number f v u d N R P t =
    let g : Grows N (with_expr N (record { from = f; kind = exprs.Number v u d })) = grows_expr N _ in
    on.expr _ _ (new_expr N f _) (grow_stack g t)

pub like_char : (f : ℕ) (c : ℤ) → Likewise (made_leaf (acts.Char f c)) (acts.Char f c)
unfolding made_leaf
like_char f c N R P t =
    let g : Grows N (with_expr N (record { from = f; kind = exprs.Char c })) = grows_expr N _ in
    on.expr _ _ (new_expr N f _) (grow_stack g t)

pub like_text : (f : ℕ) (n : List ℕ) → Likewise (made_leaf (acts.Text f n)) (acts.Text f n)
unfolding made_leaf
like_text f n N R P t =
    let g : Grows N (with_expr N (record { from = f; kind = exprs.Text n })) = grows_expr N _ in
    on.expr _ _ (new_expr N f _) (grow_stack g t)

pub like_prefix : (f : ℕ) (s : Sign) → Likewise (made_part (acts.Prefix f s)) (acts.Prefix f s)
unfolding made_part
like_prefix f s N _ _ (on.expr i0 x0 p0 t) =
    let g : Grows N (with_expr N (record { from = f; kind = exprs.Prefix s i0 })) = grows_expr N _ in
    on.expr _ _ (i0, new_expr N f _, grow g i0 x0 p0) (grow_stack g t)
like_prefix f s N R P t = goes_broken (made_part (acts.Prefix f s) N R)

pub like_postfix : (f : ℕ) (s : Sign) → Likewise (made_part (acts.Postfix f s)) (acts.Postfix f s)
unfolding made_part
like_postfix f s N _ _ (on.expr i0 x0 p0 t) =
    let g : Grows N (with_expr N (record { from = f; kind = exprs.Postfix s i0 })) = grows_expr N _ in
    on.expr _ _ (i0, new_expr N f _, grow g i0 x0 p0) (grow_stack g t)
like_postfix f s N R P t = goes_broken (made_part (acts.Postfix f s) N R)

pub like_sizeof_expr : (f : ℕ) → Likewise (made_part (acts.SizeofExpr f)) (acts.SizeofExpr f)
unfolding made_part
like_sizeof_expr f N _ _ (on.expr i0 x0 p0 t) =
    let g : Grows N (with_expr N (record { from = f; kind = exprs.SizeofExpr i0 })) = grows_expr N _ in
    on.expr _ _ (i0, new_expr N f _, grow g i0 x0 p0) (grow_stack g t)
like_sizeof_expr f N R P t = goes_broken (made_part (acts.SizeofExpr f) N R)

pub like_sizeof_type : (f : ℕ) → Likewise (made_mixed (acts.SizeofType f)) (acts.SizeofType f)
unfolding made_mixed
like_sizeof_type f N _ _ (on.decl i0 x0 p0 t) =
    let g : Grows N (with_expr N (record { from = f; kind = exprs.SizeofType i0 })) = grows_expr N _ in
    on.expr _ _ (i0, new_expr N f _, grow_decl g i0 x0 p0) (grow_stack g t)
like_sizeof_type f N R P t = goes_broken (made_mixed (acts.SizeofType f) N R)

pub like_member : (f : ℕ) (n : List ℕ) → Likewise (made_part (acts.Member f n)) (acts.Member f n)
unfolding made_part
like_member f n N _ _ (on.expr i0 x0 p0 t) =
    let g : Grows N (with_expr N (record { from = f; kind = exprs.Member i0 n })) = grows_expr N _ in
    on.expr _ _ (i0, new_expr N f _, grow g i0 x0 p0) (grow_stack g t)
like_member f n N R P t = goes_broken (made_part (acts.Member f n) N R)

pub like_arrow : (f : ℕ) (n : List ℕ) → Likewise (made_part (acts.Arrow f n)) (acts.Arrow f n)
unfolding made_part
like_arrow f n N _ _ (on.expr i0 x0 p0 t) =
    let g : Grows N (with_expr N (record { from = f; kind = exprs.Arrow i0 n })) = grows_expr N _ in
    on.expr _ _ (i0, new_expr N f _, grow g i0 x0 p0) (grow_stack g t)
like_arrow f n N R P t = goes_broken (made_part (acts.Arrow f n) N R)

pub like_binary : (f : ℕ) (s : Sign) → Likewise (made_pair (acts.Binary f s)) (acts.Binary f s)
unfolding made_pair
like_binary f s N _ _ (on.expr i0 x0 p0 (on.expr i1 x1 p1 t)) =
    let g : Grows N (with_expr N (record { from = f; kind = exprs.Binary s i1 i0 })) = grows_expr N _ in
    on.expr _ _ (i1, i0, new_expr N f _, grow g i1 x1 p1, grow g i0 x0 p0) (grow_stack g t)
like_binary f s N R P t = goes_broken (made_pair (acts.Binary f s) N R)

pub like_assign : (f : ℕ) (s : Sign) → Likewise (made_pair (acts.Assign f s)) (acts.Assign f s)
unfolding made_pair
like_assign f s N _ _ (on.expr i0 x0 p0 (on.expr i1 x1 p1 t)) =
    let g : Grows N (with_expr N (record { from = f; kind = exprs.Assign s i1 i0 })) = grows_expr N _ in
    on.expr _ _ (i1, i0, new_expr N f _, grow g i1 x1 p1, grow g i0 x0 p0) (grow_stack g t)
like_assign f s N R P t = goes_broken (made_pair (acts.Assign f s) N R)

pub like_cond : (f : ℕ) → Likewise (made_mixed (acts.Cond f)) (acts.Cond f)
unfolding made_mixed
like_cond f N _ _ (on.expr i0 x0 p0 (on.expr i1 x1 p1 (on.expr i2 x2 p2 t))) =
    let g : Grows N (with_expr N (record { from = f; kind = exprs.Cond i2 i1 i0 })) = grows_expr N _ in
    on.expr _ _ (i2, i1, i0, new_expr N f _, grow g i2 x2 p2, grow g i1 x1 p1, grow g i0 x0 p0) (grow_stack g t)
like_cond f N R P t = goes_broken (made_mixed (acts.Cond f) N R)

pub like_cast : (f : ℕ) → Likewise (made_mixed (acts.Cast f)) (acts.Cast f)
unfolding made_mixed
like_cast f N _ _ (on.expr i0 x0 p0 (on.decl i1 x1 p1 t)) =
    let g : Grows N (with_expr N (record { from = f; kind = exprs.Cast i1 i0 })) = grows_expr N _ in
    on.expr _ _ (i1, i0, new_expr N f _, grow_decl g i1 x1 p1, grow g i0 x0 p0) (grow_stack g t)
like_cast f N R P t = goes_broken (made_mixed (acts.Cast f) N R)

pub like_index : (f : ℕ) → Likewise (made_pair (acts.Index f)) (acts.Index f)
unfolding made_pair
like_index f N _ _ (on.expr i0 x0 p0 (on.expr i1 x1 p1 t)) =
    let g : Grows N (with_expr N (record { from = f; kind = exprs.Index i1 i0 })) = grows_expr N _ in
    on.expr _ _ (i1, i0, new_expr N f _, grow g i1 x1 p1, grow g i0 x0 p0) (grow_stack g t)
like_index f N R P t = goes_broken (made_pair (acts.Index f) N R)

pub like_call : (f : ℕ) → Likewise (made_mixed (acts.Call f)) (acts.Call f)
unfolding made_mixed
like_call f N _ _ (on.exprs i0 x0 p0 (on.expr i1 x1 p1 t)) =
    let g : Grows N (with_expr N (record { from = f; kind = exprs.Call i1 i0 })) = grows_expr N _ in
    on.expr _ _ (i1, i0, new_expr N f _, grow g i1 x1 p1, grow_exprs g i0 x0 p0) (grow_stack g t)
like_call f N R P t = goes_broken (made_mixed (acts.Call f) N R)

pub like_no_exprs : Likewise (made_exprs acts.NoExprs) acts.NoExprs
unfolding made_exprs
like_no_exprs N R P t = on.exprs [] c.NoExprs refl t

pub like_add_expr : Likewise (made_exprs acts.AddExpr) acts.AddExpr
unfolding made_exprs
like_add_expr N _ _ (on.expr i0 x0 p0 (on.exprs i1 x1 p1 t)) = on.exprs _ _ (exprs_end N i1 i0 x1 x0 p1 p0) t
like_add_expr N R P t = goes_broken (made_exprs acts.AddExpr N R)

pub like_no_expr : Likewise (made_exprs acts.NoExpr) acts.NoExpr
unfolding made_exprs
like_no_expr N R P t = on.maybe None c.NoExpr refl t

pub like_one_expr : Likewise (made_exprs acts.OneExpr) acts.OneExpr
unfolding made_exprs
like_one_expr N _ _ (on.expr i0 x0 p0 t) = on.maybe (Some i0) (c.OneExpr x0) (i0, refl, p0) t
like_one_expr N R P t = goes_broken (made_exprs acts.OneExpr N R)
