-- Actions on statements do to pieces with numbers what they do to trees.
use Rattle.std.proofs.Common.{ℕ, [], Some, None, refl}
use Rattle.c_syntax.specs.declared.statement.StmtKind.TheVariants as stmts
use Rattle.c_syntax.specs.declared.statement.Entry.TheVariants as entries
use Rattle.c_syntax.specs.declared.statement.First.TheVariants as firsts
use Rattle.c_syntax.specs.Syntax as c
use Rattle.c_parser_moves.specs.declared.action.Action.TheVariants as acts
use Rattle.c_parser_tree.specs.Nodes.{with_stmt}
use Rattle.c_parser_tree.specs.Made.{made_entry, made_stmt, made_control}
use Rattle.c_parser_tree.specs.Stacked as on
use Rattle.c_parser_tree.proofs.Grow.{Grows, grow, grow_maybe, grow_stmt, grow_entries, grow_first}
use Rattle.c_parser_tree.proofs.Ends.{new_stmt, grows_stmt, entries_end}
use Rattle.c_parser_tree.proofs.Likewise.{Likewise, goes_broken, grow_stack}

pub like_no_entries : Likewise (made_entry acts.NoEntries) acts.NoEntries
unfolding made_entry
like_no_entries N R P t = on.entries [] c.NoEntries refl t

pub like_add_local : Likewise (made_entry acts.AddLocal) acts.AddLocal
unfolding made_entry
like_add_local N _ _ (on.decls i0 x0 p0 (on.entries i1 x1 p1 t)) = on.entries _ _ (entries_end N i1 (entries.Local i0) x1 (c.LocalEntry x0) p1 (i0, refl, p0)) t
like_add_local N R P t = goes_broken (made_entry acts.AddLocal N R)

pub like_add_stmt : Likewise (made_entry acts.AddStmt) acts.AddStmt
unfolding made_entry
like_add_stmt N _ _ (on.stmt i0 x0 p0 (on.entries i1 x1 p1 t)) = on.entries _ _ (entries_end N i1 (entries.Stmt i0) x1 (c.StmtEntry x0) p1 (i0, refl, p0)) t
like_add_stmt N R P t = goes_broken (made_entry acts.AddStmt N R)

pub like_no_first : Likewise (made_entry acts.NoFirst) acts.NoFirst
unfolding made_entry
like_no_first N R P t = on.first firsts.None c.NoFirst refl t

pub like_local_first : Likewise (made_entry acts.LocalFirst) acts.LocalFirst
unfolding made_entry
like_local_first N _ _ (on.decls i0 x0 p0 t) = on.first (firsts.Local i0) (c.LocalFirst x0) (i0, refl, p0) t
like_local_first N R P t = goes_broken (made_entry acts.LocalFirst N R)

pub like_expr_first : Likewise (made_entry acts.ExprFirst) acts.ExprFirst
unfolding made_entry
like_expr_first N _ _ (on.expr i0 x0 p0 t) = on.first (firsts.Expr i0) (c.ExprFirst x0) (i0, refl, p0) t
like_expr_first N R P t = goes_broken (made_entry acts.ExprFirst N R)

pub like_block : (f : ℕ) → Likewise (made_stmt (acts.Block f)) (acts.Block f)
unfolding made_stmt
like_block f N _ _ (on.entries i0 x0 p0 t) =
    let g : Grows N (with_stmt N (record { from = f; kind = stmts.Block i0 })) = grows_stmt N _ in
    on.stmt _ _ (i0, new_stmt N f _, grow_entries g i0 x0 p0) (grow_stack g t)
like_block f N R P t = goes_broken (made_stmt (acts.Block f) N R)

pub like_expression : (f : ℕ) → Likewise (made_stmt (acts.Expression f)) (acts.Expression f)
unfolding made_stmt
like_expression f N _ _ (on.maybe i0 x0 p0 t) =
    let g : Grows N (with_stmt N (record { from = f; kind = stmts.Expr i0 })) = grows_stmt N _ in
    on.stmt _ _ (i0, new_stmt N f _, grow_maybe g i0 x0 p0) (grow_stack g t)
like_expression f N R P t = goes_broken (made_stmt (acts.Expression f) N R)

pub like_break : (f : ℕ) → Likewise (made_stmt (acts.Break f)) (acts.Break f)
unfolding made_stmt
like_break f N R P t =
    let g : Grows N (with_stmt N (record { from = f; kind = stmts.Break })) = grows_stmt N _ in
    on.stmt _ _ (new_stmt N f _) (grow_stack g t)

pub like_continue : (f : ℕ) → Likewise (made_stmt (acts.Continue f)) (acts.Continue f)
unfolding made_stmt
like_continue f N R P t =
    let g : Grows N (with_stmt N (record { from = f; kind = stmts.Continue })) = grows_stmt N _ in
    on.stmt _ _ (new_stmt N f _) (grow_stack g t)

pub like_return : (f : ℕ) → Likewise (made_stmt (acts.Return f)) (acts.Return f)
unfolding made_stmt
like_return f N _ _ (on.maybe i0 x0 p0 t) =
    let g : Grows N (with_stmt N (record { from = f; kind = stmts.Return i0 })) = grows_stmt N _ in
    on.stmt _ _ (i0, new_stmt N f _, grow_maybe g i0 x0 p0) (grow_stack g t)
like_return f N R P t = goes_broken (made_stmt (acts.Return f) N R)

pub like_if : (f : ℕ) → Likewise (made_control (acts.If f)) (acts.If f)
unfolding made_control
like_if f N _ _ (on.stmt i0 x0 p0 (on.expr i1 x1 p1 t)) =
    let g : Grows N (with_stmt N (record { from = f; kind = stmts.If i1 i0 None })) = grows_stmt N _ in
    on.stmt _ _ (i1, i0, new_stmt N f _, grow g i1 x1 p1, grow_stmt g i0 x0 p0) (grow_stack g t)
like_if f N R P t = goes_broken (made_control (acts.If f) N R)

pub like_if_else : (f : ℕ) → Likewise (made_control (acts.IfElse f)) (acts.IfElse f)
unfolding made_control
like_if_else f N _ _ (on.stmt i0 x0 p0 (on.stmt i1 x1 p1 (on.expr i2 x2 p2 t))) =
    let g : Grows N (with_stmt N (record { from = f; kind = stmts.If i2 i1 (Some i0) })) = grows_stmt N _ in
    on.stmt _ _ (i2, i1, i0, new_stmt N f _, grow g i2 x2 p2, grow_stmt g i1 x1 p1, grow_stmt g i0 x0 p0) (grow_stack g t)
like_if_else f N R P t = goes_broken (made_control (acts.IfElse f) N R)

pub like_while : (f : ℕ) → Likewise (made_control (acts.While f)) (acts.While f)
unfolding made_control
like_while f N _ _ (on.stmt i0 x0 p0 (on.expr i1 x1 p1 t)) =
    let g : Grows N (with_stmt N (record { from = f; kind = stmts.While i1 i0 })) = grows_stmt N _ in
    on.stmt _ _ (i1, i0, new_stmt N f _, grow g i1 x1 p1, grow_stmt g i0 x0 p0) (grow_stack g t)
like_while f N R P t = goes_broken (made_control (acts.While f) N R)

pub like_do : (f : ℕ) → Likewise (made_control (acts.Do f)) (acts.Do f)
unfolding made_control
like_do f N _ _ (on.expr i0 x0 p0 (on.stmt i1 x1 p1 t)) =
    let g : Grows N (with_stmt N (record { from = f; kind = stmts.Do i1 i0 })) = grows_stmt N _ in
    on.stmt _ _ (i1, i0, new_stmt N f _, grow_stmt g i1 x1 p1, grow g i0 x0 p0) (grow_stack g t)
like_do f N R P t = goes_broken (made_control (acts.Do f) N R)

pub like_for : (f : ℕ) → Likewise (made_control (acts.For f)) (acts.For f)
unfolding made_control
like_for f N _ _ (on.stmt i0 x0 p0 (on.maybe i1 x1 p1 (on.maybe i2 x2 p2 (on.first i3 x3 p3 t)))) =
    let g : Grows N (with_stmt N (record { from = f; kind = stmts.For i3 i2 i1 i0 })) = grows_stmt N _ in
    on.stmt _ _ (i3, i2, i1, i0, new_stmt N f _, grow_first g i3 x3 p3, grow_maybe g i2 x2 p2, grow_maybe g i1 x1 p1, grow_stmt g i0 x0 p0) (grow_stack g t)
like_for f N R P t = goes_broken (made_control (acts.For f) N R)
