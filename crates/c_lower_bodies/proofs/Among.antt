-- One of several statements.
use Rattle.std.proofs.Common.{◌≡◌, ℕ, zero, suc, ◌-◌, ◌<◌, ◌≤◌, List, [], ◌∷◌, length, drop, get_or, drop-cons, sym, ap, ◌∙◌, subst, arith}
use Rattle.c_types_nodes.specs.Tables.{Table}
use Rattle.c_types_program.specs.declared.statement.Statement.{Statement}
use Rattle.c_types_program.specs.Statements.{AllStatements, IsStatement, statement_in, statements_in}
use Rattle.c_lower_bodies.proofs.Weights.{statement_weight, statements_weight}

at_place : (t : Table) (ss : List Statement) (i : ℕ) (d : Statement) → AllStatements t ss → i < length ss → IsStatement t (get_or ss i d)
at_place t [] i d h lt = absurd (omega arith)
at_place t (s ∷ ss) zero d h lt = h.0
at_place t (s ∷ ss) (suc i) d h lt = at_place t ss i d h.1 (omega arith)

pub statement_among : (t : Table) (ss : List Statement) (i : ℕ) (s : Statement) → AllStatements t ss → i < length ss → s ≡ get_or ss i s → IsStatement t s
statement_among t ss i s h lt is = subst (λ (x : Statement). IsStatement t x) (sym is) (at_place t ss i s h lt)

-- the statements from a place on, and the one before it
pub one_more : (ss : List Statement) (i : ℕ) (s : Statement) → 0 < i → i ≤ length ss → s ≡ get_or ss (i - 1) s → drop (i - 1) ss ≡ s ∷ drop i ss
one_more ss i s some within is =
    let back : suc (i - 1) ≡ i = omega arith in
    drop-cons ss (i - 1) s (omega arith) ∙ (ap (λ (x : Statement). x ∷ drop (suc (i - 1)) ss) (sym is) ∙ ap (λ (n : ℕ). s ∷ drop n ss) back)

lighter : (t : Table) (ss : List Statement) (i : ℕ) (d : Statement) → i < length ss → statement_weight (statement_in t (get_or ss i d)) < statements_weight (statements_in t ss)
lighter t [] i d lt = absurd (omega arith)
lighter t (s ∷ ss) zero d lt = omega arith
lighter t (s ∷ ss) (suc i) d lt = let h = lighter t ss i d (omega arith) in omega arith

-- one statement has fewer parts than all
pub one_lighter : (t : Table) (ss : List Statement) (i : ℕ) (s : Statement) → i < length ss → s ≡ get_or ss i s → statement_weight (statement_in t s) < statements_weight (statements_in t ss)
one_lighter t ss i s lt is = subst (λ (x : Statement). statement_weight (statement_in t x) < statements_weight (statements_in t ss)) (sym is) (lighter t ss i s lt)
