-- Values in braces, and their parts.
use Rattle.std.proofs.Common.{◌≡◌, ℕ, zero, suc, ◌<◌, List, [], ◌∷◌, length, get_or, refl, ap, ◌∙◌, subst, arith, rules}
use Rattle.std.specs.Prelude.{Vec}
use Rattle.std.specs.declared.alloc.Global.{Global}
use Rattle.c_syntax.specs.declared.id.ExprId.{ExprId}
use Rattle.c_syntax.specs.declared.declaration.Value.{Value, out-Value}
use Rattle.c_syntax.specs.declared.declaration.Value.TheOpen.{Value-F}
use Rattle.c_syntax.specs.declared.declaration.Value.TheVariants as values
use Rattle.c_syntax.specs.declared.declaration.Value.TheViews.{the_lemmas}
use Rattle.c_syntax.specs.Nodes.{Nodes}
use Rattle.c_syntax.specs.Syntax.{Expr, Value as Written, Values as Writtens, Plain, Braces, NoValues, MoreValues}
use Rattle.c_syntax.specs.Stands.{Stands, StandsValue, StandValues}
use Rattle.c_syntax_laws.specs.Numbers.{FitsValues}
use Rattle.c_types_expressions.specs.Walks.{IsExpr}
use Rattle.c_types_initializers.specs.Values.{IsValue, AreValues}

-- a value that is an expression
pub plain_is : (N : Nodes) (v : Value) (a : ExprId) → IsValue N v → out-Value v ≡ Value-F.Plain a → IsExpr N a
plain_is N v a (Plain x, (b, e, s), f) h = let same : b ≡ a = cc in (x, subst (λ i. Stands N i x) same s, f)
plain_is N v a (Braces g xs, (w, e, s), f) h = absurd cc

-- values in braces
pub braces_are : (N : Nodes) (v : Value) (g : ℕ) (w : Vec Value Global) → IsValue N v → out-Value v ≡ Value-F.Braces g w → AreValues N w.items
braces_are N v g w (Plain x, (b, e, s), f) h = absurd cc
braces_are N v g w (Braces k xs, (u, e, s), f) h = let same : u ≡ w = cc in (xs, subst (λ i. StandValues N i xs) (ap (λ z. z.items) same) s, f)

-- one of several values
pub one_of : (N : Nodes) (vs : List Value) (xs : Writtens) (i : ℕ) (d : Value) → StandValues N vs xs → FitsValues xs → i < length vs → IsValue N (get_or vs i d)
one_of N [] xs i d s f lt = absurd (omega arith)
one_of N (v ∷ vs) NoValues i d s f lt = absurd cc
one_of N (v ∷ vs) (MoreValues x xs) zero d (w, ws, e, s, t) f lt = let same : w ≡ v = cc in (x, subst (λ u. StandsValue N u x) same s, f.0)
one_of N (v ∷ vs) (MoreValues x xs) (suc i) d (w, ws, e, s, t) f lt = let same : ws ≡ vs = cc in one_of N vs xs i d (subst (λ u. StandValues N u xs) same t) f.1 (omega arith)

-- a value by what it is
pub value_plain : (N : Nodes) (v : Value) (a : ExprId) (x : Written) → StandsValue N v x → out-Value v ≡ Value-F.Plain a → (y : Expr) × (x ≡ Plain y) × Stands N a y
value_plain N v a (Plain y) (b, e, s) h = let same : b ≡ a = cc in (y, refl, subst (λ i. Stands N i y) same s)
value_plain N v a (Braces g xs) (w, e, s) h = absurd cc

pub value_braces : (N : Nodes) (v : Value) (g : ℕ) (w : Vec Value Global) (x : Written) → StandsValue N v x → out-Value v ≡ Value-F.Braces g w → (xs : Writtens) × (x ≡ Braces g xs) × StandValues N w.items xs
value_braces N v g w (Plain y) (b, e, s) h = absurd cc
value_braces N v g w (Braces k xs) (u, e, s) h = let same : u ≡ w = cc in let at : k ≡ g = cc in (xs, ap (λ z. Braces z xs) at, subst (λ i. StandValues N i xs) (ap (λ z. z.items) same) s)

-- one of several
pub one_among : (N : Nodes) (vs : List Value) (i : ℕ) (d : Value) → AreValues N vs → i < length vs → IsValue N (get_or vs i d)
one_among N vs i d (xs, s, f) lt = one_of N vs xs i d s f lt

-- what a value holds
pub plain_open : (v : Value) (a : ExprId) → v ≡ values.Plain a → out-Value v ≡ Value-F.Plain a
plain_open v a e = ap out-Value e ∙ (search (rules, the_lemmas))

pub braces_open : (v : Value) (g : ℕ) (w : Vec Value Global) → v ≡ values.Braces g w → out-Value v ≡ Value-F.Braces g w
braces_open v g w e = ap out-Value e ∙ (search (rules, the_lemmas))
