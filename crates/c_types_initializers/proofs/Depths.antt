-- How deep braces nest.
use Rattle.std.proofs.Common.{◌≡◌, ℕ, ◌<◌, ◌≤◌, List, length, get_or, sym, subst, arith}
use Rattle.std.specs.Prelude.{Vec}
use Rattle.std.specs.declared.alloc.Global.{Global}
use Rattle.c_syntax.specs.declared.declaration.Value.{Value}
use Rattle.c_syntax.specs.declared.declaration.Value.TheVariants as values
use Rattle.c_syntax.specs.declared.declaration.Value.TheViews.{size-Value, sized-Braces}
use denote.Param.Weighed.{most, at_most}

-- the depth of the deepest
abbrev pub deepest : List Value → ℕ
deepest vs = most size-Value vs

-- braces are deeper than what they hold
pub held_lower : (v : Value) (g : ℕ) (w : Vec Value Global) (vs : List Value) → v ≡ values.Braces g w → vs ≡ w.items → deepest vs < size-Value v
held_lower v g w vs e is =
    let P : Value → Type 0 = λ z. deepest w.items < size-Value z in
    let Q : List Value → Type 0 = λ z. deepest z < size-Value v in
    let deeper : deepest w.items < size-Value (values.Braces g w) = omega (arith, sized-Braces g w) in
    subst Q (sym is) (subst P (sym e) deeper)

-- no value is deeper than the deepest
pub one_lower : (vs : List Value) (i : ℕ) (v d : Value) → v ≡ get_or vs i d → i < length vs → size-Value v ≤ deepest vs
one_lower vs i v d e lt = let P : Value → Type 0 = λ z. size-Value z ≤ deepest vs in subst P (sym e) (at_most size-Value vs i d lt)
