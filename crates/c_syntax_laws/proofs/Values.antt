-- What values name.
use Rattle.std.proofs.Common.{◌≡◌, ℕ, List, [], ◌∷◌, Vec, ap, ◌∙◌}
use Rattle.std.specs.declared.alloc.Global.{Global}
use Rattle.c_syntax.specs.declared.id.ExprId.{ExprId}
use Rattle.c_syntax.specs.declared.declaration.Value.{Value, out-Value, map-Value, fold_out-Value}
use Rattle.c_syntax.specs.declared.declaration.Value.TheOpen.{Value-F}
use Rattle.c_syntax_laws.specs.declared.node.Node.{Node}
use Rattle.c_syntax_laws.specs.declared.node.Node.TheVariants as nodes
use Rattle.c_syntax_laws.specs.Named.{by_value, by_values, by_layer}

pub by_value-plain : (v : Value) (a : ExprId) → out-Value v ≡ Value-F.Plain a → by_value v ≡ nodes.Expr a ∷ []
by_value-plain v a e = fold_out-Value (List Node) by_layer v ∙ ap (λ x. by_layer (map-Value Value (List Node) by_value x)) e

pub by_value-braces : (v : Value) (f : ℕ) (w : Vec Value Global) → out-Value v ≡ Value-F.Braces f w → by_value v ≡ by_values w.items
by_value-braces v f w e = fold_out-Value (List Node) by_layer v ∙ ap (λ x. by_layer (map-Value Value (List Node) by_value x)) e
