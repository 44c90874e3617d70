-- What the chain of a whole source says of its depth.
use Rattle.std.proofs.Common.{◌≡◌, ◌∷◌, ℕ, ◌-◌, ◌<◌, ◌≤◌, nat_le, Bool, true, false, List, [], reverse, Option, Some, None, IfNone, IfSome, if◌then◌else◌, refl, subst, arith}
use Rattle.std.proofs.lemmas.Bool.{leb-true, leb-false}
use Rattle.c_syntax.specs.Syntax.{Decls}
use Rattle.c_syntax.specs.Depth.{LieDecls}
use Rattle.c_parser_moves.specs.declared.action.Action.{Action}
use Rattle.c_parser_actions.specs.Pieces.{Piece, PDecls, acted}
use Rattle.c_parser_depth.specs.declared.chain.Chain.{Chain}
use Rattle.c_parser_depth.specs.Chains.{top, deep_end}
use Rattle.c_parser_depth.specs.Deep.{OfBuilt, IsShallow, IsDeepAt}
use Rattle.c_parser_depth.proofs.Longest.{IsLongest}
use Rattle.c_parser_depth.proofs.Measures.{Measures}

shallow_at : (ds : Decls) (c : Chain) (b : Bool) → nat_le 202 c.nodes ≡ b → IsLongest (λ k o. LieDecls ds k o) c → IfNone (if b then Some c.end else None) (IsShallow ds)
shallow_at ds c true e x = tt
shallow_at ds c false e x = λ k o m. (let lt : c.nodes < 202 = leb-false _ _ e in let up : k < c.nodes = x.bounds (omega arith) k o m in omega arith)

deep_at : (ds : Decls) (c : Chain) (b : Bool) → nat_le 202 c.nodes ≡ b → IsLongest (λ k o. LieDecls ds k o) c → IfSome (if b then Some c.end else None) (λ o. IsDeepAt ds o)
deep_at ds c false e x = tt
deep_at ds c true e x =
    let ge : 202 ≤ c.nodes = leb-true _ _ e in
    let w = x.ends (c.nodes - 1) (omega arith) in
    (w.0, (let le : c.nodes - 1 ≤ w.0 = w.1 in omega arith), w.2)

-- the chain at the top is that of the source
whole : (v : List Action) (ds : Decls) (cs : List Chain) → Measures (acted (reverse v) []) cs → acted (reverse v) [] ≡ PDecls ds ∷ [] → IsLongest (λ k o. LieDecls ds k o) (top cs)
whole v ds cs h e = let P : List Piece → Type 0 = λ p. Measures p cs in (subst P e h).0

under_none : (r : Option ℕ) (v : List Action) (A : Decls → Type 0) → ((ds : Decls) → acted (reverse v) [] ≡ PDecls ds ∷ [] → IfNone r (A ds)) → IfNone r (OfBuilt v A)
under_none None v A h = h
under_none (Some o) v A h = tt

under_some : (r : Option ℕ) (v : List Action) (A : Decls → ℕ → Type 0) → ((ds : Decls) → acted (reverse v) [] ≡ PDecls ds ∷ [] → IfSome r (λ o. A ds o)) → IfSome r (λ o. OfBuilt v (λ ds. A ds o))
under_some None v A h = tt
under_some (Some o) v A h = h

pub tells_shallow : (v : List Action) (cs : List Chain) → Measures (acted (reverse v) []) cs → IfNone (deep_end (top cs)) (OfBuilt v IsShallow)
tells_shallow v cs h = under_none (deep_end (top cs)) v IsShallow (λ ds e. shallow_at ds (top cs) (nat_le 202 (top cs).nodes) refl (whole v ds cs h e))

pub tells_deep : (v : List Action) (cs : List Chain) → Measures (acted (reverse v) []) cs → IfSome (deep_end (top cs)) (λ o. OfBuilt v (λ ds. IsDeepAt ds o))
tells_deep v cs h = under_some (deep_end (top cs)) v IsDeepAt (λ ds e. deep_at ds (top cs) (nat_le 202 (top cs).nodes) refl (whole v ds cs h e))
