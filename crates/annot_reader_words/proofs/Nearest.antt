-- The part of a declarator that stands nearest to the name.
use Rattle.std.proofs.Common.{◌≡◌, ℕ, List, [], ◌∷◌, ◌++◌, refl, sym, ap, ◌∙◌, subst}
use Rattle.c_syntax.specs.declared.id.DeclId.{DeclId}
use Rattle.c_syntax.specs.declared.declaration.Part.{Part}
use Rattle.c_syntax.specs.declared.declaration.PartKind.TheVariants as kinds
use Rattle.c_syntax.specs.Nodes.{Nodes}
use Rattle.c_syntax.specs.Syntax.{Decls, Parts, NoParts, Pointer, Array, Params}
use Rattle.c_syntax.specs.Stands.{StandDecls, StandParts}
use Rattle.annot_reader_rules.specs.Functions.{own_parameters, result_parts}

-- the outer parts, and the own parameters
abbrev pub Splits : Nodes → List Part → List DeclId → Parts → Type 0
Splits N outer own ps = StandParts N outer (result_parts ps) × StandDecls N own (own_parameters ps)

first_of : (v w : Part) (vs ws : List Part) → v ∷ vs ≡ w ∷ ws → v ≡ w
first_of v w vs ws e = cc

rest_of : (v w : Part) (vs ws : List Part) → v ∷ vs ≡ w ∷ ws → vs ≡ ws
rest_of v w vs ws e = cc

no_parts : (N : Nodes) (ws : List Part) (ps : Parts) → StandParts N ws ps → ws ≡ [] → ps ≡ NoParts
no_parts N ws NoParts q e = refl
no_parts N ws (Pointer f ps) (v, us, g, _, _, _) e = absurd cc
no_parts N ws (Array f x ps) (v, a, us, g, _, _, _, _) e = absurd cc
no_parts N ws (Params f ds ps) (v, is, us, g, _, _, _, _) e = absurd cc

params_more : (f : ℕ) (ds : Decls) (ps : Parts) → (ps ≡ NoParts → ⊥) → (result_parts (Params f ds ps) ≡ Params f ds (result_parts ps)) × (own_parameters (Params f ds ps) ≡ own_parameters ps)
params_more f ds NoParts n = absurd (n refl)
params_more f ds (Pointer g ps) n = (refl, refl)
params_more f ds (Array g x ps) n = (refl, refl)
params_more f ds (Params g es ps) n = (refl, refl)

some_parts : (N : Nodes) (outer : List Part) (v : Part) (ps : Parts) → StandParts N (outer ++ v ∷ []) ps → ps ≡ NoParts → ⊥
some_parts N outer v NoParts q e = not_empty outer q
  where
    not_empty : (outer : List Part) → outer ++ v ∷ [] ≡ [] → ⊥
    not_empty [] h = cc
    not_empty (u ∷ us) h = cc
some_parts N outer v (Pointer f ps) q e = cc
some_parts N outer v (Array f x ps) q e = cc
some_parts N outer v (Params f ds ps) q e = cc

after_params : (N : Nodes) (vs : List Part) (own : List DeclId) (f : ℕ) (ds : Decls) (ps : Parts) → (ps ≡ NoParts → ⊥) → StandParts N vs (Params f ds (result_parts ps)) × StandDecls N own (own_parameters ps) → Splits N vs own (Params f ds ps)
after_params N vs own f ds ps n (p, q) =
    let m = params_more f ds ps n in
    (subst (λ r. StandParts N vs r) (sym m.0) p, subst (λ r. StandDecls N own r) (sym m.1) q)

-- where the nearest part has parameters
pub splits : (N : Nodes) (outer : List Part) (v : Part) (own : List DeclId) (ps : Parts) → v.kind ≡ kinds.Params own → StandParts N (outer ++ v ∷ []) ps → Splits N outer own ps
splits N [] v own NoParts k e = absurd cc
splits N [] v own (Pointer f ps) k (w, ws, e, _, l, q) = absurd cc
splits N [] v own (Array f x ps) k (w, a, ws, e, _, l, p, q) = absurd cc
splits N [] v own (Params f ds ps) k (w, is, ws, e, _, l, p, q) =
    let none : ps ≡ NoParts = no_parts N ws ps q (sym (rest_of v w [] ws e)) in
    let same : own ≡ is = cc in
    subst (λ r. Splits N [] own (Params f ds r)) (sym none) (refl, subst (λ js. StandDecls N js ds) (sym same) p)
splits N (u ∷ outer) v own NoParts k e = absurd cc
splits N (u ∷ outer) v own (Pointer f ps) k (w, ws, e, g, l, q) =
    let one : u ≡ w = first_of u w (outer ++ v ∷ []) ws e in
    let r = splits N outer v own ps k (subst (λ vs. StandParts N vs ps) (sym (rest_of u w (outer ++ v ∷ []) ws e)) q) in
    ((w, outer, ap (λ x. x ∷ outer) one, g, l, r.0), r.1)
splits N (u ∷ outer) v own (Array f x ps) k (w, a, ws, e, g, l, p, q) =
    let one : u ≡ w = first_of u w (outer ++ v ∷ []) ws e in
    let r = splits N outer v own ps k (subst (λ vs. StandParts N vs ps) (sym (rest_of u w (outer ++ v ∷ []) ws e)) q) in
    ((w, a, outer, ap (λ y. y ∷ outer) one, g, l, p, r.0), r.1)
splits N (u ∷ outer) v own (Params f ds ps) k (w, is, ws, e, g, l, p, q) =
    let one : u ≡ w = first_of u w (outer ++ v ∷ []) ws e in
    let left = subst (λ vs. StandParts N vs ps) (sym (rest_of u w (outer ++ v ∷ []) ws e)) q in
    let r = splits N outer v own ps k left in
    after_params N (u ∷ outer) own f ds ps (some_parts N outer v ps left) ((w, is, outer, ap (λ y. y ∷ outer) one, g, l, p, r.0), r.1)

-- where there are no parts
pub splits_none : (N : Nodes) (vs : List Part) (ps : Parts) → vs ≡ [] → StandParts N vs ps → Splits N vs [] ps
splits_none N vs ps e q = subst (λ r. Splits N vs [] r) (sym (no_parts N vs ps q e)) (e, refl)

-- where the nearest part has no parameters
pub splits_other : (N : Nodes) (outer : List Part) (v : Part) (ps : Parts) → ((is : List DeclId) → v.kind ≡ kinds.Params is → ⊥) → StandParts N (outer ++ v ∷ []) ps → Splits N (outer ++ v ∷ []) [] ps
splits_other N [] v NoParts n e = absurd cc
splits_other N [] v (Pointer f ps) n (w, ws, e, g, l, q) =
    let none : ps ≡ NoParts = no_parts N ws ps q (sym (rest_of v w [] ws e)) in
    subst (λ r. Splits N (v ∷ []) [] (Pointer f r)) (sym none) ((w, [], ap (λ y. y ∷ []) (first_of v w [] ws e), g, l, refl), refl)
splits_other N [] v (Array f x ps) n (w, a, ws, e, g, l, p, q) =
    let none : ps ≡ NoParts = no_parts N ws ps q (sym (rest_of v w [] ws e)) in
    subst (λ r. Splits N (v ∷ []) [] (Array f x r)) (sym none) ((w, a, [], ap (λ y. y ∷ []) (first_of v w [] ws e), g, l, p, refl), refl)
splits_other N [] v (Params f ds ps) n (w, is, ws, e, g, l, p, q) = absurd (n is (ap (λ (y : Part). y.kind) (first_of v w [] ws e) ∙ l))
splits_other N (u ∷ outer) v NoParts n e = absurd cc
splits_other N (u ∷ outer) v (Pointer f ps) n (w, ws, e, g, l, q) =
    let one : u ≡ w = first_of u w (outer ++ v ∷ []) ws e in
    let r = splits_other N outer v ps n (subst (λ vs. StandParts N vs ps) (sym (rest_of u w (outer ++ v ∷ []) ws e)) q) in
    ((w, outer ++ v ∷ [], ap (λ x. x ∷ (outer ++ v ∷ [])) one, g, l, r.0), r.1)
splits_other N (u ∷ outer) v (Array f x ps) n (w, a, ws, e, g, l, p, q) =
    let one : u ≡ w = first_of u w (outer ++ v ∷ []) ws e in
    let r = splits_other N outer v ps n (subst (λ vs. StandParts N vs ps) (sym (rest_of u w (outer ++ v ∷ []) ws e)) q) in
    ((w, a, outer ++ v ∷ [], ap (λ y. y ∷ (outer ++ v ∷ [])) one, g, l, p, r.0), r.1)
splits_other N (u ∷ outer) v (Params f ds ps) n (w, is, ws, e, g, l, p, q) =
    let one : u ≡ w = first_of u w (outer ++ v ∷ []) ws e in
    let left = subst (λ vs. StandParts N vs ps) (sym (rest_of u w (outer ++ v ∷ []) ws e)) q in
    let r = splits_other N outer v ps n left in
    after_params N (u ∷ outer ++ v ∷ []) [] f ds ps (some_parts N outer v ps left) ((w, is, outer ++ v ∷ [], ap (λ y. y ∷ (outer ++ v ∷ [])) one, g, l, p, r.0), r.1)
