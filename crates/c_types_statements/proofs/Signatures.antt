-- Types of functions by their parts, and the parameters nearest to a name.
use Rattle.std.proofs.Common.{◌≡◌, ℕ, suc, ◌-◌, ◌<◌, List, [], ◌∷◌, length, Option, Some, None, refl, sym, ap, ◌∙◌, subst, arith}
use Rattle.std.specs.Prelude.{slice_get}
use Rattle.std.specs.Borrow.{Bor}
use Rattle.std.specs.Option.{option_copied}
use Rattle.std.specs.List.{All}
use Rattle.std.proofs.lemmas.List.Elements.{All-nil, All-weaker}
use Rattle.c_syntax.specs.declared.id.DeclId.{DeclId}
use Rattle.c_syntax.specs.declared.declaration.Part.{Part}
use Rattle.c_syntax.specs.declared.declaration.PartKind.{PartKind}
use Rattle.c_syntax.specs.declared.declaration.PartKind.TheVariants as parts
use Rattle.c_syntax.specs.Nodes.{Nodes}
use Rattle.c_syntax.specs.Syntax.{Decls, Parts, NoParts, Pointer, Array, Params}
use Rattle.c_syntax.specs.Stands.{StandDecls, StandParts}
use Rattle.c_types_model.specs.Types.{CType, NoTypes}
use Rattle.c_types_table.specs.declared.ids.TypeId.{TypeId}
use Rattle.c_types_table.specs.declared.ty.Ty.{Ty}
use Rattle.c_types_table.specs.declared.ty.Ty.TheVariants as nodes
use Rattle.c_types_table.specs.Tables.{IsBelow, IsMadeOf, all_at, made, type_at, types_of}
use Rattle.c_types_rules.specs.Sources.{nearest, params_of, result_of}
use Rattle.c_syntax_laws.specs.Numbers.{FitsDecls, FitsParts}
use Rattle.c_types_expressions.specs.Walks.{AreDecls, AreParts}
use Rattle.c_types_expressions.proofs.Lists.{no_part}
use Rattle.c_types_statements.specs.declared.signature.Signature.{Signature}
use Rattle.c_types_statements.specs.Typed.{IsSignature}

-- ---- types of functions

module _ (types : List Ty) (ty : TypeId) (inside : ty.0 < length types) (s : Signature) where
  pub function_signature : (r : TypeId) (ps : List TypeId) → made (types_of types) (nodes.Function r ps) ≡ type_at types ty → IsMadeOf ty.0 (nodes.Function r ps) → s.result ≡ r → s.params.items ≡ ps → IsSignature types (type_at types ty) s
  function_signature r ps is made_of e f =
      let P : CType → Type 0 = λ c. IsSignature types c s in
      let below : (id : TypeId) → IsBelow ty.0 id → IsBelow (length types) id = λ id h. omega arith in
      subst P is (record {
        result = record { inside = subst (IsBelow (length types)) (sym e) (below r made_of.0); is = ap (type_at types) e };
        inside = subst (All (IsBelow (length types))) (sym f) (All-weaker (IsBelow ty.0) (IsBelow (length types)) below ps made_of.1);
        params = ap (all_at (types_of types)) f;
      })

  -- what is no function takes nothing, and gives what it is
  pub plain_signature : result_of (type_at types ty) ≡ type_at types ty → params_of (type_at types ty) ≡ NoTypes → s.result ≡ ty → s.params.items ≡ [] → IsSignature types (type_at types ty) s
  plain_signature gives takes e f = record {
    result = record { inside = subst (IsBelow (length types)) (sym e) inside; is = ap (type_at types) e ∙ sym gives };
    inside = subst (All (IsBelow (length types))) (sym f) (All-nil (IsBelow (length types)));
    params = ap (all_at (types_of types)) f ∙ sym takes;
  }

-- a node that is no function's
pub no_function : (ts : List CType) (n : Ty) (c : CType) → ((r : TypeId) (ps : List TypeId) → n ≡ nodes.Function r ps → ⊥) → made ts n ≡ c → (result_of c ≡ c) × (params_of c ≡ NoTypes)
no_function ts n c not e = let P : CType → Type 0 = λ z. (result_of z ≡ z) × (params_of z ≡ NoTypes) in subst P e (by_node n not)
  where
    by_node : (n : Ty) → ((r : TypeId) (ps : List TypeId) → n ≡ nodes.Function r ps → ⊥) → (result_of (made ts n) ≡ made ts n) × (params_of (made ts n) ≡ NoTypes)
    by_node nodes.Void h = (refl, refl)
    by_node (nodes.Int k) h = (refl, refl)
    by_node (nodes.Pointer t) h = (refl, refl)
    by_node (nodes.Array t l) h = (refl, refl)
    by_node (nodes.Struct n) h = (refl, refl)
    by_node (nodes.UndefinedStruct tag) h = (refl, refl)
    by_node (nodes.Function r ps) h = absurd (h r ps refl)

-- ---- the parameters nearest to a name

-- the parameters in a part
abbrev pub ids_of : PartKind → List DeclId
ids_of parts.Pointer = []
ids_of (parts.Array a) = []
ids_of (parts.Params is) = is

pub no_ids : (k : PartKind) → ((is : List DeclId) → k ≡ parts.Params is → ⊥) → ids_of k ≡ []
no_ids parts.Pointer h = refl
no_ids (parts.Array a) h = refl
no_ids (parts.Params is) h = absurd (h is refl)

-- where no last part is found
pub no_last : (o : Option (Bor Part)) (p : Option Part) → ((v : Bor Part) → o ≡ Some v → ⊥) → option_copied o ≡ p → p ≡ None
no_last None p h e = sym e
no_last (Some v) p h e = absurd (h v refl)

none_nearest : (N : Nodes) (ids : List DeclId) (ps : Parts) → ids ≡ [] → ps ≡ NoParts → StandDecls N ids (nearest ps)
none_nearest N ids ps e f = let P : Parts → Type 0 = λ z. StandDecls N ids (nearest z) in subst P (sym f) e

params_more : (N : Nodes) (v : Part) (vs : List Part) (f : ℕ) (ds : Decls) (ps : Parts) → StandParts N (v ∷ vs) ps → nearest (Params f ds ps) ≡ nearest ps
params_more N v vs f ds NoParts h = absurd cc
params_more N v vs f ds (Pointer g ps) h = refl
params_more N v vs f ds (Array g x ps) h = refl
params_more N v vs f ds (Params g es ps) h = refl

params_alone : (N : Nodes) (ids : List DeclId) (f : ℕ) (ds : Decls) (ps : Parts) → ps ≡ NoParts → StandDecls N ids ds → StandDecls N ids (nearest (Params f ds ps))
params_alone N ids f ds ps e h = let P : Parts → Type 0 = λ z. StandDecls N ids (nearest (Params f ds z)) in subst P (sym e) h

rest_of_parts : (N : Nodes) (vs ws : List Part) (ps : Parts) → ws ≡ vs → StandParts N ws ps → StandParts N vs ps
rest_of_parts N vs ws ps e h = let P : List Part → Type 0 = λ z. StandParts N z ps in subst P e h

nearest_from : (N : Nodes) (u : Part) (us : List Part) (v : Part) (ps : Parts) → slice_get (u ∷ us) (length us) ≡ Some v → StandParts N (u ∷ us) ps → StandDecls N (ids_of v.kind) (nearest ps)
nearest_from N u [] v NoParts g h = absurd cc
nearest_from N u [] v (Pointer f ps) g (w, ws, e, from, kind, q) =
    let same : w ≡ v = cc in let rest : ws ≡ [] = cc in
    none_nearest N (ids_of v.kind) ps (ap ids_of (sym (ap (λ z. z.kind) same) ∙ kind)) (no_part N ps (rest_of_parts N [] ws ps rest q))
nearest_from N u [] v (Array f x ps) g (w, a, ws, e, from, kind, p, q) =
    let same : w ≡ v = cc in let rest : ws ≡ [] = cc in
    none_nearest N (ids_of v.kind) ps (ap ids_of (sym (ap (λ z. z.kind) same) ∙ kind)) (no_part N ps (rest_of_parts N [] ws ps rest q))
nearest_from N u [] v (Params f ds ps) g (w, is, ws, e, from, kind, p, q) =
    let same : w ≡ v = cc in let rest : ws ≡ [] = cc in
    let ids : ids_of v.kind ≡ is = ap ids_of (sym (ap (λ z. z.kind) same) ∙ kind) in
    let P : List DeclId → Type 0 = λ z. StandDecls N z ds in
    params_alone N (ids_of v.kind) f ds ps (no_part N ps (rest_of_parts N [] ws ps rest q)) (subst P (sym ids) p)
nearest_from N u (x ∷ us) v NoParts g h = absurd cc
nearest_from N u (x ∷ us) v (Pointer f ps) g (w, ws, e, from, kind, q) = let rest : ws ≡ x ∷ us = cc in nearest_from N x us v ps g (rest_of_parts N (x ∷ us) ws ps rest q)
nearest_from N u (x ∷ us) v (Array f y ps) g (w, a, ws, e, from, kind, p, q) = let rest : ws ≡ x ∷ us = cc in nearest_from N x us v ps g (rest_of_parts N (x ∷ us) ws ps rest q)
nearest_from N u (x ∷ us) v (Params f ds ps) g (w, is, ws, e, from, kind, p, q) =
    let rest : ws ≡ x ∷ us = cc in
    let stand : StandParts N (x ∷ us) ps = rest_of_parts N (x ∷ us) ws ps rest q in
    let P : Decls → Type 0 = λ z. StandDecls N (ids_of v.kind) z in
    subst P (sym (params_more N x us f ds ps stand)) (nearest_from N x us v ps g stand)

-- the last part has the parameters
pub nearest_stand : (N : Nodes) (vs : List Part) (v : Part) (ps : Parts) → slice_get vs (length vs - 1) ≡ Some v → StandParts N vs ps → StandDecls N (ids_of v.kind) (nearest ps)
nearest_stand N [] v ps g h = absurd cc
nearest_stand N (u ∷ us) v ps g h =
    let count : suc (length us) - 1 ≡ length us = omega arith in
    nearest_from N u us v ps (ap (slice_get (u ∷ us)) (sym count) ∙ g) h

-- there is no part
pub no_nearest : (N : Nodes) (vs : List Part) (ps : Parts) → slice_get vs (length vs - 1) ≡ None → StandParts N vs ps → StandDecls N [] (nearest ps)
no_nearest N [] ps g h = none_nearest N [] ps refl (no_part N ps h)
no_nearest N (u ∷ us) ps g h =
    let count : suc (length us) - 1 ≡ length us = omega arith in
    absurd (some_last u us (ap (slice_get (u ∷ us)) (sym count) ∙ g))
  where
    some_last : (x : Part) (xs : List Part) → slice_get (x ∷ xs) (length xs) ≡ None → ⊥
    some_last x [] g = cc
    some_last x (y ∷ ys) g = some_last y ys g

fits_nearest : (ps : Parts) → FitsParts ps → FitsDecls (nearest ps)
fits_nearest NoParts h = tt
fits_nearest (Pointer f ps) h = fits_nearest ps h
fits_nearest (Array f x ps) h = fits_nearest ps h.1
fits_nearest (Params f ds NoParts) h = h.0
fits_nearest (Params f ds (Pointer g ps)) h = fits_nearest (Pointer g ps) h.1
fits_nearest (Params f ds (Array g x ps)) h = fits_nearest (Array g x ps) h.1
fits_nearest (Params f ds (Params g es ps)) h = fits_nearest (Params g es ps) h.1

pub nearest_inside : (N : Nodes) (vs : List Part) (ids : List DeclId) → ((ps : Parts) → StandParts N vs ps → StandDecls N ids (nearest ps)) → AreParts N vs → AreDecls N ids
nearest_inside N vs ids stand (ps, h, n) = (nearest ps, stand ps h, fits_nearest ps n)
