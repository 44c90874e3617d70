-- The parameters of a function by name.
use Rattle.std.proofs.Common.{◌≡◌, ℕ, ◌+◌, ◌<◌, ◌≤◌, List, [], ◌∷◌, ◌++◌, length, get_or, slice_get, drop, None, Some, refl, sym, ap, ◌∙◌, subst, add-one, drop-cons, append_assoc}
use Rattle.std.proofs.Math.ListN.{drop_of_length-le}
use Rattle.annot_reader_functions.proofs.Places.{past_all, typed_next}
use Rattle.std.specs.Option.{option_copied}
use Rattle.c_syntax.specs.declared.id.DeclId.{DeclId}
use Rattle.c_syntax.specs.declared.declaration.Decl.{Decl as DeclNode}
use Rattle.c_syntax.specs.Nodes.{Nodes}
use Rattle.c_syntax.specs.Syntax.{Decl, Decls, Declare, NoDecls, MoreDecls}
use Rattle.c_syntax.specs.Stands.{StandDecls, StandsDecl}
use Rattle.c_types_model.specs.Types.{CType, MoreTypes}
use Rattle.c_types_model.specs.declared.extent.Extent.{Extent}
use Rattle.c_types_table.specs.declared.ids.TypeId.{TypeId}
use Rattle.c_types_table.specs.Tables.{all_at, at}
use Rattle.annot_reader_rules.specs.Functions.{named_parameters}
use Rattle.annot_reader_words.specs.Shown.{Shows}
use Rattle.annot_reader_functions.specs.declared.signature.Named.{Named}
use Rattle.annot_reader_functions.specs.Sorts.{AreNamed, sort_of}

module _ (structs : List Extent) (N : Nodes) (types : List CType) (ids : List DeclId) (tids : List TypeId) (ds : Decls) where
  -- the parameters that are left
  abbrev pub Left : (k : ℕ) → List Named → Type 0
  Left k done = (es : Decls) × StandDecls N (drop k ids) es × ((ns : List Named) → AreNamed structs ns (named_parameters es (all_at types (drop k tids))) → AreNamed structs (done ++ ns) (named_parameters ds (all_at types tids)))

  pub at_first : StandDecls N ids ds → Left 0 []
  at_first h = (ds, h, λ ns a. a)

  after : (done : List Named) (n : Named) (ns : List Named) → ((done ++ n ∷ []) ++ ns) ≡ (done ++ n ∷ ns)
  after done n ns = append_assoc done (n ∷ []) ns

  head : (k : ℕ) (i : DeclId) (ty : TypeId) (done : List Named) (n : Named) (es : Decls) → drop k ids ≡ i ∷ drop (k + 1) ids → drop k tids ≡ ty ∷ drop (k + 1) tids → StandDecls N (drop k ids) es →
      ((ns : List Named) → AreNamed structs ns (named_parameters es (all_at types (drop k tids))) → AreNamed structs (done ++ ns) (named_parameters ds (all_at types tids))) →
      (v : DeclNode) → option_copied n.name ≡ v.name → n.sort ≡ sort_of structs (at types ty) → ((d : Decl) → StandsDecl N i d → Shows N v d) → Left (k + 1) (done ++ n ∷ [])
  head k i ty done n NoDecls e f h t v a b g = absurd cc
  head k i ty done n (MoreDecls (Declare from an b ps name r) es) e f (j, js, c, p, q) t v x y g =
      let one : j ≡ i = cc in
      let rest : js ≡ drop (k + 1) ids = cc in
      let shown = g (Declare from an b ps name r) (subst (λ z. StandsDecl N z (Declare from an b ps name r)) one p) in
      let us = all_at types (drop (k + 1) tids) in
      let types_are : all_at types (drop k tids) ≡ MoreTypes (at types ty) us = ap (all_at types) f in (
        es,
        subst (λ zs. StandDecls N zs es) rest q,
        λ ns w.
            let all : AreNamed structs (n ∷ ns) (named_parameters (MoreDecls (Declare from an b ps name r) es) (MoreTypes (at types ty) us)) = ((x ∙ shown.4, y), w) in
            let there = t (n ∷ ns) (subst (λ zs. AreNamed structs (n ∷ ns) (named_parameters (MoreDecls (Declare from an b ps name r) es) zs)) (sym types_are) all) in
            subst (λ zs. AreNamed structs zs (named_parameters ds (all_at types tids))) (sym (after done n ns)) there,
      )

  pub past_next : (k : ℕ) (i : DeclId) (ty : TypeId) (done : List Named) (n : Named) (v : DeclNode) → k < length ids → slice_get tids k ≡ Some ty → Left k done →
      option_copied n.name ≡ v.name → n.sort ≡ sort_of structs (at types ty) → ((d : Decl) → StandsDecl N (get_or ids k i) d → Shows N v d) → Left (k + 1) (done ++ n ∷ [])
  past_next k i ty done n v h l (es, s, t) a b g =
      let one : drop k ids ≡ get_or ids k i ∷ drop (k + 1) ids = rw add-one (drop-cons ids k i h) in
      head k (get_or ids k i) ty done n es one (typed_next tids k ty l) s t v a b g

  all_of : (done : List Named) → (done ++ []) ≡ done
  all_of [] = refl
  all_of (n ∷ ns) = ap (λ ms. n ∷ ms) (all_of ns)

  closed : (done : List Named) → AreNamed structs (done ++ []) (named_parameters ds (all_at types tids)) → AreNamed structs done (named_parameters ds (all_at types tids))
  closed done a = subst (λ zs. AreNamed structs zs (named_parameters ds (all_at types tids))) (all_of done) a

  ended : (k : ℕ) (done : List Named) (es : Decls) → drop k ids ≡ [] → StandDecls N (drop k ids) es →
      ((ns : List Named) → AreNamed structs ns (named_parameters es (all_at types (drop k tids))) → AreNamed structs (done ++ ns) (named_parameters ds (all_at types tids))) → AreNamed structs done (named_parameters ds (all_at types tids))
  ended k done NoDecls e s t = closed done (t [] tt)
  ended k done (MoreDecls d es) e (j, js, c, p, q) t = absurd cc

  pub at_end : (k : ℕ) (done : List Named) → length ids ≤ k → Left k done → AreNamed structs done (named_parameters ds (all_at types tids))
  at_end k done h (es, s, t) = ended k done es (drop_of_length-le ids h) s t

  untyped : (k : ℕ) (done : List Named) (es : Decls) → drop k tids ≡ [] →
      ((ns : List Named) → AreNamed structs ns (named_parameters es (all_at types (drop k tids))) → AreNamed structs (done ++ ns) (named_parameters ds (all_at types tids))) → AreNamed structs done (named_parameters ds (all_at types tids))
  untyped k done NoDecls e t = closed done (t [] tt)
  untyped k done (MoreDecls (Declare from an b ps name r) es) e t =
      closed done (t [] (subst (λ zs. AreNamed structs [] (named_parameters (MoreDecls (Declare from an b ps name r) es) (all_at types zs))) (sym e) tt))

  -- those that are left have no types
  pub no_types : (k : ℕ) (done : List Named) → slice_get tids k ≡ None → Left k done → AreNamed structs done (named_parameters ds (all_at types tids))
  no_types k done h (es, s, t) = untyped k done es (drop_of_length-le tids (past_all tids k h)) t
