-- A declaration that is like an earlier one.
use Rattle.std.proofs.Common.{◌≡◌, ◌<◌, ◌≤◌, ℕ, List, [], ◌∷◌, ◌++◌, length, reverse, slice_get, Option, Some, None, Ok, inl, inr, refl, ap, ◌∙◌, arith}
use Rattle.std.proofs.lemmas.Option.{slice_get_cases}
use Rattle.c_syntax.specs.declared.declaration.Decl.{Decl}
use Rattle.c_syntax.specs.declared.declaration.Part.{Part}
use Rattle.c_syntax.specs.declared.declaration.Rest.{Rest}
use Rattle.c_syntax.specs.declared.id.DeclId.{DeclId}
use Rattle.c_parser_tree.specs.declared.builder.Builder.{Builder}
use Rattle.c_parser_tree.specs.declared.piece.Declarator.{Declarator}
use Rattle.c_parser_tree.specs.IsMade.{IsLike}
use Rattle.c_parser_tree.specs.Seen.{nodes_seen, stack_seen}

-- what stands at a place of a list
there : (ds : List Decl) (i : ℕ) → i < length ds → (e : Decl) × (slice_get ds i ≡ Some e)
there ds i lt = elim (slice_get_cases ds i).1 [
  | inl x ↦ (x.0, x.2)
  | inr x ↦ absurd (let le = x.0 in omega (arith, le, lt))
]

pub made_like : (old : Builder) (i : DeclId) (d : Declarator) (q : Rest) (parts : List Part) (made : List Decl) (j : DeclId) → i.0 < length old.decls → parts ≡ reverse d.parts → j ≡ record { 0 = length old.decls } →
    ((e : Decl) → slice_get old.decls i.0 ≡ Some e → made ≡ old.decls ++ record e { from = d.from; parts = parts; name = d.name; rest = q } ∷ []) →
    IsLike i d q old (record old { decls = made }) (Ok j)
unfolding nodes_seen stack_seen
made_like old i d q parts made j lt p n h =
    let e = there old.decls i.0 lt in
    let with_parts : List Part → List Decl = λ v. old.decls ++ record e.0 { from = d.from; parts = v; name = d.name; rest = q } ∷ [] in
    (e.0, e.1, ap (λ ds. nodes_seen (record old { decls = ds })) (h e.0 e.1 ∙ ap with_parts p), refl, n)
