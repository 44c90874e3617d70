-- The tags of definitions, read one after another.
use Rattle.std.proofs.Common.{◌≡◌, ℕ, List, [], ◌∷◌, ◌++◌, Option, Some, refl, sym, ap, ◌∙◌, subst, append_assoc, append-nil}
use Rattle.std.specs.Option.{option_to_list}
use Rattle.c_syntax.specs.declared.id.DeclId.{DeclId}
use Rattle.c_syntax.specs.declared.declaration.Base.{Base}
use Rattle.c_syntax.specs.declared.declaration.Base.TheVariants as bases
use Rattle.c_syntax.specs.declared.declaration.Decl.{Decl as DeclNode}
use Rattle.c_syntax.specs.declared.declaration.Rest.{Rest as After}
use Rattle.c_syntax.specs.Nodes.{Nodes, decl_at}
use Rattle.c_syntax.specs.Syntax.{Decl, Decls, Annots, Parts, Rest, Declare, NoDecls, MoreDecls, NoRest, Initial, Body, Members}
use Rattle.c_syntax.specs.Stands.{StandsDecl, StandDecls, StandsRest}
use Rattle.c_types_rules.specs.Sources.{tag_of, tags_of}
use Rattle.c_types.specs.Pieces.{defined_tag}
use Rattle.c_types.proofs.Parts.{node_is}

by_parts : (N : Nodes) (from : ℕ) (an : Annots) (b : Base) (ps : Parts) (n : Option (List ℕ)) (q : After) (r : Rest) → StandsRest N q r → tag_of (Declare from an b ps n r) ≡ option_to_list (defined_tag b q)
by_parts N from an bases.Void ps n q r s = refl
by_parts N from an (bases.Int bytes signed) ps n q r s = refl
by_parts N from an (bases.Struct tag) ps n q NoRest s = subst (λ x. [] ≡ option_to_list (defined_tag (bases.Struct tag) x)) (sym s) refl
by_parts N from an (bases.Struct tag) ps n q (Initial v) (w, e, s) = subst (λ x. [] ≡ option_to_list (defined_tag (bases.Struct tag) x)) (sym e) refl
by_parts N from an (bases.Struct tag) ps n q (Body b) (i, e, s) = subst (λ x. [] ≡ option_to_list (defined_tag (bases.Struct tag) x)) (sym e) refl
by_parts N from an (bases.Struct tag) ps n q (Members ds) (is, e, s) = subst (λ x. tag ∷ [] ≡ option_to_list (defined_tag (bases.Struct tag) x)) (sym e) refl

-- the tag of a declaration, by its node
pub tag_is : (N : Nodes) (i : DeclId) (d : Decl) (e : DeclNode) → StandsDecl N i d → decl_at N i ≡ Some e → tag_of d ≡ option_to_list (defined_tag e.base e.rest)
tag_is N i (Declare from an b ps n r) e s h =
    let k = node_is N i e from an b ps n r s h in
    by_parts N from an b ps n e.rest r k.rest ∙ ap (λ x. option_to_list (defined_tag x e.rest)) (sym k.base)

-- the tags of the declarations that are left come after those that were read
pub record RestOfTags (N : Nodes) (is : List DeclId) (ds : Decls) (tags : List (List ℕ)) : Type 0 where
  pub rest : Decls
  pub stand : StandDecls N is rest
  pub all : tags_of ds ≡ tags ++ tags_of rest

pub all_tags_left : (N : Nodes) (is : List DeclId) (ds : Decls) → StandDecls N is ds → RestOfTags N is ds []
all_tags_left N is ds s = record { rest = ds; stand = s; all = refl }

pub one_tag : (N : Nodes) (i : DeclId) (is : List DeclId) (ds : Decls) (tags : List (List ℕ)) (e : DeclNode) (o : Option (List ℕ)) → RestOfTags N (i ∷ is) ds tags → decl_at N i ≡ Some e → o ≡ defined_tag e.base e.rest → RestOfTags N is ds (tags ++ option_to_list o)
one_tag N i is ds tags e o r h k = by r.rest r.stand r.all
  where
    by : (rest : Decls) → StandDecls N (i ∷ is) rest → tags_of ds ≡ tags ++ tags_of rest → RestOfTags N is ds (tags ++ option_to_list o)
    by NoDecls s a = absurd cc
    by (MoreDecls x xs) (j, js, p, s, t) a =
        let first : StandsDecl N i x = (let same : j ≡ i = cc in subst (λ z. StandsDecl N z x) same s) in
        let others : StandDecls N is xs = (let same : js ≡ is = cc in subst (λ z. StandDecls N z xs) same t) in
        let tag : tag_of x ≡ option_to_list o = tag_is N i x e first h ∙ ap option_to_list (sym k) in
        record { rest = xs; stand = others; all = a ∙ (ap (λ z. tags ++ (z ++ tags_of xs)) tag ∙ sym (append_assoc tags (option_to_list o) (tags_of xs))) }

pub no_tag_left : (N : Nodes) (ds : Decls) (tags : List (List ℕ)) → RestOfTags N [] ds tags → tags ≡ tags_of ds
no_tag_left N ds tags r = by r.rest r.stand r.all
  where
    by : (rest : Decls) → StandDecls N [] rest → tags_of ds ≡ tags ++ tags_of rest → tags ≡ tags_of ds
    by NoDecls s a = sym (a ∙ append-nil tags)
    by (MoreDecls x xs) (j, js, p, s, t) a = absurd cc
