-- What is known of the specifiers of declarations.
use Rattle.std.proofs.Common.{◌≡◌, ◌<◌, ℕ, List, length, Option, Some, None, Result, Ok, Err, IfOk, refl, sym, ap, ◌∙◌, subst}
use Rattle.c_syntax.specs.declared.declaration.Base.{Base}
use Rattle.c_syntax.specs.declared.declaration.Base.TheVariants as bases
use Rattle.c_syntax.specs.declared.declaration.Decl.{Decl}
use Rattle.c_syntax.specs.declared.id.DeclId.{DeclId}
use Rattle.c_syntax.specs.Alike.{AreAlike, ShareSpecifiers}
use Rattle.c_syntax.specs.Nodes.{Nodes, decl_at}
use Rattle.c_types_table.specs.declared.ids.TypeId.{TypeId}
use Rattle.c_types_rules.specs.Environment.{Environment, base_type, struct_type, place_in}
use Rattle.c_types_nodes.specs.Tables.{Keeps, Names}
use Rattle.c_types_environment.specs.States.{KeepsAll, State}
use Rattle.c_types_expressions.specs.declared.known.Specified.{Specified}
use Rattle.c_types_expressions.specs.Specified.{IsSpecified, Specifies}

-- types of specifiers are those of the tags
by_tags : (E F : Environment) (b : Base) → F.tags ≡ E.tags → base_type F b ≡ base_type E b
by_tags E F bases.Void e = refl
by_tags E F (bases.Int bytes signed) e = refl
by_tags E F (bases.Struct tag) e = ap (λ tags. struct_type tag (place_in tag tags)) e

-- two that share their specifiers have one base
same_base : (N : Nodes) (i j : DeclId) (d e : Decl) → ShareSpecifiers N.decls i j → decl_at N i ≡ Some d → decl_at N j ≡ Some e → d.base ≡ e.base
same_base N i j d e h p q =
    let at_first : AreAlike (Some d) (decl_at N j) = subst (λ o. AreAlike o (decl_at N j)) p h in
    let both : AreAlike (Some d) (Some e) = subst (AreAlike (Some d)) q at_first in
    both.1

-- what is known of one is known of the other
pub specified_alike : (s : State) (N : Nodes) (x : Specified) (i : DeclId) → IsSpecified s N (Some x) → ShareSpecifiers N.decls x.decl i → Specifies s N i x.ty
specified_alike s N x i h w e there = by (decl_at N x.decl) refl
  where
    by : (o : Option Decl) → decl_at N x.decl ≡ o → Names s.table.types x.ty (base_type s.env e.base)
    by None at = absurd (subst (λ o. AreAlike o (decl_at N i)) at w)
    by (Some d) at = subst (λ b. Names s.table.types x.ty (base_type s.env b)) (same_base N x.decl i d e w at there) (h.1 d at)

pub specifies_on : (a b : State) (N : Nodes) (i : DeclId) (ty : TypeId) → Keeps a.table b.table → b.env.tags ≡ a.env.tags → Specifies a N i ty → Specifies b N i ty
specifies_on a b N i ty k e h d at = k.types.names ty (base_type b.env d.base) (subst (Names a.table.types ty) (sym (by_tags a.env b.env d.base e)) (h d at))

-- it is known as long as the tags are the same
pub specified_on : (a b : State) (N : Nodes) (o : Option Specified) → Keeps a.table b.table → b.env.tags ≡ a.env.tags → IsSpecified a N o → IsSpecified b N o
specified_on a b N None k e h = tt
specified_on a b N (Some x) k e h = (h.0, specifies_on a b N x.decl x.ty k e h.1)

-- the number of the type before a declarator
pub named_base : (a b : State) (N : Nodes) (i : DeclId) (ty : TypeId) (d : Decl) → KeepsAll a b → Specifies b N i ty → decl_at N i ≡ Some d → Names b.table.types ty (base_type a.env d.base)
named_base a b N i ty d k h at = subst (λ E. Names b.table.types ty (base_type E d.base)) k.env (h d at)

-- the type that is looked up
pub specified_found : {X : Type 0} (a b : State) (N : Nodes) (i : DeclId) (e : Decl) (r : Result TypeId X) → decl_at N i ≡ Some e → b.env ≡ a.env → IfOk r (λ id. Names b.table.types id (base_type a.env e.base)) → IfOk r (Specifies b N i)
specified_found a b N i e (Ok ty) at k h = λ d is.
    let same : e ≡ d = cc in
    subst (λ E. Names b.table.types ty (base_type E d.base)) (sym k) (subst (λ (x : Decl). Names b.table.types ty (base_type a.env x.base)) same h)
specified_found a b N i e (Err x) at k h = tt
