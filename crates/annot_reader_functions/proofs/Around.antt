-- What stays where names are declared in the innermost scope.
use Rattle.std.proofs.Common.{◌≡◌, ℕ, suc, ◌<◌, List, [], ◌∷◌, length, drop, get_or, slice_get, Some, Result, refl, sym, ap, ◌∙◌, subst, arith}
use Rattle.std.proofs.lemmas.Option.{get_or_from_slice_get, slice_get_within}
use Rattle.c_syntax.specs.Nodes.{Nodes}
use Rattle.c_syntax.specs.Syntax.{Decl}
use Rattle.c_scopes.specs.Scopes.{Scope}
use Rattle.c_types_model.specs.Types.{CType, MoreTypes}
use Rattle.c_types_table.specs.declared.ids.TypeId.{TypeId}
use Rattle.c_types_table.specs.Tables.{all_at, at}
use Rattle.c_types_rules.specs.Environment.{Environment, Meaning, Struct, inner}
use Rattle.annot_reader_rules.specs.Functions.{within}
use Rattle.annot_reader_rules.specs.Regions.{Signature}
use Rattle.annot_reader_words.specs.declared.error.AnnotationError.{AnnotationError}
use Rattle.annot_reader_words.specs.Answers.{Tells}
use Rattle.annot_reader_words.specs.declared.notes.Param.{Param}
use Rattle.annot_reader_functions.specs.declared.signature.Signature.{Signature as Code}
use Rattle.annot_reader_functions.specs.Rules.{Declared, Extends, Names, Stays}
use Rattle.annot_reader_functions.specs.Sorts.{IsKnown}
use Rattle.annot_reader_functions.specs.Parameters.{AreTypes, IsRead, StaysAround, one_parameter}

pub around_here : (a : Declared) → StaysAround a a
around_here a = record { tags = refl; structs = refl; depth = refl; outer = refl; types = λ id t n. n; nodes = record { has = λ k x h. h } }

pub around_through : (a b c : Declared) → StaysAround a b → StaysAround b c → StaysAround a c
around_through a b c h k = record {
  tags = k.tags ∙ h.tags;
  structs = k.structs ∙ h.structs;
  depth = k.depth ∙ h.depth;
  outer = k.outer ∙ h.outer;
  types = λ id t n. k.types id t (h.types id t n);
  nodes = record { has = λ j x e. k.nodes.has j x (h.nodes.has j x e) };
}

pub typed_at : (a : Declared) (tids : List TypeId) (k : ℕ) (ty : TypeId) → AreTypes a tids → slice_get tids k ≡ Some ty → ty.0 < length a.types
typed_at a tids k ty all e = subst (λ (t : TypeId). t.0 < length a.types) (get_or_from_slice_get tids k ty ty e) (all k ty (slice_get_within tids k ty e))

module _ (a b : Declared) (tids : List TypeId) (k : ℕ) (ty : TypeId) (h : StaysAround a b) (all : AreTypes a tids) (e : slice_get tids k ≡ Some ty) where
  kept : Names b.types ty (at a.types ty)
  kept = h.types ty (at a.types ty) (record { inside = typed_at a tids k ty all e; is = refl })

  pub typed_kept : ty.0 < length b.types
  typed_kept = kept.inside

  -- a parameter of this type is still of this type
  pub type_kept : (N : Nodes) (d : Decl) (s : Signature) (place : ℕ) (after : Declared) (r : Result Param AnnotationError) → Tells (IsRead after) (one_parameter d s place (at b.types ty)) r → Tells (IsRead after) (one_parameter d s place (at a.types ty)) r
  type_kept N d s place after r t = let P : CType → Type 0 = λ u. Tells (IsRead after) (one_parameter d s place u) r in subst P kept.is t

-- ---- a scope that is opened and closed

abbrev environment : List (List ℕ) → List Struct → List (Scope Meaning) → Environment
environment tags structs scopes = record { tags = tags; structs = structs; scopes = scopes }

pub opened_known : (g : Code) (a b : Declared) (s : Signature) → b ≡ record a { env = inner a.env } → IsKnown g a.env s → IsKnown g b.env (within s (inner s.env))
opened_known g a b s e k = subst (λ (d : Declared). IsKnown g d.env (within s (inner s.env))) (sym e) (record { params = k.params; gives_integer = k.gives_integer; env = ap inner k.env })

same_env : (tags names : List (List ℕ)) (structs defined : List Struct) (scopes inside : List (Scope Meaning)) → tags ≡ names → structs ≡ defined → scopes ≡ inside → environment tags structs scopes ≡ environment names defined inside
same_env tags names structs defined scopes inside e f g = ap (λ t. environment t structs scopes) e ∙ (ap (λ t. environment names t scopes) f ∙ ap (λ t. environment names defined t) g)

pub closed : (a b c d : Declared) → b ≡ record a { env = inner a.env } → StaysAround b c → d ≡ record c { env = record c.env { scopes = drop 1 c.env.scopes } } → Stays a d
closed a b c d e h f =
    let before : (x : Declared) → Type 0 = λ x. StaysAround x c in
    let k = subst before e h in
    let env : d.env ≡ a.env = ap (λ (x : Declared). x.env) f ∙ same_env c.env.tags a.env.tags c.env.structs a.env.structs (drop 1 c.env.scopes) a.env.scopes k.tags k.structs k.outer in
    record { env = env; types = λ id t n. subst (λ (x : Declared). Names x.types id t) (sym f) (k.types id t n); nodes = subst (λ (x : Declared). Extends a.nodes x.nodes) (sym f) k.nodes }

pub types_stay : (a b : Declared) (ids : List TypeId) → Stays a b → AreTypes a ids → AreTypes b ids
types_stay a b ids h all = λ k i l. (h.types (get_or ids k i) (at a.types (get_or ids k i)) (record { inside = all k i l; is = refl })).inside

all_from : (a b : Declared) (ids : List TypeId) → ((id : TypeId) (t : CType) → Names a.types id t → Names b.types id t) → AreTypes a ids → all_at b.types ids ≡ all_at a.types ids
all_from a b [] h all = refl
all_from a b (i ∷ ids) h all =
    let first : at b.types i ≡ at a.types i = (h i (at a.types i) (record { inside = all 0 i (omega arith); is = refl })).is in
    let rest : all_at b.types ids ≡ all_at a.types ids = all_from a b ids h (λ k d l. all (suc k) d (omega arith)) in
    ap (λ t. MoreTypes t (all_at b.types ids)) first ∙ ap (MoreTypes (at a.types i)) rest

pub all_at_stay : (a b : Declared) (ids : List TypeId) → Stays a b → AreTypes a ids → all_at b.types ids ≡ all_at a.types ids
all_at_stay a b ids h all = all_from a b ids h.types all
