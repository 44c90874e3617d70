-- The type of a parameter, and the scope of several.
use Rattle.std.proofs.Common.{◌≡◌, ◌≤◌, ℕ, List, length, drop, Result, Ok, Err, sym, ap, ◌∙◌, arith, subst}
use Rattle.c_syntax.specs.Syntax.{Annots, Decls, Parts}
use Rattle.c_types_model.specs.Types.{CType}
use Rattle.c_types_table.specs.declared.ids.TypeId.{TypeId}
use Rattle.c_types_table.specs.Tables.{type_at}
use Rattle.c_types_rules.specs.Checked.{Checked, ◌>>=◌, ◌>>◌}
use Rattle.c_scopes.specs.Scopes.{Scope}
use Rattle.c_types_rules.specs.Environment.{Environment, Meaning, Struct, inner}
use Rattle.c_types_rules.specs.Expressions.{annotation_types, declarator_type, parameter_types}
use Rattle.c_types_nodes.specs.Tables.{Names}
use Rattle.c_types_operators.specs.declared.error.TypeError.{TypeError}
use Rattle.c_types_operators.specs.Answers.{Agrees, IsNothing}
use Rattle.c_types_environment.specs.States.{notes_of, State, KeepsAll}
use Rattle.c_types_expressions.specs.Found.{Found, Finds, Stays, StaysAround, IsType, AreTypes}
use Rattle.c_types_expressions.specs.Pieces.{parameter}
use Rattle.c_types_expressions.proofs.Sequences.{passed, noted_nothing, gone_on, gone_on_after, stopped_before, stopped_in}
use Rattle.c_types_expressions.proofs.Operands.{agrees_as}
use Rattle.c_types_expressions.proofs.PartSteps.{declared_from}

-- ---- one parameter

-- what the rules say of the type of a parameter
abbrev pub one_parameter : Annots → Parts → CType → (from : ℕ) → Environment → Checked CType
one_parameter an ps c from E = annotation_types an E >> (declarator_type ps E c >>= (λ t. parameter from t))

module _ (an : Annots) (ps : Parts) (c : CType) (from : ℕ) (old : State) where
  pub annotations_stop : (new : State) (e : TypeError) → Finds old new IsNothing (annotation_types an old.env) (Err e) → Finds old new (IsType new.table) (one_parameter an ps c from old.env) (Err e)
  annotations_stop new e p =
      stopped_before (notes_of old) (notes_of new) (notes_of new) IsNothing (IsType new.table) (annotation_types an old.env) (declarator_type ps old.env c >>= (λ t. parameter from t)) e p

  module _ (first mid : State) (base : TypeId) (p : Finds old first IsNothing (annotation_types an old.env) (Ok tt)) (e : first.env ≡ old.env) (h : Names mid.table.types base c) (k : KeepsAll first mid) where
    pub declarator_stops : (new : State) (x : TypeError) → Finds mid new (IsType new.table) (declarator_type ps mid.env (type_at mid.table.types base)) (Err x) → Finds old new (IsType new.table) (one_parameter an ps c from old.env) (Err x)
    declarator_stops new x q =
        gone_on_after (notes_of old) (notes_of first) (notes_of new) IsNothing (IsType new.table) (annotation_types an old.env) (declarator_type ps old.env c >>= (λ t. parameter from t)) tt (Err x) p
        (stopped_in (notes_of first) (notes_of new) (notes_of new) (IsType new.table) (IsType new.table) (declarator_type ps old.env c) (λ t. parameter from t) x
        (passed (notes_of first) (notes_of new) (IsType new.table) _ _ (Err x) (ap (λ F. declarator_type ps F c) (sym e)) (declared_from first mid new ps c base (Err x) h k q)))

    pub parameter_made : (end new : State) (ty : TypeId) (r : Result TypeId TypeError) → Finds mid end (IsType end.table) (declarator_type ps mid.env (type_at mid.table.types base)) (Ok ty) →
        Agrees (IsType new.table) (parameter from (type_at end.table.types ty)) r → (notes_of new) ≡ (notes_of end) → Finds old new (IsType new.table) (one_parameter an ps c from old.env) r
    parameter_made end new ty r q g l =
        gone_on_after (notes_of old) (notes_of first) (notes_of new) IsNothing (IsType new.table) (annotation_types an old.env) (declarator_type ps old.env c >>= (λ t. parameter from t)) tt r p
        (gone_on (notes_of first) (notes_of end) (notes_of new) (IsType end.table) (IsType new.table) (declarator_type ps old.env c) (λ t. parameter from t) ty r
        (passed (notes_of first) (notes_of end) (IsType end.table) _ _ (Ok ty) (ap (λ F. declarator_type ps F c) (sym e)) (declared_from first mid end ps c base (Ok ty) h k q))
        (λ t at. noted_nothing (notes_of end) (notes_of new) (IsType new.table) (parameter from t) r l (agrees_as (IsType new.table) _ _ r (ap (parameter from) (sym at.is)) g)))

-- ---- a scope of several

-- a scope may be closed again
pub can_close : (mid end : State) → 2 ≤ length mid.env.scopes → StaysAround mid end → 2 ≤ length end.env.scopes
can_close mid end h s = let d = s.depth in omega (arith, d)

pub within_scope : (old mid end new : State) (ds : Decls) (r : Result (List TypeId) TypeError) → mid ≡ record old { env = inner old.env } → Finds mid end (AreTypes end.table) (parameter_types ds mid.env 0) r →
    new ≡ record end { env = record end.env { scopes = drop 1 end.env.scopes } } → Finds old new (AreTypes new.table) (parameter_types ds (inner old.env) 0) r
within_scope old mid end new ds r opened p closed =
    let inside : Finds (record old { env = inner old.env }) end (AreTypes end.table) (parameter_types ds (inner old.env) 0) r = subst (λ (s : State). Finds s end (AreTypes end.table) (parameter_types ds s.env 0) r) opened p in
    subst (λ (s : State). Found (notes_of old) (notes_of s) (AreTypes s.table) (parameter_types ds (inner old.env) 0) r) (sym closed) inside

abbrev env_of : List (List ℕ) → List Struct → List (Scope Meaning) → Environment
env_of tags structs scopes = record { tags = tags; structs = structs; scopes = scopes }

same_env : (E F : Environment) → E.tags ≡ F.tags → E.structs ≡ F.structs → E.scopes ≡ F.scopes → E ≡ F
same_env E F a b c = ap (λ t. env_of t E.structs E.scopes) a ∙ (ap (λ s. env_of F.tags s E.scopes) b ∙ ap (env_of F.tags F.structs) c)

pub stays_within : (old mid end new : State) → mid ≡ record old { env = inner old.env } → StaysAround mid end → new ≡ record end { env = record end.env { scopes = drop 1 end.env.scopes } } → Stays old new
stays_within old mid end new opened s closed =
    let around : StaysAround (record old { env = inner old.env }) end = subst (λ (m : State). StaysAround m end) opened s in
    subst (λ (n : State). Stays old n) (sym closed) (record { numbers = around.numbers; env = same_env (record end.env { scopes = drop 1 end.env.scopes }) old.env around.tags around.structs around.outer })
