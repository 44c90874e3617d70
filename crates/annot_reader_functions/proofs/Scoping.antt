-- One parameter, and the scope after it.
use Rattle.std.proofs.Common.{◌≡◌, ℕ, List, [], ◌∷◌, length, drop, Some, None, Result, Ok, Err, refl, sym, ap, ◌∙◌, subst}
use Rattle.c_scopes.specs.Scopes.{Scope, declared}
use Rattle.c_syntax.specs.Syntax.{Decl, Declare}
use Rattle.c_types_model.specs.Types.{CType}
use Rattle.c_types_table.specs.declared.ids.TypeId.{TypeId}
use Rattle.c_types_table.specs.Tables.{at}
use Rattle.c_types_rules.specs.Checked.{Checked, Fine, Noted, Broken, ◌>>=◌, ◌>>◌}
use Rattle.c_types_rules.specs.Environment.{Environment, Meaning, LocalNamed, declarable, with_name}
use Rattle.c_types_rules.specs.Expressions.{parameter_scope}
use Rattle.annot_reader_rules.specs.Misplaced.{bare_annots, bare_parts, bare_rest}
use Rattle.annot_reader_rules.specs.Functions.{bare_within}
use Rattle.annot_reader_rules.specs.Notes.{Parameter}
use Rattle.annot_reader_rules.specs.Regions.{Signature, parameter_notes}
use Rattle.annot_reader_words.specs.declared.error.AnnotationError.{AnnotationError}
use Rattle.annot_reader_words.specs.Answers.{Passes, Tells, Unsaid}
use Rattle.annot_reader_words.proofs.Composing.{assoc, follows, goes_on, same_tells, stops, stops_there}
use Rattle.annot_reader_words.specs.declared.notes.Param.{Param}
use Rattle.annot_reader_words.specs.Steps.{bare_around}
use Rattle.annot_reader_functions.specs.Rules.{Declared, Extends, Names, Stays}
use Rattle.annot_reader_functions.specs.Sizing.{IsParameter}
use Rattle.annot_reader_functions.specs.Parameters.{IsRead, StaysAround, one_parameter}

-- what is declared, in an answer
abbrev pub IsDeclared : (before after : Declared) → Environment → Unit {0} → Type 0
IsDeclared before after e u = after ≡ record before { env = e }

-- ---- the scope after a parameter

record IsAround (e f : Environment) : Type 0 where
  tags : f.tags ≡ e.tags
  structs : f.structs ≡ e.structs
  depth : length f.scopes ≡ length e.scopes
  outer : drop 1 f.scopes ≡ drop 1 e.scopes

as_deep : (name : List ℕ) (m : Meaning) (scopes : List (Scope Meaning)) → length (declared name m scopes) ≡ length scopes
as_deep name m [] = refl
as_deep name m (scope ∷ outer) = refl

same_outer : (name : List ℕ) (m : Meaning) (scopes : List (Scope Meaning)) → drop 1 (declared name m scopes) ≡ drop 1 scopes
same_outer name m [] = refl
same_outer name m (scope ∷ outer) = refl

name_around : (env : Environment) (name : List ℕ) (m : Meaning) → IsAround env (with_name env name m)
name_around env name m = record { tags = refl; structs = refl; depth = as_deep name m env.scopes; outer = same_outer name m env.scopes }

module _ {B : Type 0} (is : Environment → B → Type 0) (y : B) where
  after_test : (env : Environment) (name : List ℕ) (m : Meaning) (c : Checked (Unit {0})) → Tells is (c >> Fine (with_name env name m)) (Ok y) → (e : Environment) × is e y × IsAround env e
  after_test env name m (Fine x) h = (with_name env name m, h, name_around env name m)
  after_test env name m (Noted n x) h = (with_name env name m, h, name_around env name m)
  after_test env name m (Broken a b) h = absurd h

  scope_found : (d : Decl) (env : Environment) (place : ℕ) (t : CType) → Tells is (parameter_scope d env place t) (Ok y) → (e : Environment) × is e y × IsAround env e
  scope_found (Declare from an b ps None r) env place t h = (env, h, record { tags = refl; structs = refl; depth = refl; outer = refl })
  scope_found (Declare from an b ps (Some name) r) env place t h = after_test env name (LocalNamed place t) (declarable env from name) h

pub stays_around : (a b c : Declared) (d : Decl) (place : ℕ) (t : CType) → Stays a b → Tells (IsDeclared b c) (parameter_scope d b.env place t) (Ok tt) → StaysAround a c
stays_around a b c d place t h k =
    let f = scope_found (IsDeclared b c) tt d b.env place t k in
    let env : c.env ≡ f.0 = ap (λ (x : Declared). x.env) f.1 in
    record {
      tags = ap (λ (x : Environment). x.tags) env ∙ (f.2.tags ∙ ap (λ (x : Environment). x.tags) h.env);
      structs = ap (λ (x : Environment). x.structs) env ∙ (f.2.structs ∙ ap (λ (x : Environment). x.structs) h.env);
      depth = ap (λ (x : Environment). length x.scopes) env ∙ (f.2.depth ∙ ap (λ (x : Environment). length x.scopes) h.env);
      outer = ap (λ (x : Environment). drop 1 x.scopes) env ∙ (f.2.outer ∙ ap (λ (x : Environment). drop 1 x.scopes) h.env);
      types = λ id u n. subst (λ (x : Declared). Names x.types id u) (sym f.1) (h.types id u n);
      nodes = subst (λ (x : Declared). Extends a.nodes x.nodes) (sym f.1) h.nodes;
    }

-- ---- one parameter

within_is : (d : Decl) → bare_within d ≡ bare_around d
within_is (Declare from an b ps n r) = assoc (bare_annots an) (bare_parts ps) (bare_rest r)

module _ (after : Declared) (d : Decl) (s : Signature) (place : ℕ) (t : CType) where
  abbrev pub OfOne : Result Param AnnotationError → Type 0
  OfOne r = Tells (IsRead after) (one_parameter d s place t) r

  abbrev Later : Checked (Parameter × Environment)
  Later = parameter_notes s d t >>= λ p. (parameter_scope d s.env place t >>= λ e. Fine (p, e))

  in_steps : (r : Result Param AnnotationError) → Tells (IsRead after) (bare_around d >> Later) r → OfOne r
  in_steps r h = same_tells (IsRead after) (one_parameter d s place t) (bare_around d >> Later) r (ap (λ c. c >> Later) (within_is d)) h

  pub breaks_around : (e : AnnotationError) → Passes (bare_around d) (Err e) → OfOne (Err e)
  breaks_around e h = in_steps (Err e) (stops_there Unsaid (IsRead after) (bare_around d) Later e h)

  pub breaks_said : (e : AnnotationError) → Passes (bare_around d) (Ok tt) → Tells IsParameter (parameter_notes s d t) (Err e) → OfOne (Err e)
  breaks_said e h k = in_steps (Err e) (goes_on Unsaid (IsRead after) (bare_around d) Later tt (Err e) h (stops IsParameter (IsRead after) (parameter_notes s d t) _ e k))

  module _ (before : Declared) (ty : TypeId) (same : before.env ≡ s.env) (type : at before.types ty ≡ t) where
    moved : (r : Result (Unit {0}) AnnotationError) → Tells (IsDeclared before after) (parameter_scope d before.env place (at before.types ty)) r → Tells (IsDeclared before after) (parameter_scope d s.env place t) r
    moved r h =
        let P : Environment → Type 0 = λ e. Tells (IsDeclared before after) (parameter_scope d e place (at before.types ty)) r in
        let Q : CType → Type 0 = λ u. Tells (IsDeclared before after) (parameter_scope d s.env place u) r in
        subst Q type (subst P same h)

    pub breaks_scope : (v : Param) (e : AnnotationError) → Passes (bare_around d) (Ok tt) → Tells IsParameter (parameter_notes s d t) (Ok v) → Tells (IsDeclared before after) (parameter_scope d before.env place (at before.types ty)) (Err e) → OfOne (Err e)
    breaks_scope v e h k l =
        in_steps (Err e) (goes_on Unsaid (IsRead after) (bare_around d) Later tt (Err e) h
        (follows IsParameter (IsRead after) (parameter_notes s d t) _ v (Err e) k (λ p i. stops (IsDeclared before after) (IsRead after) (parameter_scope d s.env place t) _ e (moved (Err e) l))))

    pub reads_one : (v : Param) → Passes (bare_around d) (Ok tt) → Tells IsParameter (parameter_notes s d t) (Ok v) → Tells (IsDeclared before after) (parameter_scope d before.env place (at before.types ty)) (Ok tt) → OfOne (Ok v)
    reads_one v h k l =
        in_steps (Ok v) (goes_on Unsaid (IsRead after) (bare_around d) Later tt (Ok v) h
        (follows IsParameter (IsRead after) (parameter_notes s d t) _ v (Ok v) k (λ p i. follows (IsDeclared before after) (IsRead after) (parameter_scope d s.env place t) _ tt (Ok v) (moved (Ok tt) l) (λ e j. (i, ap (λ (x : Declared). x.env) j)))))
