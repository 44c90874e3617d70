-- Locals and parameters: their types, their names and their first values.
use Rattle.std.proofs.Common.{◌≡◌, ℕ, true, false, List, [], ◌∷◌, Option, Some, None, Result, Ok, Err, refl, sym, ap, ◌∙◌, subst}
use Rattle.std.specs.Prelude.{OnErr}
use Rattle.c_syntax.specs.declared.id.DeclId.{DeclId}
use Rattle.c_syntax.specs.declared.declaration.Decl.{Decl as DeclNode}
use Rattle.c_syntax.specs.Nodes.{Nodes, decl_at}
use Rattle.c_syntax.specs.Syntax.{Decl, Rest, Expr, Declare, Initial, Plain}
use Rattle.c_syntax.specs.Stands.{StandsDecl, StandsRest}
use Rattle.c_types_model.specs.Types.{CType}
use Rattle.c_types_table.specs.declared.ids.TypeId.{TypeId}
use Rattle.c_types_table.specs.Tables.{type_at, types_of}
use Rattle.c_types_rules.specs.Checked.{Checked, Fine, Noted, Broken, keep, ◌>>=◌, ◌>>◌}
use Rattle.c_types_rules.specs.Environment.{Environment, LocalNamed, declarable, extents, with_name}
use Rattle.c_types_rules.specs.Expressions.{complete, declared_name, declared_type, start_of}
use Rattle.c_types_rules.specs.Operators.{assigned}
use Rattle.c_types_rules.specs.Sources as sources
use Rattle.c_types_rules.specs.Statements.{first_value, value_in}
use Rattle.c_types_rules.specs.TypeTests.{is_scalar}
use Rattle.c_types_rules.specs.TypedTree as typed
use Rattle.c_types_rules.specs.TypedTree.{MoreStatements, NoStatements, Statements, Value}
use Rattle.c_types_nodes.specs.declared.ids.NodeId.{NodeId}
use Rattle.c_types_program.specs.declared.statement.Statement.{Statement}
use Rattle.c_types_operators.specs.declared.error.TypeError.{TypeError}
use Rattle.c_types_operators.specs.declared.error.TypeError.TheVariants.{Rule}
use Rattle.c_types_operators.specs.Answers.{Agrees, IsAt, IsNothing}
use Rattle.c_types_environment.specs.declared.meaning.Meaning.{Meaning as Stored}
use Rattle.c_types_environment.specs.Reading.{meaning_by}
use Rattle.c_types_environment.specs.States.{notes_of, State}
use Rattle.c_types_expressions.specs.Found.{Finds, IsType, Stays}
use Rattle.c_types_expressions.proofs.Operands.{agrees_as}
use Rattle.c_types_expressions.proofs.Sequences.{gone_on, gone_on_after, in_turn, not_kept, noted_nothing, stopped_before, stopped_in}
use Rattle.c_types_statements.specs.Pieces.{converted_in, local_scope, local_type}
use Rattle.c_types_statements.specs.Typed.{StatementsStand}

-- ---- the parts of a declaration

abbrev pub offset_of : Decl → ℕ
offset_of (Declare from an b ps n r) = from

abbrev pub naming_of : Decl → Option (List ℕ)
naming_of (Declare from an b ps n r) = n

abbrev pub rest_of : Decl → Rest
rest_of (Declare from an b ps n r) = r

module _ (N : Nodes) (i : DeclId) (node : DeclNode) (at : decl_at N i ≡ Some node) where
  pub offset_is : (d : Decl) → StandsDecl N i d → node.from ≡ offset_of d
  offset_is (Declare f an b ps n r) (e, g, from, _, _, _, _, _) = let same : e ≡ node = cc in subst (λ (v : DeclNode). v.from ≡ f) same from

  pub naming_is : (d : Decl) → StandsDecl N i d → node.name ≡ naming_of d
  naming_is (Declare f an b ps n r) (e, g, _, _, _, _, name, _) = let same : e ≡ node = cc in subst (λ (v : DeclNode). v.name ≡ n) same name

  pub rest_stands : (d : Decl) → StandsDecl N i d → StandsRest N node.rest (rest_of d)
  rest_stands (Declare f an b ps n r) (e, g, _, _, _, _, _, q) = let same : e ≡ node = cc in subst (λ (v : DeclNode). StandsRest N v.rest r) same q

-- ---- types

module _ (a b : State) where
  pub type_broken : (d : Decl) (e : TypeError) → Finds a b (IsType b.table) (declared_type d a.env) (Err e) → Finds a b (IsType b.table) (local_type a.env d) (Err e)
  type_broken (Declare from an x ps n r) e h =
      stopped_in (notes_of a) (notes_of b) (notes_of b) (IsType b.table) (IsType b.table) (declared_type (Declare from an x ps n r) a.env) (λ t. complete (extents a.env) from t >> Fine t) e h

  module _ (ty : TypeId) (one : Stays a b) (g : ℕ) where
    checked_alike : (from : ℕ) (t : CType) → IsType b.table t ty → g ≡ from → complete (extents a.env) from t ≡ complete (extents b.env) g (type_at b.table.types ty)
    checked_alike from t is e =
        ap (λ z. complete (extents z) from t) (sym one.env) ∙ (ap (λ z. complete (extents b.env) z t) (sym e) ∙ ap (complete (extents b.env) g) (sym is.is))

    pub type_found : (d : Decl) → Finds a b (IsType b.table) (declared_type d a.env) (Ok ty) → g ≡ offset_of d → Agrees IsNothing (complete (extents b.env) g (type_at b.table.types ty)) (Ok tt) → Finds a b (IsType b.table) (local_type a.env d) (Ok ty)
    type_found (Declare from an x ps n r) h e k =
        gone_on (notes_of a) (notes_of b) (notes_of b) (IsType b.table) (IsType b.table) (declared_type (Declare from an x ps n r) a.env) (λ t. complete (extents a.env) from t >> Fine t) ty (Ok ty) h (λ t is.
        gone_on_after (notes_of b) (notes_of b) (notes_of b) IsNothing (IsType b.table) (complete (extents a.env) from t) (Fine t) tt (Ok ty)
        (noted_nothing (notes_of b) (notes_of b) IsNothing (complete (extents a.env) from t) (Ok tt) refl (agrees_as IsNothing _ _ (Ok tt) (checked_alike from t is e) k)) (is, refl))

    pub incomplete : (d : Decl) (wrong : TypeError) → Finds a b (IsType b.table) (declared_type d a.env) (Ok ty) → g ≡ offset_of d → Agrees IsNothing (complete (extents b.env) g (type_at b.table.types ty)) (Err wrong) → Finds a b (IsType b.table) (local_type a.env d) (Err wrong)
    incomplete (Declare from an x ps n r) wrong h e k =
        gone_on (notes_of a) (notes_of b) (notes_of b) (IsType b.table) (IsType b.table) (declared_type (Declare from an x ps n r) a.env) (λ t. complete (extents a.env) from t >> Fine t) ty (Err wrong) h (λ t is.
        stopped_before (notes_of b) (notes_of b) (notes_of b) IsNothing (IsType b.table) (complete (extents a.env) from t) (Fine t) wrong
        (noted_nothing (notes_of b) (notes_of b) IsNothing (complete (extents a.env) from t) (Err wrong) refl (agrees_as IsNothing _ _ (Err wrong) (checked_alike from t is e) k)))

-- ---- names

-- what stands after a name that may be declared
where_declared : {X : Type 0} (c : Checked (Unit {0})) → Agrees {B = Unit {0}} (λ _ _. X) c (Ok tt) → X
where_declared (Fine x) h = h
where_declared (Noted n x) h = absurd h
where_declared (Broken from rule) h = absurd h

module _ (a b : State) (from place : ℕ) (name : List ℕ) (t : CType) (m : Stored) (means : meaning_by (types_of a.table.types) m ≡ LocalNamed place t) where
  abbrev pub DeclaredThere : Unit {0} → Unit {0} → Type 0
  DeclaredThere _ _ = b ≡ record a { env = with_name a.env name (meaning_by (types_of a.table.types) m) }

  named_so : Agrees DeclaredThere (declarable a.env from name) (Ok tt) → b ≡ record a { env = with_name a.env name (LocalNamed place t) }
  named_so h = where_declared (declarable a.env from name) h ∙ ap (λ z. record a { env = with_name a.env name z }) means

  -- the scope where it stands
  pub scope_found : Agrees DeclaredThere (declarable a.env from name) (Ok tt)
      → Finds a b (λ (e : Environment) (_ : Unit {0}). b.env ≡ e) (declarable a.env from name >> Fine (with_name a.env name (LocalNamed place t))) (Ok tt)
  scope_found h =
      let same = named_so h in
      gone_on_after (notes_of a) (notes_of b) (notes_of b) DeclaredThere (λ (e : Environment) (_ : Unit {0}). b.env ≡ e) (declarable a.env from name) (Fine (with_name a.env name (LocalNamed place t))) tt (Ok tt)
      (noted_nothing (notes_of a) (notes_of b) DeclaredThere (declarable a.env from name) (Ok tt) (ap (λ s. (notes_of s)) same) h) (ap (λ s. s.env) same, refl)

  pub scope_broken : {B : Type 0} (is : Environment → B → Type 0) (e : TypeError) → Agrees DeclaredThere (declarable a.env from name) (Err e) → b ≡ a
      → Finds a b is (declarable a.env from name >> Fine (with_name a.env name (LocalNamed place t))) (Err e)
  scope_broken is e h same =
      stopped_before (notes_of a) (notes_of b) (notes_of b) DeclaredThere is (declarable a.env from name) (Fine (with_name a.env name (LocalNamed place t))) e
      (noted_nothing (notes_of a) (notes_of b) DeclaredThere (declarable a.env from name) (Err e) (ap (λ s. (notes_of s)) same) h)

  -- whatever comes of it
  pub scope_made : (r : Result (Unit {0}) TypeError) → Agrees DeclaredThere (declarable a.env from name) r → OnErr r (b ≡ a)
      → Finds a b (λ (e : Environment) (_ : Unit {0}). b.env ≡ e) (declarable a.env from name >> Fine (with_name a.env name (LocalNamed place t))) r
  scope_made (Ok y) h k = scope_found h
  scope_made (Err e) h k = scope_broken (λ (e : Environment) (_ : Unit {0}). b.env ≡ e) e h k

-- the name of a local, and where it stands
module _ (a b : State) (from place : ℕ) (n : Option (List ℕ)) (name : List ℕ) (t : CType) (m : Stored) (means : meaning_by (types_of a.table.types) m ≡ LocalNamed place t) (spelled : name ≡ declared_name n) where
  pub local_declared : (given : ℕ) → given ≡ place → Agrees (DeclaredThere a b from place name t m means) (declarable a.env from name) (Ok tt)
      → Finds a b (λ e p. (b.env ≡ e) × (p ≡ place)) (local_scope a.env from n place t) (Ok given)
  local_declared given same h =
      let is : Environment → ℕ → Type 0 = λ e p. (b.env ≡ e) × (p ≡ place) in
      let P : List ℕ → Type 0 = λ z. Finds a b is (declarable a.env from z >> Fine (with_name a.env z (LocalNamed place t))) (Ok given) in
      let there = named_so a b from place name t m means h in
      subst P spelled
      (gone_on_after (notes_of a) (notes_of b) (notes_of b) (DeclaredThere a b from place name t m means) is (declarable a.env from name) (Fine (with_name a.env name (LocalNamed place t))) tt (Ok given)
      (noted_nothing (notes_of a) (notes_of b) (DeclaredThere a b from place name t m means) (declarable a.env from name) (Ok tt) (ap (λ s. (notes_of s)) there) h) ((ap (λ s. s.env) there, same), refl))

  pub local_taken : (e : TypeError) → Agrees (DeclaredThere a b from place name t m means) (declarable a.env from name) (Err e) → b ≡ a
      → Finds a b (λ e p. (b.env ≡ e) × (p ≡ place)) (local_scope a.env from n place t) (Err e)
  local_taken e h same =
      let is : Environment → ℕ → Type 0 = λ e p. (b.env ≡ e) × (p ≡ place) in
      let P : List ℕ → Type 0 = λ z. Finds a b is (declarable a.env from z >> Fine (with_name a.env z (LocalNamed place t))) (Err e) in
      subst P spelled (scope_broken a b from place name t m means is e h same)

-- ---- parameters

pub unnamed_is : (n : Option (List ℕ)) → ((name : List ℕ) → n ≡ Some name → ⊥) → n ≡ None
unnamed_is None h = refl
unnamed_is (Some name) h = absurd (h name refl)

-- a parameter without a name
pub nameless : (a : State) (d : Decl) (g place : ℕ) (t : CType) → g ≡ offset_of d → naming_of d ≡ None → Finds a a (λ (e : Environment) (_ : Unit {0}). a.env ≡ e) (sources.parameter d a.env place t) (Err (Rule g 21))
nameless a (Declare from an b ps n r) g place t e none =
    let P : Option (List ℕ) → Type 0 = λ z. Finds a a (λ (e : Environment) (_ : Unit {0}). a.env ≡ e) (sources.parameter (Declare from an b ps z r) a.env place t) (Err (Rule g 21)) in
    subst P (sym none) (e, refl)

-- a parameter with a name is declared
pub parameter_is : (env : Environment) (d : Decl) (g place : ℕ) (name : List ℕ) (t : CType) → g ≡ offset_of d → naming_of d ≡ Some name
    → sources.parameter d env place t ≡ (declarable env g name >> Fine (with_name env name (LocalNamed place t)))
parameter_is env (Declare from an b ps n r) g place name t e some =
    let P : Option (List ℕ) → Type 0 = λ z. sources.parameter (Declare from an b ps z r) env place t ≡ (declarable env g name >> Fine (with_name env name (LocalNamed place t))) in
    subst P (sym some) (ap (λ f. declarable env f name >> Fine (with_name env name (LocalNamed place t))) (sym e))

-- ---- first values

-- the statement stands for these
abbrev pub IsOne : State → Statements → Statement → Type 0
IsOne s xs y = StatementsStand s.table xs (y ∷ [])

module _ (a b : State) (from place : ℕ) (t : CType) (x : Expr) where
  -- the value of a scalar
  value_of_scalar : is_scalar t ≡ true → first_value a.env from place t (Initial (Plain x)) ≡ (converted_in a.env t x >>= (λ w. Fine (MoreStatements (typed.Initialise place t w) NoStatements)))
  value_of_scalar h =
      ap (λ z. keep from 17 z >> (value_in a.env x >>= (λ v. assigned (start_of x) t v >>= (λ w. Fine (MoreStatements (typed.Initialise place t w) NoStatements))))) h
      ∙ sym (in_turn (value_in a.env x) (λ v. assigned (start_of x) t v) (λ w. Fine (MoreStatements (typed.Initialise place t w) NoStatements)))

  pub initial_found : (v : NodeId) (s : Statement) → is_scalar t ≡ true → Finds a b (IsAt b.table) (converted_in a.env t x) (Ok v)
      → ((w : Value) → IsAt b.table w v → StatementsStand b.table (MoreStatements (typed.Initialise place t w) NoStatements) (s ∷ []))
      → Finds a b (λ xs s. StatementsStand b.table xs (s ∷ [])) (first_value a.env from place t (Initial (Plain x))) (Ok s)
  initial_found v s scalar h makes =
      let is : Statements → Statement → Type 0 = λ xs z. StatementsStand b.table xs (z ∷ []) in
      let P : Checked Statements → Type 0 = λ c. Finds a b is c (Ok s) in
      subst P (sym (value_of_scalar scalar))
      (gone_on (notes_of a) (notes_of b) (notes_of b) (IsAt b.table) is (converted_in a.env t x) (λ w. Fine (MoreStatements (typed.Initialise place t w) NoStatements)) v (Ok s) h (λ w at. (makes w at, refl)))

  pub initial_broken : (e : TypeError) → is_scalar t ≡ true → Finds a b (IsAt b.table) (converted_in a.env t x) (Err e)
      → Finds a b (λ xs s. StatementsStand b.table xs (s ∷ [])) (first_value a.env from place t (Initial (Plain x))) (Err e)
  initial_broken e scalar h =
      let is : Statements → Statement → Type 0 = λ xs z. StatementsStand b.table xs (z ∷ []) in
      let P : Checked Statements → Type 0 = λ c. Finds a b is c (Err e) in
      subst P (sym (value_of_scalar scalar)) (stopped_in (notes_of a) (notes_of b) (notes_of b) (IsAt b.table) is (converted_in a.env t x) (λ w. Fine (MoreStatements (typed.Initialise place t w) NoStatements)) e h)

-- the value of what is no scalar
pub not_scalar : (a : State) (from place : ℕ) (t : CType) (x : Expr) → is_scalar t ≡ false → Finds a a (λ xs s. StatementsStand a.table xs (s ∷ [])) (first_value a.env from place t (Initial (Plain x))) (Err (Rule from 17))
not_scalar a from place t x h =
    not_kept (notes_of a) (notes_of a) (λ xs s. StatementsStand a.table xs (s ∷ [])) from 17 (is_scalar t) (value_in a.env x >>= (λ v. assigned (start_of x) t v >>= (λ w. Fine (MoreStatements (typed.Initialise place t w) NoStatements)))) h
