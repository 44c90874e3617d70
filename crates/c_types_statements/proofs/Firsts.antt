-- Locals, by their type, their name and their first value.
use Rattle.std.proofs.Common.{◌≡◌, ℕ, ◌++◌, length, List, [], ◌∷◌, Option, Some, Result, Ok, Err, refl, sym, ap, ◌∙◌, subst, rules}
use Rattle.std.proofs.lemmas.List.{length-map}
use Rattle.std.specs.List.{All}
use Rattle.c_syntax.specs.declared.id.ExprId.{ExprId}
use Rattle.c_syntax.specs.declared.declaration.Rest.{Rest as After}
use Rattle.c_syntax.specs.declared.declaration.Rest.TheVariants as rests
use Rattle.c_syntax.specs.declared.declaration.Value.{Value as Given, out-Value}
use Rattle.c_syntax.specs.declared.declaration.Value as values
use Rattle.c_syntax.specs.declared.declaration.Value.TheOpen.{Value-F}
use Rattle.c_syntax.specs.declared.declaration.Value.TheViews.{the_lemmas}
use Rattle.c_syntax.specs.Nodes.{Nodes}
use Rattle.c_syntax.specs.Syntax.{Decl, Rest, Expr, Declare, NoRest, Initial, Body, Members, Plain, Braces}
use Rattle.c_syntax.specs.Stands.{Stands, StandsRest}
use Rattle.c_types_model.specs.Types.{CType}
use Rattle.c_types_table.specs.declared.ids.TypeId.{TypeId}
use Rattle.c_types_table.specs.declared.ty.Ty.{Ty}
use Rattle.c_types_table.specs.Tables.{IsBelow, type_at}
use Rattle.c_types_rules.specs.Checked.{Checked, Fine, Noted, Broken, ◌>>=◌, ◌>>◌}
use Rattle.c_types_rules.specs.Environment.{Environment, LocalNamed, declarable, extents, with_name}
use Rattle.c_types_rules.specs.Expressions.{complete, declared_name, declared_type}
use Rattle.c_types_rules.specs.Statements.{Declared, first_value, local}
use Rattle.c_types_rules.specs.TypedTree.{Statements}
use Rattle.c_types_nodes.specs.Tables.{Keeps}
use Rattle.c_types_program.specs.declared.statement.Statement.{Statement}
use Rattle.c_types_program.specs.Declarations.{types_in}
use Rattle.c_types_operators.specs.declared.error.TypeError.{TypeError}
use Rattle.c_types_operators.specs.declared.error.TypeError.TheVariants.{Rule, Memory}
use Rattle.c_types_environment.specs.States.{notes_of, State}
use Rattle.c_types_expressions.specs.Found.{Finds, IsType, Stays}
use Rattle.c_types_expressions.specs.Walks.{IsExpr}
use Rattle.c_types_expressions.proofs.Kept.{then_kept}
use Rattle.c_types_expressions.proofs.Sequences.{gone_on, in_turn, in_turn_after, same_steps, stopped_in}
use Rattle.c_types_statements.specs.Pieces.{local_scope, local_type}
use Rattle.c_types_statements.specs.Typed.{IsLocal, StatementsStand, declared_in, listed}
use Rattle.c_types_statements.specs.Walks.{IsRest}
use Rattle.c_types_statements.proofs.Declaring.{offset_of, naming_of, rest_of}
use Rattle.c_types_statements.proofs.Kept.{types_kept}

-- ---- what follows a declarator

pub rest_none : (N : Nodes) (q : After) (r : Rest) → q ≡ rests.None → StandsRest N q r → r ≡ NoRest
rest_none N q NoRest e h = refl
rest_none N q (Initial x) e (v, k, p) = absurd cc
rest_none N q (Body s) e (i, k, p) = absurd cc
rest_none N q (Members ds) e (is, k, p) = absurd cc

pub rest_plain : (N : Nodes) (q : After) (v : Given) (i : ExprId) (r : Rest) → q ≡ rests.Value v → out-Value v ≡ Value-F.Plain i → StandsRest N q r → (x : Expr) × (r ≡ Initial (Plain x)) × Stands N i x
rest_plain N q v i NoRest e f h = absurd cc
rest_plain N q v i (Initial (Plain x)) e f (w, k, (j, g, p)) =
    let same : w ≡ v = cc in let opened : out-Value w ≡ out-Value v = ap out-Value same in let one : j ≡ i = cc in let P : ExprId → Type 0 = λ z. Stands N z x in (x, refl, subst P one p)
rest_plain N q v i (Initial (Braces f xs)) e g (w, k, (u, l, p)) = let same : w ≡ v = cc in let opened : out-Value w ≡ out-Value v = ap out-Value same in absurd cc
rest_plain N q v i (Body s) e f (j, k, p) = absurd cc
rest_plain N q v i (Members ds) e f (js, k, p) = absurd cc

-- a value that an expression gives
pub opened_plain : (v : Given) (i : ExprId) → v ≡ values.Plain i → out-Value v ≡ Value-F.Plain i
opened_plain v i e = ap out-Value e ∙ plain_opened i
  where
    plain_opened : (i : ExprId) → out-Value (values.Plain i) ≡ Value-F.Plain i
    plain_opened i = search (rules, the_lemmas)

-- the expression that gives the value
pub plain_inside : (N : Nodes) (q : After) (v : Given) (i : ExprId) → q ≡ rests.Value v → out-Value v ≡ Value-F.Plain i → IsRest N q → IsExpr N i
plain_inside N q v i e f (NoRest, h, n) = absurd cc
plain_inside N q v i e f (Initial (Plain x), (w, k, (j, g, p)), n) =
    let same : w ≡ v = cc in let opened : out-Value w ≡ out-Value v = ap out-Value same in let one : j ≡ i = cc in let P : ExprId → Type 0 = λ z. Stands N z x in (x, subst P one p, n)
plain_inside N q v i e f (Initial (Braces g xs), (w, k, (u, l, p)), n) = let same : w ≡ v = cc in let opened : out-Value w ≡ out-Value v = ap out-Value same in absurd cc
plain_inside N q v i e f (Body s, (j, k, p), n) = absurd cc
plain_inside N q v i e f (Members ds, (js, k, p), n) = absurd cc

-- ---- first values

abbrev pub IsFirst : State → Statements → Option Statement → Type 0
IsFirst s xs o = StatementsStand s.table xs (listed o)

module _ (a b : State) (from place : ℕ) (t : CType) where
  -- another spelling of what follows
  pub followed : (r s : Rest) (o : Result (Option Statement) TypeError) → r ≡ s → Finds a b (IsFirst b) (first_value a.env from place t s) o → Finds a b (IsFirst b) (first_value a.env from place t r) o
  followed r s o e h = let P : Rest → Type 0 = λ z. Finds a b (IsFirst b) (first_value a.env from place t z) o in subst P (sym e) h

  pub one_first : (x : Expr) (s : Statement) → Finds a b (λ xs s. StatementsStand b.table xs (s ∷ [])) (first_value a.env from place t (Initial (Plain x))) (Ok s) → Finds a b (IsFirst b) (first_value a.env from place t (Initial (Plain x))) (Ok (Some s))
  one_first x s h = as_one (first_value a.env from place t (Initial (Plain x))) s h
    where
      as_one : (c : Checked Statements) (s : Statement) → Finds a b (λ xs s. StatementsStand b.table xs (s ∷ [])) c (Ok s) → Finds a b (IsFirst b) c (Ok (Some s))
      as_one (Fine xs) s h = h
      as_one (Noted n xs) s h = h
      as_one (Broken from rule) s h = absurd h

  pub first_broken : (x : Expr) (e : TypeError) → Finds a b (λ xs s. StatementsStand b.table xs (s ∷ [])) (first_value a.env from place t (Initial (Plain x))) (Err e) → Finds a b (IsFirst b) (first_value a.env from place t (Initial (Plain x))) (Err e)
  first_broken x e h = as_broken (first_value a.env from place t (Initial (Plain x))) e h
    where
      as_broken : (c : Checked Statements) (e : TypeError) → Finds a b (λ xs s. StatementsStand b.table xs (s ∷ [])) c (Err e) → Finds a b (IsFirst b) c (Err e)
      as_broken c Memory h = tt
      as_broken (Fine xs) (Rule f q) h = absurd h
      as_broken (Noted n xs) (Rule f q) h = absurd h
      as_broken (Broken from rule) (Rule f q) h = h

-- ---- a local

abbrev after_value : Environment → List CType → CType → Statements → Checked (Declared × Statements)
after_value env locals t first = Fine (record { env = env; locals = locals ++ t ∷ [] }, first)

-- the rest of a local, after its type, and after its name
abbrev after_name : Decl → List CType → CType → Environment → Checked (Declared × Statements)
after_name d locals t env = first_value env (offset_of d) (length locals) t (rest_of d) >>= (λ first. after_value env locals t first)

abbrev after_type : Decl → Declared → CType → Checked (Declared × Statements)
after_type d s t = local_scope s.env (offset_of d) (naming_of d) (length s.locals) t >>= (λ env. after_name d s.locals t env)

local_is : (d : Decl) (s : Declared) → local d s ≡ (local_type s.env d >>= (λ t. after_type d s t))
local_is (Declare from an b ps n r) s =
    let d : Decl = Declare from an b ps n r in
    let name = declared_name n in
    sym (in_turn (declared_type d s.env) (λ t. complete (extents s.env) from t >> Fine t) (λ t. after_type d s t)
    ∙ same_steps (declared_type d s.env) (λ t. (complete (extents s.env) from t >> Fine t) >>= (λ u. after_type d s u)) (λ t. complete (extents s.env) from t >> (declarable s.env from name >> after_name d s.locals t (with_name s.env name (LocalNamed (length s.locals) t)))) (λ t.
    in_turn_after (complete (extents s.env) from t) (Fine t) (λ u. after_type d s u)
    ∙ ap (λ z. complete (extents s.env) from t >> z) (in_turn_after (declarable s.env from name) (Fine (with_name s.env name (LocalNamed (length s.locals) t))) (λ env. after_name d s.locals t env))))

appended : (types : List Ty) (ids : List TypeId) (ty : TypeId) → types_in types (ids ++ ty ∷ []) ≡ types_in types ids ++ type_at types ty ∷ []
appended types [] ty = refl
appended types (id ∷ ids) ty = ap (λ z. type_at types id ∷ z) (appended types ids ty)

-- the place of a local is the number of those before it
pub place_is : (s : State) (ids : List TypeId) → length (declared_in s ids).locals ≡ length ids
place_is s ids = length-map ids (type_at s.table.types)

-- the place of a name that is declared
abbrev pub IsPlace : State → ℕ → Environment → ℕ → Type 0
IsPlace s k e p = (s.env ≡ e) × (p ≡ k)

-- a local that breaks a rule in its type
pub local_type_broken : (a b : State) (d : Decl) (ids new : List TypeId) (wrong : TypeError) → Finds a b (IsType b.table) (local_type a.env d) (Err wrong) → Finds a b (IsLocal b new) (local d (declared_in a ids)) (Err wrong)
local_type_broken a b d ids new wrong h =
    let P : Checked (Declared × Statements) → Type 0 = λ z. Finds a b (IsLocal b new) z (Err wrong) in
    subst P (sym (local_is d (declared_in a ids))) (stopped_in (notes_of a) (notes_of b) (notes_of b) (IsType b.table) (IsLocal b new) (local_type a.env d) (λ t. after_type d (declared_in a ids) t) wrong h)

module _ (a b c : State) (d : Decl) (ids new : List TypeId) (ty : TypeId) (typed_so : Finds a b (IsType b.table) (local_type a.env d) (Ok ty)) (one : Stays a b) (g : ℕ) (name : Option (List ℕ)) (at : g ≡ offset_of d) (spelled : name ≡ naming_of d) where
  scope_moved : {B : Type 0} (is : Environment → B → Type 0) (r : Result B TypeError) (t : CType) → IsType b.table t ty → Finds b c is (local_scope b.env g name (length ids) (type_at b.table.types ty)) r
      → Finds b c is (local_scope a.env (offset_of d) (naming_of d) (length (declared_in a ids).locals) t) r
  scope_moved is r t names h =
      let same : local_scope b.env g name (length ids) (type_at b.table.types ty) ≡ local_scope a.env (offset_of d) (naming_of d) (length (declared_in a ids).locals) t =
      ap (λ z. local_scope z g name (length ids) (type_at b.table.types ty)) one.env
      ∙ (ap (λ z. local_scope a.env z name (length ids) (type_at b.table.types ty)) at
      ∙ (ap (λ z. local_scope a.env (offset_of d) z (length ids) (type_at b.table.types ty)) spelled
      ∙ (ap (λ z. local_scope a.env (offset_of d) (naming_of d) z (type_at b.table.types ty)) (sym (place_is a ids))
      ∙ ap (λ z. local_scope a.env (offset_of d) (naming_of d) (length (declared_in a ids).locals) z) names.is))) in
      let P : Checked Environment → Type 0 = λ z. Finds b c is z r in
      subst P same h

  -- in its name
  pub local_name_broken : (wrong : TypeError) → Finds b c (IsPlace c (length ids)) (local_scope b.env g name (length ids) (type_at b.table.types ty)) (Err wrong) → Finds a c (IsLocal c new) (local d (declared_in a ids)) (Err wrong)
  local_name_broken wrong h =
      let P : Checked (Declared × Statements) → Type 0 = λ z. Finds a c (IsLocal c new) z (Err wrong) in
      subst P (sym (local_is d (declared_in a ids)))
      (gone_on (notes_of a) (notes_of b) (notes_of c) (IsType b.table) (IsLocal c new) (local_type a.env d) (λ t. after_type d (declared_in a ids) t) ty (Err wrong) typed_so (λ t names.
      stopped_in (notes_of b) (notes_of c) (notes_of c) (IsPlace c (length ids)) (IsLocal c new) (local_scope a.env (offset_of d) (naming_of d) (length (declared_in a ids).locals) t) (λ env. after_name d (declared_in a ids).locals t env) wrong
      (scope_moved (IsPlace c (length ids)) (Err wrong) t names h)))

  module _ (place : ℕ) (named : Finds b c (IsPlace c (length ids)) (local_scope b.env g name (length ids) (type_at b.table.types ty)) (Ok place)) (two : Keeps b.table c.table) (e : State) where
    first_moved : {B : Type 0} (is : Statements → B → Type 0) (r : Result B TypeError) (t : CType) (env : Environment) → IsType b.table t ty → IsPlace c (length ids) env place
        → Finds c e is (first_value c.env g place (type_at c.table.types ty) (rest_of d)) r → Finds c e is (first_value env (offset_of d) (length (declared_in a ids).locals) t (rest_of d)) r
    first_moved is r t env names there h =
        let same : first_value c.env g place (type_at c.table.types ty) (rest_of d) ≡ first_value env (offset_of d) (length (declared_in a ids).locals) t (rest_of d) =
        ap (λ z. first_value z g place (type_at c.table.types ty) (rest_of d)) there.0
        ∙ (ap (λ z. first_value env z place (type_at c.table.types ty) (rest_of d)) at
        ∙ (ap (λ z. first_value env (offset_of d) z (type_at c.table.types ty) (rest_of d)) (there.1 ∙ sym (place_is a ids))
        ∙ ap (λ z. first_value env (offset_of d) (length (declared_in a ids).locals) z (rest_of d)) (two.types.names ty t names).is)) in
        let P : Checked Statements → Type 0 = λ z. Finds c e is z r in
        subst P same h

    -- in its first value
    pub local_value_broken : (wrong : TypeError) → Finds c e (IsFirst e) (first_value c.env g place (type_at c.table.types ty) (rest_of d)) (Err wrong) → Finds a e (IsLocal e new) (local d (declared_in a ids)) (Err wrong)
    local_value_broken wrong h =
        let P : Checked (Declared × Statements) → Type 0 = λ z. Finds a e (IsLocal e new) z (Err wrong) in
        subst P (sym (local_is d (declared_in a ids)))
        (gone_on (notes_of a) (notes_of b) (notes_of e) (IsType b.table) (IsLocal e new) (local_type a.env d) (λ t. after_type d (declared_in a ids) t) ty (Err wrong) typed_so (λ t names.
        gone_on (notes_of b) (notes_of c) (notes_of e) (IsPlace c (length ids)) (IsLocal e new) (local_scope a.env (offset_of d) (naming_of d) (length (declared_in a ids).locals) t) (λ env. after_name d (declared_in a ids).locals t env) place (Err wrong)
        (scope_moved (IsPlace c (length ids)) (Ok place) t names named) (λ env there.
        stopped_in (notes_of c) (notes_of e) (notes_of e) (IsFirst e) (IsLocal e new) (first_value env (offset_of d) (length (declared_in a ids).locals) t (rest_of d)) (λ first. after_value env (declared_in a ids).locals t first) wrong
        (first_moved (IsFirst e) (Err wrong) t env names there h))))

    -- a local that keeps all rules
    pub local_found : (first : Option Statement) → Finds c e (IsFirst e) (first_value c.env g place (type_at c.table.types ty) (rest_of d)) (Ok first) → Stays c e → All (IsBelow (length a.table.types)) ids → new ≡ ids ++ ty ∷ []
        → Finds a e (IsLocal e new) (local d (declared_in a ids)) (Ok first)
    local_found first h three below put =
        let P : Checked (Declared × Statements) → Type 0 = λ z. Finds a e (IsLocal e new) z (Ok first) in
        let later : Keeps b.table e.table = then_kept b.table c.table e.table two three.numbers in
        let whole : Keeps a.table e.table = then_kept a.table b.table e.table one.numbers later in
        subst P (sym (local_is d (declared_in a ids)))
        (gone_on (notes_of a) (notes_of b) (notes_of e) (IsType b.table) (IsLocal e new) (local_type a.env d) (λ t. after_type d (declared_in a ids) t) ty (Ok first) typed_so (λ t names.
        gone_on (notes_of b) (notes_of c) (notes_of e) (IsPlace c (length ids)) (IsLocal e new) (local_scope a.env (offset_of d) (naming_of d) (length (declared_in a ids).locals) t) (λ env. after_name d (declared_in a ids).locals t env) place (Ok first)
        (scope_moved (IsPlace c (length ids)) (Ok place) t names named) (λ env there.
        gone_on (notes_of c) (notes_of e) (notes_of e) (IsFirst e) (IsLocal e new) (first_value env (offset_of d) (length (declared_in a ids).locals) t (rest_of d)) (λ first. after_value env (declared_in a ids).locals t first) first (Ok first)
        (first_moved (IsFirst e) (Ok first) t env names there h) (λ xs stand.
        let types : types_in e.table.types new ≡ (declared_in a ids).locals ++ t ∷ [] =
        ap (types_in e.table.types) put
        ∙ (appended e.table.types ids ty
        ∙ (ap (λ z. z ++ type_at e.table.types ty ∷ []) (types_kept a.table e.table ids whole below)
        ∙ ap (λ z. types_in a.table.types ids ++ z ∷ []) (later.types.names ty t names).is)) in
        let declared : declared_in e new ≡ record { env = env; locals = (declared_in a ids).locals ++ t ∷ [] } =
        ap (λ z. record { env = z; locals = types_in e.table.types new }) (three.env ∙ there.0) ∙ ap (λ z. record { env = env; locals = z }) types in
        ((declared, stand), refl)))))
