-- Locals with their first values are as deep as their syntax says.
use Rattle.std.proofs.Common.{◌≡◌, ℕ, max, Bool, true, false, List, [], ◌∷◌, ◌++◌, length, refl, ap, ◌∙◌, arith}
use Rattle.c_syntax.specs.Syntax.{Expr, MaybeExpr, Decl, Decls, Rest, NoExpr, OneExpr, Declare, NoDecls, MoreDecls, Plain, Braces, NoRest, Initial, Body, Members}
use Rattle.c_types_model.specs.Types.{CType}
use Rattle.c_types_rules.specs.Checked.{Checked, Fine, keep, ◌>>=◌, ◌>>◌}
use Rattle.c_types_rules.specs.TypeTests.{is_complete, is_scalar}
use Rattle.c_types_rules.specs.Environment.{Environment, LocalNamed, declarable, extents, with_name}
use Rattle.c_types_rules.specs.Expressions.{declared_name, declared_type, expression, rule_of_incomplete, start_of}
use Rattle.c_types_rules.specs.Operators.{assigned}
use Rattle.c_types_rules.specs.TypedTree.{Value, MaybeValue, NoValue, OneValue, Statement, Statements, joined, value_of, value_type}
use Rattle.c_types_rules.specs.TypedTree as typed
use Rattle.c_types_rules.specs.Statements.{Declared, condition_in, first_value, local, locals_of, maybe_condition, maybe_in, value_in}
use Rattle.c_lower_placement.specs.Heights.{statements_depth, value_depth}
use Rattle.c_lower_placement.specs.Heights as heights
use Rattle.c_lower_depth_laws.specs.Expressions.{expression_depth, parts_depth, unevaluated_depth, whole_depth}
use Rattle.c_lower_depth_laws.specs.Bodies.{initial_depth, local_depth, locals_depth, maybe_depth, with_local, with_locals}
use Rattle.c_lower_depth_laws.proofs.Found.{Finds, finds_kept, finds_last, finds_weaker, max_zero}
use Rattle.c_lower_depth_laws.proofs.Operators.{Deep, assigned_deep}
use Rattle.c_lower_depth_laws.specs.Names.{AgreesIn}
use Rattle.c_lower_depth_laws.proofs.Agreeing.{agrees_more}
use Rattle.c_lower_depth_laws.proofs.Expressions.{Any, Fits, declared_found, expression_found, fits_deep}
use Rattle.c_lower_depth_laws.proofs.Reached.{Reaches, Same, reaches_as, reaches_found, reaches_kept, reaches_last, reaches_once, reaches_start}

-- ---- values

-- a value of this depth
abbrev pub At : ℕ → Value → Type 0
At n v = Any v × (value_depth v ≡ n)

pub value_found : (x : Expr) (objects : List (List ℕ)) (env : Environment) → AgreesIn objects env → Finds (At (expression_depth x objects)) (unevaluated_depth x objects) (value_in env x)
value_found x objects env agrees = finds_last (Fits x objects) (At (expression_depth x objects)) (unevaluated_depth x objects) (expression x env) _ (expression_found x objects env agrees) (λ a h. ((tt, fits_deep x objects a h), refl))

pub condition_found : (x : Expr) (objects : List (List ℕ)) (env : Environment) → AgreesIn objects env → Finds (At (expression_depth x objects)) (unevaluated_depth x objects) (condition_in env x)
condition_found x objects env agrees =
    finds_last (At (expression_depth x objects)) (At (expression_depth x objects)) (unevaluated_depth x objects) (value_in env x) _ (value_found x objects env agrees)
    (λ v h. finds_kept (At (expression_depth x objects)) 0 (start_of x) 10 (is_scalar (value_type v)) (Fine v) (h, refl))

pub value_reaches : (x : Expr) (objects : List (List ℕ)) (env : Environment) → AgreesIn objects env → Reaches value_depth Any (whole_depth x objects) (value_in env x)
value_reaches x objects env agrees = reaches_found value_depth Any (expression_depth x objects) (unevaluated_depth x objects) (value_in env x) (value_found x objects env agrees)

pub condition_reaches : (x : Expr) (objects : List (List ℕ)) (env : Environment) → AgreesIn objects env → Reaches value_depth Any (whole_depth x objects) (condition_in env x)
condition_reaches x objects env agrees = reaches_found value_depth Any (expression_depth x objects) (unevaluated_depth x objects) (condition_in env x) (condition_found x objects env agrees)

pub maybe_reaches : (x : MaybeExpr) (objects : List (List ℕ)) (env : Environment) → AgreesIn objects env → Reaches heights.maybe_depth Any (maybe_depth x objects) (maybe_in env x)
maybe_reaches NoExpr objects env agrees = (tt, refl)
maybe_reaches (OneExpr x) objects env agrees = reaches_once value_depth Any heights.maybe_depth Any (whole_depth x objects) (value_in env x) (λ v. OneValue v) (value_reaches x objects env agrees) (λ v h. (tt, refl))

pub maybe_condition_reaches : (x : MaybeExpr) (objects : List (List ℕ)) (env : Environment) → AgreesIn objects env → Reaches heights.maybe_depth Any (maybe_depth x objects) (maybe_condition env x)
maybe_condition_reaches NoExpr objects env agrees = (tt, refl)
maybe_condition_reaches (OneExpr x) objects env agrees = reaches_once value_depth Any heights.maybe_depth Any (whole_depth x objects) (condition_in env x) (λ v. OneValue v) (condition_reaches x objects env agrees) (λ v h. (tt, refl))

-- ---- locals

-- a value as if by assignment, of which a statement is made
pub assigned_found : {B : Type 0} (e : B → ℕ) (x : Expr) (objects : List (List ℕ)) (env : Environment) (t : CType) (g : Value → B) (n : ℕ → ℕ) → ((v : Value) → e (g v) ≡ n (value_depth v)) → AgreesIn objects env → Finds (λ b. Any b × (e b ≡ n (expression_depth x objects))) (unevaluated_depth x objects) (value_in env x >>= (λ v. assigned (start_of x) t v >>= (λ w. Fine (g w))))
assigned_found {B = B} e x objects env t g n h agrees =
    finds_last (At (expression_depth x objects)) Goal (unevaluated_depth x objects) (value_in env x) _ (value_found x objects env agrees)
    (λ v k. finds_last (Deep (value_depth v)) Goal 0 (assigned (start_of x) t v) _ (assigned_deep (start_of x) t v) (λ w j. ((tt, h w ∙ ap n (j ∙ k.1)), refl)))
  where
    Goal : B → Type 0
    Goal b = Any b × (e b ≡ n (expression_depth x objects))

first_reaches : (r : Rest) (objects : List (List ℕ)) (env : Environment) (from place : ℕ) (t : CType) → AgreesIn objects env → Reaches statements_depth Any (initial_depth r objects) (first_value env from place t r)
first_reaches NoRest objects env from place t agrees = (tt, refl)
first_reaches (Initial (Plain x)) objects env from place t agrees =
    let made = value_in env x >>= (λ v. assigned (start_of x) t v >>= (λ w. Fine (typed.MoreStatements (typed.Initialise place t w) typed.NoStatements))) in
    reaches_kept statements_depth Any (whole_depth x objects) from 17 (is_scalar t) made
    (reaches_found statements_depth Any (expression_depth x objects) (unevaluated_depth x objects) made
    (assigned_found statements_depth x objects env t (λ w. typed.MoreStatements (typed.Initialise place t w) typed.NoStatements) (λ n. n) (λ v. max_zero (value_depth v)) agrees))
first_reaches (Initial (Braces at vs)) objects env from place t agrees = tt
first_reaches (Body s) objects env from place t agrees = tt
first_reaches (Members ds) objects env from place t agrees = tt

-- the statements that locals make
abbrev pub made_depth : Declared × Statements → ℕ
made_depth a = statements_depth a.1

-- these are the names of objects after locals
abbrev pub Declares : List (List ℕ) → Declared × Statements → Type 0
Declares objects a = AgreesIn objects a.0.env

reaches_declarable : {B : Type 0} (e : B → ℕ) (R : B → Type 0) (k : ℕ) (env : Environment) (from : ℕ) (name : List ℕ) (y : Checked B) → Reaches e R k y → Reaches e R k (declarable env from name >> y)
reaches_declarable e R k env from name y h = by _ _
  where
    by : (b c : Bool) → Reaches e R k ((keep from 19 b >> keep from 1 c) >> y)
    by true true = h
    by true false = tt
    by false c = tt

local_reaches : (x : Decl) (objects : List (List ℕ)) (d : Declared) → AgreesIn objects d.env → Reaches made_depth (Declares (with_local x objects)) (local_depth x objects) (local x d)
local_reaches (Declare from an b ps n r) objects d agrees =
    let objects2 = declared_name n ∷ objects in
    reaches_start (λ t. 0) Any made_depth (Declares objects2) (parts_depth ps objects) (initial_depth r objects2) (declared_type (Declare from an b ps n r) d.env) _
    (reaches_as (λ t. 0) Any (max 0 (parts_depth ps objects)) (parts_depth ps objects) (declared_type (Declare from an b ps n r) d.env) (bare (parts_depth ps objects))
    (reaches_found (λ t. 0) Any 0 (parts_depth ps objects) (declared_type (Declare from an b ps n r) d.env) (finds_weaker Any (λ t. Any t × (0 ≡ 0)) (parts_depth ps objects) (declared_type (Declare from an b ps n r) d.env) (λ t h. (tt, refl)) (declared_found (Declare from an b ps n r) objects d.env agrees))))
    (λ t h.
    let env = with_name d.env (declared_name n) (LocalNamed (length d.locals) t) in
    let rest : Checked (Declared × Statements) = first_value env from (length d.locals) t r >>= (λ ss. Fine (record { env = env; locals = d.locals ++ t ∷ [] }, ss)) in
    let within = agrees_more objects d.env (declared_name n) (length d.locals) t agrees in
    reaches_kept made_depth (Declares objects2) (max 0 (initial_depth r objects2)) from (rule_of_incomplete t) (is_complete (extents d.env) t) (declarable d.env from (declared_name n) >> rest)
    (reaches_declarable made_depth (Declares objects2) (max 0 (initial_depth r objects2)) d.env from (declared_name n) rest
    (reaches_last statements_depth Any made_depth (Declares objects2) 0 (initial_depth r objects2) (first_value env from (length d.locals) t r) (λ ss. (record { env = env; locals = d.locals ++ t ∷ [] }, ss))
    (first_reaches r objects2 env from (length d.locals) t within) (λ ss k. (within, none (statements_depth ss))))))
  where
    bare : (n : ℕ) → Same (max 0 n) n
    bare n = omega arith

    none : (n : ℕ) → n ≡ max 0 n
    none n = omega arith

pub joined_depth : (a b : Statements) → statements_depth (joined a b) ≡ max (statements_depth a) (statements_depth b)
joined_depth typed.NoStatements b = none (statements_depth b)
  where
    none : (n : ℕ) → n ≡ max 0 n
    none n = omega arith
joined_depth (typed.MoreStatements s a) b = ap (max (heights.statement_depth s)) (joined_depth a b) ∙ grouped (heights.statement_depth s) (statements_depth a) (statements_depth b)
  where
    grouped : (a b c : ℕ) → max a (max b c) ≡ max (max a b) c
    grouped a b c = omega arith

pub locals_reach : (xs : Decls) (objects : List (List ℕ)) (d : Declared) → AgreesIn objects d.env → Reaches made_depth (Declares (with_locals xs objects)) (locals_depth xs objects) (locals_of xs d)
locals_reach NoDecls objects d agrees = (agrees, refl)
locals_reach (MoreDecls x xs) objects d agrees =
    let after = with_locals xs (with_local x objects) in
    reaches_start made_depth (Declares (with_local x objects)) made_depth (Declares after) (local_depth x objects) (locals_depth xs (with_local x objects)) (local x d) (λ a. locals_of xs a.0 >>= (λ b. Fine (b.0, joined a.1 b.1))) (local_reaches x objects d agrees)
    (λ a h. reaches_last made_depth (Declares after) made_depth (Declares after) (made_depth a) (locals_depth xs (with_local x objects)) (locals_of xs a.0) (λ b. (b.0, joined a.1 b.1)) (locals_reach xs (with_local x objects) a.0 h) (λ b k. (k, joined_depth a.1 b.1)))
