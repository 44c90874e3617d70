-- The body of a function is as deep as its syntax says.
use Rattle.std.proofs.Common.{◌≡◌, ℕ, ◌+◌, max, false, List, ◌∷◌, Some, None, ◌∙◌, arith}
use Rattle.std.specs.Prelude.{is_some}
use Rattle.c_syntax.specs.Syntax.{Decl, Decls, Parts, Stmt, Declare, NoDecls, MoreDecls}
use Rattle.c_types_model.specs.Types.{CType, CTypes, NoTypes, MoreTypes}
use Rattle.c_types_rules.specs.Checked.{Checked, Fine, Noted, Broken, heard, keep}
use Rattle.c_types_rules.specs.Environment.{Environment, LocalNamed, declarable, inner, with_name}
use Rattle.c_types_rules.specs.Expressions.{parameter_types, with_parameter}
use Rattle.c_types_rules.specs.Statements.{Declared, Surroundings}
use Rattle.c_types_rules.specs.Sources.{block_body, block_of, body_of, listed, nearest, parameter, parameters, params_of, result_of}
use Rattle.c_types_rules.specs.TypedTree.{Body}
use Rattle.c_lower.specs.Depths.{greatest_depth}
use Rattle.c_lower_depth_laws.specs.Expressions.{with_param}
use Rattle.c_lower_depth_laws.specs.Bodies.{stmt_depth}
use Rattle.c_lower_depth_laws.specs.Functions.{function_depth, with_params}
use Rattle.c_lower_depth_laws.specs.Laws.{typed_body_depth}
use Rattle.c_lower_laws.proofs.Held.{Holds, holds_then, holds_on, holds_after}
use Rattle.c_lower_depth_laws.specs.Names.{AgreesIn}
use Rattle.c_lower_depth_laws.proofs.Agreeing.{agrees_inner, agrees_more}
use Rattle.c_lower_depth_laws.proofs.Expressions.{Any}
use Rattle.c_lower_depth_laws.proofs.Params.{OneEach}
use Rattle.c_lower_depth_laws.proofs.Reached.{Reaches, Same}
use Rattle.c_lower_depth_laws.proofs.Statements.{block_reaches, depth_at}

parameter_agrees : (d : Decl) (objects : List (List ℕ)) (env : Environment) (place : ℕ) (t : CType) → AgreesIn objects env → Holds (AgreesIn (with_param d objects)) (parameter d env place t)
parameter_agrees (Declare from an b ps None r) objects env place t agrees = tt
parameter_agrees (Declare from an b ps (Some name) r) objects env place t agrees =
    holds_after (AgreesIn (name ∷ objects)) (keep from 21 (is_some (Some name))) (with_parameter env from place (Some name) t) (holds_after (AgreesIn (name ∷ objects)) (declarable env from name) (Fine (with_name env name (LocalNamed place t))) (agrees_more objects env name place t agrees))

parameters_agree : (ds : Decls) (objects : List (List ℕ)) (env : Environment) (place : ℕ) (ts : CTypes) → OneEach ds ts → AgreesIn objects env → Holds (AgreesIn (with_params ds objects)) (parameters ds env place ts)
parameters_agree NoDecls objects env place ts each agrees = agrees
parameters_agree (MoreDecls d ds) objects env place NoTypes each agrees = absurd each
parameters_agree (MoreDecls d ds) objects env place (MoreTypes t ts) each agrees =
    holds_then (AgreesIn (with_param d objects)) (AgreesIn (with_params ds (with_param d objects))) (parameter d env place t) _ (parameter_agrees d objects env place t agrees)
    (λ within h. parameters_agree ds (with_param d objects) within (place + 1) ts each h)

heard_reaches : {A : Type 0} (d : A → ℕ) (k : ℕ) (c : Checked A) → Reaches d Any k c → Holds (λ a. Same (max (d a.0) (greatest_depth a.1)) k) (heard c)
heard_reaches d k (Fine x) h = bare (d x) ∙ h.1
  where
    bare : (n : ℕ) → Same (max n 0) n
    bare n = omega arith
heard_reaches d k (Noted n x) h = h.1
heard_reaches d k (Broken from rule) h = tt

-- so deep is a body
abbrev pub Counts : Parts → Stmt → List (List ℕ) → Body → Type 0
Counts ps s objects b = typed_body_depth b ≡ function_depth ps s objects

block_counts : (env : Environment) (t : CType) (ps : Parts) (s : Stmt) (objects : List (List ℕ)) → OneEach (nearest ps) (params_of t) → AgreesIn objects env → Holds (Counts ps s objects) (block_body env t ps s)
block_counts env t ps s objects each agrees =
    let o = with_params (nearest ps) objects in
    holds_then (AgreesIn o) (Counts ps s objects) (parameters (nearest ps) (inner env) 0 (params_of t)) _ (parameters_agree (nearest ps) objects (inner env) 0 (params_of t) each (agrees_inner objects env agrees))
    (λ within h.
    let p : Surroundings = record { result = result_of t; in_loop = false } in
    let d : Declared = record { env = within; locals = listed (params_of t) } in
    holds_then (λ a. Same (max (depth_at a.0) (greatest_depth a.1)) (stmt_depth s o)) (Counts ps s objects) (heard (block_of s p d)) _ (heard_reaches depth_at (stmt_depth s o) (block_of s p d) (block_reaches s o p d h)) (λ a k. k))

pub body_counts : (env : Environment) (t : CType) (ps : Parts) (s : Stmt) (objects : List (List ℕ)) → OneEach (nearest ps) (params_of t) → AgreesIn objects env → Holds (Counts ps s objects) (body_of env t ps s)
body_counts env t ps s objects each agrees =
    holds_on (Counts ps s objects) (heard (parameter_types (nearest ps) (inner env) 0)) _
    (λ params. holds_then (Counts ps s objects) (Counts ps s objects) (block_body env t ps s) _ (block_counts env t ps s objects each agrees) (λ b h. h))
