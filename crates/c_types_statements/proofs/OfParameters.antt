-- Parameters that are declared one after another.
use Rattle.std.proofs.Common.{◌≡◌, ℕ, ◌+◌, ◌<◌, ◌≤◌, List, length, drop, get_or, Option, Some, None, MatchOption, Ok, Err, refl, sym, ap, ◌∙◌, subst}
use Rattle.std.proofs.lemmas.List.{drop_more}
use Rattle.std.proofs.Math.ListN.{drop_of_length-le}
use Rattle.c_syntax.specs.declared.id.DeclId.{DeclId}
use Rattle.c_syntax.specs.Nodes.{Nodes}
use Rattle.c_syntax.specs.Syntax.{Decl, Decls, NoDecls, MoreDecls}
use Rattle.c_syntax.specs.Stands.{StandsDecl, StandDecls}
use Rattle.c_types_model.specs.Types.{NoTypes}
use Rattle.c_types_table.specs.declared.ids.TypeId.{TypeId}
use Rattle.c_types_table.specs.Tables.{IsBelow, all_at, type_at, types_of}
use Rattle.c_types_rules.specs.Checked.{Checked, Fine, ◌>>=◌}
use Rattle.c_types_rules.specs.Environment.{Environment}
use Rattle.c_types_rules.specs.Sources.{parameter, parameters}
use Rattle.c_types_nodes.specs.Tables.{Keeps}
use Rattle.c_types_program.proofs.Kept.{type_kept}
use Rattle.c_types_operators.specs.declared.error.TypeError.{TypeError}
use Rattle.c_types_environment.specs.States.{notes_of, State}
use Rattle.c_types_expressions.specs.Found.{Finds}
use Rattle.c_types_statements.proofs.Lists.{NextDecl, next_decl, no_decl}
use Rattle.c_types_statements.proofs.Passed.{Passed, none_passed, pass_on, pass_all, pass_off}

-- where nothing is found
pub none_there : {X : Type 0} (o : Option X) (P : Type 0) (Q : X → Type 0) → ((x : X) → o ≡ Some x → ⊥) → MatchOption o P Q → P
none_there None P Q h k = k
none_there (Some x) P Q h k = absurd (h x refl)

-- the environment is this one
abbrev pub IsEnv : State → Environment → Unit {0} → Type 0
IsEnv s e _ = s.env ≡ e

-- the parameters up to this number are declared
pub record ParametersRead (N : Nodes) (ids : List DeclId) (types : List TypeId) (k : ℕ) (ds : Decls) (old now : State) : Type 0 where
  pub rest : Decls
  pub stand : StandDecls N (drop k ids) rest
  pub passed : Passed (notes_of old) (notes_of now) (parameters ds old.env 0 (all_at (types_of old.table.types) types)) (parameters rest now.env k (all_at (types_of old.table.types) (drop k types)))

no_types : (rest : Decls) (env : Environment) (k : ℕ) → parameters rest env k NoTypes ≡ Fine env
no_types NoDecls env k = refl
no_types (MoreDecls d ds) env k = refl

-- what is left of them
abbrev left : State → Decls → Environment → ℕ → List TypeId → Checked Environment
left old rest env k some = parameters rest env k (all_at (types_of old.table.types) some)

module _ (N : Nodes) (ids : List DeclId) (types : List TypeId) (ds : Decls) (old : State) where
  pub no_parameter_read : StandDecls N ids ds → ParametersRead N ids types 0 ds old old
  no_parameter_read h = record { rest = ds; stand = h; passed = none_passed (notes_of old) (parameters ds old.env 0 (all_at (types_of old.table.types) types)) }

  module _ (k : ℕ) (now : State) (read : ParametersRead N ids types k ds old now) where
    passed_next : (id : DeclId) (ty : TypeId) (n : NextDecl N ids k id read.rest) → k < length types → IsBelow (length old.table.types) (get_or types k ty) → Keeps old.table now.table
        → Passed (notes_of old) (notes_of now) (parameters ds old.env 0 (all_at (types_of old.table.types) types)) (parameter n.decl now.env k (type_at now.table.types (get_or types k ty)) >>= (λ within. left old n.more within (k + 1) (drop (k + 1) types)))
    passed_next id ty n l below keeps =
        let P : Checked Environment → Type 0 = λ z. Passed (notes_of old) (notes_of now) (parameters ds old.env 0 (all_at (types_of old.table.types) types)) z in
        let here : parameters read.rest now.env k (all_at (types_of old.table.types) (drop k types)) ≡ (parameter n.decl now.env k (type_at now.table.types (get_or types k ty)) >>= (λ within. left old n.more within (k + 1) (drop (k + 1) types))) =
        ap (λ z. parameters z now.env k (all_at (types_of old.table.types) (drop k types))) n.is
        ∙ (ap (λ z. parameters (MoreDecls n.decl n.more) now.env k (all_at (types_of old.table.types) z)) (drop_more types k ty l)
        ∙ ap (λ z. parameter n.decl now.env k z >>= (λ within. left old n.more within (k + 1) (drop (k + 1) types))) (sym (type_kept old.table now.table keeps (get_or types k ty) below))) in
        subst P here read.passed

    pub parameter_read : (id : DeclId) (ty : TypeId) (next : State) → k < length ids → k < length types → IsBelow (length old.table.types) (get_or types k ty) → Keeps old.table now.table
        → ((x : Decl) → StandsDecl N (get_or ids k id) x → Finds now next (IsEnv next) (parameter x now.env k (type_at now.table.types (get_or types k ty))) (Ok tt))
        → ParametersRead N ids types (k + 1) ds old next
    parameter_read id ty next l m below keeps agrees =
        let n = next_decl N ids k id read.rest l read.stand in
        let r = pass_on (notes_of old) (notes_of now) (notes_of next) _ (IsEnv next) (parameter n.decl now.env k (type_at now.table.types (get_or types k ty))) (λ within. left old n.more within (k + 1) (drop (k + 1) types)) tt (passed_next id ty n m below keeps) (agrees n.decl n.stands) in
        let P : Environment → Type 0 = λ z. Passed (notes_of old) (notes_of next) (parameters ds old.env 0 (all_at (types_of old.table.types) types)) (parameters n.more z (k + 1) (all_at (types_of old.table.types) (drop (k + 1) types))) in
        record { rest = n.more; stand = n.stand; passed = subst P (sym r.1) r.2 }

    pub parameter_broken : (id : DeclId) (ty : TypeId) (next last : State) (e : TypeError) → k < length ids → k < length types → IsBelow (length old.table.types) (get_or types k ty) → Keeps old.table now.table
        → ((x : Decl) → StandsDecl N (get_or ids k id) x → Finds now next (IsEnv next) (parameter x now.env k (type_at now.table.types (get_or types k ty))) (Err e))
        → Finds old last (IsEnv last) (parameters ds old.env 0 (all_at (types_of old.table.types) types)) (Err e)
    parameter_broken id ty next last e l m below keeps agrees =
        let n = next_decl N ids k id read.rest l read.stand in
        pass_off (notes_of old) (notes_of now) (notes_of next) (notes_of last) _ (IsEnv next) (IsEnv last) (parameter n.decl now.env k (type_at now.table.types (get_or types k ty))) (λ within. left old n.more within (k + 1) (drop (k + 1) types)) e (passed_next id ty n m below keeps) (agrees n.decl n.stands)

    -- there are no more parameters, or no more types
    pub no_more_parameters : length ids ≤ k → Finds old now (IsEnv now) (parameters ds old.env 0 (all_at (types_of old.table.types) types)) (Ok tt)
    no_more_parameters l =
        let P : Decls → Type 0 = λ z. Passed (notes_of old) (notes_of now) (parameters ds old.env 0 (all_at (types_of old.table.types) types)) (parameters z now.env k (all_at (types_of old.table.types) (drop k types))) in
        pass_all (notes_of old) (notes_of now) _ (IsEnv now) now.env tt (subst P (no_decl N ids k read.rest l read.stand) read.passed) refl

    pub no_more_types : length types ≤ k → Finds old now (IsEnv now) (parameters ds old.env 0 (all_at (types_of old.table.types) types)) (Ok tt)
    no_more_types l =
        let P : Checked Environment → Type 0 = λ z. Passed (notes_of old) (notes_of now) (parameters ds old.env 0 (all_at (types_of old.table.types) types)) z in
        let here : parameters read.rest now.env k (all_at (types_of old.table.types) (drop k types)) ≡ Fine now.env =
        ap (λ z. parameters read.rest now.env k (all_at (types_of old.table.types) z)) (drop_of_length-le types l) ∙ no_types read.rest now.env k in
        pass_all (notes_of old) (notes_of now) _ (IsEnv now) now.env tt (subst P here read.passed) refl
