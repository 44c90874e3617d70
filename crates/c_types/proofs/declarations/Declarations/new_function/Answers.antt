use Rattle.std.proofs.Common.{◌+◌, ◌++◌, ◌∷◌, [], ℕ, List, None, Err, ap, ◌∙◌, refl}
use Rattle.std.proofs.lemmas.Result.{err_from_is_err_and}
use Rattle.c_types_rules.specs.Environment.{FunctionNamed, declarable}
use Rattle.c_types_table.specs.Tables.{type_at}
use Rattle.c_types_operators.specs.declared.error.TypeError.TheVariants.{Memory}
use Rattle.c_types.specs.States.{IsFunctionPlace}
use Rattle.c_builtins.specs.Table.{first_source_function}
use Rattle.c_types_program.specs.declared.function.Function.{Function}
use Rattle.c_types.proofs.Followed.{going_on}
use Rattle.c_types.proofs.FunctionSteps.{function_new}
use Rattle.c_types.proofs.Pushed.{agreed, may_be_declared, no_rule_here, with_one}
use Rattle.c_types.proofs.Stepping.{failed_so, no_memory}
use Rattle.c_types.proofs.declarations.Declarations.new_function.Goals as goal

pub returns-in_err-number : goal.returns-in_err-number
returns-in_err-number c =
    let q = err_from_is_err_and c.from_residual.result c.from_residual.ensures.1 in
    failed_so c.args.self.now c.args.self.now (IsFunctionPlace c.args.self.now) _ c.from_residual.result Memory (q.1 ∙ ap Err q.2) (no_memory c.args.self.now c.args.self.now (IsFunctionPlace c.args.self.now) _)

pub returns-in_err-declare : goal.returns-in_err-declare
returns-in_err-declare c =
    let q = err_from_is_err_and c.from_residual-in_err-declare.result c.from_residual-in_err-declare.ensures.1 in
    let d = c.args.self.now in
    let new = going_on d c.declare.new.self in
    let only = no_rule_here c.declare.new.self (with_one d.env c.args.name.now (FunctionNamed c.in_ok-number.number (type_at d.env.table.types c.args.ty))) (declarable d.env.env c.args.from c.args.name.now) c.in_err-declare.field-0.0 (may_be_declared d.env.env c.args.from c.args.name.now c.requires.allowed c.requires.fresh) c.in_err-declare.ensures.agrees in
    failed_so d new (IsFunctionPlace new) _ c.from_residual-in_err-declare.result Memory (q.1 ∙ ap Err (q.2 ∙ only)) (no_memory d new (IsFunctionPlace new) _)

pub returns-in_err-name : goal.returns-in_err-name
returns-in_err-name c =
    let q = err_from_is_err_and c.from_residual-in_err-name.result c.from_residual-in_err-name.ensures.1 in
    let d = c.args.self.now in
    let new = going_on d c.declare.new.self in
    failed_so d new (IsFunctionPlace new) _ c.from_residual-in_err-name.result Memory (q.1 ∙ ap Err q.2) (no_memory d new (IsFunctionPlace new) _)

pub returns-in_err-append : goal.returns-in_err-append
returns-in_err-append c =
    let q = err_from_is_err_and c.from_residual-in_err-append.result c.from_residual-in_err-append.ensures.1 in
    let d = c.args.self.now in
    let new = record (going_on d c.declare.new.self) { functions = c.append.new.items } in
    failed_so d new (IsFunctionPlace new) _ c.from_residual-in_err-append.result Memory (q.1 ∙ ap Err q.2) (no_memory d new (IsFunctionPlace new) _)

pub returns : goal.returns
returns c =
    let d = c.args.self.now in
    let s = c.declare.new.self in
    let named = agreed (declarable d.env.env c.args.from c.args.name.now) c.in_ok-declare.ensures.agrees in
    let made : List ℕ → List Function = λ name. d.functions.items ++ record { name = name; ty = c.args.ty; body = None } ∷ [] in
    function_new d s (record (going_on d s) { functions = c.append.new.items }) c.args.name.now c.args.ty c.in_ok-number.number c.requires.sound c.requires.ty named refl
    (c.in_ok-append.ensures.ok ∙ ap made c.in_ok-name.ensures.bytes) (c.in_ok-number.ensures ∙ ap (λ n. n + first_source_function) (c.len-place.ensures ∙ d.functions.ok.0)) c.args.from c.len-place.result (c.len-place.ensures ∙ d.functions.ok.0)
