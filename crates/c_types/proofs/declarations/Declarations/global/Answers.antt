use Rattle.std.proofs.Common.{◌<◌, ◌++◌, ◌∷◌, [], ℕ, List, length, Err, sym, ap, ◌∙◌, refl, subst}
use Rattle.std.proofs.lemmas.Result.{err_from_is_err_and}
use Rattle.c_types_rules.specs.Environment.{declarable}
use Rattle.c_types_operators.specs.declared.error.TypeError.TheVariants.{Memory}
use Rattle.c_types_program.specs.declared.global.Global.{Global}
use Rattle.c_types.proofs.Followed.{going_on}
use Rattle.c_types.proofs.GlobalSteps.{global_added, global_value_stops, not_complete, not_declared}
use Rattle.c_types.proofs.Naming.{IsProgramOf}
use Rattle.c_types.proofs.Parts.{decl_inside, rest_of}
use Rattle.c_types.proofs.Pushed.{agreed}
use Rattle.c_types.proofs.Stepping.{failed_so, no_memory}
use Rattle.c_types.proofs.declarations.Declarations.global.Goals as goal

pub decl-decl-requires : goal.decl-decl-requires
decl-decl-requires c = record { inside = decl_inside c.args.tree.now c.args.id c.requires.id }

pub heard_value-requires-clause-rest : goal.heard_value-requires-clause-rest
heard_value-requires-clause-rest c = rest_of c.args.tree.now c.args.id c.decl-decl.result.now c.requires.id c.decl-decl.ensures.node

pub heard_value-requires-clause-ty : goal.heard_value-requires-clause-ty
heard_value-requires-clause-ty c =
    let named = agreed (declarable c.args.self.now.env.env c.decl-decl.result.now.from c.name_of.result.now) c.in_ok-declare.ensures.agrees in
    subst (λ s. c.args.ty.0 < length s.table.types) (sym named) c.requires.ty

pub returns-in_err-complete : goal.returns-in_err-complete
returns-in_err-complete c =
    let q = err_from_is_err_and c.from_residual.result c.from_residual.ensures.1 in
    let d = c.args.self.now in
    let e = c.decl-decl.result.now in
    λ y z. failed_so d d (IsProgramOf d) _ c.from_residual.result c.in_err-complete.field-0.0 (q.1 ∙ ap Err q.2)
    (not_complete c.args.tree.now c.args.id e c.decl-decl.ensures.node d c.requires.sound c.args.ty c.requires.ty _ refl (length d.globals.items) refl c.in_err-complete.field-0.0 c.in_err-complete.ensures.agrees y z)

pub returns-in_err-place : goal.returns-in_err-place
returns-in_err-place c =
    let q = err_from_is_err_and c.from_residual-in_err-place.result c.from_residual-in_err-place.ensures.1 in
    let d = c.args.self.now in
    λ y z. failed_so d d (IsProgramOf d) _ c.from_residual-in_err-place.result Memory (q.1 ∙ ap Err q.2) (no_memory d d (IsProgramOf d) _)

pub returns-in_err-declare : goal.returns-in_err-declare
returns-in_err-declare c =
    let q = err_from_is_err_and c.from_residual-in_err-declare.result c.from_residual-in_err-declare.ensures.1 in
    let d = c.args.self.now in
    let e = c.decl-decl.result.now in
    let new = going_on d c.declare.new.self in
    λ y z. failed_so d new (IsProgramOf new) _ c.from_residual-in_err-declare.result c.in_err-declare.field-0.0 (q.1 ∙ ap Err q.2)
    (not_declared c.args.tree.now c.args.id e c.decl-decl.ensures.node d c.requires.sound c.args.ty c.requires.ty c.name_of.result.now c.name_of.ensures c.in_ok-place.place (c.in_ok-place.ensures ∙ (c.len.ensures ∙ d.globals.ok.0)) c.in_ok-complete.ensures.agrees c.declare.new.self c.in_err-declare.field-0.0 c.in_err-declare.ensures.agrees c.in_err-declare.ensures.err y z)

pub returns-in_err-value : goal.returns-in_err-value
returns-in_err-value c =
    let q = err_from_is_err_and c.from_residual-in_err-value.result c.from_residual-in_err-value.ensures.1 in
    let d = c.args.self.now in
    let e = c.decl-decl.result.now in
    let new = going_on d c.heard_value.new.env in
    λ y z. failed_so d new (IsProgramOf new) _ c.from_residual-in_err-value.result c.in_err-value.field-0.0 (q.1 ∙ ap Err q.2)
    (global_value_stops c.args.tree.now c.args.id e c.decl-decl.ensures.node d c.requires.sound c.args.ty c.requires.ty c.name_of.result.now c.name_of.ensures c.in_ok-place.place (c.in_ok-place.ensures ∙ (c.len.ensures ∙ d.globals.ok.0)) c.in_ok-complete.ensures.agrees c.declare.new.self c.in_ok-declare.ensures.agrees
    c.heard_value.new.env c.in_err-value.field-0.0 c.in_err-value.ensures.agrees y z)

pub returns-in_err-name : goal.returns-in_err-name
returns-in_err-name c =
    let q = err_from_is_err_and c.from_residual-in_err-name.result c.from_residual-in_err-name.ensures.1 in
    let d = c.args.self.now in
    let new = going_on d c.heard_value.new.env in
    λ y z. failed_so d new (IsProgramOf new) _ c.from_residual-in_err-name.result Memory (q.1 ∙ ap Err q.2) (no_memory d new (IsProgramOf new) _)

pub returns-in_err-append : goal.returns-in_err-append
returns-in_err-append c =
    let q = err_from_is_err_and c.from_residual-in_err-append.result c.from_residual-in_err-append.ensures.1 in
    let d = c.args.self.now in
    let new = record (going_on d c.heard_value.new.env) { globals = c.append.new.items } in
    λ y z. failed_so d new (IsProgramOf new) _ c.from_residual-in_err-append.result Memory (q.1 ∙ ap Err q.2) (no_memory d new (IsProgramOf new) _)

pub returns : goal.returns
returns c =
    let d = c.args.self.now in
    let e = c.decl-decl.result.now in
    let u = c.heard_value.new.env in
    let made : List ℕ → List Global = λ name. d.globals.items ++ record { name = name; ty = c.args.ty; value = c.in_ok-value.value; unevaluated = c.in_ok-value.unevaluated } ∷ [] in
    global_added c.args.tree.now c.args.id e c.decl-decl.ensures.node d c.requires.sound c.args.ty c.requires.ty c.name_of.result.now c.name_of.ensures c.in_ok-place.place (c.in_ok-place.ensures ∙ (c.len.ensures ∙ d.globals.ok.0)) c.in_ok-complete.ensures.agrees
    c.declare.new.self c.in_ok-declare.ensures.agrees u c.in_ok-value.value c.in_ok-value.unevaluated c.in_ok-value.ensures.agrees c.in_ok-value.ensures.inside c.in_ok-value.ensures.kept (record (going_on d u) { globals = c.append.new.items }) refl
    (c.in_ok-append.ensures.ok ∙ ap made (c.in_ok-name.ensures.bytes ∙ (c.name_of-2.ensures ∙ sym c.name_of.ensures)))
