use Rattle.std.proofs.Common.{◌≡◌, List, Err, Ok, length, sym, ap, ◌∙◌, subst}
use Rattle.std.proofs.lemmas.Result.{err_from_is_err_and}
use Rattle.std.specs.List.{All}
use Rattle.c_types_table.specs.Tables.{IsBelow}
use Rattle.c_types_rules.specs.Checked.{heard}
use Rattle.c_types_rules.specs.Sources.{block_of}
use Rattle.c_types_nodes.specs.declared.ids.NodeId.{NodeId}
use Rattle.c_types_nodes.specs.Lists.{AreNodes}
use Rattle.c_types_nodes.proofs.Lists.{are_nodes_kept}
use Rattle.c_types_environment.specs.States.{State}
use Rattle.c_types_expressions.specs.Found.{Finds}
use Rattle.c_types_expressions.proofs.Wholes.{failed}
use Rattle.c_types_statements.specs.Typed.{declared_in, place_in}
use Rattle.c_types_statements.proofs.OfBodies.{IsBlock, aside_broken, aside_stays, block_heard, block_stays}
use Rattle.c_types_statements.proofs.bodies.heard_block.Goals as goal

pub outermost-requires : goal.outermost-requires
outermost-requires c =
    let there : State → Type 0 = λ s. IsBelow (length s.table.types) c.args.place.result × All (IsBelow (length s.table.types)) c.args.locals.now.items in
    let both = subst there (sym c.set_aside-before.ensures.taken) (c.requires.place, c.requires.locals) in
    record { id = c.requires.id; place = both.0; locals = both.1 }

pub part_unevaluated-requires : goal.part_unevaluated-requires
part_unevaluated-requires c =
    let a = c.args.env.now in
    let b = c.outermost.new.env in
    let k = aside_stays a c.set_aside-before.new.self b c.set_aside-before.ensures.taken c.in_ok-statement.ensures.kept in
    are_nodes_kept a.table b.table k.numbers c.set_aside-before.result.items c.set_aside-before.ensures.inside

pub returns-in_err-statement-clause-agrees : goal.returns-in_err-statement-clause-agrees
returns-in_err-statement-clause-agrees c =
    let q = err_from_is_err_and c.from_residual.result c.from_residual.ensures.1 in
    let a = c.args.env.now in
    let b = c.outermost.new.env in
    let found = c.outermost.new.locals.items in
    let ids = c.args.locals.now.items in
    λ s h. failed _ _ (IsBlock b found) (heard (block_of s (place_in a c.args.place) (declared_in a ids))) c.from_residual.result c.in_err-statement.field-0.0 (q.1 ∙ ap Err q.2)
    (aside_broken a c.set_aside-before.new.self b c.set_aside-before.ensures.taken c.args.place ids found s c.in_err-statement.field-0.0 (c.in_err-statement.ensures.agrees s h))

pub returns-in_err-statement-clause-kept : goal.returns-in_err-statement-clause-kept
returns-in_err-statement-clause-kept c = aside_stays c.args.env.now c.set_aside-before.new.self c.outermost.new.env c.set_aside-before.ensures.taken c.in_err-statement.ensures.kept

pub returns-clause-agrees : goal.returns-clause-agrees
returns-clause-agrees c =
    let a = c.args.env.now in
    let b = c.outermost.new.env in
    let new = c.part_unevaluated.new.self in
    let found = c.outermost.new.locals.items in
    let ids = c.args.locals.now.items in
    let made = c.in_ok-statement.statement in
    let back : new ≡ record b { unevaluated = a.unevaluated } = c.part_unevaluated.ensures.back ∙ ap (λ xs. record b { unevaluated = xs }) c.set_aside-before.ensures.before in
    λ s h. let P : List NodeId → Type 0 = λ xs. Finds a new (IsBlock new found) (heard (block_of s (place_in a c.args.place) (declared_in a ids))) (Ok (made, xs)) in
    subst P (sym c.part_unevaluated.ensures.part)
    (block_heard a c.set_aside-before.new.self b c.set_aside-before.ensures.taken new back c.args.place ids found s made (subst (AreNodes a.table) c.set_aside-before.ensures.before c.set_aside-before.ensures.inside) c.in_ok-statement.ensures.kept (c.in_ok-statement.ensures.agrees s h))

pub returns-clause-kept : goal.returns-clause-kept
returns-clause-kept c =
    let a = c.args.env.now in
    let b = c.outermost.new.env in
    block_stays a c.set_aside-before.new.self b c.set_aside-before.ensures.taken c.part_unevaluated.new.self (c.part_unevaluated.ensures.back ∙ ap (λ xs. record b { unevaluated = xs }) c.set_aside-before.ensures.before) c.in_ok-statement.ensures.kept

pub returns-clause-locals : goal.returns-clause-locals
returns-clause-locals c =
    let there : State → Type 0 = λ s. All (IsBelow (length s.table.types)) c.outermost.new.locals.items in
    subst there (sym c.part_unevaluated.ensures.back) c.in_ok-statement.ensures.locals

pub returns-clause-inside : goal.returns-clause-inside
returns-clause-inside c =
    let there : State → Type 0 = λ s. AreNodes s.table c.part_unevaluated.result in
    subst there (sym c.part_unevaluated.ensures.back) c.part_unevaluated.ensures.inside
