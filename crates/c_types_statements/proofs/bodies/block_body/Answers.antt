use Rattle.std.proofs.Common.{sym, subst}
use Rattle.c_types_table.specs.Tables.{type_at}
use Rattle.c_types_rules.specs.Sources.{nearest}
use Rattle.c_types_expressions.specs.Found.{Stays}
use Rattle.c_types_expressions.proofs.Kept.{stay}
use Rattle.c_types_statements.proofs.Scoped.{scope_signature, scope_stays, scoped_body, still_open}
use Rattle.c_types_statements.proofs.bodies.block_body.Goals as goal

pub body_here-body-requires : goal.body_here-body-requires
body_here-body-requires c =
    let sig = c.in_ok-signature.signature in
    let is = scope_signature c.args.env.now c.open_scope.new.self c.in_ok-open_scope.ensures.opened (type_at c.args.env.now.table.types c.args.ty) sig c.in_ok-signature.ensures in
    record { ids = c.nearest_params.ensures.inside c.args.tree.now c.requires.parts; id = c.requires.id; result = is.result.inside; params = is.inside }

pub close_scope-requires : goal.close_scope-requires
close_scope-requires c = still_open c.open_scope.new.self c.body_here-body.new.env c.in_ok-open_scope.ensures.within c.body_here-body.ensures.kept

pub returns-clause-agrees : goal.returns-clause-agrees
returns-clause-agrees c =
    let a = c.args.env.now in
    let o = c.open_scope.new.self in
    let b = c.body_here-body.new.env in
    let e = c.close_scope.new.self in
    let t = type_at a.table.types c.args.ty in
    λ ps s h k. scoped_body a o b e c.in_ok-open_scope.ensures.opened c.close_scope.ensures t ps s c.body_here-body.result
    (c.body_here-body.ensures.agrees t (nearest ps) s (scope_signature a o c.in_ok-open_scope.ensures.opened t c.in_ok-signature.signature c.in_ok-signature.ensures) (c.nearest_params.ensures.stand c.args.tree.now ps h) k)

pub returns-clause-kept : goal.returns-clause-kept
returns-clause-kept c = scope_stays c.args.env.now c.open_scope.new.self c.body_here-body.new.env c.close_scope.new.self c.in_ok-open_scope.ensures.opened c.close_scope.ensures c.body_here-body.ensures.kept

pub returns-in_err-open_scope-clause-kept : goal.returns-in_err-open_scope-clause-kept
returns-in_err-open_scope-clause-kept c = subst (Stays c.args.env.now) (sym c.in_err-open_scope.ensures.err) (stay c.args.env.now)

pub returns-in_err-signature-clause-kept : goal.returns-in_err-signature-clause-kept
returns-in_err-signature-clause-kept c = stay c.args.env.now
