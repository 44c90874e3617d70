use Rattle.std.proofs.Common.{◌≡◌, ℕ, Err, Ok, length, arith, sym, ap, ◌∙◌, subst}
use Rattle.std.proofs.lemmas.Result.{err_from_is_err_and}
use Rattle.std.specs.List.{All}
use Rattle.c_types_table.specs.Tables.{IsBelow, type_at}
use Rattle.c_types_rules.specs.Statements.{local}
use Rattle.c_types_expressions.specs.Found.{Finds}
use Rattle.c_types_expressions.proofs.Specifying.{specified_on}
use Rattle.c_types_expressions.proofs.Kept.{stay_around, then_kept, then_stay_around, type_inside}
use Rattle.c_types_expressions.proofs.Wholes.{failed, type_found}
use Rattle.c_types_statements.specs.Pieces.{local_scope}
use Rattle.c_types_statements.specs.Typed.{IsLocal, declared_in}
use Rattle.c_types_statements.proofs.Declaring.{naming_is, offset_is, rest_stands}
use Rattle.c_types_statements.proofs.Firsts.{IsPlace, local_found, local_name_broken, local_type_broken, local_value_broken}
use Rattle.c_types_statements.proofs.Kept.{below_kept, one_more_below}
use Rattle.c_types_expressions.proofs.Constructs.{decl_inside}
use Rattle.c_types_statements.proofs.Parts.{rest_is}
use Rattle.c_types_statements.proofs.locals.local.Goals as goal

pub decl-decl-requires : goal.decl-decl-requires
decl-decl-requires c = record { inside = decl_inside c.args.tree.now c.args.id c.requires.id }

pub declare-requires : goal.declare-requires
declare-requires c = type_found _ _ c.local_type.new.env.table _ _ (c.in_ok-ty.ensures.agrees c.requires.id.0 c.requires.id.1)

pub first_value-requires : goal.first_value-requires
first_value-requires c = record {
  rest = rest_is c.args.tree.now c.args.id c.decl-decl.result.now c.requires.id c.decl-decl.ensures.node;
  ty = type_inside _ _ _ c.in_ok-place.ensures.kept.numbers (type_found _ _ c.local_type.new.env.table _ _ (c.in_ok-ty.ensures.agrees c.requires.id.0 c.requires.id.1));
}

pub returns-in_err-ty-clause-agrees : goal.returns-in_err-ty-clause-agrees
returns-in_err-ty-clause-agrees c =
    let q = err_from_is_err_and c.from_residual.result c.from_residual.ensures.1 in
    let a = c.args.env.now in
    let b = c.local_type.new.env in
    let ids = c.args.locals.now.items in
    λ d h. failed _ _ (IsLocal b ids) (local d (declared_in a ids)) c.from_residual.result c.in_err-ty.field-0.0 (q.1 ∙ ap Err q.2) (local_type_broken a b d ids ids c.in_err-ty.field-0.0 (c.in_err-ty.ensures.agrees d h))

pub returns-in_err-ty-clause-kept : goal.returns-in_err-ty-clause-kept
returns-in_err-ty-clause-kept c = stay_around _ _ c.in_err-ty.ensures.kept

pub returns-in_err-ty-clause-locals : goal.returns-in_err-ty-clause-locals
returns-in_err-ty-clause-locals c = below_kept _ _ _ c.in_err-ty.ensures.kept.numbers c.requires.locals

pub returns-in_err-place-clause-agrees : goal.returns-in_err-place-clause-agrees
returns-in_err-place-clause-agrees c =
    let q = err_from_is_err_and c.from_residual-in_err-place.result c.from_residual-in_err-place.ensures.1 in
    let a = c.args.env.now in
    let b = c.local_type.new.env in
    let e = c.declare.new.env in
    let ids = c.args.locals.now.items in
    let node = c.decl-decl.result.now in
    let at = c.decl-decl.ensures.node in
    let len : c.len.result ≡ length ids = omega (arith, c.args.locals.now.ok.0) in
    let P : ℕ → Type 0 = λ k. Finds b e (IsPlace e k) (local_scope b.env node.from node.name k (type_at b.table.types c.in_ok-ty.ty)) (Err c.in_err-place.field-0.0) in
    λ d h. failed _ _ (IsLocal e ids) (local d (declared_in a ids)) c.from_residual-in_err-place.result c.in_err-place.field-0.0 (q.1 ∙ ap Err q.2)
    (local_name_broken a b e d ids ids c.in_ok-ty.ty (c.in_ok-ty.ensures.agrees d h) c.in_ok-ty.ensures.kept node.from node.name (offset_is c.args.tree.now c.args.id node at d h) (naming_is c.args.tree.now c.args.id node at d h) c.in_err-place.field-0.0
    (subst P len c.in_err-place.ensures.agrees))

pub returns-in_err-place-clause-kept : goal.returns-in_err-place-clause-kept
returns-in_err-place-clause-kept c = then_stay_around _ _ _ (stay_around _ _ c.in_ok-ty.ensures.kept) c.in_err-place.ensures.kept

pub returns-in_err-place-clause-locals : goal.returns-in_err-place-clause-locals
returns-in_err-place-clause-locals c = below_kept _ _ _ (then_kept _ _ _ c.in_ok-ty.ensures.kept.numbers c.in_err-place.ensures.kept.numbers) c.requires.locals

pub returns-in_err-first-clause-agrees : goal.returns-in_err-first-clause-agrees
returns-in_err-first-clause-agrees c =
    let q = err_from_is_err_and c.from_residual-in_err-first.result c.from_residual-in_err-first.ensures.1 in
    let a = c.args.env.now in
    let b = c.local_type.new.env in
    let e = c.declare.new.env in
    let f = c.first_value.new.env in
    let ids = c.args.locals.now.items in
    let node = c.decl-decl.result.now in
    let at = c.decl-decl.ensures.node in
    let len : c.len.result ≡ length ids = omega (arith, c.args.locals.now.ok.0) in
    let P : ℕ → Type 0 = λ k. Finds b e (IsPlace e k) (local_scope b.env node.from node.name k (type_at b.table.types c.in_ok-ty.ty)) (Ok c.in_ok-place.place) in
    λ d h. failed _ _ (IsLocal f ids) (local d (declared_in a ids)) c.from_residual-in_err-first.result c.in_err-first.field-0.0 (q.1 ∙ ap Err q.2)
    (local_value_broken a b e d ids ids c.in_ok-ty.ty (c.in_ok-ty.ensures.agrees d h) c.in_ok-ty.ensures.kept node.from node.name (offset_is c.args.tree.now c.args.id node at d h) (naming_is c.args.tree.now c.args.id node at d h)
    c.in_ok-place.place (subst P len c.in_ok-place.ensures.agrees) c.in_ok-place.ensures.kept.numbers f c.in_err-first.field-0.0 (c.in_err-first.ensures.agrees _ (rest_stands c.args.tree.now c.args.id node at d h)))

pub returns-in_err-first-clause-kept : goal.returns-in_err-first-clause-kept
returns-in_err-first-clause-kept c = then_stay_around _ _ _ (stay_around _ _ c.in_ok-ty.ensures.kept) (then_stay_around _ _ _ c.in_ok-place.ensures.kept (stay_around _ _ c.in_err-first.ensures.kept))

pub returns-in_err-first-clause-locals : goal.returns-in_err-first-clause-locals
returns-in_err-first-clause-locals c = below_kept _ _ _ (then_kept _ _ _ c.in_ok-ty.ensures.kept.numbers (then_kept _ _ _ c.in_ok-place.ensures.kept.numbers c.in_err-first.ensures.kept.numbers)) c.requires.locals

pub returns-clause-agrees : goal.returns-clause-agrees
returns-clause-agrees c =
    let a = c.args.env.now in
    let b = c.local_type.new.env in
    let e = c.declare.new.env in
    let f = c.first_value.new.env in
    let ids = c.args.locals.now.items in
    let node = c.decl-decl.result.now in
    let at = c.decl-decl.ensures.node in
    let len : c.len.result ≡ length ids = omega (arith, c.args.locals.now.ok.0) in
    let P : ℕ → Type 0 = λ k. Finds b e (IsPlace e k) (local_scope b.env node.from node.name k (type_at b.table.types c.in_ok-ty.ty)) (Ok c.in_ok-place.place) in
    λ d h. local_found a b e d ids c.append.new.items.items c.in_ok-ty.ty (c.in_ok-ty.ensures.agrees d h) c.in_ok-ty.ensures.kept node.from node.name (offset_is c.args.tree.now c.args.id node at d h) (naming_is c.args.tree.now c.args.id node at d h)
    c.in_ok-place.place (subst P len c.in_ok-place.ensures.agrees) c.in_ok-place.ensures.kept.numbers f c.in_ok-first.first (c.in_ok-first.ensures.agrees _ (rest_stands c.args.tree.now c.args.id node at d h)) c.in_ok-first.ensures.kept c.requires.locals c.in_ok-append.ensures.ok

pub returns-clause-kept : goal.returns-clause-kept
returns-clause-kept c = then_stay_around _ _ _ (stay_around _ _ c.in_ok-ty.ensures.kept) (then_stay_around _ _ _ c.in_ok-place.ensures.kept (stay_around _ _ c.in_ok-first.ensures.kept))

pub returns-clause-locals : goal.returns-clause-locals
returns-clause-locals c =
    let later = then_kept _ _ _ c.in_ok-place.ensures.kept.numbers c.in_ok-first.ensures.kept.numbers in
    one_more_below _ _ _ _ c.in_ok-append.ensures.ok
    (below_kept _ _ _ (then_kept _ _ _ c.in_ok-ty.ensures.kept.numbers later) c.requires.locals)
    (type_inside _ _ _ later (type_found _ _ c.local_type.new.env.table _ _ (c.in_ok-ty.ensures.agrees c.requires.id.0 c.requires.id.1)))

pub returns-in_err-append-clause-kept : goal.returns-in_err-append-clause-kept
returns-in_err-append-clause-kept c = then_stay_around _ _ _ (stay_around _ _ c.in_ok-ty.ensures.kept) (then_stay_around _ _ _ c.in_ok-place.ensures.kept (stay_around _ _ c.in_ok-first.ensures.kept))

pub returns-in_err-append-clause-locals : goal.returns-in_err-append-clause-locals
returns-in_err-append-clause-locals c =
    let later = then_kept _ _ _ c.in_ok-place.ensures.kept.numbers c.in_ok-first.ensures.kept.numbers in
    subst (All (IsBelow (length c.first_value.new.env.table.types))) (sym c.in_err-append.ensures.err) (below_kept _ _ _ (then_kept _ _ _ c.in_ok-ty.ensures.kept.numbers later) c.requires.locals)

pub returns-clause-known : goal.returns-clause-known
returns-clause-known c =
    let later = then_kept _ _ _ c.in_ok-place.ensures.kept.numbers c.in_ok-first.ensures.kept.numbers in
    specified_on c.local_type.new.env c.first_value.new.env c.args.tree.now c.local_type.new.known later (ap (λ e. e.tags) c.in_ok-first.ensures.kept.env ∙ c.in_ok-place.ensures.kept.tags) c.in_ok-ty.ensures.known
