use Rattle.std.proofs.Common.{None, Ok, Some, refl}
use Rattle.c_syntax.specs.Syntax.{Initial, NoRest, Plain}
use Rattle.c_types_table.specs.Tables.{type_at}
use Rattle.c_types_statements.proofs.Added.{none_stand}
use Rattle.c_types_statements.proofs.Firsts.{followed, one_first, opened_plain, plain_inside, rest_none, rest_plain}
use Rattle.c_types_statements.proofs.locals.first_value.Goals as goal

pub returns-in-None-clause-agrees : goal.returns-in-None-clause-agrees
returns-in-None-clause-agrees c =
    let a = c.args.env.now in
    let t = type_at a.table.types c.args.ty in
    λ r h. followed a a c.args.from c.args.place t r NoRest (Ok None) (rest_none c.args.tree.now c.args.rest.now r c.in-None.is h) (none_stand a.table, refl)

pub initial-requires-clause-value : goal.initial-requires-clause-value
initial-requires-clause-value c = plain_inside c.args.tree.now c.args.rest.now c.in-Value-Plain.field-0 c.in-Value-Plain.value c.in-Value-Plain.is (opened_plain c.in-Value-Plain.field-0 c.in-Value-Plain.value (rw c.in-Value-Plain.is at c.in-Value-Plain.field-0-is)) c.requires.rest

pub returns-in_ok-first-in-Value-Plain-clause-agrees : goal.returns-in_ok-first-in-Value-Plain-clause-agrees
returns-in_ok-first-in-Value-Plain-clause-agrees c =
    let a = c.args.env.now in
    let b = c.initial.new.env in
    let t = type_at a.table.types c.args.ty in
    λ r h.
    let p = rest_plain c.args.tree.now c.args.rest.now c.in-Value-Plain.field-0 c.in-Value-Plain.value r c.in-Value-Plain.is (opened_plain c.in-Value-Plain.field-0 c.in-Value-Plain.value (rw c.in-Value-Plain.is at c.in-Value-Plain.field-0-is)) h in
    let s = c.in_ok-first-in-Value-Plain.first in
    followed a b c.args.from c.args.place t r (Initial (Plain p.0)) (Ok (Some s)) p.1 (one_first a b c.args.from c.args.place t p.0 s (c.in_ok-first-in-Value-Plain.ensures.agrees p.0 p.2))
