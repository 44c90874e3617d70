use Rattle.std.proofs.Common.{None, Some, sym, ap, ◌∙◌}
use Rattle.c_types_table.specs.Tables.{type_at, types_of}
use Rattle.c_types_environment.specs.Reading.{maybe_by, meaning_by}
use Rattle.c_types.proofs.FunctionSteps.{allowed_function, reserved_function}
use Rattle.c_types.proofs.declarations.Declarations.function_declared.Goals as goal

pub returns-then-is_reserved : goal.returns-then-is_reserved
returns-then-is_reserved c = reserved_function c.args.self.now c.args.from (type_at c.args.self.now.env.table.types c.args.ty) c.args.name.now (sym c.is_reserved.ensures ∙ c.if-is_reserved.true)

pub new_function-requires-clause-allowed : goal.new_function-requires-clause-allowed
new_function-requires-clause-allowed c = sym c.is_reserved.ensures ∙ c.if-is_reserved.false

pub new_function-requires-clause-fresh : goal.new_function-requires-clause-fresh
new_function-requires-clause-fresh c = sym c.find_here.ensures.meaning ∙ ap (maybe_by (types_of c.args.self.now.env.table.types)) c.in-None.is

pub returns-in-Some : goal.returns-in-Some
returns-in-Some c =
    let d = c.args.self.now in
    let types = d.env.table.types in
    allowed_function d c.args.from (type_at types c.args.ty) c.args.name.now (Some (meaning_by (types_of types) c.in-Some.meaning)) d c.declared_again.result (sym c.is_reserved.ensures ∙ c.if-is_reserved.false)
    (sym (ap (maybe_by (types_of types)) c.in-Some.is) ∙ c.find_here.ensures.meaning) (c.declared_again.ensures c.args.name.now)

pub returns-in-None : goal.returns-in-None
returns-in-None c =
    let d = c.args.self.now in
    let types = d.env.table.types in
    allowed_function d c.args.from (type_at types c.args.ty) c.args.name.now None c.new_function.new.self c.new_function.result (sym c.is_reserved.ensures ∙ c.if-is_reserved.false)
    (sym (ap (maybe_by (types_of types)) c.in-None.is) ∙ c.find_here.ensures.meaning) c.new_function.ensures
