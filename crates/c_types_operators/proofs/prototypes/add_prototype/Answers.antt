use Rattle.std.proofs.Common.{◌∙◌}
use Rattle.std.proofs.lemmas.Result.{IfOk-weaker}
use Rattle.c_builtins.specs.Table.{prototype_of}
use Rattle.c_types_model.specs.Types.{FunctionOf}
use Rattle.c_types_table.specs.Tables.{all_at, type_at, types_of}
use Rattle.c_types_nodes.specs.Tables.{Names}
use Rattle.c_types_operators.proofs.Parameters.{named_are, named_below, prototype_made}
use Rattle.c_types_operators.proofs.prototypes.add_prototype.Goals as goal

pub add_type-requires : goal.add_type-requires
add_type-requires c =
    let result = c.add_parameters.ensures.kept.types.names c.in_ok-result.result _ c.in_ok-result.ensures.names in
    record { parts = (result.inside, named_below _ _ _ c.in_ok-params.ensures.names) }

pub returns-clause-names : goal.returns-clause-names
returns-clause-names c =
    let types = c.add_parameters.new.table.types in
    let result = c.add_parameters.ensures.kept.types.names c.in_ok-result.result _ c.in_ok-result.ensures.names in
    let made = prototype_made c.args.builtin (type_at types c.in_ok-result.result) (all_at (types_of types) c.in_ok-params.params) (result.is ∙ c.result.ensures) (named_are types c.in_ok-params.params c.params.result.now c.in_ok-params.ensures.names ∙ c.params.ensures) in
    IfOk-weaker c.add_type.result (λ id. Names c.add_type.new.self.types id (FunctionOf (type_at types c.in_ok-result.result) (all_at (types_of types) c.in_ok-params.params))) (λ id. Names c.add_type.new.self.types id (prototype_of c.args.builtin))
    (λ id h. record { inside = h.inside; is = h.is ∙ made })
    c.add_type.ensures.names
