use Rattle.std.proofs.Common.{◌≡◌, sym, ap, ◌∙◌, Some}
use Rattle.c_types_model.specs.Types.{Integer}
use Rattle.c_types_rules.specs.TypedTree.{result_kind, value_type}
use Rattle.c_types_nodes.specs.Parts.{value_in}
use Rattle.c_types_nodes.specs.Tables.{made_in}
use Rattle.c_types_nodes.proofs.Ranges.{any_of, arithmetic_range}
use Rattle.c_types_nodes.proofs.table.TypedTable.+constant_value.Goals as goal

pub returns-in_ok-value-in-Negate-clause-any : goal.returns-in_ok-value-in-Negate-clause-any
returns-in_ok-value-in-Negate-clause-any t c = any_of c.in-Negate.kind c.wrap-in-Negate.result c.wrap-in-Negate.ensures.range

pub returns-in_ok-value-in-Complement-clause-any : goal.returns-in_ok-value-in-Complement-clause-any
returns-in_ok-value-in-Complement-clause-any t c = any_of c.in-Complement.kind c.wrap-in-Complement.result c.wrap-in-Complement.ensures.range

pub returns-in_ok-right-in-Arithmetic-clause-range : goal.returns-in_ok-right-in-Arithmetic-clause-range
returns-in_ok-right-in-Arithmetic-clause-range t c = λ k e.
    let same : Integer (result_kind c.in-Arithmetic.op c.in-Arithmetic.kind) ≡ Integer k =
    sym (ap (λ o. value_type (value_in o)) c.get.ensures.meaning ∙ ap (λ n. value_type (value_in (Some (made_in c.args.self.now n)))) c.in-Arithmetic.is) ∙ e in
    arithmetic_range c.in-Arithmetic.op c.in-Arithmetic.kind k _ _ c.binary.result c.ok.result c.binary.ensures.answer c.binary.ensures.range c.ok.ensures.value same
