use Rattle.std.proofs.Common.{◌≡◌, None, ap, ◌∙◌}
use Rattle.c_types_rules.specs.Constants.{integer_constant}
use Rattle.c_types_nodes.specs.Tables.{Table, value_at}
use Rattle.c_types_initializers.proofs.Scalars.{address_known}
use Rattle.c_types_initializers.proofs.known.known_before.Goals as goal

pub returns-in-None-clause-agrees : goal.returns-in-None-clause-agrees
returns-in-None-clause-agrees c x h =
    let none : None ≡ integer_constant (value_at c.value_of.new.self.table c.in_ok-value.value) = c.in-None.ensures.value ∙ ap (λ (t : Table). integer_constant (value_at t c.in_ok-value.value)) c.table.ensures in
    address_known c.args.env.now c.value_of.new.self x c.args.node c.in_ok-value.value c.in_ok-value.ensures.value c.in_ok-value.ensures.kept c.address_in.new.env c.address_in.result none c.requires.node (c.address_in.ensures.agrees x h)
