use Rattle.std.proofs.Common.{sym, ◌∙◌}
use Rattle.c_machine_stack.specs.Stacks.{held}
use Rattle.c_machine.proofs.Acting.{call_out}
use Rattle.c_machine.proofs.act_call.call.Goals as goal

pub returns : goal.returns
returns c = λ l. call_out l c.args.a c.args.func c.args.n c.next.result (held c.args.values.now) c.requires.enough (sym c.is_pool.ensures ∙ c.if-is_pool.false) c.next.ensures
