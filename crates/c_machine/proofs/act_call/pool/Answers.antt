use Rattle.std.proofs.Common.{◌<◌, ap, ◌∙◌, arith}
use Rattle.c_code.specs.Machine.{first}
use Rattle.c_machine_stack.specs.Stacks.{held}
use Rattle.c_machine.proofs.Acting.{alloc_out, free_out}
use Rattle.c_machine.proofs.act_call.pool.Goals as goal

pub returns-then-func-eq0 : goal.returns-then-func-eq0
returns-then-func-eq0 c = λ l. alloc_out l c.args.a c.args.func c.args.n c.first_of-first.result (held c.args.values.now) c.requires.enough c.requires.pool c.if-func-eq0.true (c.first_of-first.ensures ∙ ap first c.top_slice.ensures)

pub returns-else-func-eq0 : goal.returns-else-func-eq0
returns-else-func-eq0 c = λ l.
    let some : 0 < c.args.func = omega arith in
    free_out l c.args.a c.args.func c.args.n c.first_of-first.result (held c.args.values.now) c.requires.enough c.requires.pool some (c.first_of-first.ensures ∙ ap first c.top_slice.ensures)
