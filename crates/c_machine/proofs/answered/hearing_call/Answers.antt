use Rattle.std.proofs.Common.{◌<◌, sym, ◌∙◌, arith}
use Rattle.c_machine.proofs.Hears.{alloc_hears, free_hears}
use Rattle.c_machine.proofs.answered.hearing_call.Goals as goal

pub returns-then-func-eq0 : goal.returns-then-func-eq0
returns-then-func-eq0 c = λ l vs le. alloc_hears l c.args.a.now c.args.func c.args.n vs le (sym c.is_pool.ensures ∙ c.if-not-is_pool.false) c.if-func-eq0.true

pub returns-else-func-eq0 : goal.returns-else-func-eq0
returns-else-func-eq0 c = λ l vs le.
    let some : 0 < c.args.func = omega arith in
    free_hears l c.args.a.now c.args.func c.args.n vs le (sym c.is_pool.ensures ∙ c.if-not-is_pool.false) some
