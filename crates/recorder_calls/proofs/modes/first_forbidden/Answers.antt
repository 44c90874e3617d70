use Rattle.std.proofs.Common.{sym, ◌∙◌}
use Rattle.recorder_calls.proofs.FirstForbidden.{here, next, none}
use Rattle.recorder_calls.proofs.modes.first_forbidden.Goals as goal

pub returns-then-not-may_run : goal.returns-then-not-may_run
returns-then-not-may_run c = c.loop-func.invariant _ (here c.args.flags.now c.args.funcs.now c.loop-func.func-index _ c.loop-func-test.true (sym c.may_run.ensures ∙ c.if-not-may_run.true))

pub loop-func-preserved : goal.loop-func-preserved
loop-func-preserved c = λ found h. c.loop-func.invariant found (next c.args.flags.now c.args.funcs.now c.loop-func.func-index _ found c.loop-func-test.true (sym c.may_run.ensures ∙ c.if-not-may_run.false) h)

pub returns : goal.returns
returns c = c.loop-func.invariant _ (none c.args.flags.now c.args.funcs.now c.loop-func.func-index c.loop-func-test.false)
