use Rattle.std.proofs.Common.{◌++◌, ap, ◌∙◌}
use Rattle.c_code.specs.Machine.{func_of}
use Rattle.stub_meaning.specs.Calls.{Done}
use Rattle.stub_meaning.specs.Meaning.{called}
use Rattle.stub_calls.proofs.Sorted.{ok_so}
use Rattle.stub_calls.proofs.done.Done.fill_at_return.Goals as goal

pub returns-then-say_nothing-clause-done : goal.returns-then-say_nothing-clause-done
returns-then-say_nothing-clause-done c = c.clear-then-say_nothing.ensures ∙ c.say_nothing.ensures c.if-say_nothing.true c.args.code.now (called (func_of c.args.code.now c.args.func) c.args.args.now c.args.returned)

pub returns-then-say_nothing-clause-held : goal.returns-then-say_nothing-clause-held
returns-then-say_nothing-clause-held c = c.clear.ensures.items ∙ ap (λ (d : Done). d.outs) (c.say_nothing.ensures c.if-say_nothing.true c.args.code.now (called (func_of c.args.code.now c.args.func) c.args.args.now 0))

pub returns-clause-held : goal.returns-clause-held
returns-clause-held c =
    ok_so c.fill-2.result
    (λ _. c.in_ok-extend_from_slice.ensures.items ∙ ((λ j. c.clear.ensures.items j ++ c.outs.ensures j) ∙ ap (λ (d : Done). d.outs) c.in_ok-fill.ensures))
    c.fill-2.ensures
