use Rattle.std.proofs.Common.{ap, ◌∙◌}
use Rattle.c_code.specs.Machine.{func_of}
use Rattle.stub_meaning.specs.Calls.{both, done}
use Rattle.stub_meaning.specs.Meaning.{called}
use Rattle.stub_calls.proofs.Sorted.{ok_so}
use Rattle.stub_calls.proofs.done.Done.fill.Goals as goal

pub returns-then-say_nothing : goal.returns-then-say_nothing
returns-then-say_nothing c = c.clear.ensures ∙ c.say_nothing.ensures c.if-say_nothing.true c.args.code.now (called (func_of c.args.code.now c.args.func) c.args.args.now c.args.returned)

pub returns : goal.returns
returns c =
    let code = c.args.code.now in
    let d = done code (called (func_of code c.args.func) c.args.args.now c.args.returned) c.args.ops.now in
    ok_so c.add.result (λ e. e ∙ ap (λ was. both was d) c.clear.ensures) c.add.ensures
