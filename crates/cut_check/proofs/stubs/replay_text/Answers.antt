use Rattle.std.proofs.Common.{◌∙◌}
use Rattle.std.proofs.lemmas.Result.{IfOk-weaker}
use Rattle.stub_operations.specs.declared.purpose.Purpose.TheVariants.{Replay}
use Rattle.cut_check.proofs.Texts.{stubs_text_is}
use Rattle.cut_check.proofs.stubs.replay_text.Goals as goal

pub returns : goal.returns
returns c = λ cut p a is.
    IfOk-weaker c.text.result _ _
    (λ v e. e ∙ stubs_text_is Replay cut p a c.args.source.now c.in_ok-stubs.stubs is c.in_ok-stubs.ensures) c.text.ensures
