use Rattle.std.proofs.Common.{ℕ, List, ap, ◌∙◌}
use Rattle.std.proofs.lemmas.Result.{IfOk-weaker}
use Rattle.r2_cli_outcome.specs.declared.status.Status.TheVariants.{Done}
use Rattle.r2_cli_outcome.specs.Outcome.{printed}
use Rattle.r2_cli.proofs.commands.stubs_of.Goals as goal

pub returns : goal.returns
returns c = λ bytes cut h.
    let text = c.in_ok-text.text.items in
    IfOk-weaker c.print.result _ _
    (λ plan e. (text, c.in_ok-text.ensures bytes cut h, e ∙ ap (λ (line : List ℕ). printed Done text line) c.new.ensures.items)) c.print.ensures
