use Rattle.std.proofs.Common.{sym, ◌∙◌}
use Rattle.r2_cli_outcome.specs.Plans.{gives, ends}
use Rattle.r2_cli.proofs.Lists.{is_empty, not_empty}
use Rattle.r2_cli.proofs.SourceLemmas.{cut_accepted, cut_found}
use Rattle.r2_cli.proofs.source.unless_found.Goals as goal

pub returns-then-is_empty : goal.returns-then-is_empty
returns-then-is_empty c = λ bytes cut text.
    gives (cut_accepted bytes cut c.args.found.items text (sym c.as_slice.ensures.value ∙ is_empty _ _ c.is_empty.ensures c.if-is_empty.true))

pub returns : goal.returns
returns c = λ bytes cut text.
    ends (cut_found bytes cut c.args.found.items _ _ _ text (λ e. not_empty _ _ c.is_empty.ensures c.if-is_empty.false (c.as_slice.ensures.value ∙ e)) c.print_and_end.ensures)
