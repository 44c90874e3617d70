use Rattle.r2_cli.proofs.FormLemmas.{is_usage}
use Rattle.r2_cli.proofs.forms.command_of.Goals as goal

pub returns-clause-none : goal.returns-clause-none
returns-clause-none c = is_usage _ _ c.in_default.ensures.none c.in_default-version_form.ensures.none c.in_default-order_form.ensures.none c.in_default-check_form.ensures.none c.in_default-stubs_form.ensures.none c.in_default-record_form.ensures.none c.generate_form.ensures.none
