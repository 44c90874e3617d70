use Rattle.std.proofs.Common.{◌∙◌, sym}
use Rattle.r2_cli.proofs.Lists.{one_word, same_bytes}
use Rattle.r2_cli.proofs.forms.help_form.Goals as goal

pub returns-in-len1-clause-form : goal.returns-in-len1-clause-form
returns-in-len1-clause-form c = (
  one_word _ _ c.word-item.result _ c.in-len1.len_at_least c.in-len1.len_below c.word-item.is (sym c.as_str.ensures.value ∙ same_bytes _ _ (sym c.eq.ensures ∙ c.if-eq.true)),
  tt,
)
