use Rattle.std.proofs.Common.{◌∙◌, sym}
use Rattle.r2_cli.proofs.Lists.{two_words, same_bytes, not_empty}
use Rattle.r2_cli.proofs.forms.order_form.Goals as goal

pub returns-in-len2-clause-form : goal.returns-in-len2-clause-form
returns-in-len2-clause-form c = (
  two_words _ _ c.word-item.result c.log-item.result _ _ c.in-len2.len_at_least c.in-len2.len_below c.word-item.is c.log-item.is
      (sym c.as_str.ensures.value ∙ same_bytes _ _ (sym c.eq.ensures ∙ c.if-eq.true)) (sym c.as_str-in-len2.ensures.value),
  λ empty. not_empty _ _ c.is_empty.ensures c.if-not-is_empty.true (c.as_str-then-eq.ensures.value ∙ sym c.as_str-in-len2.ensures.value ∙ empty),
)
