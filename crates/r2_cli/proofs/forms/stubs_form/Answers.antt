use Rattle.std.proofs.Common.{◌∙◌, sym}
use Rattle.r2_cli.proofs.Lists.{three_words, same_bytes, not_empty}
use Rattle.r2_cli.proofs.forms.stubs_form.Goals as goal

pub returns-in-len3-clause-form : goal.returns-in-len3-clause-form
returns-in-len3-clause-form c = (
  three_words _ _ c.word-item.result c.source-item.result c.cut-item.result _ _ _ c.in-len3.len_at_least c.in-len3.len_below c.word-item.is c.source-item.is c.cut-item.is
      (sym c.as_str.ensures.value ∙ same_bytes _ _ (sym c.eq.ensures ∙ c.if-eq.true)) (sym c.as_str-in-len3.ensures.value) (sym c.as_str-in-len3-2.ensures.value),
  λ empty. not_empty _ _ c.is_empty.ensures c.if-not-is_empty.true (c.as_str-then-eq.ensures.value ∙ sym c.as_str-in-len3.ensures.value ∙ empty),
)
