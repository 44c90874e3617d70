use Rattle.std.proofs.Common.{◌∙◌, sym}
use Rattle.r2_cli.proofs.Lists.{four_words, same_bytes}
use Rattle.r2_cli.proofs.Rounds.{formed_by, unformed_by}
use Rattle.r2_cli.proofs.forms.generate_form.Goals as goal

pub returns-in-len4-clause-form : goal.returns-in-len4-clause-form
returns-in-len4-clause-form c =
    formed_by _ _ _ _ _ (four_words _ _ c.word-item.result c.rounds-item.result c.source-item.result c.system-item.result _ _ _ _ c.in-len4.len_at_least c.in-len4.len_below c.word-item.is c.rounds-item.is c.source-item.is c.system-item.is
    (sym c.as_str.ensures.value ∙ same_bytes _ _ (sym c.eq.ensures ∙ c.if-eq.true)) (sym c.as_str-in-len4.ensures.value) (sym c.as_str-in-len4-2.ensures.value) (sym c.as_str-in-len4-3.ensures.value)) c.generated.ensures.form

pub returns-in-len4-clause-none : goal.returns-in-len4-clause-none
returns-in-len4-clause-none c =
    unformed_by _ _ _ _ _ (four_words _ _ c.word-item.result c.rounds-item.result c.source-item.result c.system-item.result _ _ _ _ c.in-len4.len_at_least c.in-len4.len_below c.word-item.is c.rounds-item.is c.source-item.is c.system-item.is
    (sym c.as_str.ensures.value ∙ same_bytes _ _ (sym c.eq.ensures ∙ c.if-eq.true)) (sym c.as_str-in-len4.ensures.value) (sym c.as_str-in-len4-2.ensures.value) (sym c.as_str-in-len4-3.ensures.value)) c.generated.ensures.none
