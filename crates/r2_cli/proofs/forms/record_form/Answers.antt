use Rattle.std.proofs.Common.{◌∙◌, sym}
use Rattle.r2_cli.proofs.Lists.{six_words, same_bytes}
use Rattle.r2_cli.proofs.Recordings.{recorded_by, unrecorded_by}
use Rattle.r2_cli.proofs.forms.record_form.Goals as goal

pub returns-in-len6-clause-form : goal.returns-in-len6-clause-form
returns-in-len6-clause-form c =
    recorded_by _ _ _ _ _ _ _ (six_words _ _ c.word-item.result c.source-item.result c.cut-item.result c.system-item.result c.log-item.result c.report-item.result _ _ _ _ _ _ c.in-len6.len_at_least c.in-len6.len_below
    c.word-item.is c.source-item.is c.cut-item.is c.system-item.is c.log-item.is c.report-item.is (sym c.as_str.ensures.value ∙ same_bytes _ _ (sym c.eq.ensures ∙ c.if-eq.true)) (sym c.as_str-in-len6.ensures.value)
    (sym c.as_str-in-len6-2.ensures.value) (sym c.as_str-in-len6-3.ensures.value) (sym c.as_str-in-len6-4.ensures.value) (sym c.as_str-in-len6-5.ensures.value)) c.recorded.ensures.form

pub returns-in-len6-clause-none : goal.returns-in-len6-clause-none
returns-in-len6-clause-none c =
    unrecorded_by _ _ _ _ _ _ _ (six_words _ _ c.word-item.result c.source-item.result c.cut-item.result c.system-item.result c.log-item.result c.report-item.result _ _ _ _ _ _ c.in-len6.len_at_least c.in-len6.len_below
    c.word-item.is c.source-item.is c.cut-item.is c.system-item.is c.log-item.is c.report-item.is (sym c.as_str.ensures.value ∙ same_bytes _ _ (sym c.eq.ensures ∙ c.if-eq.true)) (sym c.as_str-in-len6.ensures.value)
    (sym c.as_str-in-len6-2.ensures.value) (sym c.as_str-in-len6-3.ensures.value) (sym c.as_str-in-len6-4.ensures.value) (sym c.as_str-in-len6-5.ensures.value)) c.recorded.ensures.none
