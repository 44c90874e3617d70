use Rattle.std.proofs.Common.{◌≡◌, ◌+◌, ◌<◌, ℕ, List, get_or, length, refl, sym, ap, ◌∙◌, subst}
use Rattle.std.specs.Prelude.{Option, Some, slice_get}
use Rattle.std.proofs.lemmas.Option.{slice_get_read}
use Rattle.cut_graph_rules.specs.declared.mention.Mention.{Mention}
use Rattle.isolation_check_rows.specs.Rows.{IsEmpty}
use Rattle.isolation_check_findings.specs.Named.{IsNotedByValues}
use Rattle.isolation_check_findings.proofs.Noted.{are_named, tables_of}
use Rattle.isolation_check_findings.proofs.named.named.Goals as goal

pub note_values-requires : goal.note_values-requires
note_values-requires c =
    let t = tables_of c.number-function.result (length c.globals-values.result.now) c.as_slice-names.result.now
    c.in_ok-tables.tables.items c.note-2.new.row.items c.in_ok-tables.ensures c.note-2.ensures in
    ap (λ (ts : List (Option ℕ)). length ts) c.deref.ensures.value ∙ t.0

pub returns : goal.returns
returns c =
    let n = c.args.mentions.now in
    let place = c.args.place in
    let f = c.number-function.result in
    let names = c.as_slice-names.result.now in
    let listed : slice_get n.functions place ≡ Some names =
    slice_get_read n.functions (length n.functions) place c.index-functions-place.result refl c.requires.place
    (c.index-functions-place.is ∙ ap (λ (fs : List (List Mention)). get_or fs place c.index-functions-place.result) c.functions-functions.ensures)
    ∙ ap (λ (ms : List Mention). Some ms) (sym c.as_slice-names.ensures.items) in
    let globals_are = c.globals-values.ensures in
    let t = tables_of f (length c.globals-values.result.now) names c.in_ok-tables.tables.items c.note-2.new.row.items
    c.in_ok-tables.ensures c.note-2.ensures in
    let row : IsEmpty (16 + c.args.count) c.in_ok-row.row.items =
    subst (λ (m : ℕ). IsEmpty (m + c.args.count) c.in_ok-row.row.items) c.from.ensures c.in_ok-row.ensures in
    let noted : IsNotedByValues f c.note.new.row.items c.note-2.new.row.items n.globals c.note_values.new.row.items =
    subst (λ (ts : List (Option ℕ)). IsNotedByValues f c.note.new.row.items ts n.globals c.note_values.new.row.items) c.deref.ensures.value
    (subst (λ (vs : List (List Mention)). IsNotedByValues f c.note.new.row.items c.deref.result.now vs c.note_values.new.row.items) globals_are
    c.note_values.ensures) in
    are_named n place c.args.count names listed c.note-2.new.row.items
    (t.0 ∙ ap (λ (vs : List (List Mention)). length vs) globals_are)
    (λ g lt. t.1 g (subst (λ (vs : List (List Mention)). g < length vs) (sym globals_are) lt))
    f c.in_ok-row.row.items c.note.new.row.items c.note_values.new.row.items row c.note.ensures noted
