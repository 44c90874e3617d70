use Rattle.std.proofs.Common.{◌≡◌, true, false, sym, ap, ◌∙◌, subst}
use Rattle.std.specs.List.{list_any}
use Rattle.annot_reader_functions.specs.declared.notes.FunctionNotes.{FunctionNotes}
use Rattle.annot_reader.specs.Interface.{Interface}
use Rattle.annot_reader.specs.Interfaces.{IsRead}
use Rattle.annot_reader.proofs.Finding.{any_same}
use Rattle.annot_reader.proofs.interface.interface_by.Goals as goal

pub returns-then-not-any_in_cut : goal.returns-then-not-any_in_cut
returns-then-not-any_in_cut c = λ cut a r.
    let same = any_same cut a.functions c.args.reading.functions.items r.functions in
    let there = ap (list_any (λ (v : FunctionNotes). v.in_cut)) c.deref.ensures.value in
    let test : c.any_in_cut.result ≡ false = cc in
    sym same ∙ (sym there ∙ (sym c.any_in_cut.ensures ∙ test))

pub returns : goal.returns
returns c = λ cut a r.
    let same = any_same cut a.functions c.args.reading.functions.items r.functions in
    let there = ap (list_any (λ (v : FunctionNotes). v.in_cut)) c.deref.ensures.value in
    let test : c.any_in_cut.result ≡ true = cc in
    (subst (λ (i : Interface). IsRead cut a i) (sym c.in_ok-new.ensures) (record { functions = r.functions; guards = r.guards }), sym same ∙ (sym there ∙ (sym c.any_in_cut.ensures ∙ test)))
