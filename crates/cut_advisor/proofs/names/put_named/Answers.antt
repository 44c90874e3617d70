use Rattle.std.proofs.Common.{sym, ap, ◌∙◌, subst}
use Rattle.c_syntax.specs.Nodes.{decl_at}
use Rattle.cut_advisor.specs.CutNames.{with_names}
use Rattle.cut_advisor.specs.CutNodes.{AreAmong, IsPut, names_at, names_by_annots, texts_of}
use Rattle.cut_advisor.proofs.CutLists.{among_after, none_new}
use Rattle.cut_advisor.proofs.CutStand.{alike_names, decl_within}
use Rattle.cut_advisor.proofs.names.put_named.Goals as goal

pub share_specifiers-requires-clause-one : goal.share_specifiers-requires-clause-one
share_specifiers-requires-clause-one c =
    let put = subst (λ o. IsPut c.args.tree.now o (texts_of c.args.names.now.keys)) c.in-Some.is c.requires.last in
    decl_within c.args.tree.now c.in-Some.before put.0

pub share_specifiers-requires-clause-other : goal.share_specifiers-requires-clause-other
share_specifiers-requires-clause-other c = decl_within c.args.tree.now c.args.id c.requires.id

pub decl-requires : goal.decl-requires
decl-requires c = record { inside = decl_within c.args.tree.now c.args.id c.requires.id }

pub returns-then-share_specifiers-clause-put : goal.returns-then-share_specifiers-clause-put
returns-then-share_specifiers-clause-put c =
    let N = c.args.tree.now in
    let names = texts_of c.args.names.now.keys in
    let put = subst (λ o. IsPut N o names) c.in-Some.is c.requires.last in
    let alike = alike_names (decl_at N c.in-Some.before) (decl_at N c.args.id) (c.share_specifiers.ensures c.if-share_specifiers.true) in
    sym (ap (with_names names) (sym alike) ∙ none_new (names_at (decl_at N c.in-Some.before)) names put.1)

pub returns-clause-put : goal.returns-clause-put
returns-clause-put c =
    c.in_ok-put_annots.ensures ∙ ap (with_names (texts_of c.args.names.now.keys)) (ap names_by_annots c.as_slice.ensures.items ∙ sym (ap names_at c.decl.ensures.node))

pub returns-clause-last : goal.returns-clause-last
returns-clause-last c =
    let names = texts_of c.args.names.now.keys in
    let new = names_at (decl_at c.args.tree.now c.args.id) in
    let put = c.in_ok-put_annots.ensures ∙ ap (with_names names) (ap names_by_annots c.as_slice.ensures.items ∙ sym (ap names_at c.decl.ensures.node)) in
    (c.requires.id, subst (AreAmong new) (sym put) (among_after new names))
