use Rattle.std.proofs.Common.{◌≡◌, ◌+◌, true, refl, sym, ap, ◌∙◌, subst}
use Rattle.c_syntax.specs.Nodes.{decl_at}
use Rattle.c_syntax.specs.Stands.{StandsDecl}
use Rattle.annot_reader_words.specs.Shown.{Shows}
use Rattle.cut_advisor.specs.CutNames.{with_names}
use Rattle.cut_advisor.specs.CutNodes.{declares_next, names_at, texts_of}
use Rattle.cut_advisor.specs.CutPuts.{PutsIf}
use Rattle.cut_advisor.proofs.CutStand.{decl_stands}
use Rattle.cut_advisor.proofs.names.put_declared.Goals as goal

pub returns-clause-put : goal.returns-clause-put
returns-clause-put c = λ ds p d t s.
    let N = c.args.source.now.tree in
    let count = c.args.count.now in
    let old = texts_of c.args.names.now.keys in
    let stands = subst (λ M. StandsDecl M c.args.id d) (sym c.tree.ensures.tree) s in
    let shown = subst (λ M. Shows M c.decl_node.result.now d) c.tree.ensures.tree (c.decl_node.ensures.shows d stands) in
    let yes : declares_next p count d ≡ true = sym (c.declares_next.ensures.next ds p d t shown) ∙ c.if-not-declares_next.false in
    let put = c.in_ok-put_named.ensures.put ∙ ap (with_names old) (ap (λ M. names_at (decl_at M c.args.id)) c.tree-2.ensures.tree ∙ decl_stands N c.args.id d s) in
    subst (λ q. PutsIf q d count old (count + 1) (texts_of c.put_named.new.names.keys)) (sym yes) (refl, put)
