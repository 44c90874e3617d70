use Rattle.std.proofs.Common.{arith, subst, sym}
use Rattle.test_trees.specs.Parts.{AreDecls}
use Rattle.test_trees.proofs.Fits.{decls_fit}
use Rattle.test_trees.proofs.Members.{decl_among}
use Rattle.test_trees.proofs.source.show.Goals as goal

pub show_top-requires : goal.show_top-requires
show_top-requires c =
    let N = c.args.tree.now in
    let tops = c.top-id-items.result.now in
    let all : AreDecls N tops = subst (AreDecls N) (sym c.top-id-items.ensures.tops) (decls_fit N N.tops c.requires.0 c.requires.1) in
    decl_among N tops c.loop-id.id-index (record { 0 = 0 }) (omega arith) all
