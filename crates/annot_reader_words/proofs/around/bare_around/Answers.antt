use Rattle.std.proofs.Common.{sym, subst}
use Rattle.c_syntax.specs.Stands.{StandAnnots}
use Rattle.c_syntax.specs.Syntax.{Declare}
use Rattle.c_types_rules.specs.Checked.{◌>>◌}
use Rattle.annot_reader_rules.specs.Misplaced.{bare_annots, bare_parts, bare_rest}
use Rattle.annot_reader_words.specs.Answers.{Unsaid}
use Rattle.annot_reader_words.proofs.Composing.{goes_on, raised, stops_there}
use Rattle.annot_reader_words.proofs.Showing.{shown_annots}
use Rattle.annot_reader_words.proofs.around.bare_around.Goals as goal

pub bare_annots-requires : goal.bare_annots-requires
bare_annots-requires c = shown_annots c.args.tree.now c.args.decl.now c.as_slice.result.now c.as_slice.ensures.items c.requires

pub returns-in_err-bare_annots : goal.returns-in_err-bare_annots
returns-in_err-bare_annots c (Declare from an b ps n r) h =
    let e = c.in_err-bare_annots.field-0.0 in
    let after = bare_parts ps >> bare_rest r in
    raised Unsaid (bare_annots an >> after) c.from_residual.result e c.from_residual.ensures.1
    (stops_there Unsaid Unsaid (bare_annots an) after e (c.in_err-bare_annots.ensures an (subst (λ vs. StandAnnots c.args.tree.now vs an) (sym c.as_slice.ensures.items) h.1)))

pub returns : goal.returns
returns c (Declare from an b ps n r) h =
    goes_on Unsaid Unsaid (bare_annots an) (bare_parts ps >> bare_rest r) tt c.bare_after.result (c.in_ok-bare_annots.ensures an (subst (λ vs. StandAnnots c.args.tree.now vs an) (sym c.as_slice.ensures.items) h.1)) (c.bare_after.ensures (Declare from an b ps n r) h)
