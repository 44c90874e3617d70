use Rattle.std.proofs.Common.{sym, subst}
use Rattle.c_syntax.specs.Stands.{StandParts}
use Rattle.c_syntax.specs.Syntax.{Declare}
use Rattle.c_types_rules.specs.Checked.{◌>>◌}
use Rattle.annot_reader_rules.specs.Misplaced.{bare_parts, bare_rest}
use Rattle.annot_reader_words.specs.Answers.{Unsaid}
use Rattle.annot_reader_words.proofs.Composing.{goes_on, raised, stops_there}
use Rattle.annot_reader_words.proofs.Showing.{shown_parts, shown_rest}
use Rattle.annot_reader_words.proofs.around.bare_after.Goals as goal

pub bare_parts-requires : goal.bare_parts-requires
bare_parts-requires c = shown_parts c.args.tree.now c.args.decl.now c.as_slice.result.now c.as_slice.ensures.items c.requires

pub bare_rest-requires : goal.bare_rest-requires
bare_rest-requires c = shown_rest c.args.tree.now c.args.decl.now c.requires

pub returns-in_err-bare_parts : goal.returns-in_err-bare_parts
returns-in_err-bare_parts c (Declare from an b ps n r) h =
    let e = c.in_err-bare_parts.field-0.0 in
    raised Unsaid (bare_parts ps >> bare_rest r) c.from_residual.result e c.from_residual.ensures.1
    (stops_there Unsaid Unsaid (bare_parts ps) (bare_rest r) e (c.in_err-bare_parts.ensures ps (subst (λ vs. StandParts c.args.tree.now vs ps) (sym c.as_slice.ensures.items) h.3)))

pub returns : goal.returns
returns c (Declare from an b ps n r) h =
    goes_on Unsaid Unsaid (bare_parts ps) (bare_rest r) tt c.bare_rest.result (c.in_ok-bare_parts.ensures ps (subst (λ vs. StandParts c.args.tree.now vs ps) (sym c.as_slice.ensures.items) h.3)) (c.bare_rest.ensures r h.5)
