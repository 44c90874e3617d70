use Rattle.std.proofs.Common.{sym, subst}
use Rattle.c_syntax.specs.Stands.{StandParts}
use Rattle.c_syntax.specs.Syntax.{Declare}
use Rattle.annot_reader_rules.specs.Misplaced.{bare_parts, bare_rest}
use Rattle.annot_reader_rules.specs.Functions.{result_parts}
use Rattle.c_types_rules.specs.Checked.{◌>>◌}
use Rattle.annot_reader_words.specs.Answers.{Unsaid}
use Rattle.annot_reader_words.proofs.Composing.{goes_on, raised, stops_there}
use Rattle.annot_reader_functions.proofs.known.bare_besides.Goals as goal

pub returns-in_err-bare_parts : goal.returns-in_err-bare_parts
returns-in_err-bare_parts c (Declare from an b ps n r) h =
    let N = c.args.tree.now in
    let e = c.in_err-bare_parts.field-0.0 in
    let shown = c.decl_node-decl.ensures.shows (Declare from an b ps n r) h in
    let parts = bare_parts (result_parts ps) in
    raised Unsaid (parts >> bare_rest r) c.from_residual.result e c.from_residual.ensures.1
    (stops_there Unsaid Unsaid parts (bare_rest r) e (c.in_err-bare_parts.ensures (result_parts ps) (c.split_parts.ensures.outer N ps (subst (λ vs. StandParts N vs ps) (sym c.as_slice.ensures.items) shown.3))))

pub returns : goal.returns
returns c (Declare from an b ps n r) h =
    let N = c.args.tree.now in
    let shown = c.decl_node-decl.ensures.shows (Declare from an b ps n r) h in
    goes_on Unsaid Unsaid (bare_parts (result_parts ps)) (bare_rest r) tt c.bare_rest.result (c.in_ok-bare_parts.ensures (result_parts ps) (c.split_parts.ensures.outer N ps (subst (λ vs. StandParts N vs ps) (sym c.as_slice.ensures.items) shown.3))) (c.bare_rest.ensures r shown.5)
