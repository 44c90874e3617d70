use Rattle.std.proofs.Common.{ℕ, Ok, Err, sym, ap, ◌∙◌, subst}
use Rattle.c_syntax.specs.Stands.{StandAnnots}
use Rattle.c_syntax.specs.Syntax.{Declare}
use Rattle.c_types_rules.specs.Environment.{extents}
use Rattle.annot_reader_rules.specs.Regions.{all_marked, of_marked, parameter_notes, target, unmarked}
use Rattle.annot_reader_words.specs.Answers.{Passes, Tells, Unsaid}
use Rattle.annot_reader_words.proofs.Composing.{follows, goes_on, raised, same_tells, stops_there}
use Rattle.annot_reader_functions.specs.Marking.{AreMarks}
use Rattle.annot_reader_functions.specs.Sizing.{IsParameter, may_stand, regions}
use Rattle.annot_reader_functions.specs.Sorts.{target_size}
use Rattle.annot_reader_functions.proofs.Fitting.{decl_items}
use Rattle.annot_reader_functions.proofs.Saying.{of_is}
use Rattle.annot_reader_functions.proofs.Sorting.{target_size_is}
use Rattle.annot_reader_functions.specs.Seen.{declared_by}
use Rattle.annot_reader_functions.proofs.regions.parameter_notes.Goals as goal

pub returns-in_err-may_stand-clause-agrees : goal.returns-in_err-may_stand-clause-agrees
returns-in_err-may_stand-clause-agrees c (Declare from an b ps n r) s t h k l =
    let e = c.in_err-may_stand.field-0.0 in
    let N = c.args.tree.now in
    let d = Declare from an b ps n r in
    let shown = c.decl_node-decl.ensures.shows d h in
    let marks = c.in_ok-marks.ensures N an (subst (λ vs. StandAnnots N vs an) (sym c.as_slice.ensures.items) shown.1) in
    raised IsParameter (parameter_notes s d t) c.from_residual-in_err-may_stand.result e c.from_residual-in_err-may_stand.ensures.1
    (follows (AreMarks N) IsParameter (all_marked an unmarked) (λ m. of_marked s from t m) c.in_ok-marks.marks (Err e) marks (λ m i.
    same_tells IsParameter (of_marked s from t m) _ (Err e) (of_is s from t m)
    (stops_there Unsaid IsParameter (may_stand from t m) (regions s from (target t) m) e
    (subst (λ (f : ℕ). Passes (may_stand f t m) (Err e)) shown.0 (c.in_err-may_stand.ensures N m (extents (declared_by c.args.env.now).env) t i l)))))

pub regions_of-requires-clause-items : goal.regions_of-requires-clause-items
regions_of-requires-clause-items c =
    let N = c.args.tree.now in
    decl_items N c.args.id c.decl_node-decl.result.now c.in_ok-marks.marks c.requires.id c.decl_node-decl.ensures.shows
    (λ an a. c.in_ok-marks.ensures N an (subst (λ vs. StandAnnots N vs an) (sym c.as_slice.ensures.items) a))

pub returns-clause-agrees : goal.returns-clause-agrees
returns-clause-agrees c (Declare from an b ps n r) s t h k l =
    let N = c.args.tree.now in
    let d = Declare from an b ps n r in
    let env = (declared_by c.args.env.now).env in
    let shown = c.decl_node-decl.ensures.shows d h in
    let marks = c.in_ok-marks.ensures N an (subst (λ vs. StandAnnots N vs an) (sym c.as_slice.ensures.items) shown.1) in
    follows (AreMarks N) IsParameter (all_marked an unmarked) (λ m. of_marked s from t m) c.in_ok-marks.marks c.regions_of.result marks (λ m i.
    same_tells IsParameter (of_marked s from t m) _ c.regions_of.result (of_is s from t m)
    (goes_on Unsaid IsParameter (may_stand from t m) (regions s from (target t) m) tt c.regions_of.result
    (subst (λ (f : ℕ). Passes (may_stand f t m) (Ok tt)) shown.0 (c.in_ok-may_stand.ensures N m (extents env) t i l))
    (subst (λ (f : ℕ). Tells IsParameter (regions s f (target t) m) c.regions_of.result) shown.0
    (c.regions_of.ensures.agrees m s (target t) i k (c.target_size.ensures ∙ (ap target_size l ∙ target_size_is (extents env) t))))))
