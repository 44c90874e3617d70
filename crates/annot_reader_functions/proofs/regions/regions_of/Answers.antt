use Rattle.std.proofs.Common.{ℕ, Bool, Option, ap}
use Rattle.annot_reader_rules.specs.Notes.{Parameter}
use Rattle.annot_reader_rules.specs.Regions.{Marked, prepares_of, reads_of, writes_of}
use Rattle.stub_core.specs.declared.terms.Size.{Size}
use Rattle.annot_reader_words.proofs.Composing.{raised}
use Rattle.annot_reader_functions.specs.Sizing.{IsParameter, regions}
use Rattle.annot_reader_functions.proofs.Saying.{all_found, breaks_second, breaks_third, known_stays, stays_through, target_stays}
use Rattle.annot_reader_functions.proofs.regions.regions_of.Goals as goal

abbrev parameter : Marked → Option Size → Option (Size × Size) → Option (ℕ × Size) → Parameter
parameter m reads writes prepares = record { reads = reads; writes = writes; prepares = prepares; callback = m.callback }

pub returns-in_err-writes-clause-agrees : goal.returns-in_err-writes-clause-agrees
returns-in_err-writes-clause-agrees c = λ m s t i k l.
    let e = c.in_err-writes.field-0.0 in
    let from = c.args.target.from in
    let env = c.in_ok-reads.ensures.kept.env in
    raised IsParameter (regions s from t m) c.from_residual-in_err-writes.result e c.from_residual-in_err-writes.ensures.1
    (breaks_second IsParameter (reads_of s from t m) (writes_of s from t m) (prepares_of s from t m m.prepare) (parameter m) c.in_ok-reads.reads e
    (c.in_ok-reads.ensures.agrees m s t i k l)
    (c.in_err-writes.ensures.agrees m s t i (known_stays _ _ _ s env k) (target_stays c.args.target _ _ t env l)))

pub returns-in_err-writes-clause-kept : goal.returns-in_err-writes-clause-kept
returns-in_err-writes-clause-kept c = stays_through _ _ _ c.in_ok-reads.ensures.kept c.in_err-writes.ensures.kept

pub returns-in_err-prepares-clause-agrees : goal.returns-in_err-prepares-clause-agrees
returns-in_err-prepares-clause-agrees c = λ m s t i k l.
    let e = c.in_err-prepares.field-0.0 in
    let from = c.args.target.from in
    let env = c.in_ok-reads.ensures.kept.env in
    let later = (stays_through _ _ _ c.in_ok-reads.ensures.kept c.in_ok-writes.ensures.kept).env in
    raised IsParameter (regions s from t m) c.from_residual-in_err-prepares.result e c.from_residual-in_err-prepares.ensures.1
    (breaks_third IsParameter (reads_of s from t m) (writes_of s from t m) (prepares_of s from t m m.prepare) (parameter m) c.in_ok-reads.reads c.in_ok-writes.writes e
    (c.in_ok-reads.ensures.agrees m s t i k l)
    (c.in_ok-writes.ensures.agrees m s t i (known_stays _ _ _ s env k) (target_stays c.args.target _ _ t env l))
    (c.in_err-prepares.ensures.agrees m s t i (known_stays _ _ _ s later k) (target_stays c.args.target _ _ t later l)))

pub returns-in_err-prepares-clause-kept : goal.returns-in_err-prepares-clause-kept
returns-in_err-prepares-clause-kept c = stays_through _ _ _ (stays_through _ _ _ c.in_ok-reads.ensures.kept c.in_ok-writes.ensures.kept) c.in_err-prepares.ensures.kept

pub returns-clause-agrees : goal.returns-clause-agrees
returns-clause-agrees c = λ m s t i k l.
    let from = c.args.target.from in
    let env = c.in_ok-reads.ensures.kept.env in
    let later = (stays_through _ _ _ c.in_ok-reads.ensures.kept c.in_ok-writes.ensures.kept).env in
    all_found IsParameter (reads_of s from t m) (writes_of s from t m) (prepares_of s from t m m.prepare) (parameter m) c.in_ok-reads.reads c.in_ok-writes.writes c.in_ok-prepares.prepares _
    (c.in_ok-reads.ensures.agrees m s t i k l)
    (c.in_ok-writes.ensures.agrees m s t i (known_stays _ _ _ s env k) (target_stays c.args.target _ _ t env l))
    (c.in_ok-prepares.ensures.agrees m s t i (known_stays _ _ _ s later k) (target_stays c.args.target _ _ t later l))
    (ap (λ (b : Bool). let r : Parameter = record { reads = c.in_ok-reads.reads; writes = c.in_ok-writes.writes; prepares = c.in_ok-prepares.prepares; callback = b } in r) i.callback)

pub returns-clause-kept : goal.returns-clause-kept
returns-clause-kept c = stays_through _ _ _ (stays_through _ _ _ c.in_ok-reads.ensures.kept c.in_ok-writes.ensures.kept) c.in_ok-prepares.ensures.kept
