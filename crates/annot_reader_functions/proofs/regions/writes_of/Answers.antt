use Rattle.std.proofs.Common.{◌≡◌, true, false, Ok, Err, Some, sym, ◌∙◌, rules}
use Rattle.annot_reader_rules.specs.Regions.{first_of, size_or_own, writes_of}
use Rattle.annot_reader_words.proofs.Composing.{raised}
use Rattle.annot_reader_words.specs.Readings.{IsSame}
use Rattle.annot_reader_functions.proofs.Saying.{both_found, first_broken, first_fits, known_stays, maybe_item, second_broken, stays_through, target_stays, unskipped}
use Rattle.annot_reader_functions.proofs.regions.writes_of.Goals as goal

pub size_or_own-requires-clause-item : goal.size_or_own-requires-clause-item
size_or_own-requires-clause-item c =
    let m = c.requires.items.0 in
    let k = c.requires.items.1 in
    let f = c.requires.items.2 in
    maybe_item c.args.tree.now _ (first_of m.cap m.bsize) (c.first_of-one.ensures c.args.tree.now m.cap m.bsize k.cap k.bsize) (first_fits m.cap m.bsize f.cap f.bsize)

pub size_or_own-requires-2-clause-item : goal.size_or_own-requires-2-clause-item
size_or_own-requires-2-clause-item c =
    let m = c.requires.items.0 in
    let k = c.requires.items.1 in
    let f = c.requires.items.2 in
    maybe_item c.args.tree.now _ (first_of m.bsize m.cap) (c.first_of-other.ensures c.args.tree.now m.bsize m.cap k.bsize k.cap) (first_fits m.bsize m.cap f.bsize f.cap)

pub returns-in_err-capacity-clause-agrees : goal.returns-in_err-capacity-clause-agrees
returns-in_err-capacity-clause-agrees c = λ m s t i k l.
    let e = c.in_err-capacity.field-0.0 in
    let on : c.args.marks.now.has_out ≡ true = search rules in
    let one = size_or_own s c.args.target.from false t (first_of m.cap m.bsize) in
    let other = size_or_own s c.args.target.from true t (first_of m.bsize m.cap) in
    raised IsSame (writes_of s c.args.target.from t m) c.from_residual.result e c.from_residual.ensures.1
    (unskipped m.has_out _ (Err e) (sym i.has_out ∙ on)
    (first_broken one other e (c.in_err-capacity.ensures.agrees (first_of m.cap m.bsize) s t (c.first_of-one.ensures c.args.tree.now m.cap m.bsize i.cap i.bsize) k l)))

pub returns-in_err-used-clause-agrees : goal.returns-in_err-used-clause-agrees
returns-in_err-used-clause-agrees c = λ m s t i k l.
    let e = c.in_err-used.field-0.0 in
    let on : c.args.marks.now.has_out ≡ true = search rules in
    let one = size_or_own s c.args.target.from false t (first_of m.cap m.bsize) in
    let other = size_or_own s c.args.target.from true t (first_of m.bsize m.cap) in
    raised IsSame (writes_of s c.args.target.from t m) c.from_residual-in_err-used.result e c.from_residual-in_err-used.ensures.1
    (unskipped m.has_out _ (Err e) (sym i.has_out ∙ on)
    (second_broken one other c.in_ok-capacity.capacity e
    (c.in_ok-capacity.ensures.agrees (first_of m.cap m.bsize) s t (c.first_of-one.ensures c.args.tree.now m.cap m.bsize i.cap i.bsize) k l)
    (c.in_err-used.ensures.agrees (first_of m.bsize m.cap) s t (c.first_of-other.ensures c.args.tree.now m.bsize m.cap i.bsize i.cap) (known_stays _ _ _ s c.in_ok-capacity.ensures.kept.env k) (target_stays c.args.target _ _ t c.in_ok-capacity.ensures.kept.env l))))

pub returns-in_err-used-clause-kept : goal.returns-in_err-used-clause-kept
returns-in_err-used-clause-kept c = stays_through _ _ _ c.in_ok-capacity.ensures.kept c.in_err-used.ensures.kept

pub returns-clause-agrees : goal.returns-clause-agrees
returns-clause-agrees c = λ m s t i k l.
    let on : c.args.marks.now.has_out ≡ true = search rules in
    let one = size_or_own s c.args.target.from false t (first_of m.cap m.bsize) in
    let other = size_or_own s c.args.target.from true t (first_of m.bsize m.cap) in
    unskipped m.has_out _ (Ok (Some (c.in_ok-capacity.capacity, c.in_ok-used.used))) (sym i.has_out ∙ on)
    (both_found one other c.in_ok-capacity.capacity c.in_ok-used.used
    (c.in_ok-capacity.ensures.agrees (first_of m.cap m.bsize) s t (c.first_of-one.ensures c.args.tree.now m.cap m.bsize i.cap i.bsize) k l)
    (c.in_ok-used.ensures.agrees (first_of m.bsize m.cap) s t (c.first_of-other.ensures c.args.tree.now m.bsize m.cap i.bsize i.cap) (known_stays _ _ _ s c.in_ok-capacity.ensures.kept.env k) (target_stays c.args.target _ _ t c.in_ok-capacity.ensures.kept.env l)))

pub returns-clause-kept : goal.returns-clause-kept
returns-clause-kept c = stays_through _ _ _ c.in_ok-capacity.ensures.kept c.in_ok-used.ensures.kept
