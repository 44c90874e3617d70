use Rattle.annot_reader_rules.specs.Regions.{size}
use Rattle.annot_reader_words.proofs.Composing.{raised}
use Rattle.annot_reader_words.specs.Readings.{IsSame}
use Rattle.annot_reader_functions.proofs.Factors.{both_factors, broken_other, first_is_factor, second_is_factor}
use Rattle.annot_reader_functions.proofs.Saying.{known_stays, stays_through}
use Rattle.annot_reader_functions.proofs.sizes.size.Goals as goal

pub term-requires-clause-factor : goal.term-requires-clause-factor
term-requires-clause-factor c = first_is_factor c.args.tree.now c.args.item.now c.requires.item

pub term-requires-2-clause-factor : goal.term-requires-2-clause-factor
term-requires-2-clause-factor c = second_is_factor c.args.tree.now c.args.item.now c.in-Some.second c.in-Some.is c.requires.item

pub returns-in_err-b-clause-agrees : goal.returns-in_err-b-clause-agrees
returns-in_err-b-clause-agrees c = λ x s h k.
    let e = c.in_err-b.field-0.0 in
    raised IsSame (size s c.args.known x) c.from_residual-in_err-b.result e c.from_residual-in_err-b.ensures.1
    (broken_other s c.args.known c.args.tree.now c.args.item.now x c.in-Some.second c.in_ok-a.a e c.in-Some.is h
    (λ a t. c.in_ok-a.ensures.agrees a s t k)
    (λ b t. c.in_err-b.ensures.agrees b s t (known_stays _ _ _ s c.in_ok-a.ensures.kept.env k)))

pub returns-in_err-b-clause-kept : goal.returns-in_err-b-clause-kept
returns-in_err-b-clause-kept c = stays_through _ _ _ c.in_ok-a.ensures.kept c.in_err-b.ensures.kept

pub returns-clause-agrees : goal.returns-clause-agrees
returns-clause-agrees c = λ x s h k.
    both_factors s c.args.known c.args.tree.now c.args.item.now x c.in-Some.second c.in_ok-a.a c.in_ok-b.b c.in-Some.is h
    (λ a t. c.in_ok-a.ensures.agrees a s t k)
    (λ b t. c.in_ok-b.ensures.agrees b s t (known_stays _ _ _ s c.in_ok-a.ensures.kept.env k))

pub returns-clause-kept : goal.returns-clause-kept
returns-clause-kept c = stays_through _ _ _ c.in_ok-a.ensures.kept c.in_ok-b.ensures.kept
