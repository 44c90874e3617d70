use Rattle.std.proofs.Common.{◌++◌, sym, ap, ◌∙◌, subst}
use Rattle.stub_operations.specs.declared.purpose.Purpose.TheVariants.{Record}
use Rattle.cut_check.specs.Stubs.{StubsText, of_source, stubs_text}
use Rattle.cut_check.proofs.Accepted.{known}
use Rattle.cut_check.proofs.Facts.{few}
use Rattle.cut_check.proofs.stubs.stubs_text.Goals as goal

pub record_text-requires : goal.record_text-requires
record_text-requires c = few c.requires.0 c.requires.1 c.args.source.now (known c.requires.0 c.requires.1 c.args.source.now c.requires.2)

pub replay_text-requires : goal.replay_text-requires
replay_text-requires c = few c.requires.0 c.requires.1 c.args.source.now (known c.requires.0 c.requires.1 c.args.source.now c.requires.2)

pub returns : goal.returns
returns c = λ bytes cut h.
    let k = known bytes cut c.args.source.now h in
    let first = c.in_ok-both.ensures cut k.program k.annotated k.is in
    let second = c.in_ok-replay.ensures cut k.program k.annotated k.is in
    let whole = c.in_ok-extend_from_slice.ensures.items ∙ (ap (λ t. t ++ c.deref.result.now) first ∙
    ap (λ t. stubs_text Record cut k.program k.annotated ++ t) (c.deref.ensures.value ∙ second)) in
    subst (λ t. StubsText bytes cut t) (sym whole) (of_source k.says)
