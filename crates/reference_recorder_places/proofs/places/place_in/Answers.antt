use Rattle.std.proofs.Common.{inl, inr, refl, sym, ◌∙◌, arith}
use Rattle.reference_recorder_places.proofs.Steps.{after_end, first_place, next_place, place_fits}
use Rattle.reference_recorder_places.proofs.places.place_in.Goals as goal

pub loop-step-init : goal.loop-step-init
loop-step-init c = λ x h. first_place c.args.pool c.args.blocks.now c.args.size x h

pub returns-then-fits : goal.returns-then-fits
returns-then-fits c =
    inl (
      place_fits c.args.pool c.args.blocks.now c.args.size c.loop-step.step c.requires.aligned (sym c.fits.ensures ∙ c.if-fits.true),
      c.loop-step.invariant,
    )

pub loop-step-preserved : goal.loop-step-preserved
loop-step-preserved c = λ x h.
    next_place c.args.pool c.args.blocks.now c.args.size c.loop-step.step x c.requires.aligned h (c.loop-step.invariant x h) (sym c.fits.ensures ∙ c.if-fits.false)

pub returns : goal.returns
returns c = inr (refl, λ x h. after_end c.args.pool c.args.blocks.now c.args.size c.loop-step.step x h (c.loop-step.invariant x h) (omega arith))
