use Rattle.std.proofs.Common.{sym, ◌∙◌, arith}
use Rattle.marks.specs.declared.range.Range.{Range}
use Rattle.reference_recorder_regions.proofs.FirstAt.{found_one, passed_all, passed_one}
use Rattle.reference_recorder_regions.proofs.pool.place_of.Goals as goal

abbrev none : Range
none = record { addr = 0; len = 0 }

pub returns-then-is_at : goal.returns-then-is_at
returns-then-is_at c = (
  omega arith,
  found_one c.args.at c.args.blocks.now c.loop-place.place none (omega arith) (sym c.is_at.ensures ∙ c.if-is_at.true) c.loop-place.invariant,
)

pub loop-place-preserved : goal.loop-place-preserved
loop-place-preserved c =
    passed_one c.args.at c.args.blocks.now c.loop-place.place none (omega arith) (sym c.is_at.ensures ∙ c.if-is_at.false) c.loop-place.invariant

pub returns : goal.returns
returns c = passed_all c.args.at c.args.blocks.now c.loop-place.place (omega arith) c.loop-place.invariant
