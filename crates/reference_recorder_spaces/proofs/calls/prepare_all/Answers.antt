use Rattle.std.proofs.Common.{[], ◌∷◌, refl, sym, ap, ◌∙◌, subst}
use Rattle.space_memory_laws.specs.Calls.{Prepares, prepared_part}
use Rattle.space_memory_laws.specs.Calls.{Part}
use Rattle.reference_recorder_spaces.specs.Next.{IsNextPart}
use Rattle.reference_recorder_spaces.proofs.Parts.{next_item}
use Rattle.reference_recorder_spaces.proofs.Calling.{adds_all, adds_as, adds_item, adds_none}
use Rattle.reference_recorder_spaces.proofs.calls.prepare_all.Goals as goal

pub loop-region-init : goal.loop-region-init
loop-region-init c = record { adds = adds_none c.args.thread c.args.spaces.now; depths = refl }

pub loop-region-preserved : goal.loop-region-preserved
loop-region-preserved c = record {
  adds = adds_item c.args.thread prepared_part c.args.prepared.now c.loop-region.region-index c.region-item.result c.args.spaces.now c.loop-region.spaces c.prepare.new.spaces c.loop-region-test.true c.region-item.is c.loop-region.invariant.adds
      (adds_as c.args.thread (prepared_part c.region-item.result) (Prepares c.key_of.result c.range_under.result) c.loop-region.spaces c.prepare.new.spaces (λ i. Prepares (c.key_of.ensures i) (c.range_under.ensures i)) c.in_ok-prepare.ensures.adds);
  depths = c.prepare.ensures.depths ∙ c.loop-region.invariant.depths;
}

pub returns-clause-adds : goal.returns-clause-adds
returns-clause-adds c = adds_all c.args.thread prepared_part c.args.prepared.now c.loop-region.region-index c.args.spaces.now c.loop-region.spaces c.loop-region-test.false c.loop-region.invariant.adds

pub prepare-requires-clause-next : goal.prepare-requires-clause-next
prepare-requires-clause-next c =
    let region = c.region-item.result in
    subst (λ (p : Part). IsNextPart c.args.thread (p ∷ []) c.loop-region.spaces) (ap prepared_part (sym c.region-item.is) ∙ (λ i. Prepares (sym c.key_of.ensures i) (sym c.range_under.ensures i)))
    (next_item c.args.thread prepared_part c.args.prepared.now c.loop-region.region-index region c.args.spaces.now c.loop-region.spaces c.loop-region-test.true c.requires.next c.loop-region.invariant.adds)
