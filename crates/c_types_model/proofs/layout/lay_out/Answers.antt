use Rattle.std.proofs.Common.{refl, arith, add-one}
use Rattle.c_types_model.specs.declared.extent.Extent.{Extent}
use Rattle.c_types_model.proofs.Steps.{offsets_step, end_step, align_step, align_above, extent_of_all}
use Rattle.c_types_model.proofs.layout.lay_out.Goals as goal

pub loop-member-init : goal.loop-member-init
loop-member-init c = record {
  aligned = omega arith;
  offsets = rw c.in_ok-offsets.ensures.items refl;
  ends = refl;
  aligns = align_above c.args.members.now;
}

pub loop-member-preserved : goal.loop-member-preserved
loop-member-preserved c =
    let now = c.loop-member in
    let ms = c.args.members.now in
    let i = now.member-index in
    let none : Extent = record { size = 0; align = 0 } in
    let within = c.loop-member-test.true in
    let offset = c.next_multiple-offset in
    record {
      aligned = omega (arith, now.invariant.aligned, c.max-align.ensures);
      offsets = rw (c.in_ok-push.ensures.items, add-one) (offsets_step ms i now.end offset.result c.saturating_add-end.result none now.offsets.items _ within offset.ensures c.saturating_add-end.ensures now.invariant.offsets);
      ends = rw add-one (end_step ms i now.end offset.result c.saturating_add-end.result _ none within offset.ensures c.saturating_add-end.ensures now.invariant.ends);
      aligns = rw add-one (align_step ms i now.align c.max-align.result _ none within c.max-align.ensures now.invariant.aligns);
    }

pub returns-clause-extent : goal.returns-clause-extent
returns-clause-extent c =
    let now = c.loop-member in
    extent_of_all c.args.members.now now.member-index now.end now.align c.next_multiple.result now.invariant.aligned c.loop-member-test.false c.next_multiple.ensures now.invariant.ends now.invariant.aligns
