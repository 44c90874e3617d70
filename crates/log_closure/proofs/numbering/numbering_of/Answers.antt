use Rattle.std.proofs.Common.{[], List, take, sym, subst, ◌∙◌}
use Rattle.run_events.specs.declared.key.KeyMark.{KeyMark}
use Rattle.log_closure.specs.Tables.{Numbers, key_cmp}
use Rattle.std.specs.BTreeMap.{get}
use Rattle.log_closure.specs.KeyNumbers.{AreNumbers, HaveNumbers, marks_of, number_in}
use Rattle.log_closure.proofs.KeyNumbers.{marks_seen, no_numbers}
use Rattle.log_closure.proofs.numbering.numbering_of.Goals as goal

pub loop-entry-init : goal.loop-entry-init
loop-entry-init c =
    let number : Numbers = get key_cmp c.new.result in
    record {
      numbers = subst (AreNumbers c.new.result) (sym c.new-2.ensures.len) (no_numbers c.new.result c.new.ensures.empty);
      marks = subst (HaveNumbers number []) (sym c.in_ok-with_capacity.ensures.items) tt;
    }

pub loop-entry-preserved : goal.loop-entry-preserved
loop-entry-preserved c =
    let rs = c.args.records.now in
    let i = c.loop-entry.entry-index in
    let more = marks_seen rs i c.entry-item.result c.as_slice.result.now c.loop-entry-test.true c.entry-item.is (c.as_slice.ensures ∙ c.unpacked-keys.ensures) in
    let now = c.add.new.self in
    record {
      numbers = c.in_ok-add.ensures.numbers;
      marks = subst (λ (l : List KeyMark). HaveNumbers (number_in now) l now.marks.items) (sym more) (c.in_ok-add.ensures.marks (marks_of (take i rs)) c.loop-entry.invariant.marks);
    }
