use Rattle.std.proofs.Common.{◌≡◌, ◌+◌, map, Some, None, cond, Bool, sym, ap, ◌∙◌, take, drop, subst, refl}
use Rattle.log_closure.specs.Events.{events_of}
use Rattle.log_closure.specs.Ties.{key_tie, keys_of}
use Rattle.log_closure.specs.FirstWrong.{or_else, repeats}
use Rattle.log_closure.specs.Tables.{clock_in}
use Rattle.log_closure.specs.KeyNumbers.{HaveNumbers, marks_of, number_in}
use Rattle.log_closure.proofs.KeyNumbers.{next_first, next_fits, next_left}
use Rattle.log_closure.proofs.TableSteps.{owns_more, owns_listed, twice_step, or_is}
use Rattle.log_closure.proofs.clocks.clocks_of.Goals as goal
use Rattle.log_closure.proofs.clocks.clocks_of.Goals.{then-repeats, else-repeats}

pub split_at-requires : goal.split_at-requires
split_at-requires c =
    next_fits (number_in c.args.numbering.now) c.args.records.now c.loop-at.at c.index-records-at.result c.as_slice-marks.result.now c.loop-at.left.now c.loop-at-test.true c.index-records-at.is (c.as_slice-marks.ensures ∙ c.unpacked-keys.ensures) c.loop-at.invariant.left

pub loop-at-init : goal.loop-at-init
loop-at-init c =
    let number = number_in c.args.numbering.now in
    record {
      owns = λ t pos. c.in_ok-table.ensures number t;
      twice = refl;
      left = subst (HaveNumbers number (marks_of c.args.records.now)) (sym c.as_slice-left.ensures.value) c.requires.marks;
    }

pub loop-at-preserved : goal.loop-at-preserved
loop-at-preserved c =
    let rs = c.args.records.now in
    let i = c.loop-at.at in
    let r = c.index-records-at.result in
    let ms = c.as_slice-marks.result.now in
    let lt = c.loop-at-test.true in
    let is = c.index-records-at.is in
    let number = number_in c.args.numbering.now in
    let apart = c.requires.numbers.apart in
    let have : HaveNumbers number ms c.split_at.result.0.now = subst (HaveNumbers number ms) (sym c.split_at.ensures.front)
    (next_first number rs i r ms c.loop-at.left.now lt is (c.as_slice-marks.ensures ∙ c.unpacked-keys.ensures) c.loop-at.invariant.left) in
    let again : c.in_ok-repeats.repeats ≡ repeats (keys_of (events_of (take i rs))) (map key_tie ms) =
    c.in_ok-repeats.ensures.repeats number apart have (keys_of (events_of (take i rs))) (owns_listed (clock_in number c.loop-at.table) (events_of (take i rs)) c.loop-at.invariant.owns) in
    let other : c.if-repeats.or ≡ cond c.in_ok-repeats.repeats (Some i) None =
    elim c.if-repeats.branch [
      | then-repeats w ↦ w.or-is ∙ ap (λ (b : Bool). cond b (Some i) None) (sym w.if-repeats.true)
      | else-repeats w ↦ w.or-is ∙ ap (λ (b : Bool). cond b (Some i) None) (sym w.if-repeats.false)
    ] in
    record {
      owns = owns_more (clock_in number c.loop-at.table) (clock_in number c.add.new.table) rs i r ms lt is (c.as_slice-marks.ensures ∙ c.unpacked-keys.ensures) c.loop-at.invariant.owns (c.in_ok-repeats.ensures.clocks number apart have);
      twice = twice_step rs i r ms c.loop-at.twice c.or-twice.result c.in_ok-repeats.repeats lt is (c.as_slice-marks.ensures ∙ c.unpacked-keys.ensures) c.loop-at.invariant.twice again
          (c.or-twice.ensures ∙ or_is c.loop-at.twice c.if-repeats.or ∙ ap (or_else c.loop-at.twice) other);
      left = subst (HaveNumbers number (marks_of (drop (i + 1) rs))) (sym c.split_at.ensures.back)
          (next_left number rs i r ms c.loop-at.left.now lt is (c.as_slice-marks.ensures ∙ c.unpacked-keys.ensures) c.loop-at.invariant.left);
    }
