use Rattle.std.proofs.Common.{◌-◌, ◌/◌, false, length, drop, sym, ap, ◌∙◌, arith}
use Rattle.std.specs.Fmt.{digits_onto}
use Rattle.std.proofs.Math.ListN.{length-set, drop_of_length-le}
use Rattle.r2_base.proofs.HexDigits.{onto_nothing, onto_last, onto_step, drop_put}
use Rattle.r2_base.proofs.hex.write_hex.Goals as goal

pub loop-start-init : goal.loop-start-init
loop-start-init c = record {
  within = omega arith;
  room = c.told-out;
  text = ap (digits_onto 64 16 false c.args.v) (drop_of_length-le c.args.out.now {i = 64} (omega (arith, c.told-out))) ∙ onto_nothing _;
}

pub loop-start-preserved : goal.loop-start-preserved
loop-start-preserved c =
    let l = c.loop-start in
    let kept = length-set l.out (l.start - 1) c.hex_digit.result ∙ l.invariant.room in
    let written = ap (digits_onto (l.start - 1) 16 false (l.rest / 16)) (drop_put l.out l.start _ _ c.loop-start-test.true (omega arith) c.hex_digit.ensures) in
    record {
      within = omega arith;
      room = kept;
      text = written ∙ sym (onto_step l.start l.rest (drop l.start l.out) c.loop-start-test.true c.if-rest-eq0.false) ∙ l.invariant.text;
    }

pub returns-then-rest-eq0 : goal.returns-then-rest-eq0
returns-then-rest-eq0 c =
    let l = c.loop-start in
    let written = drop_put l.out l.start _ _ c.loop-start-test.true (omega arith) c.hex_digit.ensures in
    record { start = omega arith; text = written ∙ sym (onto_last l.start l.rest (drop l.start l.out) c.loop-start-test.true c.if-rest-eq0.true) ∙ l.invariant.text }
