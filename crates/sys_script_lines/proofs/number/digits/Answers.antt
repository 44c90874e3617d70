use Rattle.std.proofs.Common.{arith, sym, ◌∙◌}
use Rattle.sys_script_lines.proofs.Digits.{digit_refused}
use Rattle.sys_script_lines.proofs.number.digits.Goals as goal

pub returns-in_err-number : goal.returns-in_err-number
returns-in_err-number c =
    c.from_residual.ensures ∙ sym (sym c.loop-byte.invariant.same ∙ digit_refused c.args.most c.loop-byte.number c.loop-byte.byte-index c.args.text.now (omega arith) c.in_err-number.ensures)
