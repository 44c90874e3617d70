use Rattle.std.proofs.Common.{◌≡◌, ◌+◌, ◌*◌, ◌-◌, true, length, get_or, take, drop, sym, ◌∙◌, subst, arith}
use Rattle.sys_script_lines.specs.Numbers.{IsLeading, is_digit}
use Rattle.sys_script_lines.proofs.NearTurns.{leading_more}
use Rattle.sys_script_lines.proofs.turns.with_next.Goals as goal

pub returns-in-len1-up-clause-leading : goal.returns-in-len1-up-clause-leading
returns-in-len1-up-clause-leading c = λ all lead.
    let text = c.args.text.now in
    let digit : is_digit (get_or text 0 0) ≡ true = sym c.is_ascii_digit.ensures.value ∙ c.if-is_ascii_digit.true in
    subst (λ n. IsLeading all (c.args.number * 10 + n) (take (length text - 1) (drop 1 text))) (sym c.from.ensures) (leading_more all text c.args.number (omega arith) digit (omega arith) lead)
