use Rattle.std.proofs.Common.{◌≡◌, ◌-◌, true, length, get_or, take, drop, sym, ap, ◌∙◌, subst, arith}
use Rattle.std.proofs.lemmas.List.{length-drop, take_rest}
use Rattle.sys_script_lines.specs.Numbers.{IsLeading, is_digit}
use Rattle.sys_script_lines.proofs.NearTurns.{leading_first}
use Rattle.sys_script_lines.proofs.turns.leading.Goals as goal

pub loop-more-init : goal.loop-more-init
loop-more-init c =
    let text = c.args.text.now in
    let digit : is_digit (get_or text 0 0) ≡ true = sym c.is_ascii_digit.ensures.value ∙ c.if-is_ascii_digit.true in
    let rest : length (take (length text - 1) (drop 1 text)) ≡ length text - 1 = ap length (take_rest text 1) ∙ length-drop 1 text in
    record {
      leading = subst (λ n. IsLeading text n (take (length text - 1) (drop 1 text))) (sym c.from.ensures) (leading_first text (omega arith) digit);
      shorter = omega (arith, rest);
    }
