use Rattle.std.proofs.Common.{◌≡◌, true, get_or, sym, ◌∙◌, arith}
use Rattle.sys_script_lines.specs.Numbers.{is_digit}
use Rattle.sys_script_lines.proofs.NearTurns.{one_digit}
use Rattle.sys_script_lines.proofs.turns.leading_turn.Goals as goal

pub returns-then-next-eq32-clause-turn : goal.returns-then-next-eq32-clause-turn
returns-then-next-eq32-clause-turn c =
    let words = c.args.words.now in
    let digit : is_digit (get_or words 0 0) ≡ true = sym c.is_ascii_digit.ensures.value ∙ c.if-is_ascii_digit.true in
    one_digit words (omega arith) digit (omega arith)
