use Rattle.std.proofs.Common.{◌<◌, ◌^◌, pos, sym, ◌∙◌, arith, rules}
use Rattle.std.specs.Prelude.{FitsSigned}
use Rattle.std.specs.Int.{w128}
use Rattle.r2_cli.proofs.Rounds.{if_none, too_small, too_great}
use Rattle.r2_cli.proofs.forms.rounds_of.Goals as goal

pub returns-in_err-number-clause-none : goal.returns-in_err-number-clause-none
returns-in_err-number-clause-none c =
    if_none c.from_residual.result (λ n some few e. let small : n < 2 ^ 127 = omega arith in let fits : FitsSigned w128 (pos n) = record { sfits = small } in c.in_err-number.ensures.none (pos n) fits (c.as_bytes.ensures.value ∙ e))

pub returns-then-number-lt1-clause-none : goal.returns-then-number-lt1-clause-none
returns-then-number-lt1-clause-none c = λ n some few e.
    let fits : FitsSigned w128 c.in_ok-number.number = first_of (omega arith, search (rules, c.read_dec.type_inv)) in
    too_small c.args.word.now c.in_ok-number.number n (sym c.as_bytes.ensures.value ∙ c.in_ok-number.ensures.some) fits c.if-number-lt1.true some few e

pub returns-then-number-gt-MOST_ROUNDS-clause-none : goal.returns-then-number-gt-MOST_ROUNDS-clause-none
returns-then-number-gt-MOST_ROUNDS-clause-none c = λ n some few e.
    let fits : FitsSigned w128 c.in_ok-number.number = first_of (omega arith, search (rules, c.read_dec.type_inv)) in
    too_great c.args.word.now c.in_ok-number.number n (sym c.as_bytes.ensures.value ∙ c.in_ok-number.ensures.some) fits c.if-number-gt-MOST_ROUNDS.true few e
