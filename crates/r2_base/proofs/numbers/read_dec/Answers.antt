use Rattle.std.proofs.Common.{rules, arith, get_or, take, drop, length, ◌-◌, ◌≡◌, ◌∷◌, List, ℕ}
use Rattle.r2_base.proofs.Decimals.{none_negative, head_is}
use Rattle.r2_base.proofs.numbers.read_dec.Goals as goal

pub returns-in-45-clause-none : goal.returns-in-45-clause-none
returns-in-45-clause-none c =
    let is : c.args.text.now ≡ 45 ∷ take (length c.args.text.now - 1) (drop 1 c.args.text.now) = (let first : get_or c.args.text.now 0 0 ≡ 45 = search rules in head_is c.args.text.now 45 c.in-45.len_at_least first) in
    none_negative c.args.text.now (take (length c.args.text.now - 1) (drop 1 c.args.text.now)) c.negative.result is c.negative.ensures.none
