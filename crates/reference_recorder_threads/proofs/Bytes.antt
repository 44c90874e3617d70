-- The bytes of a number but the lowest.
use Rattle.std.proofs.Common.{◌≡◌, ℕ, suc, ◌+◌, ◌-◌, ◌*◌, ◌^◌, ◌<◌, ◌≤◌, List, [], ◌∷◌, length, take, drop, subst, arith, lit<}
use Rattle.std.proofs.Math.Nat.{pow-le-pow_right}
use Rattle.std.proofs.lemmas.List.{take_all}

abbrev pub others : List ℕ → List ℕ
others bs = take (length bs - 1) (drop 1 bs)

-- where there are eight at most, a number of the others leaves room for the lowest
pub room : (bs : List ℕ) (high : ℕ) → 1 ≤ length bs → length bs ≤ 8 → high < 256 ^ length (others bs) → 256 * high + 255 < 2 ^ 64
room [] high some few below = absurd (omega (arith, some))
room (b ∷ bs) high some few below =
    let all : take (suc (length bs) - 1) bs ≡ bs = take_all (suc (length bs) - 1) bs (omega arith) in
    let fits : high < 256 ^ length bs = subst (λ rs. high < 256 ^ length rs) all below in
    let bound : 256 ^ length bs ≤ 256 ^ 7 = pow-le-pow_right (lit< tt) {i = length bs} {j = 7} (omega (arith, few)) in
    omega (arith, fits, bound)
