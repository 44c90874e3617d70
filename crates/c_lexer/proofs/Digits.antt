-- A number that is too great stays so.
use Rattle.std.proofs.Common.{◌≡◌, ℕ, suc, ◌+◌, ◌*◌, ◌^◌, ◌<◌, ◌≤◌, List, [], ◌∷◌, arith, length, drop, get_or, drop-cons}
use Rattle.std.proofs.Math.Nat.{mul-le-mul_left}
use Rattle.std.proofs.lemmas.List.{drop_all}
use Rattle.c_lexer.specs.Bytes.{digit_of}
use Rattle.c_lexer.specs.Numbers.{number_from}

pub stays_big : (base n m : ℕ) → 1 ≤ base → m ≤ n → (ds : List ℕ) → m ≤ number_from base n ds
stays_big base n m h k [] = k
stays_big base n m h k (d ∷ ds) = stays_big base (n * base + digit_of d) m h (let more : n * 1 ≤ n * base = mul-le-mul_left n h in omega arith) ds

pub over : (base value d i : ℕ) (xs : List ℕ) (total : ℕ) → 1 ≤ base → number_from base value (drop i xs) ≡ total → i < length xs → d ≡ digit_of (get_or xs i 0) → 2 ^ 64 ≤ value * base + d → 2 ^ 64 ≤ total
over base value d i xs total low h lt e big =
    let next : number_from base (value * base + d) (drop (suc i) xs) ≡ total = rw e (rw (drop-cons xs i 0 lt) at h) in
    rw (← next) (stays_big base (value * base + d) (2 ^ 64) low big (drop (suc i) xs))

pub all_read : (base value i : ℕ) (xs : List ℕ) (total : ℕ) → number_from base value (drop i xs) ≡ total → length xs ≤ i → value ≡ total
all_read base value i xs total h past = rw (drop_all i xs past) at h
