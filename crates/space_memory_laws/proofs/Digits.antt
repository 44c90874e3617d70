-- The bytes of a number, one by one.
use Rattle.std.proofs.Common.{◌≡◌, ℕ, zero, suc, ◌*◌, ◌/◌, ◌%◌, ◌^◌, ◌<◌, true, ltb, length, get_or, refl, ap, sym, subst, ◌∙◌, arith}
use Rattle.std.proofs.Math.Nat.{div-div-eq-div-mul, pow-suc, pow-succ'}
use Rattle.std.proofs.lemmas.Bool.{lt-ltb, and_from}
use Rattle.marks.specs.Ranges.{number_of_bytes, bytes_of_number, are_bytes}
use Rattle.space_memory_bytes.specs.Numbers.{digit}
use Rattle.space_memory_laws.specs.Numbers.{AreBytesOf}

pub count : (width value : ℕ) → length (bytes_of_number width value) ≡ width
count zero value = refl
count (suc width) value = let rest = count width (value / 256) in omega (arith, rest)

small : (width value : ℕ) → are_bytes (bytes_of_number width value) ≡ true
small zero value = refl
small (suc width) value = and_from (ltb (value % 256) 256) (are_bytes (bytes_of_number width (value / 256))) (lt-ltb (value % 256) 256 (omega arith)) (small width (value / 256))

number : (width value : ℕ) → value < 256 ^ width → number_of_bytes (bytes_of_number width value) ≡ value
number zero value fits = omega (arith, fits)
number (suc width) value fits =
    let high : value < 256 ^ width * 256 = subst (λ z. value < z) (pow-suc 256 width) fits in
    let rest = number width (value / 256) (omega arith) in
    omega (arith, rest)

pub bytes_of : (width value : ℕ) → AreBytesOf width value
bytes_of width value = record { count = count width value; small = small width value; number = number width value }

-- byte number i of a number is its digit
pub digit_is : (width value i : ℕ) → i < width → get_or (bytes_of_number width value) i 0 ≡ digit value i
digit_is zero value i lt = absurd (omega arith)
digit_is (suc width) value zero lt = omega arith
digit_is (suc width) value (suc i) lt =
    let split : value / 256 / 256 ^ i ≡ value / 256 ^ (suc i) = div-div-eq-div-mul value 256 (256 ^ i) ∙ ap (λ d. value / d) (sym (pow-succ' 256 i)) in
    digit_is width (value / 256) i (omega arith) ∙ ap (λ q. q % 256) split
