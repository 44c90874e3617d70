-- Going along a run of bytes.
use Rattle.std.proofs.Common.{◌≡◌, ℕ, suc, ◌+◌, ◌<◌, ◌≤◌, Bool, true, false, List, [], ◌∷◌, length, drop, get_or, drop-cons, add-one, refl, arith}
use Rattle.std.proofs.lemmas.List.{drop_all}
use Rattle.c_lexer.specs.Bytes.{run}

pub run_on : (p : ℕ → Bool) (xs : List ℕ) (i t : ℕ) → i < length xs → p (get_or xs i 0) ≡ true → i + run p (drop i xs) ≡ t → (i + 1) + run p (drop (i + 1) xs) ≡ t
run_on p xs i t lt e h = let k : i + run p (drop i xs) ≡ i + (run p (drop (suc i) xs) + 1) = rw (drop-cons xs i 0, e) in rw add-one (omega arith)

pub run_stop : (p : ℕ → Bool) (xs : List ℕ) (i t : ℕ) → i < length xs → p (get_or xs i 0) ≡ false → i + run p (drop i xs) ≡ t → i ≡ t
run_stop p xs i t lt e h = let k : i + run p (drop i xs) ≡ i + 0 = rw (drop-cons xs i 0, e) in omega arith

pub run_end : (p : ℕ → Bool) (xs : List ℕ) (i t : ℕ) → length xs ≤ i → i ≤ length xs → i + run p (drop i xs) ≡ t → length xs ≡ t
run_end p xs i t past low h = let k : i + run p (drop i xs) ≡ i + 0 = rw (drop_all i xs past) in omega arith

run_more : (p : ℕ → Bool) (x : ℕ) (xs : List ℕ) → run p xs ≤ length xs → (b : Bool) → p x ≡ b → run p (x ∷ xs) ≤ length (x ∷ xs)
run_more p x xs h true e = rw e (omega arith)
run_more p x xs h false e = rw e (omega arith)

-- a run is no longer than the bytes
pub run_within : (p : ℕ → Bool) (xs : List ℕ) → run p xs ≤ length xs
run_within p [] = omega arith
run_within p (x ∷ xs) = run_more p x xs (run_within p xs) (p x) refl
