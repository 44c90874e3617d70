-- Eight bytes that are read at once.
use Rattle.std.proofs.Common.{◌≡◌, ℕ, zero, suc, ◌+◌, ◌<◌, List, [], ◌∷◌, length, get_or, refl, ap, sym, ◌∙◌, arith}
use Rattle.std.specs.Int.{w64, to_le_bytes, from_le_bytes}
use Rattle.std.proofs.lemmas.Nat.{le_bytes_8}
use Rattle.space_memory_bytes.specs.Numbers.{digit}
use Rattle.space_memory_bytes.proofs.Marks.{digit_of}

-- eight bytes from a place on
abbrev pub eight : List ℕ → ℕ → List ℕ
eight bytes at =
    get_or bytes at 0 ∷ get_or bytes (at + 1) 0 ∷ get_or bytes (at + 2) 0 ∷ get_or bytes (at + 3) 0
    ∷ get_or bytes (at + 4) 0 ∷ get_or bytes (at + 5) 0 ∷ get_or bytes (at + 6) 0 ∷ get_or bytes (at + 7) 0 ∷ []

module _ (bytes : List ℕ) (at : ℕ) where
  each : (i : ℕ) → i < 8 → get_or (eight bytes at) i 0 ≡ get_or bytes (at + i) 0
  each zero lt = ap (λ k. get_or bytes k 0) (omega arith)
  each (suc zero) lt = refl
  each (suc (suc zero)) lt = refl
  each (suc (suc (suc zero))) lt = refl
  each (suc (suc (suc (suc zero)))) lt = refl
  each (suc (suc (suc (suc (suc zero))))) lt = refl
  each (suc (suc (suc (suc (suc (suc zero)))))) lt = refl
  each (suc (suc (suc (suc (suc (suc (suc zero))))))) lt = refl
  each (suc (suc (suc (suc (suc (suc (suc (suc i)))))))) lt = absurd (omega arith)

  small : ((k : ℕ) → get_or bytes k 0 < 256) → (i : ℕ) → get_or (eight bytes at) i 0 < 256
  small fit zero = fit at
  small fit (suc zero) = fit (at + 1)
  small fit (suc (suc zero)) = fit (at + 2)
  small fit (suc (suc (suc zero))) = fit (at + 3)
  small fit (suc (suc (suc (suc zero)))) = fit (at + 4)
  small fit (suc (suc (suc (suc (suc zero))))) = fit (at + 5)
  small fit (suc (suc (suc (suc (suc (suc zero)))))) = fit (at + 6)
  small fit (suc (suc (suc (suc (suc (suc (suc zero))))))) = fit (at + 7)
  small fit (suc (suc (suc (suc (suc (suc (suc (suc i)))))))) = omega arith

  -- their digits are the bytes
  pub word_digits : (value : ℕ) → ((k : ℕ) → get_or bytes k 0 < 256) → value ≡ from_le_bytes w64 (eight bytes at) → (i : ℕ) → i < 8 → digit value i ≡ get_or bytes (at + i) 0
  word_digits value fit is i lt =
      sym (digit_of value i lt) ∙ ap (λ (xs : List ℕ). get_or xs i 0) (le_bytes_8 (eight bytes at) value refl (small fit) is) ∙ each i lt
