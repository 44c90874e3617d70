-- Bytes and pieces that are read one after the other.
use Rattle.std.proofs.Common.{refl, ◌≡◌, ⊎_elim, ℕ, suc, ◌+◌, ◌-◌, ◌<◌, ◌≤◌, ◌^◌, true, ◌&&◌, List, [], ◌∷◌, ◌++◌, length, get_or, take, sym, ap, ◌∙◌, subst, arith}
use Rattle.std.proofs.Math.ListN.{get_or-append}
use Rattle.std.proofs.lemmas.Bool.{and_parts, cases_lt, leb-true, lt-ltb, ltb-true}
use Rattle.std.proofs.lemmas.List.{get_or_push, length-append, take_all, take_more}
use Rattle.std.specs.Prelude.{unwrap_or, Option}
use Rattle.marks.specs.declared.range.Range.{Range}
use Rattle.marks.specs.Ranges.{Piece, are_bytes, byte_at, within}
use Rattle.reference_recorder_call_events.specs.Memory.{AreRead, IsPieceOf, IsRead}

-- ---- bytes

pub bytes_small : (bs : List ℕ) → ((i : ℕ) → get_or bs i 0 < 256) → are_bytes bs ≡ true
bytes_small [] h = refl
bytes_small (b ∷ bs) h = (λ j. lt-ltb b 256 (h 0) j && bytes_small bs (λ i. h (suc i)) j)

-- the bytes so far are these, where those are addresses
abbrev pub Show : (memory : ℕ → Option ℕ) → (at : ℕ) → List ℕ → (count : ℕ) → Type 0
Show memory at bs n = (k : ℕ) → k < n → at + k < 2 ^ 64 → get_or bs k 0 ≡ unwrap_or (memory (at + k)) 0

module _ (memory : ℕ → Option ℕ) (at : ℕ) (bs : List ℕ) (n : ℕ) (counted : length bs ≡ n) (shown : Show memory at bs n) where
  pub one_count : (b : ℕ) → length (bs ++ b ∷ []) ≡ n + 1
  one_count b = let e = length-append bs (b ∷ []) in omega (arith, e, counted)

  pub one_byte : (b : ℕ) → (at + n < 2 ^ 64 → b ≡ unwrap_or (memory (at + n)) 0) → Show memory at (bs ++ b ∷ []) (n + 1)
  one_byte b is k lt low = ⊎_elim
      (λ below. get_or-append bs (b ∷ []) 0 k (omega (arith, counted, below)) ∙ shown k below low)
      (λ le.
      let here : n ≡ k = omega (arith, le, lt) in
      get_or_push bs b 0 k (counted ∙ here) ∙ (is (omega (arith, here, low)) ∙ ap (λ i. unwrap_or (memory (at + i)) 0) here))
      (cases_lt k n)

  pub all_bytes : are_bytes bs ≡ true → IsRead memory at n bs
  all_bytes small = record { counted = counted; small = small; shown = here }
    where
      here : (x : ℕ) → within at n x ≡ true → x < 2 ^ 64 → byte_at at bs x ≡ unwrap_or (memory x) 0
      here x e low =
          let p = and_parts _ _ e in
          let le = leb-true at x p.0 in
          let lt = ltb-true x (at + n) p.1 in
          let same : at + (x - at) ≡ x = omega (arith, le) in
          shown (x - at) (omega (arith, le, lt)) (omega (arith, same, low)) ∙ ap (λ i. unwrap_or (memory i) 0) same

-- ---- pieces

module _ (memory : ℕ → Option ℕ) where
  both_read : (rs qs : List Range) (ns ms : List ℕ) (ps ts : List Piece) → AreRead memory rs ns ps → AreRead memory qs ms ts →
      AreRead memory (rs ++ qs) (ns ++ ms) (ps ++ ts)
  both_read [] qs [] ms [] ts h k = k
  both_read [] qs [] ms (p ∷ ps) ts h k = absurd h
  both_read [] qs (n ∷ ns) ms ps ts h k = absurd h
  both_read (r ∷ rs) qs [] ms ps ts h k = absurd h
  both_read (r ∷ rs) qs (n ∷ ns) ms [] ts h k = absurd h
  both_read (r ∷ rs) qs (n ∷ ns) ms (p ∷ ps) ts h k = (h.0, both_read rs qs ns ms ps ts h.1 k)

  pub one_piece : (rs : List Range) (ns : List ℕ) (ps : List Piece) (i : ℕ) (d : Range) (p : Piece) → i < length rs → i < length ns →
      AreRead memory (take i rs) (take i ns) ps → IsPieceOf memory (get_or rs i d) (get_or ns i 0) p →
      AreRead memory (take (i + 1) rs) (take (i + 1) ns) (ps ++ p ∷ [])
  one_piece rs ns ps i d p lr ln h c =
      subst (λ qs. AreRead memory qs (take (i + 1) ns) (ps ++ p ∷ [])) (sym (take_more rs i d lr))
      (subst (λ ms. AreRead memory (take i rs ++ get_or rs i d ∷ []) ms (ps ++ p ∷ [])) (sym (take_more ns i 0 ln))
      (both_read (take i rs) (get_or rs i d ∷ []) (take i ns) (get_or ns i 0 ∷ []) ps (p ∷ []) h (c, tt)))

  pub all_pieces : (rs : List Range) (ns : List ℕ) (ps : List Piece) (i : ℕ) → length rs ≤ i → length ns ≡ length rs →
      AreRead memory (take i rs) (take i ns) ps → AreRead memory rs ns ps
  all_pieces rs ns ps i le n h =
      subst (λ qs. AreRead memory qs ns ps) (take_all i rs le)
      (subst (λ ms. AreRead memory (take i rs) ms ps) (take_all i ns (omega (arith, le, n))) h)
