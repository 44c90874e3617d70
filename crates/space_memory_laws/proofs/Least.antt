-- A range without a least byte of a kind has none.
use Rattle.std.proofs.Common.{◌≡◌, ℕ, zero, suc, ◌<◌, Bool, true, false, inl, inr, sym, ◌∙◌, arith}
use Rattle.std.proofs.lemmas.Bool.{cases_lt, cases_Bool, true≢false}
use Rattle.marks.specs.declared.range.Range.{Range}
use Rattle.marks.specs.Ranges.{IsInRange, IsLeastIn, NoneIn}

module _ (r : Range) (test : ℕ → Bool) (none : (x : ℕ) → IsLeastIn r (λ y. test y ≡ true) x → ⊥) where
  -- an address of the range is the least one where none before it is of the kind
  first : (x : ℕ) → IsInRange r x → ((y : ℕ) → y < x → IsInRange r y → test y ≡ false) → test x ≡ false
  first x in' before = elim (cases_Bool (test x)) [
    | inr absent ↦ absent
    | inl holds ↦ absurd (none x (record {
      in_range = in';
      holds = holds;
      least = λ y in'' is. elim (cases_lt y x) [
        | inr le ↦ le
        | inl lt ↦ absurd (true≢false (sym is ∙ before y lt in''))
      ];
    }))
  ]

  up_to : (n x : ℕ) → x < n → IsInRange r x → test x ≡ false
  up_to zero x lt in' = absurd (omega arith)
  up_to (suc n) x lt in' = first x in' (λ y less in''. up_to n y (omega arith) in'')

  pub none_in : NoneIn r (λ y. test y ≡ true)
  none_in x in' is = true≢false (sym is ∙ up_to (suc x) x (omega arith) in')
