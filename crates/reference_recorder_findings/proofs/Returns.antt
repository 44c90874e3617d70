-- The checks of a return: the sizes of the pieces that come up, and the key that is committed.
use Rattle.std.proofs.Common.{◌≡◌, ℕ, zero, suc, ◌+◌, ◌<◌, ◌≤◌, Bool, List, [], ◌∷◌, length, get_or, drop, min, ◌⊎◌, inl, inr, add-one, Some, None, refl, sym, ap, ◌∙◌, subst, arith}
use Rattle.std.proofs.lemmas.Bool.{cases_lt}
use Rattle.std.proofs.lemmas.List.{drop_all, drop_more}
use Rattle.marks.specs.declared.range.Range.{Range}
use Rattle.replay_runs.specs.Threads.{tail}
use Rattle.replay_runs.specs.Checks.{Checks, Done, first_length, size_check, size_checks}
use Rattle.reference_recorder_findings.specs.declared.finding.Finding.{Finding}
use Rattle.reference_recorder_findings.specs.Findings.{IsFound}
use Rattle.reference_recorder_findings.proofs.Lists.{FindsFor, after, after_same, found_after, found_first}

first_dropped : (ps : List ℕ) (i : ℕ) → first_length (drop i ps) ≡ get_or ps i 0
first_dropped [] zero = refl
first_dropped [] (suc i) = refl
first_dropped (p ∷ ps) zero = refl
first_dropped (p ∷ ps) (suc i) = first_dropped ps i

tail_of : (ps : List ℕ) (i : ℕ) → tail (drop i ps) ≡ drop (suc i) ps
tail_of [] zero = refl
tail_of [] (suc i) = refl
tail_of (p ∷ ps) zero = refl
tail_of (p ∷ ps) (suc i) = tail_of ps i

tail_dropped : (ps : List ℕ) (i : ℕ) → tail (drop i ps) ≡ drop (i + 1) ps
tail_dropped ps i = rw add-one (tail_of ps i)

module _ (changed : ℕ → Bool) where
  -- from a place on
  abbrev pub sizes_from : (pieces : List ℕ) (rs : List Range) (ns : List ℕ) (i : ℕ) → Checks
  sizes_from pieces rs ns i = size_checks changed (drop i pieces) (drop i rs) (drop i ns) Done

  step : (pieces : List ℕ) (rs : List Range) (ns : List ℕ) (i : ℕ) (r d : Range) (n : ℕ) → i < length rs → i < length ns → r ≡ get_or rs i d → n ≡ get_or ns i 0 →
      FindsFor (after (size_check changed (get_or pieces i 0) r n Done) (sizes_from pieces rs ns (i + 1))) (sizes_from pieces rs ns i)
  step pieces rs ns i r d n lt less is same o h =
      subst (λ qs. IsFound (size_checks changed (drop i pieces) qs (drop i ns) Done) o) (sym (drop_more rs i d lt ∙ ap (λ q. q ∷ drop (i + 1) rs) (sym is)))
      (subst (λ ms. IsFound (size_checks changed (drop i pieces) (r ∷ drop (i + 1) rs) ms Done) o) (sym (drop_more ns i 0 less ∙ ap (λ m. m ∷ drop (i + 1) ns) (sym same)))
      (subst (λ k. IsFound (size_check changed k r n (size_checks changed (tail (drop i pieces)) (drop (i + 1) rs) (drop (i + 1) ns) Done)) o) (sym (first_dropped pieces i))
      (subst (λ qs. IsFound (size_check changed (get_or pieces i 0) r n (size_checks changed qs (drop (i + 1) rs) (drop (i + 1) ns) Done)) o) (sym (tail_dropped pieces i)) h)))

  module _ (cs : Checks) (pieces : List ℕ) (rs : List Range) (ns : List ℕ) (i : ℕ) (rest : FindsFor (sizes_from pieces rs ns i) cs) where
    module _ (r d : Range) (n : ℕ) (lt : i < length rs) (less : i < length ns) (is : r ≡ get_or rs i d) (same : n ≡ get_or ns i 0) where
      pub size_found : (f : Finding) → IsFound (size_check changed (get_or pieces i 0) r n Done) (Some f) → IsFound cs (Some f)
      size_found f h = rest (Some f) (step pieces rs ns i r d n lt less is same (Some f) (found_first (size_check changed (get_or pieces i 0) r n Done) (sizes_from pieces rs ns (i + 1)) f h))

      pub size_passed : IsFound (size_check changed (get_or pieces i 0) r n Done) None → FindsFor (sizes_from pieces rs ns (i + 1)) cs
      size_passed pass o h = rest o (step pieces rs ns i r d n lt less is same o (found_after (size_check changed (get_or pieces i 0) r n Done) (sizes_from pieces rs ns (i + 1)) o pass h))

  none_of : (pieces : List ℕ) (rs : List Range) → IsFound (size_checks changed pieces rs [] Done) None
  none_of pieces [] = tt
  none_of pieces (r ∷ rs) = tt

  module _ (cs : Checks) (pieces : List ℕ) (rs : List Range) (ns : List ℕ) (i : ℕ) (rest : FindsFor (sizes_from pieces rs ns i) cs) where
    pub sizes_end : length rs ≤ i → IsFound cs None
    sizes_end le = rest None (subst (λ qs. IsFound (size_checks changed (drop i pieces) qs (drop i ns) Done) None) (sym (drop_all i rs le)) tt)

    pub sizes_stop : length ns ≤ i → IsFound cs None
    sizes_stop le = rest None (subst (λ ms. IsFound (size_checks changed (drop i pieces) (drop i rs) ms Done) None) (sym (drop_all i ns le)) (none_of (drop i pieces) (drop i rs)))

    pub sizes_done : min (length rs) (length ns) ≤ i → IsFound cs None
    sizes_done le = by (cases_lt i (length rs))
      where
        by : (i < length rs) ⊎ (length rs ≤ i) → IsFound cs None
        by (inl lt) = sizes_stop (omega (arith, le, lt))
        by (inr past) = sizes_end past

  pub sizes_then : (pieces : List ℕ) (rs : List Range) (ns : List ℕ) (cs : Checks) → FindsFor (after (size_checks changed pieces rs ns Done) cs) (size_checks changed pieces rs ns cs)
  sizes_then pieces [] ns cs o h = h
  sizes_then pieces (r ∷ rs) [] cs o h = h
  sizes_then pieces (r ∷ rs) (n ∷ ns) cs o h =
      after_same (size_check changed (first_length pieces) r n Done) (after (size_checks changed (tail pieces) rs ns Done) cs) (size_checks changed (tail pieces) rs ns cs) (sizes_then (tail pieces) rs ns cs) o h
