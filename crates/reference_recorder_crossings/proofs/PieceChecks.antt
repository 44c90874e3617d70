-- The checks of pieces that are written below the cut.
use Rattle.std.proofs.Common.{◌≡◌, ℕ, ◌+◌, ◌<◌, ◌≤◌, ◌⊎◌, true, List, [], ◌∷◌, length, get_or, drop, min, Option, Some, None, inl, inr, refl, sym, ap, ◌∙◌, subst, arith}
use Rattle.std.proofs.lemmas.Bool.{cases_lt}
use Rattle.std.proofs.lemmas.List.{drop_all, drop_more}
use Rattle.marks.specs.declared.fault.FaultKind.TheVariants.{NotLive}
use Rattle.marks.specs.declared.range.Range.{Range}
use Rattle.marks.specs.Ranges.{range}
use Rattle.marks.specs.Marks.{Mark}
use Rattle.replay_runs.specs.Checks.{Check, Checks, Done, is_fault_found}
use Rattle.whole_runs.specs.World.{World}
use Rattle.whole_runs.specs.Below.{To, touch_checks}
use Rattle.whole_runs.specs.Below as below
use Rattle.whole_runs.specs.Tests.{piece_check, piece_checks}
use Rattle.reference_recorder_targets.specs.declared.places.Target.{Target}
use Rattle.reference_recorder_targets.specs.Places.{target_of, targets_of}
use Rattle.reference_recorder_findings.specs.declared.finding.Finding.{Finding}
use Rattle.reference_recorder_findings.specs.declared.finding.Finding.TheVariants.{Fault}
use Rattle.reference_recorder_findings.specs.Findings.{IsFound}
use Rattle.reference_recorder_findings.proofs.Lists.{FindsFor, after, found_after, found_first}

module _ (w : World) (p : List Mark) (t : ℕ) where
  -- ---- one

  abbrev long_check : Range → List ℕ → Checks
  long_check r b = Check (λ x. r.len < length b) (is_fault_found NotLive) Done

  pub long : (r : Range) (b : List ℕ) → r.len < length b → IsFound (piece_check w p t (To r) b Done) (Some (Fault NotLive))
  long r b lt = inl (0, (lt, λ y bad. omega arith), refl)

  pub fits : (r : Range) (b : List ℕ) → length b ≤ r.len → (o : Option Finding) → IsFound (touch_checks w p t true (range r.addr (length b)) Done) o → IsFound (piece_check w p t (To r) b Done) o
  fits r b le o h = found_after (long_check r b) (touch_checks w p t true (range r.addr (length b)) Done) o ((λ x lt. omega (arith, le, lt)), tt) h

  pub missing : (b : List ℕ) → IsFound (piece_check w p t below.Missing b Done) (Some (Fault NotLive))
  missing b = inl (0, (tt, λ y bad. omega arith), refl)

  -- ---- several

  piece_then : (x : below.Target) (b : List ℕ) (cs : Checks) → FindsFor (after (piece_check w p t x b Done) cs) (piece_check w p t x b cs)
  piece_then (below.To r) b cs o h = h
  piece_then below.Nowhere b cs o h = h
  piece_then below.Missing b cs o h = h

  abbrev pub from : List Target → List (List ℕ) → (place : ℕ) → Checks
  from xs bs i = piece_checks w p t (targets_of (drop i xs)) (drop i bs)

  step : (xs : List Target) (bs : List (List ℕ)) (i : ℕ) (x d : Target) (b e : List ℕ) → i < length xs → i < length bs → x ≡ get_or xs i d → b ≡ get_or bs i e →
      FindsFor (after (piece_check w p t (target_of x) b Done) (from xs bs (i + 1))) (from xs bs i)
  step xs bs i x d b e lt less is same o h =
      subst (λ ys. IsFound (piece_checks w p t (targets_of ys) (drop i bs)) o) (sym (drop_more xs i d lt ∙ ap (λ y. y ∷ drop (i + 1) xs) (sym is)))
      (subst (λ cs. IsFound (piece_checks w p t (targets_of (x ∷ drop (i + 1) xs)) cs) o) (sym (drop_more bs i e less ∙ ap (λ c. c ∷ drop (i + 1) bs) (sym same)))
      (piece_then (target_of x) b (from xs bs (i + 1)) o h))

  module _ (xs : List Target) (bs : List (List ℕ)) (i : ℕ) (rest : FindsFor (from xs bs i) (piece_checks w p t (targets_of xs) bs)) where
    module _ (x d : Target) (b e : List ℕ) (lt : i < length xs) (less : i < length bs) (is : x ≡ get_or xs i d) (same : b ≡ get_or bs i e) where
      pub piece_found : (f : Finding) → IsFound (piece_check w p t (target_of x) b Done) (Some f) → IsFound (piece_checks w p t (targets_of xs) bs) (Some f)
      piece_found f h = rest (Some f) (step xs bs i x d b e lt less is same (Some f) (found_first (piece_check w p t (target_of x) b Done) (from xs bs (i + 1)) f h))

      pub piece_passed : IsFound (piece_check w p t (target_of x) b Done) None → FindsFor (from xs bs (i + 1)) (piece_checks w p t (targets_of xs) bs)
      piece_passed pass o h = rest o (step xs bs i x d b e lt less is same o (found_after (piece_check w p t (target_of x) b Done) (from xs bs (i + 1)) o pass h))

    no_bytes : (ys : List below.Target) → IsFound (piece_checks w p t ys []) None
    no_bytes [] = tt
    no_bytes (y ∷ ys) = tt

    pub all_written : min (length xs) (length bs) ≤ i → IsFound (piece_checks w p t (targets_of xs) bs) None
    all_written le = rest None (by (cases_lt i (length xs)))
      where
        by : (i < length xs) ⊎ (length xs ≤ i) → IsFound (from xs bs i) None
        by (inl lt) = subst (λ cs. IsFound (piece_checks w p t (targets_of (drop i xs)) cs) None) (sym (drop_all i bs (omega (arith, le, lt)))) (no_bytes (targets_of (drop i xs)))
        by (inr past) = subst (λ ys. IsFound (piece_checks w p t (targets_of ys) (drop i bs)) None) (sym (drop_all i xs past)) tt
