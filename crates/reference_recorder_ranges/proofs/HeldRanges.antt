-- Ranges that are held: which bytes count as pending doesn't depend on the order of those before.
use Rattle.std.proofs.Common.{◌≡◌, ◌⊎◌, ℕ, ◌+◌, ◌<◌, Bool, true, false, ◌||◌, List, [], ◌∷◌, ◌++◌, length, get_or, take, drop, None, refl, sym, ap, subst, ◌∙◌}
use Rattle.std.proofs.lemmas.List.{take_more}
use Rattle.marks.specs.declared.breach.BreachKind.TheVariants.{Pending}
use Rattle.marks.specs.declared.range.Range.{Range}
use Rattle.marks.specs.Ranges.{any_range, covers}
use Rattle.marks.specs.Marks.{Mark}
use Rattle.marks.specs.Bytes.{IsHeld}
use Rattle.replay_runs.specs.Runs.{Start, byte}
use Rattle.replay_runs.specs.Checks.{Check, Checks, Done, constant_check, hold_checks, is_breach_found, live_check, other_space_check, race_check, range_checks}
use Rattle.reference_recorder_findings.specs.Findings.{IsFound}
use Rattle.reference_recorder_findings.proofs.Lists.{FindsFor}
use Rattle.reference_recorder_findings.proofs.Ranges.{hold_passed}

swap : (a b c : Bool) → (a || (b || c)) ≡ (b || (a || c))
swap true true c = refl
swap true false c = refl
swap false true c = refl
swap false false c = refl

any_last : (rs : List Range) (r : Range) (x : ℕ) → any_range (rs ++ r ∷ []) x ≡ any_range (r ∷ rs) x
any_last [] r x = refl
any_last (q ∷ qs) r x = ap (λ b. covers q x || b) (any_last qs r x) ∙ swap (covers q x) (covers r x) (any_range qs x)

module _ (s : Start) (past : List Mark) (t : ℕ) where
  -- the checks of a range that is held, where these bytes count as pending
  abbrev held : Range → (ℕ → Bool) → Checks → Checks
  held r more cs = other_space_check r (race_check past t true r (live_check s past r
      (Check (λ x. (covers r x ≡ true) × (IsHeld (byte s x past).cell ⊎ (more x ≡ true))) (is_breach_found Pending) (constant_check true r cs))))

  holds_same : (ms ns rs : List Range) → any_range ms ≡ any_range ns → hold_checks s past t ms rs Done ≡ hold_checks s past t ns rs Done
  holds_same ms ns [] e = refl
  holds_same ms ns (r ∷ rs) e =
      ap (λ more. held r more (hold_checks s past t (r ∷ ms) rs Done)) e
      ∙ ap (held r (any_range ns)) (holds_same (r ∷ ms) (r ∷ ns) rs (λ i x. covers r x || e i x))

  pub one_held : (rs : List Range) (i : ℕ) (r d : Range) → i < length rs → r ≡ get_or rs i d →
      FindsFor (hold_checks s past t (take i rs) (drop i rs) Done) (hold_checks s past t [] rs Done) → IsFound (range_checks s past t true (take i rs) r Done) None →
      FindsFor (hold_checks s past t (take (i + 1) rs) (drop (i + 1) rs) Done) (hold_checks s past t [] rs Done)
  one_held rs i r d lt is rest pass o h =
      hold_passed s past t rs i r d (take i rs) lt is rest pass o
      (subst (λ cs. IsFound cs o) (holds_same (take i rs ++ r ∷ []) (r ∷ take i rs) (drop (i + 1) rs) (λ j x. any_last (take i rs) r x j))
      (subst (λ ms. IsFound (hold_checks s past t ms (drop (i + 1) rs) Done) o) (take_more rs i d lt ∙ ap (λ q. take i rs ++ q ∷ []) (sym is)) h))
