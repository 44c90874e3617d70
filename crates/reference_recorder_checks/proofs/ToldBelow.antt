-- The tests below the cut, by what is told of the want.
use Rattle.std.proofs.Common.{◌≡◌, ℕ, Bool, true, false, ◌||◌, List, Some, None, ◌⊎◌, inl, inr, refl, sym, ap, ◌∙◌, subst, arith}
use Rattle.std.proofs.lemmas.Bool.{ne_eqb}
use Rattle.marks.specs.declared.side.Side.TheVariants.{System}
use Rattle.marks.specs.declared.fault.FaultKind.{FaultKind}
use Rattle.marks.specs.Kinds.{fault_number}
use Rattle.marks.specs.Ranges.{range}
use Rattle.marks.specs.Marks.{Mark}
use Rattle.marks.specs.Wants.{Want}
use Rattle.c_code.specs.Machine.{frame_of}
use Rattle.c_code.proofs.FrameBytes.{bytes_count}
use Rattle.replay_runs.specs.Pool.{is_registered}
use Rattle.replay_runs.specs.Checks.{Checks, Done, indirect_check}
use Rattle.whole_runs.specs.World.{World, begin, interface, main_of}
use Rattle.whole_runs.specs.Sides.{seen}
use Rattle.whole_runs.specs.Below.{touch_checks}
use Rattle.whole_runs.specs.Outcomes.{builtin_of}
use Rattle.whole_runs.specs.Tests.{back_checks, checks_below, full_check, is_back, step_checks}
use Rattle.reference_recorder_marks.specs.Marks.{without_origins}
use Rattle.reference_recorder_origins.proofs.Memory.{registered_seen}
use Rattle.recorder_threads.specs.declared.wants.Want.{Want as Told}
use Rattle.recorder_threads.specs.declared.wants.Want.TheVariants as told
use Rattle.recorder_threads.specs.Wants.{IsTold}
use Rattle.reference_recorder_findings.specs.declared.finding.Finding.{Finding}
use Rattle.reference_recorder_findings.specs.declared.finding.Finding.TheVariants.{Fault}
use Rattle.reference_recorder_findings.specs.Findings.{IsFound}
use Rattle.reference_recorder_findings.proofs.Lists.{FindsFor}

module _ (w : World) (p : List Mark) (t : ℕ) (args : List ℕ) (wanted : Want) where
  abbrev all : Checks
  all = checks_below w p t wanted

  of_want : (q : Want) → wanted ≡ q → FindsFor (checks_below w p t q) all
  of_want q e o h = subst (λ v. IsFound (checks_below w p t v) o) (sym e) h

  pub loads : (at n : ℕ) → IsTold w.laid args (told.Load at n) wanted → FindsFor (touch_checks w p t false (range at n) Done) all
  loads at n e = of_want _ e.1

  pub stores : (at n v : ℕ) → IsTold w.laid args (told.Store at n v) wanted → FindsFor (touch_checks w p t true (range at n) Done) all
  stores at n v e o h = of_want _ e.1 o (subst (λ k. IsFound (touch_checks w p t true (range at k) Done) o) (sym (bytes_count n v)) h)

  pub enters : (i : Bool) (f size : ℕ) → IsTold w.laid args (told.Enter i f size) wanted →
      FindsFor (indirect_check (interface w) i System f (full_check w p t size)) all
  enters i f size e o h = of_want _ e.0 o (subst (λ n. IsFound (indirect_check (interface w) i System f (full_check w p t n)) o) (sym e.1.count) h)

  pub calls_back : (f size : ℕ) → IsTold w.laid args (told.CallBack f size) wanted →
      FindsFor (back_checks w p t f (frame_of w.laid f args) (is_back w p f)) all
  calls_back f size e = of_want _ e.0

  pub steps : (i : Bool) (f : ℕ) → IsTold w.laid args (told.Step i f) wanted →
      FindsFor (indirect_check (interface w) i System f (step_checks w p t f args (builtin_of f))) all
  steps i f e = of_want _ e

  pub fails : (n : ℕ) (found : Finding) → ((kind : FaultKind) → n ≡ fault_number kind → found ≡ Fault kind) → IsTold w.laid args (told.Fault n) wanted →
      IsFound all (Some found)
  fails n found is e =
      subst (λ x. IsFound all (Some x)) (sym (is e.0 e.2)) (of_want _ e.1 (Some (Fault e.0)) (inl (0, (tt, λ y bad. omega arith), refl)))

  -- ---- what needs no test

  none_for : (said q : Told) → said ≡ q → IsTold w.laid args said wanted → (IsTold w.laid args q wanted → IsFound all None) → IsFound all None
  none_for said q e h by = by (subst (λ x. IsTold w.laid args x wanted) e h)

  pub untested : (said : Told) →
      (said ≡ told.Turn) ⊎ ((said ≡ told.Leave) ⊎ (((n : ℕ) × (said ≡ told.Alloc n)) ⊎ (((at : ℕ) × (said ≡ told.Free at)) ⊎
      (((i : Bool) × (f : ℕ) × (said ≡ told.Call i f)) ⊎ (((f : ℕ) × (said ≡ told.Give f)) ⊎
      (((f : ℕ) × (v : ℕ) × (said ≡ told.Return f v)) ⊎ ((v : ℕ) × (said ≡ told.UpReturn v)))))))) →
      IsTold w.laid args said wanted → IsFound all None
  untested said (inl e) h = none_for said told.Turn e h (λ is. of_want _ is None tt)
  untested said (inr (inl e)) h = none_for said told.Leave e h (λ is. of_want _ is.2 None tt)
  untested said (inr (inr (inl e))) h = none_for said (told.Alloc e.0) e.1 h (λ is. of_want _ is None tt)
  untested said (inr (inr (inr (inl e)))) h = none_for said (told.Free e.0) e.1 h (λ is. of_want _ is None tt)
  untested said (inr (inr (inr (inr (inl e))))) h = none_for said (told.Call e.0 e.1) e.2 h (λ is. of_want _ is None tt)
  untested said (inr (inr (inr (inr (inr (inl e)))))) h = none_for said (told.Give e.0) e.1 h (λ is. of_want _ is None tt)
  untested said (inr (inr (inr (inr (inr (inr (inl e))))))) h = none_for said (told.Return e.0 e.1) e.2 h (λ is. of_want _ is None tt)
  untested said (inr (inr (inr (inr (inr (inr (inr e))))))) h = none_for said (told.UpReturn e.0) e.1 h (λ is. of_want _ is.1 None tt)

-- ---- a function that isn't `main` is called back where a Call registered it

pub back_by_call : (w : World) (p q : List Mark) → without_origins p ≡ q → (f m : ℕ) (b : Bool) → m ≡ main_of w.laid.code → (f ≡ m → ⊥) →
    b ≡ is_registered (begin w) f (seen q) → b ≡ is_back w p f
back_by_call w p q same f m b is other e =
    e ∙ (ap (λ ms. is_registered (begin w) f (seen ms)) (sym same) ∙ (registered_seen w f p
    ∙ sym (ap (λ z. z || is_registered (begin w) f (seen p)) (ne_eqb f (main_of w.laid.code) (λ h. other (h ∙ sym is))))))
