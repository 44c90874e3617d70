-- The tests above the cut, by what is told of the want.
use Rattle.std.proofs.Common.{◌≡◌, ℕ, Bool, true, false, List, [], Some, None, inl, refl, sym, ap, ◌∙◌, subst, arith}
use Rattle.marks.specs.declared.side.Side.TheVariants.{Replay}
use Rattle.marks.specs.declared.fault.FaultKind.{FaultKind}
use Rattle.marks.specs.declared.breach.BreachKind.TheVariants.{Mode}
use Rattle.marks.specs.Kinds.{fault_number}
use Rattle.marks.specs.Places.{function_address}
use Rattle.marks.specs.Ranges.{range}
use Rattle.marks.specs.Marks.{Mark}
use Rattle.marks.specs.Wants.{Want, Leaves, Gives, Enters, Frees, Calls}
use Rattle.c_code.specs.Machine.{frame_of}
use Rattle.c_code.proofs.FrameBytes.{bytes_count}
use Rattle.replay_runs.specs.Checks.{Checks, Done, checks, range_checks}
use Rattle.whole_runs.specs.World.{World, begin, interface}
use Rattle.whole_runs.specs.Sides.{frames_on, seen}
use Rattle.whole_runs.specs.Below.{Given, given}
use Rattle.whole_runs.specs.Tests.{checks_above, give_checks, ret_checks}
use Rattle.reference_recorder_marks.specs.Marks.{without_origins}
use Rattle.reference_recorder_origins.proofs.Memory.{frames_on_without}
use Rattle.recorder_threads.specs.declared.wants.Want.TheVariants as told
use Rattle.recorder_threads.specs.Wants.{IsTold}
use Rattle.reference_recorder_findings.specs.declared.finding.Finding.{Finding}
use Rattle.reference_recorder_findings.specs.declared.finding.Finding.TheVariants.{Breach, Fault}
use Rattle.reference_recorder_findings.specs.Findings.{IsFound}
use Rattle.reference_recorder_findings.proofs.Lists.{FindsFor}

module _ (w : World) (p : List Mark) (t : ℕ) (args : List ℕ) (wanted : Want) where
  abbrev all : Checks
  all = checks_above w p t wanted

  of_want : (q : Want) → wanted ≡ q → FindsFor (checks_above w p t q) all
  of_want q e o h = subst (λ v. IsFound (checks_above w p t v) o) (sym e) h

  pub turns : IsTold w.laid args told.Turn wanted → IsFound all None
  turns e = of_want _ e None tt

  pub allocs : (n : ℕ) → IsTold w.laid args (told.Alloc n) wanted → IsFound all None
  allocs n e = of_want _ e None tt

  pub calls_back : (f size : ℕ) → IsTold w.laid args (told.CallBack f size) wanted → IsFound all None
  calls_back f size e = of_want _ e.0 None tt

  pub up_returns : (v : ℕ) → IsTold w.laid args (told.UpReturn v) wanted → IsFound all None
  up_returns v e = of_want _ e.1 None tt

  pub loads : (at n : ℕ) → IsTold w.laid args (told.Load at n) wanted → FindsFor (range_checks (begin w) (seen p) t false [] (range at n) Done) all
  loads at n e = of_want _ e.1

  pub stores : (at n v : ℕ) → IsTold w.laid args (told.Store at n v) wanted → FindsFor (range_checks (begin w) (seen p) t true [] (range at n) Done) all
  stores at n v e o h = of_want _ e.1 o (subst (λ k. IsFound (range_checks (begin w) (seen p) t true [] (range at k) Done) o) (sym (bytes_count n v)) h)

  pub enters : (i : Bool) (f size : ℕ) → IsTold w.laid args (told.Enter i f size) wanted →
      FindsFor (checks (interface w) (begin w) (seen p) t (Enters i f args (frame_of w.laid f args))) all
  enters i f size e = of_want _ e.0

  pub leaves : (at size : ℕ) → wanted ≡ Leaves at size → FindsFor (range_checks (begin w) (seen p) t true [] (range at size) Done) all
  leaves at size e = of_want _ e

  pub frees : (at : ℕ) → IsTold w.laid args (told.Free at) wanted → FindsFor (checks (interface w) (begin w) (seen p) t (Frees at)) all
  frees at e = of_want _ e

  pub calls : (i : Bool) (f : ℕ) → IsTold w.laid args (told.Call i f) wanted → FindsFor (checks (interface w) (begin w) (seen p) t (Calls i f args)) all
  calls i f e = of_want _ e

  pub gives : (f : ℕ) (g : Given) → (wanted ≡ Gives f args → g ≡ given w p t f args) → IsTold w.laid args (told.Give f) wanted →
      FindsFor (give_checks w p f args g) all
  gives f g is e o h = of_want _ e o (subst (λ x. IsFound (give_checks w p f args x) o) (is e) h)

  pub returns_to : (f v : ℕ) → IsTold w.laid args (told.Return f v) wanted → FindsFor (ret_checks w p f args v []) all
  returns_to f v e = of_want _ e

  pub steps : (i : Bool) (f : ℕ) (found : Finding) → found ≡ Breach Mode (function_address f) None → IsTold w.laid args (told.Step i f) wanted →
      IsFound all (Some found)
  steps i f found is e =
      subst (λ x. IsFound all (Some x)) (sym is) (of_want _ e (Some (Breach Mode (function_address f) None)) (inl (function_address f, (refl, λ y bad. omega (arith, bad)), refl)))

  pub fails : (n : ℕ) (found : Finding) → ((kind : FaultKind) → n ≡ fault_number kind → found ≡ Fault kind) → IsTold w.laid args (told.Fault n) wanted →
      IsFound all (Some found)
  fails n found is e =
      subst (λ x. IsFound all (Some x)) (sym (is e.0 e.2)) (of_want _ e.1 (Some (Fault e.0)) (inl (0, (tt, λ y bad. omega arith), refl)))

-- ---- the frames of which one is left

pub frames_same : (w : World) (p q : List Mark) → without_origins p ≡ q → (t : ℕ) → frames_on w Replay t q ≡ frames_on w Replay t p
frames_same w p q same t = ap (frames_on w Replay t) (sym same) ∙ frames_on_without w Replay t p
