-- The checks of a range below the cut, and of several.
use Rattle.std.proofs.Common.{◌≡◌, ℕ, ◌+◌, ◌<◌, ◌≤◌, Bool, false, List, length, get_or, drop, Option, Some, None}
use Rattle.marks.specs.declared.range.Range.{Range}
use Rattle.marks.specs.Marks.{Mark}
use Rattle.replay_runs.specs.Checks.{Checks, Done, constant_check}
use Rattle.whole_runs.specs.World.{World}
use Rattle.whole_runs.specs.Below.{read_checks, touch_checks}
use Rattle.reference_recorder_findings.specs.declared.finding.Finding.{Finding}
use Rattle.reference_recorder_findings.specs.Findings.{IsFound}
use Rattle.reference_recorder_findings.proofs.Lists.{FindsFor, all_passed, found_after, found_at, found_first, passed_at}
use Rattle.reference_recorder_ranges.specs.Below.{forbidden_check, lost_check}

module _ (w : World) (p : List Mark) (t : ℕ) (write : Bool) (r : Range) where
  abbrev all : Checks
  all = touch_checks w p t write r Done

  abbrev from_lost : Checks
  from_lost = lost_check w p r (constant_check write r Done)

  pub forbidden : (f : Finding) → IsFound (forbidden_check w p t write r Done) (Some f) → IsFound all (Some f)
  forbidden f h = found_first (forbidden_check w p t write r Done) from_lost f h

  module _ (may : IsFound (forbidden_check w p t write r Done) None) where
    pub lost : (f : Finding) → IsFound (lost_check w p r Done) (Some f) → IsFound all (Some f)
    lost f h = found_after (forbidden_check w p t write r Done) from_lost (Some f) may (found_first (lost_check w p r Done) (constant_check write r Done) f h)

    pub rest : IsFound (lost_check w p r Done) None → (o : Option Finding) → IsFound (constant_check write r Done) o → IsFound all o
    rest there o h = found_after (forbidden_check w p t write r Done) from_lost o may (found_after (lost_check w p r Done) (constant_check write r Done) o there h)

module _ (w : World) (p : List Mark) (t : ℕ) where
  abbrev read_one : Unit {0} → Range → Checks
  read_one u r = touch_checks w p t false r Done

  abbrev read_all : Unit {0} → List Range → Checks
  read_all u rs = read_checks w p t rs

  pub read_found : (rs : List Range) (i : ℕ) (r d : Range) (f : Finding) → i < length rs → r ≡ get_or rs i d →
      FindsFor (read_checks w p t (drop i rs)) (read_checks w p t rs) → IsFound (touch_checks w p t false r Done) (Some f) → IsFound (read_checks w p t rs) (Some f)
  read_found rs i r d f lt is = found_at read_one read_all (λ u r. tt) (λ u. tt) (λ u r rs o h. h) (read_all tt rs) rs i r d tt f lt is

  pub read_passed : (rs : List Range) (i : ℕ) (r d : Range) → i < length rs → r ≡ get_or rs i d →
      FindsFor (read_checks w p t (drop i rs)) (read_checks w p t rs) → IsFound (touch_checks w p t false r Done) None →
      FindsFor (read_checks w p t (drop (i + 1) rs)) (read_checks w p t rs)
  read_passed rs i r d lt is = passed_at read_one read_all (λ u r. tt) (λ u. tt) (λ u r rs o h. h) (read_all tt rs) rs i r d tt lt is

  pub all_read : (rs : List Range) (i : ℕ) → length rs ≤ i → FindsFor (read_checks w p t (drop i rs)) (read_checks w p t rs) → IsFound (read_checks w p t rs) None
  all_read rs i le = all_passed read_one read_all (λ u r. tt) (λ u. tt) (λ u r rs o h. h) (read_all tt rs) rs i tt le
