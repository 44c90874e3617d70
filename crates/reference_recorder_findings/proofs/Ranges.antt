-- The checks of one range, and of several.
use Rattle.std.proofs.Common.{ℕ, ◌+◌, ◌<◌, ◌≤◌, ◌≡◌, Bool, true, false, List, [], ◌∷◌, length, get_or, drop, Option, Some, None}
use Rattle.marks.specs.declared.range.Range.{Range}
use Rattle.marks.specs.Marks.{Mark}
use Rattle.replay_runs.specs.Runs.{Start}
use Rattle.replay_runs.specs.Checks.{Checks, Done, constant_check, hold_checks, live_check, other_space_check, pending_check, race_check, range_checks, read_checks}
use Rattle.reference_recorder_findings.specs.declared.finding.Finding.{Finding}
use Rattle.reference_recorder_findings.specs.Findings.{IsFound}
use Rattle.reference_recorder_findings.proofs.Lists.{FindsFor, after, after_same, all_passed, found_after, found_at, found_first, passed_at}

-- ---- one

module _ (s : Start) (past : List Mark) (t : ℕ) (write : Bool) (more : List Range) (r : Range) where
  abbrev all : Checks
  all = range_checks s past t write more r Done

  abbrev from_pending : Checks
  from_pending = pending_check s past more r (constant_check write r Done)

  abbrev from_live : Checks
  from_live = live_check s past r from_pending

  abbrev from_race : Checks
  from_race = race_check past t write r from_live

  module _ (own : IsFound (other_space_check r Done) None) where
    past_space : FindsFor from_race all
    past_space o h = found_after (other_space_check r Done) from_race o own h

    pub raced : (f : Finding) → IsFound (race_check past t write r Done) (Some f) → IsFound all (Some f)
    raced f h = past_space (Some f) (found_first (race_check past t write r Done) from_live f h)

    module _ (unraced : IsFound (race_check past t write r Done) None) where
      past_race : FindsFor from_live all
      past_race o h = past_space o (found_after (race_check past t write r Done) from_live o unraced h)

      pub dead : (f : Finding) → IsFound (live_check s past r Done) (Some f) → IsFound all (Some f)
      dead f h = past_race (Some f) (found_first (live_check s past r Done) from_pending f h)

      module _ (lives : IsFound (live_check s past r Done) None) where
        past_live : FindsFor from_pending all
        past_live o h = past_race o (found_after (live_check s past r Done) from_pending o lives h)

        pub pending : (f : Finding) → IsFound (pending_check s past more r Done) (Some f) → IsFound all (Some f)
        pending f h = past_live (Some f) (found_first (pending_check s past more r Done) (constant_check write r Done) f h)

        pub rest : IsFound (pending_check s past more r Done) None → (o : Option Finding) → IsFound (constant_check write r Done) o → IsFound all o
        rest free o h = past_live o (found_after (pending_check s past more r Done) (constant_check write r Done) o free h)

  pub other_space : (f : Finding) → IsFound (other_space_check r Done) (Some f) → IsFound all (Some f)
  other_space f h = found_first (other_space_check r Done) from_race f h

-- ---- several

module _ (s : Start) (past : List Mark) (t : ℕ) where
  abbrev read_one : Unit {0} → Range → Checks
  read_one u r = range_checks s past t false [] r Done

  abbrev read_all : Unit {0} → List Range → Checks
  read_all u rs = read_checks s past t rs Done

  pub read_found : (rs : List Range) (i : ℕ) (r d : Range) (f : Finding) → i < length rs → r ≡ get_or rs i d →
      FindsFor (read_checks s past t (drop i rs) Done) (read_checks s past t rs Done) → IsFound (range_checks s past t false [] r Done) (Some f) →
      IsFound (read_checks s past t rs Done) (Some f)
  read_found rs i r d f lt is = found_at read_one read_all (λ u r. tt) (λ u. tt) (λ u r rs o h. h) (read_all tt rs) rs i r d tt f lt is

  pub read_passed : (rs : List Range) (i : ℕ) (r d : Range) → i < length rs → r ≡ get_or rs i d →
      FindsFor (read_checks s past t (drop i rs) Done) (read_checks s past t rs Done) → IsFound (range_checks s past t false [] r Done) None →
      FindsFor (read_checks s past t (drop (i + 1) rs) Done) (read_checks s past t rs Done)
  read_passed rs i r d lt is = passed_at read_one read_all (λ u r. tt) (λ u. tt) (λ u r rs o h. h) (read_all tt rs) rs i r d tt lt is

  pub all_read : (rs : List Range) (i : ℕ) → length rs ≤ i → FindsFor (read_checks s past t (drop i rs) Done) (read_checks s past t rs Done) →
      IsFound (read_checks s past t rs Done) None
  all_read rs i le = all_passed read_one read_all (λ u r. tt) (λ u. tt) (λ u r rs o h. h) (read_all tt rs) rs i tt le

  pub reads_then : (rs : List Range) (cs : Checks) → FindsFor (after (read_checks s past t rs Done) cs) (read_checks s past t rs cs)
  reads_then [] cs o h = h
  reads_then (r ∷ rs) cs o h =
      after_same (range_checks s past t false [] r Done) (after (read_checks s past t rs Done) cs) (read_checks s past t rs cs) (reads_then rs cs) o h

  -- ---- held

  abbrev hold_one : List Range → Range → Checks
  hold_one more r = range_checks s past t true more r Done

  abbrev hold_all : List Range → List Range → Checks
  hold_all more rs = hold_checks s past t more rs Done

  abbrev one_more : List Range → Range → List Range
  one_more more r = r ∷ more

  pub hold_found : (rs : List Range) (i : ℕ) (r d : Range) (more : List Range) (f : Finding) → i < length rs → r ≡ get_or rs i d →
      FindsFor (hold_checks s past t more (drop i rs) Done) (hold_checks s past t [] rs Done) → IsFound (range_checks s past t true more r Done) (Some f) →
      IsFound (hold_checks s past t [] rs Done) (Some f)
  hold_found rs i r d more f lt is = found_at hold_one hold_all one_more (λ u. tt) (λ u r rs o h. h) (hold_all [] rs) rs i r d more f lt is

  pub hold_passed : (rs : List Range) (i : ℕ) (r d : Range) (more : List Range) → i < length rs → r ≡ get_or rs i d →
      FindsFor (hold_checks s past t more (drop i rs) Done) (hold_checks s past t [] rs Done) → IsFound (range_checks s past t true more r Done) None →
      FindsFor (hold_checks s past t (r ∷ more) (drop (i + 1) rs) Done) (hold_checks s past t [] rs Done)
  hold_passed rs i r d more lt is = passed_at hold_one hold_all one_more (λ u. tt) (λ u r rs o h. h) (hold_all [] rs) rs i r d more lt is

  pub all_held : (rs : List Range) (i : ℕ) (more : List Range) → length rs ≤ i →
      FindsFor (hold_checks s past t more (drop i rs) Done) (hold_checks s past t [] rs Done) → IsFound (hold_checks s past t [] rs Done) None
  all_held rs i more le = all_passed hold_one hold_all one_more (λ u. tt) (λ u r rs o h. h) (hold_all [] rs) rs i more le

  pub holds_then : (more rs : List Range) (cs : Checks) → FindsFor (after (hold_checks s past t more rs Done) cs) (hold_checks s past t more rs cs)
  holds_then more [] cs o h = h
  holds_then more (r ∷ rs) cs o h =
      after_same (range_checks s past t true more r Done) (after (hold_checks s past t (r ∷ more) rs Done) cs) (hold_checks s past t (r ∷ more) rs cs) (holds_then (r ∷ more) rs cs) o h
