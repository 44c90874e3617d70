-- The checks of a call: modes, what is read and held, and keys.
use Rattle.std.proofs.Common.{ℕ, ◌+◌, ◌<◌, ◌≤◌, ◌≡◌, Bool, true, false, List, [], ◌∷◌, length, get_or, drop, Option, Some, None}
use Rattle.marks.specs.declared.side.Side.{Side}
use Rattle.marks.specs.declared.side.Side.TheVariants.{Replay}
use Rattle.marks.specs.declared.range.Range.{Range}
use Rattle.marks.specs.Ranges.{Prepared}
use Rattle.marks.specs.Marks.{Mark}
use Rattle.replay_runs.specs.Runs.{Start}
use Rattle.replay_runs.specs.Interface.{Interface}
use Rattle.replay_runs.specs.Checks.{Checks, Done, hold_checks, indirect_check, key_checks, mode_checks, read_checks}
use Rattle.reference_recorder_findings.specs.declared.finding.Finding.{Finding}
use Rattle.reference_recorder_findings.specs.Findings.{IsFound}
use Rattle.reference_recorder_findings.proofs.Lists.{FindsFor, after, after_same, all_passed, found_after, found_at, found_first, passed_at}
use Rattle.reference_recorder_findings.proofs.Ranges.{holds_then, reads_then}

-- ---- modes

module _ (i : Interface) (side : Side) where
  abbrev mode_one : Unit {0} → ℕ → Checks
  mode_one u f = mode_checks i side (f ∷ []) Done

  abbrev mode_all : Unit {0} → List ℕ → Checks
  mode_all u fs = mode_checks i side fs Done

  pub mode_found : (fs : List ℕ) (k f d : ℕ) (found : Finding) → k < length fs → f ≡ get_or fs k d →
      FindsFor (mode_checks i side (drop k fs) Done) (mode_checks i side fs Done) → IsFound (mode_checks i side (f ∷ []) Done) (Some found) →
      IsFound (mode_checks i side fs Done) (Some found)
  mode_found fs k f d found lt is = found_at mode_one mode_all (λ u f. tt) (λ u. tt) (λ u f fs o h. h) (mode_all tt fs) fs k f d tt found lt is

  pub mode_passed : (fs : List ℕ) (k f d : ℕ) → k < length fs → f ≡ get_or fs k d →
      FindsFor (mode_checks i side (drop k fs) Done) (mode_checks i side fs Done) → IsFound (mode_checks i side (f ∷ []) Done) None →
      FindsFor (mode_checks i side (drop (k + 1) fs) Done) (mode_checks i side fs Done)
  mode_passed fs k f d lt is = passed_at mode_one mode_all (λ u f. tt) (λ u. tt) (λ u f fs o h. h) (mode_all tt fs) fs k f d tt lt is

  pub modes_kept : (fs : List ℕ) (k : ℕ) → length fs ≤ k → FindsFor (mode_checks i side (drop k fs) Done) (mode_checks i side fs Done) →
      IsFound (mode_checks i side fs Done) None
  modes_kept fs k le = all_passed mode_one mode_all (λ u f. tt) (λ u. tt) (λ u f fs o h. h) (mode_all tt fs) fs k tt le

  pub modes_then : (fs : List ℕ) (cs : Checks) → FindsFor (after (mode_checks i side fs Done) cs) (mode_checks i side fs cs)
  modes_then [] cs o h = h
  modes_then (f ∷ fs) cs o h =
      after_same (mode_checks i side (f ∷ []) Done) (after (mode_checks i side fs Done) cs) (mode_checks i side fs cs) (modes_then fs cs) o h

  pub indirect_then : (b : Bool) (f : ℕ) (cs : Checks) → FindsFor (after (indirect_check i b side f Done) cs) (indirect_check i b side f cs)
  indirect_then true f cs o h = h
  indirect_then false f cs o h = h

-- ---- keys

module _ (s : Start) (past : List Mark) where
  abbrev key_one : List ℕ → Prepared → Checks
  key_one more p = key_checks s past more (p ∷ []) Done

  abbrev key_all : List ℕ → List Prepared → Checks
  key_all more ps = key_checks s past more ps Done

  abbrev one_more : List ℕ → Prepared → List ℕ
  one_more more p = p.key ∷ more

  pub key_found : (ps : List Prepared) (i : ℕ) (p d : Prepared) (more : List ℕ) (f : Finding) → i < length ps → p ≡ get_or ps i d →
      FindsFor (key_checks s past more (drop i ps) Done) (key_checks s past [] ps Done) → IsFound (key_checks s past more (p ∷ []) Done) (Some f) →
      IsFound (key_checks s past [] ps Done) (Some f)
  key_found ps i p d more f lt is = found_at key_one key_all one_more (λ u. tt) (λ u p ps o h. h) (key_all [] ps) ps i p d more f lt is

  pub key_passed : (ps : List Prepared) (i : ℕ) (p d : Prepared) (more : List ℕ) → i < length ps → p ≡ get_or ps i d →
      FindsFor (key_checks s past more (drop i ps) Done) (key_checks s past [] ps Done) → IsFound (key_checks s past more (p ∷ []) Done) None →
      FindsFor (key_checks s past (p.key ∷ more) (drop (i + 1) ps) Done) (key_checks s past [] ps Done)
  key_passed ps i p d more lt is = passed_at key_one key_all one_more (λ u. tt) (λ u p ps o h. h) (key_all [] ps) ps i p d more lt is

  pub keys_free : (ps : List Prepared) (i : ℕ) (more : List ℕ) → length ps ≤ i →
      FindsFor (key_checks s past more (drop i ps) Done) (key_checks s past [] ps Done) → IsFound (key_checks s past [] ps Done) None
  keys_free ps i more le = all_passed key_one key_all one_more (λ u. tt) (λ u p ps o h. h) (key_all [] ps) ps i more le

-- ---- all of them

-- functions that are registered, ranges that are read and held, and regions that are prepared
module _ (i : Interface) (s : Start) (past : List Mark) (t : ℕ) (registers : List ℕ) (ins held : List Range) (prepared : List Prepared) where
  abbrev from_keys : Checks
  from_keys = key_checks s past [] prepared Done

  abbrev from_holds : Checks
  from_holds = hold_checks s past t [] held from_keys

  abbrev from_reads : Checks
  from_reads = read_checks s past t ins from_holds

  abbrev pub call_checks : Checks
  call_checks = mode_checks i Replay registers from_reads

  pub registered : (found : Finding) → IsFound (mode_checks i Replay registers Done) (Some found) → IsFound call_checks (Some found)
  registered found h = modes_then i Replay registers from_reads (Some found) (found_first (mode_checks i Replay registers Done) from_reads found h)

  module _ (may : IsFound (mode_checks i Replay registers Done) None) where
    past_modes : FindsFor from_reads call_checks
    past_modes o h = modes_then i Replay registers from_reads o (found_after (mode_checks i Replay registers Done) from_reads o may h)

    pub read : (found : Finding) → IsFound (read_checks s past t ins Done) (Some found) → IsFound call_checks (Some found)
    read found h = past_modes (Some found) (reads_then s past t ins from_holds (Some found) (found_first (read_checks s past t ins Done) from_holds found h))

    module _ (reads : IsFound (read_checks s past t ins Done) None) where
      past_reads : FindsFor from_holds call_checks
      past_reads o h = past_modes o (reads_then s past t ins from_holds o (found_after (read_checks s past t ins Done) from_holds o reads h))

      pub held_back : (found : Finding) → IsFound (hold_checks s past t [] held Done) (Some found) → IsFound call_checks (Some found)
      held_back found h = past_reads (Some found) (holds_then s past t [] held from_keys (Some found) (found_first (hold_checks s past t [] held Done) from_keys found h))

      pub rest : IsFound (hold_checks s past t [] held Done) None → (o : Option Finding) → IsFound from_keys o → IsFound call_checks o
      rest holds o h = past_reads o (holds_then s past t [] held from_keys o (found_after (hold_checks s past t [] held Done) from_keys o holds h))
