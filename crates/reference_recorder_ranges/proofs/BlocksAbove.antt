-- What the checks of a block above the cut find.
use Rattle.std.proofs.Common.{◌≡◌, ℕ, zero, suc, true, List, [], Option, Some, None, inl, refl, sym, ap, subst, ◌∙◌, arith}
use Rattle.marks.specs.declared.fault.FaultKind.TheVariants.{NotLive}
use Rattle.marks.specs.declared.range.Range.{Range}
use Rattle.marks.specs.Marks.{Mark}
use Rattle.marks.specs.Bytes.{Byte}
use Rattle.marks.specs.Wants.{Frees}
use Rattle.replay_runs.specs.Runs.{Start, byte}
use Rattle.replay_runs.specs.Interface.{Interface}
use Rattle.replay_runs.specs.Checks.{Check, Checks, Done, checks, freed_range, is_fault_found, live_check, other_space_check, pending_check, race_check}
use Rattle.whole_runs.specs.World.{World, begin}
use Rattle.whole_runs.specs.Sides.{seen}
use Rattle.reference_recorder_marks.specs.Marks.{without_origins}
use Rattle.reference_recorder_origins.proofs.Memory.{byte_seen}
use Rattle.reference_recorder_findings.specs.declared.finding.Finding.{Finding}
use Rattle.reference_recorder_findings.specs.declared.finding.Finding.TheVariants.{Fault}
use Rattle.reference_recorder_findings.specs.Findings.{IsFound}
use Rattle.reference_recorder_findings.proofs.Lists.{FindsFor, found_after, found_first}
use Rattle.reference_recorder_ranges.specs.Checks.{block_checks}

pub block_same : (w : World) (p q : List Mark) (x : ℕ) → without_origins p ≡ q → (byte (begin w) x (seen q)).block ≡ (byte (begin w) x (seen p)).block
block_same w p q x same = ap (λ (ms : List Mark). (byte (begin w) x (seen ms)).block) (sym same) ∙ ap (λ (b : Byte). b.block) (byte_seen w x p)

module _ (s : Start) (past : List Mark) (t a size : ℕ) where
  abbrev all : Checks
  all = block_checks s past t a size

  abbrev block : Range
  block = freed_range a size

  abbrev there : Checks → Checks
  there cs = Check (λ x. (x ≡ a) × (size ≡ 0)) (is_fault_found NotLive) cs

  abbrev from_live : Checks
  from_live = live_check s past block (pending_check s past [] block Done)

  abbrev from_race : Checks
  from_race = race_check past t true block (there from_live)

  pub below : (f : Finding) → IsFound (other_space_check block Done) (Some f) → IsFound all (Some f)
  below f h = found_first (other_space_check block Done) from_race f h

  module _ (own : IsFound (other_space_check block Done) None) where
    pub raced : (f : Finding) → IsFound (race_check past t true block Done) (Some f) → IsFound all (Some f)
    raced f h = found_after (other_space_check block Done) from_race (Some f) own (found_first (race_check past t true block Done) (there from_live) f h)

    module _ (unraced : IsFound (race_check past t true block Done) None) where
      past_race : FindsFor (there from_live) all
      past_race o h = found_after (other_space_check block Done) from_race o own (found_after (race_check past t true block Done) (there from_live) o unraced h)

      pub no_block : size ≡ 0 → IsFound all (Some (Fault NotLive))
      no_block e = past_race (Some (Fault NotLive)) (inl (a, ((refl, e), λ y bad. let is = bad.0 in omega (arith, is)), refl))

      module _ (one : size ≡ 0 → ⊥) where
        past_block : FindsFor from_live all
        past_block o h = past_race o (found_after (there Done) from_live o ((λ x bad. one bad.1), tt) h)

        pub died : (f : Finding) → IsFound (live_check s past block Done) (Some f) → IsFound all (Some f)
        died f h = past_block (Some f) (found_first (live_check s past block Done) (pending_check s past [] block Done) f h)

        pub rest : IsFound (live_check s past block Done) None → (o : Option Finding) → IsFound (pending_check s past [] block Done) o → IsFound all o
        rest lives o h = past_block o (found_after (live_check s past block Done) (pending_check s past [] block Done) o lives h)

-- a pointer that isn't NULL is given back
pub not_null : (i : Interface) (s : Start) (past : List Mark) (t at size : ℕ) (o : Option Finding) → (at ≡ 0 → ⊥) → size ≡ (byte s at past).block →
    IsFound (block_checks s past t at size) o → IsFound (checks i s past t (Frees at)) o
not_null i s past t zero size o ne is h = absurd (ne refl)
not_null i s past t (suc a) size o ne is h = subst (λ n. IsFound (block_checks s past t (suc a) n) o) is h

pub null : (i : Interface) (s : Start) (past : List Mark) (t at : ℕ) → at ≡ 0 → IsFound (checks i s past t (Frees at)) None
null i s past t zero e = tt
null i s past t (suc a) e = absurd cc
