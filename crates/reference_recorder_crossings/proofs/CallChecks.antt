-- The checks of a call, by what is done in it.
use Rattle.std.proofs.Common.{◌≡◌, ℕ, ◌+◌, ◌<◌, Bool, List, [], ◌∷◌, ◌++◌, length, get_or, take, Some, None, sym, ap, ◌∙◌, subst, append_assoc}
use Rattle.std.proofs.lemmas.List.{map-append, take_more}
use Rattle.marks.specs.declared.side.Side.TheVariants.{Replay, System}
use Rattle.marks.specs.declared.range.Range.{Range}
use Rattle.marks.specs.Ranges.{Prepared, prepared_ranges}
use Rattle.marks.specs.Marks.{Mark}
use Rattle.marks.specs.Wants.{Calls}
use Rattle.replay_runs.specs.Checks.{Checks, Done, checks, hold_checks, indirect_check, key_checks, mode_checks, read_checks}
use Rattle.stub_meaning.specs.Calls.{Done as Said}
use Rattle.whole_runs.specs.World.{World, begin, interface}
use Rattle.whole_runs.specs.Sides.{seen}
use Rattle.reference_recorder_targets.specs.Said.{done_on}
use Rattle.reference_recorder_findings.specs.declared.finding.Finding.{Finding}
use Rattle.reference_recorder_findings.specs.Findings.{IsFound}
use Rattle.reference_recorder_findings.proofs.Lists.{FindsFor, found_after, found_first}
use Rattle.reference_recorder_findings.proofs.Calls.{indirect_then, modes_then}
use Rattle.reference_recorder_findings.proofs.Ranges.{holds_then, reads_then}
use Rattle.reference_recorder_crossings.specs.Parts.{call_checks, region_checks}

-- ---- the regions, one after the other

pub one_more : (outs held more : List Range) (ps : List Prepared) (i : ℕ) (one : Prepared) (r : Range) → i < length ps → one ≡ get_or ps i one → r ≡ one.range →
    held ≡ outs ++ prepared_ranges (take i ps) → more ≡ held ++ r ∷ [] → more ≡ outs ++ prepared_ranges (take (i + 1) ps)
one_more outs held more ps i one r lt is same so_far pushed =
    let last : prepared_ranges (take i ps) ++ r ∷ [] ≡ prepared_ranges (take (i + 1) ps) =
    ap (λ q. prepared_ranges (take i ps) ++ q ∷ []) (same ∙ ap (λ (x : Prepared). x.range) is)
    ∙ (sym (map-append (λ (x : Prepared). x.range) (take i ps) (get_or ps i one ∷ [])) ∙ ap prepared_ranges (sym (take_more ps i one lt))) in
    pushed ∙ (ap (λ rs. rs ++ r ∷ []) so_far ∙ (append_assoc outs (prepared_ranges (take i ps)) (r ∷ []) ∙ ap (λ rs. outs ++ rs) last))

-- ---- what is done

module _ (w : World) (p : List Mark) (t : ℕ) (d : Said) where
  abbrev held : List Range
  held = d.outs ++ prepared_ranges d.prepares

  abbrev modes : List ℕ → Checks
  modes fs = mode_checks (interface w) Replay fs Done

  abbrev reads : List Range → Checks
  reads rs = read_checks (begin w) (seen p) t rs Done

  abbrev holds : List Range → Checks
  holds rs = hold_checks (begin w) (seen p) t [] rs Done

  abbrev keys : List Prepared → Checks
  keys ps = key_checks (begin w) (seen p) [] ps Done

  abbrev from_reads : Checks
  from_reads = read_checks (begin w) (seen p) t d.ins (region_checks w p t d)

  -- functions that may not run
  pub registered : (fs : List ℕ) → fs ≡ d.registers → (f : Finding) → IsFound (modes fs) (Some f) → IsFound (call_checks w p t d) (Some f)
  registered fs same f h =
      modes_then (interface w) Replay d.registers from_reads (Some f) (found_first (modes d.registers) from_reads f (subst (λ gs. IsFound (modes gs) (Some f)) same h))

  module _ (fs : List ℕ) (same : fs ≡ d.registers) (may : IsFound (modes fs) None) where
    past_modes : FindsFor from_reads (call_checks w p t d)
    past_modes o h = modes_then (interface w) Replay d.registers from_reads o (found_after (modes d.registers) from_reads o (subst (λ gs. IsFound (modes gs) None) same may) h)

    -- ranges that can't be read
    pub read : (rs : List Range) → rs ≡ d.ins → (f : Finding) → IsFound (reads rs) (Some f) → IsFound (call_checks w p t d) (Some f)
    read rs is f h =
        past_modes (Some f) (reads_then (begin w) (seen p) t d.ins (region_checks w p t d) (Some f) (found_first (reads d.ins) (region_checks w p t d) f (subst (λ qs. IsFound (reads qs) (Some f)) is h)))

    pub rest : (rs : List Range) → rs ≡ d.ins → IsFound (reads rs) None → FindsFor (region_checks w p t d) (call_checks w p t d)
    rest rs is pass o h =
        past_modes o (reads_then (begin w) (seen p) t d.ins (region_checks w p t d) o (found_after (reads d.ins) (region_checks w p t d) o (subst (λ qs. IsFound (reads qs) None) is pass) h))

  pub all_held : (rs outs : List Range) (ps : List Prepared) → rs ≡ outs ++ prepared_ranges ps → outs ≡ d.outs → ps ≡ d.prepares → rs ≡ held
  all_held rs outs ps all o q = all ∙ (ap (λ qs. qs ++ prepared_ranges ps) o ∙ ap (λ qs. d.outs ++ prepared_ranges qs) q)

  -- regions that can't be held
  pub wrong : (rs : List Range) → rs ≡ held → (f : Finding) → IsFound (holds rs) (Some f) → IsFound (region_checks w p t d) (Some f)
  wrong rs is f h =
      holds_then (begin w) (seen p) t [] held (keys d.prepares) (Some f) (found_first (holds held) (keys d.prepares) f (subst (λ qs. IsFound (holds qs) (Some f)) is h))

  pub right : (rs : List Range) → rs ≡ held → IsFound (holds rs) None → (ps : List Prepared) → ps ≡ d.prepares → FindsFor (keys ps) (region_checks w p t d)
  right rs is pass ps same o h =
      holds_then (begin w) (seen p) t [] held (keys d.prepares) o
      (found_after (holds held) (keys d.prepares) o (subst (λ qs. IsFound (holds qs) None) is pass) (subst (λ qs. IsFound (keys qs) o) same h))

-- ---- the whole call

module _ (w : World) (p : List Mark) (t : ℕ) (b : Bool) (f : ℕ) (args : List ℕ) where
  abbrev all : Checks
  all = checks (interface w) (begin w) (seen p) t (Calls b f args)

  abbrev pointed : Checks
  pointed = indirect_check (interface w) b System f Done

  abbrev by_done : Said → Checks
  by_done d = call_checks w p t d

  pub wrongly : (found : Finding) → IsFound pointed (Some found) → IsFound all (Some found)
  wrongly found h = indirect_then (interface w) System b f (by_done (done_on w Replay f args 0)) (Some found) (found_first pointed (by_done (done_on w Replay f args 0)) found h)

  pub rightly : IsFound pointed None → (d : Said) → d ≡ done_on w Replay f args 0 → FindsFor (by_done d) all
  rightly may d is o h =
      indirect_then (interface w) System b f (by_done (done_on w Replay f args 0)) o (found_after pointed (by_done (done_on w Replay f args 0)) o may (subst (λ e. IsFound (by_done e) o) is h))
