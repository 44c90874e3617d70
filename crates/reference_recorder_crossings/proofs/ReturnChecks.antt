-- The checks of a return, by what comes up.
use Rattle.std.proofs.Common.{◌≡◌, ℕ, List, [], ◌∷◌, map, ◌++◌, length, get_or, Option, Some, None, refl, sym, ap, ◌∙◌, subst}
use Rattle.marks.specs.declared.side.Side.TheVariants.{Replay}
use Rattle.marks.specs.declared.range.Range.{Range}
use Rattle.marks.specs.Ranges.{Piece}
use Rattle.marks.specs.Marks.{Mark}
use Rattle.replay_runs.specs.Interface.{Committing}
use Rattle.replay_runs.specs.Pool.{in_use}
use Rattle.replay_runs.specs.Checks.{Checks, Done, commit_size_check, return_checks}
use Rattle.stub_meaning.specs.Calls.{Done as Said}
use Rattle.stub_meaning.specs.Meaning.{first_of}
use Rattle.whole_runs.specs.World.{World, begin, interface}
use Rattle.whole_runs.specs.Sides.{seen}
use Rattle.whole_runs.specs.Below.{Target, To, commit_target, pieces_for, target_at, target_used, targets}
use Rattle.whole_runs.specs.Tests.{comes_up, ret_checks}
use Rattle.reference_recorder_marks.specs.Marks.{without_origins}
use Rattle.reference_recorder_origins.proofs.Memory.{in_use_seen}
use Rattle.reference_recorder_targets.specs.declared.places.Target.{Target as Place}
use Rattle.reference_recorder_targets.specs.Places.{targets_of}
use Rattle.reference_recorder_targets.specs.Said.{done_on}
use Rattle.reference_recorder_findings.specs.declared.finding.Finding.{Finding}
use Rattle.reference_recorder_findings.specs.Findings.{IsFound}
use Rattle.reference_recorder_findings.proofs.Lists.{FindsFor, found_after, found_first}
use Rattle.reference_recorder_findings.proofs.Returns.{sizes_then}
use Rattle.reference_recorder_ranges.specs.Checks.{changed_by}
use Rattle.reference_recorder_uses.specs.Checks.{key_check}
use Rattle.reference_recorder_crossings.specs.Parts.{brought_checks, committed_checks, held_checks}

-- ---- a region that is released

module _ (w : World) (p : List Mark) (pieces : List Piece) (answers : List (List ℕ)) (regions : List Range) (used : List ℕ) (k n : ℕ) where
  abbrev all : Checks
  all = committed_checks w p pieces answers regions used k (Some n)

  abbrev last : Checks
  last = commit_size_check (changed_by w p pieces) (length (get_or answers (length regions) [])) (in_use (begin w) k (seen p)) n Done

  abbrev from_sizes : Checks
  from_sizes = held_checks w p pieces answers regions used last

  pub key_missing : (f : Finding) → IsFound (key_check (begin w) (seen p) k Done) (Some f) → IsFound all (Some f)
  key_missing f h = found_first (key_check (begin w) (seen p) k Done) from_sizes f h

  module _ (there : IsFound (key_check (begin w) (seen p) k Done) None) where
    past_key : FindsFor from_sizes all
    past_key o h = found_after (key_check (begin w) (seen p) k Done) from_sizes o there h

    pub held_wrong : (f : Finding) → IsFound (held_checks w p pieces answers regions used Done) (Some f) → IsFound all (Some f)
    held_wrong f h =
        past_key (Some f) (sizes_then (changed_by w p pieces) (map length answers) regions used last (Some f) (found_first (held_checks w p pieces answers regions used Done) last f h))

    pub held_right : IsFound (held_checks w p pieces answers regions used Done) None → (o : Option Finding) → IsFound last o → IsFound all o
    held_right right o h =
        past_key o (sizes_then (changed_by w p pieces) (map length answers) regions used last o (found_after (held_checks w p pieces answers regions used Done) last o right h))

-- ---- targets don't depend on origins

module _ (w : World) (p q : List Mark) (same : without_origins p ≡ q) where
  used_target : (k : ℕ) (n : Option ℕ) → target_used w Replay k q n ≡ target_used w Replay k p n
  used_target k None = refl
  used_target k (Some n) = ap target_at (ap (λ ms. in_use (begin w) k (seen ms)) (sym same) ∙ in_use_seen w k p)

  target_same : (o : Option Committing) → commit_target w Replay q o ≡ commit_target w Replay p o
  target_same None = refl
  target_same (Some c) = ap (λ (x : Target). x ∷ []) (used_target c.key c.used)

  pub targets_same : (f : ℕ) (args : List ℕ) (v : ℕ) → targets w Replay q f args v ≡ targets w Replay p f args v
  targets_same f args v = ap (λ xs. map To ((interface w).outs f args) ++ xs) (target_same ((interface w).commits f args v))

-- ---- all of it

module _ (w : World) (p : List Mark) (f : ℕ) (args : List ℕ) (v : ℕ) (answers : List (List ℕ)) where
  abbrev brings : List Piece
  brings = pieces_for (targets w Replay p f args v) answers

  -- with another commit
  abbrev checks_of : Option Committing → Checks
  checks_of o = return_checks (record (interface w) { commits = λ g b u. o }) (begin w) (seen p) (comes_up w p f args v answers) f args v

  by_used : (k : ℕ) (n : Option ℕ) →
      FindsFor (committed_checks w p brings answers ((interface w).outs f args) ((interface w).used f args v) k n) (checks_of (Some (record { key = k; used = n })))
  by_used k None o h = h
  by_used k (Some n) o h = h

  by_commit : (c : Option Committing) → FindsFor (brought_checks w p brings answers ((interface w).outs f args) ((interface w).used f args v) c) (checks_of c)
  by_commit None o h = h
  by_commit (Some c) o h = by_used c.key c.used o h

  pub brought : (pieces : List Piece) (called known : Said) → pieces ≡ brings → called ≡ done_on w Replay f args 0 → known ≡ done_on w Replay f args v →
      FindsFor (brought_checks w p pieces answers called.outs known.used (first_of known.commits)) (ret_checks w p f args v answers)
  brought pieces called known is c k o h =
      by_commit ((interface w).commits f args v) o
      (subst (λ ps. IsFound (brought_checks w p ps answers ((interface w).outs f args) ((interface w).used f args v) ((interface w).commits f args v)) o) is
      (subst (λ (d : Said). IsFound (brought_checks w p pieces answers d.outs ((interface w).used f args v) ((interface w).commits f args v)) o) c
      (subst (λ (d : Said). IsFound (brought_checks w p pieces answers called.outs d.used (first_of d.commits)) o) k h)))

-- the pieces that come up
pub answered : (w : World) (p q : List Mark) (same : without_origins p ≡ q) (f : ℕ) (args : List ℕ) (v : ℕ) (xs rs : List Place) →
    xs ≡ rs → targets_of rs ≡ targets w Replay q f args v → targets_of xs ≡ targets w Replay p f args v
answered w p q same f args v xs rs e is = ap targets_of e ∙ (is ∙ targets_same w p q same f args v)

-- in other words
pub brought_is : (w : World) (p : List Mark) (pieces : List Piece) (answers : List (List ℕ)) (rs outs : List Range) (ns used : List ℕ) (x commit : Option Committing) →
    rs ≡ outs → ns ≡ used → x ≡ commit → FindsFor (brought_checks w p pieces answers rs ns x) (brought_checks w p pieces answers outs used commit)
brought_is w p pieces answers rs outs ns used x commit r n c o h =
    subst (λ qs. IsFound (brought_checks w p pieces answers qs used commit) o) r
    (subst (λ ms. IsFound (brought_checks w p pieces answers rs ms commit) o) n
    (subst (λ y. IsFound (brought_checks w p pieces answers rs ns y) o) c h))
