-- Regions that are prepared, and what is said of a call on either side of the cut.
use Rattle.std.proofs.Common.{◌≡◌, ℕ, ◌+◌, ◌<◌, Bool, true, false, cond, List, [], ◌∷◌, length, get_or, take, map, ◌++◌, reverse, Option, Some, refl, ap, ◌∙◌}
use Rattle.std.specs.Prelude.{◌==◌, find, option_map}
use Rattle.std.proofs.lemmas.List.{take_more, reverse-append}
use Rattle.marks.specs.declared.side.Side.{Side}
use Rattle.marks.specs.declared.side.Side.TheVariants.{Replay, System}
use Rattle.marks.specs.declared.range.Range.{Range}
use Rattle.marks.specs.Ranges.{Prepared}
use Rattle.marks.specs.Marks.{Mark}
use Rattle.replay_runs.specs.Interface.{Committing}
use Rattle.stub_meaning.specs.Calls.{Done}
use Rattle.stub_meaning.specs.Meaning.{first_of}
use Rattle.whole_runs.specs.World.{World, interface_on}
use Rattle.whole_runs.specs.Below.{Target, To, commit_target, last_under, targets}
use Rattle.reference_recorder_targets.specs.Said.{done_on}

-- one region more
pub last_more : (k : ℕ) (ps : List Prepared) (i : ℕ) (d : Prepared) → i < length ps →
    last_under k (take (i + 1) ps) ≡ cond ((get_or ps i d).key == k) (Some (get_or ps i d).range) (last_under k (take i ps))
last_more k ps i d lt = ap (last_under k) (take_more ps i d lt) ∙ (ap among (reverse-append (take i ps) (get_or ps i d ∷ [])) ∙ by ((get_or ps i d).key == k))
  where
    among : List Prepared → Option Range
    among qs = option_map (λ (p : Prepared). p.range) (find (λ (p : Prepared). p.key == k) qs)

    by : (b : Bool) → option_map (λ (p : Prepared). p.range) (cond b (Some (get_or ps i d)) (find (λ (p : Prepared). p.key == k) (reverse (take i ps)))) ≡ cond b (Some (get_or ps i d).range) (last_under k (take i ps))
    by true = refl
    by false = refl

-- the interface of the side says it of the call
pub outs_said : (w : World) (side : Side) (f : ℕ) (args : List ℕ) → (done_on w side f args 0).outs ≡ (interface_on w side f).outs f args
outs_said w Replay f args = refl
outs_said w System f args = refl

pub commit_said : (w : World) (side : Side) (f : ℕ) (args : List ℕ) (v : ℕ) → first_of (done_on w side f args v).commits ≡ (interface_on w side f).commits f args v
commit_said w Replay f args v = refl
commit_said w System f args v = refl

-- so the targets are those of the call: what is said of it with its result commits, and what is said before that holds regions
pub targets_said : (w : World) (side : Side) (past : List Mark) (f : ℕ) (args : List ℕ) (v : ℕ) (known before : Done) (commit : Option Committing) (outs : List Range) (last xs : List Target) →
    known ≡ done_on w side f args v → before ≡ done_on w side f args 0 → commit ≡ first_of known.commits → outs ≡ before.outs →
    last ≡ commit_target w side past commit → xs ≡ map To outs ++ last → xs ≡ targets w side past f args v
targets_said w side past f args v known before commit outs last xs k b c o l all =
    let held : outs ≡ (interface_on w side f).outs f args = o ∙ (ap (λ (d : Done). d.outs) b ∙ outs_said w side f args) in
    let committed : commit ≡ (interface_on w side f).commits f args v = c ∙ (ap (λ (d : Done). first_of d.commits) k ∙ commit_said w side f args v) in
    all ∙ (ap (λ rs. map To rs ++ last) held
    ∙ ap (λ ys. map To ((interface_on w side f).outs f args) ++ ys) (l ∙ ap (commit_target w side past) committed))
