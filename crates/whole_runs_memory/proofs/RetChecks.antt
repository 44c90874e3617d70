-- The tests of a Ret, as a replay has them and with the pieces of an answer.
use Rattle.std.proofs.Common.{◌≡◌, ℕ, ◌≤◌, Bool, true, not, cond, eqb, List, [], ◌∷◌, ◌++◌, length, map, get_or, Option, Some, None, inl, inr, refl, ap, sym, ◌∙◌, subst, arith}
use Rattle.std.specs.Prelude.{◌↔◌}
use Rattle.marks.specs.declared.side.Side.TheVariants.{Replay}
use Rattle.marks.specs.declared.range.Range.{Range}
use Rattle.marks.specs.Ranges.{covers, any_range}
use Rattle.marks.specs.Marks.{Mark}
use Rattle.marks.specs.Opens.{tail}
use Rattle.marks.specs.Wants.{same_origin}
use Rattle.space_memory_bytes.specs.Areas.{byte_at}
use Rattle.space_memory_access.specs.Held.{innermost}
use Rattle.space_memory.specs.Spaces.{SpaceState}
use Rattle.space_memory.specs.Releases.{IsReleaseRefused}
use Rattle.space_memory_laws.specs.Shown.{cell_of}
use Rattle.space_memory_laws.specs.Owed.{any_out}
use Rattle.space_memory_laws.specs.Rights.{IsHandedDown}
use Rattle.space_memory_laws.specs.Refusals.{finding_of}
use Rattle.space_memory_laws.specs.Returns.{was_changed, ReturnsFind}
use Rattle.space_memory_laws.specs.Returns as landed
use Rattle.space_memory_laws.proofs.Owed.{or_left, or_true}
use Rattle.space_memory_laws.proofs.Regions.{some_none}
use Rattle.space_memory_laws.proofs.ReturnChecks.{returns_found}
use Rattle.space_memory_laws.proofs.Returns.{closing}
use Rattle.replay_runs.specs.Runs.{marks_of, byte}
use Rattle.replay_runs.specs.Threads.{open_calls}
use Rattle.replay_runs.specs.Interface.{Interface, Committing}
use Rattle.replay_runs.specs.Pool.{in_use}
use Rattle.replay_runs.specs.Checks.{Finding, Checks, Check, Done, Answered, Passes, Finds, IsSpoiled, size_check, size_checks, first_length, commit_size_check, return_checks}
use Rattle.whole_runs.specs.World.{World, begin, interface}
use Rattle.whole_runs.specs.Sides.{seen}
use Rattle.whole_runs.specs.Below.{Target, To, Nowhere, target_at, commit_target, targets, pieces_for}
use Rattle.whole_runs.specs.Tests.{is_changed, comes_up, ret_checks}
use Rattle.whole_runs_memory.specs.Stands.{InStep}
use Rattle.whole_runs_memory.specs.Refusals.{FindRefusals}
use Rattle.whole_runs_memory.specs.Rets.{AllFit, IsEnding, IsRetAllowed, RetRefusalsAreFindings, BodyRetRefusalsAreFindings}
use Rattle.whole_runs_memory.proofs.Rets.{handed_held, handed_own}
use Rattle.whole_runs_memory.proofs.Steps.{steps_begin}

-- ---- checks that find the same

pub record Alike (A B : Checks) : Type 0 where
  pub finds : (f : Finding) → Finds A f ↔ Finds B f
  pub passes : Passes A ↔ Passes B

alike_done : Alike Done Done
alike_done = record { finds = λ f. ((λ p. p), λ p. p); passes = ((λ p. p), λ p. p) }

module _ (P Q : ℕ → Type 0) (F : ℕ → Finding → Type 0) (A B : Checks) (to : (x : ℕ) → P x → Q x) (from : (x : ℕ) → Q x → P x) (k : Alike A B) where
  finds_to : (f : Finding) → Finds (Check P F A) f → Finds (Check Q F B) f
  finds_to f (inl h) = inl (h.0, (to h.0 h.1.0, λ y q. h.1.1 y (from y q)), h.2)
  finds_to f (inr m) = inr ((λ x q. m.0 x (from x q)), (k.finds f).0 m.1)

  finds_from : (f : Finding) → Finds (Check Q F B) f → Finds (Check P F A) f
  finds_from f (inl h) = inl (h.0, (from h.0 h.1.0, λ y q. h.1.1 y (to y q)), h.2)
  finds_from f (inr m) = inr ((λ x q. m.0 x (to x q)), (k.finds f).1 m.1)

  alike_check : Alike (Check P F A) (Check Q F B)
  alike_check = record {
    finds = λ f. (finds_to f, finds_from f);
    passes = ((λ p. ((λ x q. p.0 x (from x q)), k.passes.0 p.1)), λ p. ((λ x q. p.0 x (to x q)), k.passes.1 p.1));
  }

-- a region's test is the same where no piece is too long, and the same bytes were changed
spoiled : (c d : ℕ → Bool) (p q n : ℕ) (r : Range) → p ≤ r.len → ((y : ℕ) → covers r y ≡ true → c y ≡ d y) → (x : ℕ) → (x ≡ r.addr) × IsSpoiled c p r n → (x ≡ r.addr) × IsSpoiled d q r n
spoiled c d p q n r fits same x bad = (
  bad.0,
  elim bad.1 [
    | inl long ↦ absurd (omega (arith, long, fits))
    | inr past ↦ inr (elim past [ inl more ↦ inl more | inr z ↦ inr (z.0, z.1, z.2, sym (same z.0 z.1) ∙ z.3) ])
  ],
)

alike_size : (c d : ℕ → Bool) (p q n : ℕ) (r : Range) (A B : Checks) → p ≤ r.len → q ≤ r.len → ((y : ℕ) → covers r y ≡ true → c y ≡ d y) →
    Alike A B → Alike (size_check c p r n A) (size_check d q r n B)
alike_size c d p q n r A B pf qf same k = alike_check _ _ _ A B (spoiled c d p q n r pf same) (spoiled d c q p n r qf (λ y is. sym (same y is))) k

abbrev LengthsFit : List ℕ → List Range → Type 0
LengthsFit ps [] = Unit {0}
LengthsFit ps (r ∷ rs) = (first_length ps ≤ r.len) × LengthsFit (tail ps) rs

none_long : (rs : List Range) → LengthsFit [] rs
none_long [] = tt
none_long (r ∷ rs) = (omega arith, none_long rs)

alike_sizes : (c d : ℕ → Bool) (ps : List ℕ) (rs : List Range) (ns : List ℕ) (A B : Checks) → LengthsFit ps rs →
    ((y : ℕ) → any_range rs y ≡ true → c y ≡ d y) → Alike A B → Alike (size_checks c ps rs ns A) (size_checks d [] rs ns B)
alike_sizes c d ps [] ns A B fits same k = k
alike_sizes c d ps (r ∷ rs) [] A B fits same k = k
alike_sizes c d ps (r ∷ rs) (n ∷ ns) A B fits same k =
    alike_size c d (first_length ps) 0 n r (size_checks c (tail ps) rs ns A) (size_checks d [] rs ns B) fits.0 (omega arith)
    (λ y is. same y (or_left (covers r y) (any_range rs y) is))
    (alike_sizes c d (tail ps) rs ns A B fits.1 (λ y is. same y (or_true (covers r y) (any_range rs y) is)) k)

-- ---- which pieces fit

out_lengths : (rs : List Range) (ys : List Target) (bs : List (List ℕ)) → AllFit (map To rs ++ ys) bs → LengthsFit (map length bs) rs
out_lengths [] ys bs fit = tt
out_lengths (r ∷ rs) ys [] fit = none_long (r ∷ rs)
out_lengths (r ∷ rs) ys (b ∷ bs) fit = (fit.0, out_lengths rs ys bs fit.1)

committed_length : (rs : List Range) (r : Range) (bs : List (List ℕ)) → AllFit (map To rs ++ To r ∷ []) bs → length (get_or bs (length rs) []) ≤ r.len
committed_length [] r [] fit = omega arith
committed_length [] r (b ∷ bs) fit = fit.0
committed_length (q ∷ rs) r [] fit = omega arith
committed_length (q ∷ rs) r (b ∷ bs) fit = committed_length rs r bs fit.1

-- ---- which bytes were changed

pub changed_is : (b : Option ℕ) (v : ℕ) → (b ≡ None → ⊥) → is_changed (cell_of b (Some v)) b ≡ not (same_origin b (Some v))
changed_is None v live = absurd (live refl)
changed_is (Some n) v live = refl

module _ (w : World) (past : List Mark) (memory : SpaceState) (t func : ℕ) (args : List ℕ) (result : ℕ) (used : List ℕ)
    (committing : Option (ℕ × ℕ)) (pieces : List (List ℕ))
    (h : InStep w past (pieces_for (targets w Replay past func args result) pieces) memory)
    (fit : AllFit (targets w Replay past func args result) pieces) (e : IsEnding w past t func args result used committing) where
  abbrev i : Interface
  i = interface w

  abbrev outs : List Range
  outs = i.outs func args

  abbrev up : Answered
  up = comes_up w past func args result pieces

  abbrev below : Answered
  below = landed.filled memory

  same_byte : (y : ℕ) → IsHandedDown (begin w) (seen past) t true y → up.changed y ≡ below.changed y
  same_byte y down =
      let v = handed_held (begin w) (seen past) memory t y h.stands.above e.thread down in
      let own = handed_own (begin w) (seen past) memory t y h.stands.above e.thread down in
      ap (is_changed (byte (begin w) y (seen past)).cell) (sym (h.stands.bytes y))
      ∙ ap (λ c. is_changed c (byte_at memory.bytes y)) (h.stands.above.bytes y own ∙ ap (cell_of (byte_at memory.bytes y)) v.1)
      ∙ changed_is (byte_at memory.bytes y) v.0 (λ dead. some_none v.0 (sym v.1 ∙ h.stands.above.sound.unheld y dead))
      ∙ ap (λ o. not (same_origin (byte_at memory.bytes y) o)) (sym v.1)

  same_out : (y : ℕ) → any_range outs y ≡ true → up.changed y ≡ below.changed y
  same_out y is =
      let c = closing (open_calls (marks_of (begin w) t (seen past))) func args outs e.closes in
      same_byte y (inl (ap (λ cs. any_out cs y) c.is ∙ or_left (any_range c.top.outs y) (any_out c.below y) (ap (λ rs. any_range rs y) (sym c.outs) ∙ is)))

  -- whatever is committed
  abbrev with_commit : Option Committing → Interface
  with_commit o = record i { commits = λ f a v. o }

  abbrev checks_of : Option Committing → Answered → Checks
  checks_of o a = return_checks (with_commit o) (begin w) (seen past) a func args result

  abbrev Fits : Option Committing → Type 0
  Fits o = AllFit (map To outs ++ commit_target w Replay past o) pieces

  alike_committed : (k n : ℕ) (o : Option Range) → in_use (begin w) k (seen past) ≡ o → AllFit (map To outs ++ target_at o ∷ []) pieces →
      Alike (commit_size_check up.changed up.committed o n Done) (commit_size_check below.changed 0 o n Done)
  alike_committed k n None is f = alike_done
  alike_committed k n (Some r) is f = alike_size up.changed below.changed up.committed 0 (cond (eqb r.addr 0) 0 n) r Done Done (committed_length outs r pieces f) (omega arith) (λ y c. same_byte y (inr (inr (k, (r, is, c))))) alike_done

  alike : (o : Option Committing) → Fits o → Alike (checks_of o up) (checks_of o below)
  alike None f = alike_sizes up.changed below.changed up.pieces outs (i.used func args result) Done Done (out_lengths outs [] pieces f) same_out alike_done
  alike (Some q) f = by_used q.key q.used f
    where
      by_used : (k : ℕ) (u : Option ℕ) → Fits (Some (record { key = k; used = u })) → Alike (checks_of (Some (record { key = k; used = u })) up) (checks_of (Some (record { key = k; used = u })) below)
      by_used k None g = alike_sizes up.changed below.changed up.pieces outs (i.used func args result) Done Done (out_lengths outs (Nowhere ∷ []) pieces g) same_out alike_done
      by_used k (Some n) g =
          alike_check _ _ _ _ _ (λ x p. p) (λ x p. p)
          (alike_sizes up.changed below.changed up.pieces outs (i.used func args result) _ _ (out_lengths outs (target_at (in_use (begin w) k (seen past)) ∷ []) pieces g) same_out
          (alike_committed k n (in_use (begin w) k (seen past)) refl g))

  same_checks : Alike (ret_checks w past func args result pieces) (return_checks i (begin w) (seen past) below func args result)
  same_checks = let k = alike (i.commits func args result) fit in record { finds = k.finds; passes = k.passes }

  found : FindRefusals (IsReleaseRefused memory.bytes memory.held.regions (innermost memory.held t) used committing) (IsRetAllowed memory t used committing) (ret_checks w past func args result pieces)
  found =
      let r = returns_found i (begin w) (seen past) memory t func args result used committing h.stands.above e.thread e.closes e.sizes e.committed in
      record {
        of_refused = λ f p. (same_checks.finds (finding_of f)).1 (r.refused f p);
        of_found = λ f p. r.found f ((same_checks.finds f).0 p);
        passes = ((λ p. r.passes.0 (same_checks.passes.0 p)), λ p. same_checks.passes.1 (r.passes.1 p));
      }

pub rets : (w : World) → RetRefusalsAreFindings w
rets w past memory t func args result used committing pieces h fit e = found w past memory t func args result used committing pieces h fit e

pub no_pieces : (xs : List Target) → pieces_for xs [] ≡ []
no_pieces [] = refl
no_pieces (x ∷ xs) = refl

none_fit : (xs : List Target) → AllFit xs []
none_fit [] = tt
none_fit (x ∷ xs) = tt

pub body_rets : (w : World) → BodyRetRefusalsAreFindings w
body_rets w past memory t func args result used committing h e =
    let xs = targets w Replay past func args result in
    found w past memory t func args result used committing []
    (subst (λ ps. InStep w past ps memory) (sym (no_pieces xs)) (steps_begin w past memory h))
    (none_fit xs) e
