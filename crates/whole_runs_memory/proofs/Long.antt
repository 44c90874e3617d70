-- The pieces of an answer: that they may be written, and what is found where one is too long.
use Rattle.std.proofs.Common.{◌≡◌, ℕ, Bool, true, false, ◌||◌, List, [], ◌∷◌, ◌++◌, Option, Some, None, inl, inr, refl, ap, sym, ◌∙◌, subst, arith}
use Rattle.std.specs.Prelude.{option_map}
use Rattle.std.proofs.lemmas.Bool.{true≢false}
use Rattle.marks.specs.declared.side.Side.TheVariants.{Replay}
use Rattle.marks.specs.declared.breach.BreachKind.TheVariants as breach
use Rattle.marks.specs.Places.{is_constant}
use Rattle.marks.specs.declared.range.Range.{Range}
use Rattle.marks.specs.Ranges.{covers, any_range, IsInRange}
use Rattle.marks.specs.Marks.{Mark}
use Rattle.space_memory_bytes.specs.Areas.{IsDead}
use Rattle.space_memory_access.specs.declared.holder.Region.{Region}
use Rattle.space_memory_access.specs.Held.{prepared_region}
use Rattle.space_memory_access.specs.Accesses.{IsConstantTo}
use Rattle.space_memory.specs.Spaces.{SpaceState}
use Rattle.space_memory.specs.Releases.{LacksKey}
use Rattle.space_memory_laws.specs.Owed.{any_out}
use Rattle.space_memory_laws.specs.Rights.{IsHandedDown}
use Rattle.space_memory_laws.specs.Returns.{IsCommitted}
use Rattle.space_memory_laws.proofs.Cells.{covered}
use Rattle.space_memory_laws.proofs.Owed.{or_left, or_true}
use Rattle.space_memory_laws.proofs.Regions.{some_none}
use Rattle.space_memory_laws.proofs.Returns.{IsClosed, closing}
use Rattle.space_memory_laws.proofs.Rights.{rights}
use Rattle.replay_runs.specs.Runs.{Start, marks_of}
use Rattle.replay_runs.specs.Threads.{open_calls}
use Rattle.replay_runs.specs.Interface.{Interface, Committing}
use Rattle.replay_runs.specs.Pool.{in_use}
use Rattle.replay_runs.specs.Checks.{BreachFound, Checks, Answered, Finds, return_checks}
use Rattle.whole_runs.specs.World.{World, begin, interface}
use Rattle.whole_runs.specs.Sides.{seen}
use Rattle.whole_runs.specs.Below.{Target, To, Nowhere, Missing, target_at, target_used, commit_target}
use Rattle.whole_runs.specs.Tests.{comes_up}
use Rattle.whole_runs_memory.specs.Rets.{RegionsMayBeTouched, LackingKeysAreFound}
use Rattle.whole_runs_memory.proofs.Rets.{handed_waits, handed_held, any_target, target_split}
use Rattle.whole_runs_memory.proofs.Touch.{constants_in}

-- ---- they may be written

-- a byte of a target is handed down
pub out_handed : (s : Start) (past : List Mark) (t x : ℕ) (outs : List Range) → IsClosed (open_calls (marks_of s t past)) outs → any_range outs x ≡ true → IsHandedDown s past t true x
out_handed s past t x outs c is = inl (ap (λ cs. any_out cs x) c.is ∙ or_left (any_range c.top.outs x) (any_out c.below x) (ap (λ rs. any_range rs x) (sym c.outs) ∙ is))

one_of : (b : Bool) → (b || false) ≡ true → b ≡ true
one_of true e = refl
one_of false e = e

module _ (w : World) (past : List Mark) (t x : ℕ) where
  key_handed : (k : ℕ) (o : Option Range) → in_use (begin w) k (seen past) ≡ o → any_target (target_at o ∷ []) x ≡ true → IsHandedDown (begin w) (seen past) t true x
  key_handed k None e is = absurd (true≢false (sym is))
  key_handed k (Some r) e is = inr (inr (k, (r, e, one_of (covers r x) is)))

  used_handed : (k : ℕ) (u : Option ℕ) → any_target (target_used w Replay k past u ∷ []) x ≡ true → IsHandedDown (begin w) (seen past) t true x
  used_handed k None is = absurd (true≢false (sym is))
  used_handed k (Some n) is = key_handed k (in_use (begin w) k (seen past)) refl is

  commit_handed : (o : Option Committing) → any_target (commit_target w Replay past o) x ≡ true → IsHandedDown (begin w) (seen past) t true x
  commit_handed None is = absurd (true≢false (sym is))
  commit_handed (Some c) is = used_handed c.key c.used is

target_there : (xs more : List Target) (r : Range) (x : ℕ) → covers r x ≡ true → any_target (xs ++ To r ∷ more) x ≡ true
target_there [] more r x c = or_left (covers r x) (any_target more x) c
target_there (To q ∷ xs) more r x c = or_true (covers q x) (any_target (xs ++ To r ∷ more) x) (target_there xs more r x c)
target_there (Nowhere ∷ xs) more r x c = target_there xs more r x c
target_there (Missing ∷ xs) more r x c = target_there xs more r x c

-- a right to write is one to read
down_to : (s : Start) (past : List Mark) (t x : ℕ) (write : Bool) → IsHandedDown s past t true x → IsHandedDown s past t write x
down_to s past t x write (inl out) = inl out
down_to s past t x write (inr (inl read)) = absurd (true≢false read.0)
down_to s past t x write (inr (inr key)) = inr (inr key)

constant_written : (write : Bool) (x : ℕ) → IsConstantTo write x → is_constant x ≡ true
constant_written true x c = constants_in x c
constant_written false x c = absurd c

pub may_touch : (w : World) → RegionsMayBeTouched w
may_touch w past memory t func args result used committing answer xs more write r n h e is less = record {
  own = λ x p f. f.1 ((λ dead. alive x p dead), (rights (begin w) (seen past) memory t write x h.stands.above e.thread).1 (down_to (begin w) (seen past) t x write (handed x p)));
  live = λ x p dead. alive x p dead;
  free = λ x p q. q;
  writable = λ x p c. true≢false (sym (handed_waits (begin w) (seen past) memory t x h.stands.above e.thread (handed x p)) ∙ h.stands.constants x (constant_written write x c));
}
  where
    inside : (x : ℕ) → IsInRange (record { addr = r.addr; len = n }) x → covers r x ≡ true
    inside x p = covered r x p.0 (omega (arith, p.1, less))

    handed : (x : ℕ) → IsInRange (record { addr = r.addr; len = n }) x → IsHandedDown (begin w) (seen past) t true x
    handed x p = elim (target_split ((interface w).outs func args) (commit_target w Replay past ((interface w).commits func args result)) x (ap (λ ys. any_target ys x) is ∙ target_there xs more r x (inside x p))) [
      | inl out ↦ out_handed (begin w) (seen past) t x ((interface w).outs func args) (closing (open_calls (marks_of (begin w) t (seen past))) func args ((interface w).outs func args) e.closes) out
      | inr other ↦ commit_handed w past t x ((interface w).commits func args result) other
    ]

    alive : (x : ℕ) → IsInRange (record { addr = r.addr; len = n }) x → IsDead memory.bytes x → ⊥
    alive x p dead =
        let v = handed_held (begin w) (seen past) memory t x h.stands.above e.thread (handed x p) in
        some_none v.0 (sym v.1 ∙ h.stands.above.sound.unheld x dead)

-- ---- a key that isn't in use

module _ (i : Interface) (s : Start) (past : List Mark) (memory : SpaceState) (func : ℕ) (args : List ℕ) (result : ℕ) (a : Answered)
    (h : (k : ℕ) → option_map (λ (g : Region). g.range) (prepared_region memory.held.regions k) ≡ in_use s k past) where
  abbrev checks_of : Option Committing → Checks
  checks_of o = return_checks (record i { commits = λ f b v. o }) s past a func args result

  lacks : (k n : ℕ) → prepared_region memory.held.regions k ≡ None → Finds (checks_of (Some (record { key = k; used = Some n }))) (BreachFound breach.NoKey k None)
  lacks k n none = inl (k, ((refl, sym (h k) ∙ ap (option_map (λ (g : Region). g.range)) none), λ y bad. omega (arith, bad.0)), refl)

  by_used : (k : ℕ) (u : Option ℕ) (committing : Option (ℕ × ℕ)) (key : ℕ) → committing ≡ option_map (λ n. (k, n)) u →
      LacksKey memory.held.regions committing key →
      Finds (checks_of (Some (record { key = k; used = u }))) (BreachFound breach.NoKey key None)
  by_used k None committing key e l = absurd (subst (λ c. LacksKey memory.held.regions c key) e l)
  by_used k (Some n) committing key e l =
      let q = subst (λ c. LacksKey memory.held.regions c key) e l in
      subst (λ j. Finds (checks_of (Some (record { key = k; used = Some n }))) (BreachFound breach.NoKey j None)) (sym q.1) (lacks k n q.0)

  by_commit : (o : Option Committing) (committing : Option (ℕ × ℕ)) (key : ℕ) → IsCommitted o committing →
      LacksKey memory.held.regions committing key → Finds (checks_of o) (BreachFound breach.NoKey key None)
  by_commit None committing key e l = absurd (subst (λ c. LacksKey memory.held.regions c key) e l)
  by_commit (Some c) committing key e l = by_used c.key c.used committing key e l

pub lacking : (w : World) → LackingKeysAreFound w
lacking w past memory t func args result used committing answer pieces key h e l =
    by_commit (interface w) (begin w) (seen past) memory func args result (comes_up w past func args result pieces) h.stands.above.keys ((interface w).commits func args result) committing key e.committed l
