-- A Ret, of which no test fails.
use Rattle.std.proofs.Common.{◌≡◌, ◌≢◌, ⊎_elim, ℕ, ◌<◌, ◌≤◌, ◌^◌, Bool, true, false, ◌&&◌, ◌||◌, cond, eqb, List, [], ◌∷◌, ◌++◌, length, Option, Some, None, refl, sym, ap, ◌∙◌, subst, arith}
use Rattle.std.specs.Prelude.{is_some}
use Rattle.std.proofs.lemmas.Bool.{cases_lt, true≢false}
use Rattle.run_events.specs.declared.key.Class.{Class}
use Rattle.run_events.specs.declared.key.Class.TheVariants.{Mutex, User, Callback, Thread, Pool, Out, Async}
use Rattle.marks.specs.declared.side.Side.TheVariants.{Replay}
use Rattle.marks.specs.declared.range.Range.{Range}
use Rattle.marks.specs.Ranges.{Piece, any_piece, covers, piece_bytes, piece_ranges}
use Rattle.marks.specs.Marks.{Commit, EventKind, Mark, NoRegion, Released, Ret, Withheld, logged, released}
use Rattle.marks.specs.Bytes.{Dead}
use Rattle.marks.specs.Wants.{event_answer}
use Rattle.marks.proofs.Touched.{or_true_left, or_true_right}
use Rattle.c_code.specs.Machine.{func_of}
use Rattle.stub_operations.specs.Stubs.{added_at, or_none}
use Rattle.stub_meaning.specs.Calls.{Done}
use Rattle.stub_meaning.specs.Meaning.{called, first_of}
use Rattle.replay_runs.specs.Runs.{OfKey, Start, byte, new_events}
use Rattle.replay_runs.specs.Checks.{Answered, Passes, return_checks}
use Rattle.replay_runs.specs.Interface.{Committing}
use Rattle.replay_runs.specs.Pool.{in_use}
use Rattle.replay_runs.specs.Returns.{IsAnnotated, IsCommitted, KeepsSizes, ReleasesInUse, ReleasesUsed}
use Rattle.replay_runs.specs.Rules.{Closes, Commits, CommitsUsed, ReleaseRule, SharedEvent}
use Rattle.replay_runs.specs.Threads.{Returned, last_return, open_calls, same_return}
use Rattle.replay_runs.proofs.Holding.{held_not_dead}
use Rattle.space_memory_laws.specs.Starts.{placed_byte}
use Rattle.whole_runs.specs.World.{World, begin, interface}
use Rattle.whole_runs.specs.Sides.{seen}
use Rattle.whole_runs.specs.Memory.{HasAll, real}
use Rattle.whole_runs.specs.Steps.{Brings, Picked}
use Rattle.whole_runs.specs.Tests.{tests}
use Rattle.recorder_state.specs.Inputs.{world_of}
use Rattle.recorder_events.specs.Making.{CanBe, own_above}
use Rattle.reference_recorder_marks.specs.declared.mark.Mark.{Mark as Told}
use Rattle.reference_recorder_marks.specs.Marks.{past}
use Rattle.reference_recorder_origins.proofs.Memory.{in_use_seen, return_mine}
use Rattle.reference_recorder_calls.specs.Said.{IsSaid}
use Rattle.reference_recorder_threads.specs.Telling.{IsPast}
use Rattle.reference_recorder_rules.specs.Steps.{IsMadeAs}
use Rattle.reference_recorder_targets.specs.Said.{done_on}
use Rattle.reference_recorder_events.proofs.Numbered.{event_made_as}
use Rattle.reference_recorder_call_events.specs.declared.memory.Memory.{Memory}
use Rattle.reference_recorder_call_events.specs.Memory.{memory_of}
use Rattle.reference_recorder_call_events.specs.Returns.{IsCommitRead, IsRegionRead, IsRetDone, IsRetOf, IsUsedRead, region_under}
use Rattle.reference_recorder_call_events.proofs.Closing.{counted}
use Rattle.reference_recorder_call_events.proofs.ReadBytes.{all_has, counts_read, has_both, has_read, ranges_read}
use Rattle.reference_recorder_call_events.proofs.There.{pending}
use Rattle.reference_recorder_call_events.proofs.Weaker.{keeps_sizes}

-- ---- pieces

any_front : (ps qs : List Piece) (x : ℕ) → any_piece ps x ≡ true → any_piece (ps ++ qs) x ≡ true
any_front [] qs x e = absurd (true≢false (sym e))
any_front (p ∷ ps) qs x e = go (covers p.range x) e (any_front ps qs x)
  where
    go : (b : Bool) → (b || any_piece ps x) ≡ true → (any_piece ps x ≡ true → any_piece (ps ++ qs) x ≡ true) → (b || any_piece (ps ++ qs) x) ≡ true
    go true z more = refl
    go false z more = more z

any_back : (ps qs : List Piece) (x : ℕ) → any_piece qs x ≡ true → any_piece (ps ++ qs) x ≡ true
any_back [] qs x e = e
any_back (p ∷ ps) qs x e = or_true_right (covers p.range x) (any_piece (ps ++ qs) x) (any_back ps qs x e)

release_rule : (s : Start) (q : List Mark) (k : ℕ) (c : Commit) → ReleasesInUse s q c → ReleaseRule k (in_use s k q) c
release_rule s q k NoRegion h = tt
release_rule s q k Withheld h = tt
release_rule s q k (Released j p) h = λ e. subst (λ z. in_use s z q ≡ Some p.range) e h

-- ---- what is committed

module _ (w : World) (marks : List Told) (p : IsPast w marks) where
  pub in_use_are : (k : ℕ) → region_under k (past marks) ≡ in_use (begin w) k (seen p.run)
  in_use_are k = ap (λ ms. in_use (begin w) k (seen ms)) (sym p.same) ∙ in_use_seen w k p.run

  module _ (memory : ℕ → Option ℕ) (commit : Commit) where
    region_told : (k n : ℕ) → IsRegionRead memory (past marks) k n commit → ReleasesUsed (begin w) (seen p.run) k (Some n) commit
    region_told k n h = subst (ReleasesUsed (begin w) (seen p.run) k (Some n)) (sym h.commit_is) (
      refl,
      h.read.read.counted ∙ ap (λ (r : Range). cond (eqb r.addr 0) 0 n) (sym h.read.range_is),
      h.read.read.small,
      λ r e. h.read.range_is ∙ one h.range r (sym h.in_use ∙ (in_use_are k ∙ e)),
    )
      where
        one : (a b : Range) → ◌≡◌ {A = Option Range} (Some a) (Some b) → a ≡ b
        one a b z = cc

    used_told : (k : ℕ) (o : Option ℕ) → IsUsedRead memory (past marks) k o commit → ReleasesUsed (begin w) (seen p.run) k o commit
    used_told k None h = h
    used_told k (Some n) h = region_told k n h

    committed_told : (o : Option Committing) → IsCommitRead memory (past marks) o commit → IsCommitted (begin w) (seen p.run) o commit
    committed_told None h = h
    committed_told (Some c) h = used_told c.key c.used h

    module _ (there : (x : ℕ) → any_piece (released commit) x ≡ true → (x < 2 ^ 64) × (memory x ≢ None)) where
      region_has : (k n : ℕ) → IsRegionRead memory (past marks) k n commit → CommitsUsed k (Some n) commit → HasAll memory (released commit)
      region_has k n h used = subst (λ c. HasAll memory (released c)) (sym h.commit_is) (
        has_read memory h.range (cond (eqb h.range.addr 0) 0 n) h.region h.read
            (subst (λ (r : Range). cond (eqb r.addr 0) 0 n ≤ r.len) h.read.range_is (subst (CommitsUsed k (Some n)) h.commit_is used).1.1)
            (λ x e. there x (subst (λ c. any_piece (released c) x ≡ true) (sym h.commit_is)
            (or_true_left (covers h.region.range x) false (subst (λ (r : Range). covers r x ≡ true) (sym h.read.range_is) e)))),
        tt,
      )

      used_has : (k : ℕ) (o : Option ℕ) → IsUsedRead memory (past marks) k o commit → CommitsUsed k o commit → HasAll memory (released commit)
      used_has k None h used = subst (λ c. HasAll memory (released c)) (sym h) tt
      used_has k (Some n) h used = region_has k n h used

      commit_has : (o : Option Committing) → IsCommitRead memory (past marks) o commit → Commits o commit → HasAll memory (released commit)
      commit_has None h used = subst (λ c. HasAll memory (released c)) (sym h) tt
      commit_has (Some c) h used = used_has c.key c.used h used

-- ---- what is said of a call

-- each of its regions has a used size
pub are_counted : (w : World) (f : ℕ) (args : List ℕ) (v : ℕ) → length ((interface w).used f args v) ≡ length ((interface w).outs f args)
are_counted w f args v = counted w.laid.code (called (func_of w.laid.code f) args 0) v (or_none (added_at w.stubs f))

-- ---- the step

-- the innermost call of the thread is of this function, and ends with this value; no test of its Ret fails
pub record IsEnding (w : World) (run : List Mark) (s : Picked w run) (f : ℕ) (args : List ℕ) (v : ℕ) (memory : ℕ → Option ℕ) : Type 0 where
  pub closes : Closes (open_calls (own_above w s.thread run)) f args ((interface w).outs f args)
  pub gives : (interface w).gives f v ≡ true
  pub comes : Answered
  pub tested : Passes (return_checks (interface w) (begin w) (seen run) comes f args v)
  pub answers : (same : Bool) (outs : List Piece) (commit : Commit) → is_some (event_answer s.want (Ret f args v same outs commit)) ≡ true
  pub brings : (up : List Piece) → HasAll memory up → Brings w run s.thread s.want v up
  pub there : (x : ℕ) → real w run x ≢ None → memory x ≢ None

module _ (m : Memory) (p : IsPast (world_of m.inputs) m.marks.now) (s : Picked (world_of m.inputs) p.run) (t : ℕ) (thread : s.thread ≡ t) (f : ℕ) (args : List ℕ) (v : ℕ)
    (e : IsEnding (world_of m.inputs) p.run s f args v (memory_of m)) (passes : Passes (tests (world_of m.inputs) p.run s.thread s.side s.want))
    (low : (x : ℕ) → 2 ^ 31 ≤ x → (byte (begin (world_of m.inputs)) x (seen p.run)).cell ≡ Dead) where
  abbrev w : World
  w = world_of m.inputs

  abbrev marks : List Told
  marks = m.marks.now

  abbrev run : List Mark
  run = p.run

  abbrev memory : ℕ → Option ℕ
  memory = memory_of m

  abbrev regions : List Range
  regions = (interface w).outs f args

  abbrev d : Done
  d = done_on w Replay f args v

  module _ (kind : EventKind) (r : IsRetDone m t f args v regions d kind) (keys : d.keys_at_return ≡ (interface w).keys_at_return f args) (cached : d.is_cached ≡ (interface w).is_cached f) where
    annotated : IsAnnotated (interface w) (begin w) (seen run) f args v r.outs r.commit
    annotated = record {
      ranges = ranges_read memory regions d.used r.outs r.read;
      counts = counts_read memory regions d.used r.outs r.read;
      committed = committed_told w marks p memory r.commit (first_of d.commits) r.committed;
    }

    keeps : KeepsSizes (interface w) (begin w) (seen run) f args v r.outs r.commit
    keeps = keeps_sizes (interface w) (begin w) (seen run) e.comes f args v r.outs r.commit annotated e.tested

    closes_here : Closes (open_calls (own_above w s.thread run)) f args (piece_ranges r.outs)
    closes_here = subst (Closes (open_calls (own_above w s.thread run)) f args) (sym annotated.ranges) e.closes

    all_there : (x : ℕ) → any_piece (r.outs ++ released r.commit) x ≡ true → (x < 2 ^ 64) × (memory x ≢ None)
    all_there x z =
        let k = pending w p.fit run p.follows s.thread f args r.outs r.commit closes_here keeps.in_use x z in (
          ⊎_elim (λ lt. omega (arith, lt)) (λ le. absurd (held_not_dead (byte (begin w) x (seen run)).cell k.held (low x le))) (cases_lt x (2 ^ 31)),
          e.there x k.there,
        )

    has : HasAll memory (r.outs ++ released r.commit)
    has = has_both memory r.outs (released r.commit)
        (all_has memory regions d.used r.outs r.read keeps.used (λ x z. all_there x (any_front r.outs (released r.commit) x z)))
        (commit_has w marks p memory r.commit (λ x z. all_there x (any_back r.outs (released r.commit) x z)) (first_of d.commits) r.committed keeps.committed)

    abbrev same : Bool
    same = d.is_cached && r.repeats

    abbrev gave : Returned
    gave = record { result = v; bytes = piece_bytes r.outs ++ logged r.commit }

    last_is : last_return None f (own_above w t (past marks)) ≡ last_return None f (own_above w s.thread run)
    last_is =
        ap (λ ms. last_return None f (own_above w t ms)) (sym p.same)
        ∙ (return_mine w t run None f ∙ ap (λ u. last_return None f (own_above w u run)) (sym thread))

    repeats_so : same ≡ ((interface w).is_cached f && same_return (last_return ((begin w).returned s.thread f) f (own_above w s.thread run)) gave)
    repeats_so =
        ap (λ b. b && r.repeats) cached
        ∙ ap (λ b. (interface w).is_cached f && b) (r.repeats_is (placed_byte w.laid.placed) ∙ ap (λ q. same_return q gave) last_is)

    abbrev ret : EventKind
    ret = Ret f args v same r.outs r.commit

    shared : (class : Class) (value : ℕ) → SharedEvent (interface w) (begin w) class value (new_events (OfKey (record { class = class; value = value })) (seen run)) ret
    shared Mutex value = tt
    shared User value = tt
    shared Callback value = tt
    shared Thread value = tt
    shared Pool value = tt
    shared Out value = tt
    shared Async value = release_rule (begin w) (seen run) value r.commit keeps.in_use

    can_be : CanBe w run s ret
    can_be = record {
      answers = e.answers same r.outs r.commit;
      agrees = e.brings (r.outs ++ released r.commit) has;
      carries = record { closes = closes_here; result_is = e.gives; used = keeps.used; committed = keeps.committed; repeats = repeats_so };
      shared = λ k among. shared k.class k.value;
      bytes = λ x. tt;
      passes = passes;
    }

    said : IsSaid (interface w) d kind
    said = subst (IsSaid (interface w) d) (sym r.kind_is) (keys, refl)

  pub return_made : (marked : Told) → IsRetOf m t f args v marked → IsMadeAs w run s marked
  return_made marked r =
      let ret = subst (λ (z : Done). IsRetDone m t f args v regions z r.kind) r.done_is r.ret in
      let keys : d.keys_at_return ≡ (interface w).keys_at_return f args = ap (λ (z : Done). z.keys_at_return) (sym r.done_is) ∙ r.keys in
      let cached : d.is_cached ≡ (interface w).is_cached f = ap (λ (z : Done). z.is_cached) (sym r.done_is) ∙ r.cached in
      event_made_as w marks p s t thread r.kind r.done marked r.event (subst (CanBe w run s) (sym ret.kind_is) (can_be r.kind ret keys cached))
      (subst (λ (z : Done). IsSaid (interface w) z r.kind) (sym r.done_is) (said r.kind ret keys cached))
