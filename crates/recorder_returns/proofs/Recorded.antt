-- A Ret whose bytes are copied, and which is recorded.
use Rattle.std.proofs.Common.{◌≡◌, ℕ, suc, ◌+◌, ◌^◌, ◌<◌, ◌≤◌, Bool, true, false, cond, ◌&&◌, List, [], ◌∷◌, ◌++◌, length, Option, refl, sym, ap, ◌∙◌, subst, arith}
use Rattle.std.proofs.lemmas.List.{length-map, length-reverse}
use Rattle.std.specs.Prelude.{reverse, slice_index}
use Rattle.std.specs.List.{AllByRecursion}
use Rattle.run_events.specs.declared.event.Event.TheVariants as logs
use Rattle.run_events.specs.declared.event.Record.{Record}
use Rattle.marks.specs.declared.range.Range.{Range}
use Rattle.marks.specs.Ranges.{piece_bytes}
use Rattle.marks.specs.Marks.{Mark, NoRegion, logged, released}
use Rattle.marks.specs.Wants.{Answer}
use Rattle.log_codec.specs.LogText.{IsPiece}
use Rattle.replay_runs.specs.Runs.{Link, OfThread, events_after, events_with, has, history}
use Rattle.replay_runs.specs.Threads.{last_return, same_return}
use Rattle.space_memory.specs.Releases.{committed_size, outs_of}
use Rattle.space_memory_access.specs.Held.{innermost}
use Rattle.space_memory_access.specs.declared.holder.Region.{Region}
use Rattle.space_memory_laws.specs.Returns.{ShowUsed}
use Rattle.whole_runs.specs.World.{World, begin, interface}
use Rattle.whole_runs.specs.Sides.{events_by}
use Rattle.whole_runs.specs.Records.{full_record}
use Rattle.replay_runs.specs.Checks.{FaultFound, BreachFound}
use Rattle.replay_runs.proofs.Checked.{not_both}
use Rattle.stub_meaning.specs.Meaning.{first_of}
use Rattle.steps_above_memory.specs.declared.refusal.StepRefusal.{StepRefusal}
use Rattle.steps_above_memory.specs.declared.refusal.StepRefusal.TheVariants.{Fault, Breach, Memory}
use Rattle.steps_above_memory.specs.Refusals.{IsFound}
use Rattle.whole_runs.specs.Tests.{ret_checks}
use Rattle.whole_runs_memory.specs.Rets.{IsEnding}
use Rattle.recorder_memory.specs.Laws.{HoldsCall}
use Rattle.recorder_memory.specs.Returns.{RefusesReturn}
use Rattle.recorder_events.specs.Making.{own_above}
use Rattle.recorder_threads.specs.Threads.{args_at}
use Rattle.recorder_state.specs.declared.state.RunState.{RunState}
use Rattle.recorder_returns.specs.declared.copying.Brought.{Brought}
use Rattle.recorder_returns.specs.declared.returning.Returning.{Returning}
use Rattle.recorder_returns.specs.Bringing.{BringsUp, IsCommitOf, committing_of}
use Rattle.recorder_returns.specs.Coming.{IsReturning}
use Rattle.recorder_returns.specs.Copies.{IsBrought}
use Rattle.recorder_returns.specs.Recording.{IsRetNext}
use Rattle.recorder_returns.specs.Saying.{IsSaid, RepeatsLast}
use Rattle.recorder_returns.proofs.Coming.{holds}
use Rattle.recorder_returns.proofs.Copied.{all_pieces, few_pieces}
use Rattle.recorder_returns.proofs.Said.{sizes_count}

-- ---- its bytes

module _ (w : World) (s : RunState) (t f v : ℕ) (x : Answer) (r : IsReturning w s t f v x) (said : Returning) (h : IsSaid w f (args_at s.threads t) v said) where
  abbrev args : List ℕ
  args = args_at s.threads t

  pub brings_so : (b : Brought) (k : IsBrought s.memory.above.spaces said b) → BringsUp w s.memory.above.spaces f args v k.up k.commit
  brings_so b k = record {
    outs_are = k.regions ∙ h.ranges;
    commit_is = subst (λ o. IsCommitOf s.memory.above.spaces.held.regions o k.commit) h.commit k.is;
    shows = subst (λ us. ShowUsed s.memory.above.spaces.bytes (k.up ++ released k.commit) (us ++ committed_size (committing_of ((interface w).commits f args v)))) h.used
        (subst (λ o. ShowUsed s.memory.above.spaces.bytes (k.up ++ released k.commit) (said.done.used ++ committed_size (committing_of o))) h.commit k.shows);
    bytes = k.have;
  }

  pub next_so : v < 2 ^ 64 → (b : Brought) → IsBrought s.memory.above.spaces said b → (cached same : Bool) (told outs : List (List ℕ)) (ranges : List Range) → cached ≡ said.done.is_cached → told ≡ b.pieces → outs ≡ b.pieces → ranges ≡ b.ranges.items
      → RepeatsLast s cached t f v told same → IsRetNext w s t f v x said ranges (logs.Ret same v outs)
  next_so small b k cached same told outs ranges cached_is told_is outs_is ranges_is repeats = record {
    next = r;
    is_said = h;
    up = k.up;
    commit = k.commit;
    brings = brings_so b k;
    same = same;
    repeats = subst (λ u. same ≡ ((interface w).is_cached f && same_return (last_return ((begin w).returned u f) f (own_above w u r.past)) (record { result = v; bytes = piece_bytes k.up ++ logged k.commit }))) (sym r.thread)
        (repeats w r.past r.fit r.follows r.around (sym (cached_is ∙ h.cached))
        ∙ ap (λ ps. (interface w).is_cached f && same_return (last_return ((begin w).returned t f) f (own_above w t r.past)) (record { result = v; bytes = ps })) (told_is ∙ k.pieces));
    ranges_are = sym (ranges_is ∙ k.ranges);
    event_is = ap (logs.Ret same v) (sym (outs_is ∙ k.pieces));
    body = (
      small,
      subst (λ ps. length ps ≤ 9) (sym (outs_is ∙ k.pieces)) (few_pieces k.up k.commit ((interface w).outs f args) (k.regions ∙ h.ranges) r.of_interface.regions),
      subst (AllByRecursion IsPiece) (sym (outs_is ∙ k.pieces)) (all_pieces s.memory.above.spaces.bytes r.answered.above.spaces.sound.inside k.up k.commit _ k.shows k.have),
    );
  }

  -- what memory is told of it
  held_so : HoldsCall s.memory t ((interface w).outs f args)
  held_so = subst (λ u. HoldsCall s.memory u ((interface w).outs f args)) r.thread (holds w s t f v x r)

  pub is_open : 1 ≤ slice_index s.memory.above.spaces.held.depths t
  is_open = held_so.depth

  pub used_sizes : (used : List ℕ) → used ≡ said.done.used → length used ≡ length (outs_of (innermost s.memory.above.spaces.held t) s.memory.above.spaces.held.regions)
  used_sizes used is = ap length (is ∙ h.used) ∙ (sizes_count ((interface w).outs f args) ((interface w).used f args v) ((interface w).used f args v) r.ending.sizes ∙ (ap length (sym held_so.regions) ∙ length-map (outs_of (innermost s.memory.above.spaces.held t) s.memory.above.spaces.held.regions) (λ (g : Region). g.range)))

  -- what refuses it is want of memory, since its tests have passed
  pub lack : (used : List ℕ) (k : Option (ℕ × ℕ)) → used ≡ said.done.used → k ≡ committing_of (first_of said.done.commits) → (refusal : StepRefusal) →
      RefusesReturn s.memory t used k refusal → refusal ≡ Memory
  lack used k is k_is refusal refuses =
      let u : used ≡ (interface w).used f args v = is ∙ h.used in
      let c : k ≡ committing_of ((interface w).commits f args v) = k_is ∙ ap committing_of h.commit in
      let found : IsFound (ret_checks w r.past f args v r.answer) refusal =
      subst (λ us. RefusesReturn s.memory t us (committing_of ((interface w).commits f args v)) refusal) u
      (subst (λ o. RefusesReturn s.memory t used o refusal) c refuses) w r.past f args v r.answer r.answered
      (subst (λ q. IsEnding w r.past q f args v ((interface w).used f args v) (committing_of ((interface w).commits f args v))) r.thread r.ending) in
      by refusal found
    where
      by : (q : StepRefusal) → IsFound (ret_checks w r.past f args v r.answer) q → q ≡ Memory
      by (Fault kind) found = absurd (not_both (ret_checks w r.past f args v r.answer) (FaultFound kind) found r.passes)
      by (Breach kind addr other) found = absurd (not_both (ret_checks w r.past f args v r.answer) (BreachFound kind addr other) found r.passes)
      by Memory found = refl

  pub keys_few : length said.keys.items ≤ 16
  keys_few = subst (λ ks. length ks ≤ 16) (h.keys r.step.thread r.past false [] NoRegion) r.of_interface.keys

-- ---- its index

events_fewer : (old : List Mark) (l : Link) (past : List Mark) → length (events_after old l past) ≤ length old + length past
events_fewer old l [] = omega arith
events_fewer old l (m ∷ past) = by (has m l) (events_fewer old l past)
  where
    by : (b : Bool) → length (events_after old l past) ≤ length old + length past → length (cond b (m ∷ events_after old l past) (events_after old l past)) ≤ length old + suc (length past)
    by true n = omega (arith, n)
    by false n = omega (arith, n)

pub index_small : (w : World) (s : RunState) (t f v : ℕ) (x : Answer) (r : IsReturning w s t f v x) → events_by w t r.past < 2 ^ 32
index_small w s t f v x r =
    let n = events_fewer [] (OfThread t) r.past in
    omega (arith, n, r.step.goes_on.in_budget, r.fit.file.budget)

pub index_is : (w : World) (past : List Mark) (t : ℕ) (records : List Record) → records ≡ reverse (history full_record (begin w) t past) → length records ≡ events_by w t past
index_is w past t records is = ap length is ∙ (length-reverse (history full_record (begin w) t past) ∙ length-map (events_with (begin w) (OfThread t) past) full_record)
