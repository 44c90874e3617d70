-- What comes up with a Ret whose tests pass may be copied.
use Rattle.std.proofs.Common.{◌≡◌, ℕ, ◌≤◌, false, List, [], ◌∷◌, ◌++◌, length, map, Option, Some, None, refl, sym, ap, ◌∙◌, subst, arith, append_assoc}
use Rattle.std.specs.Prelude.{option_map}
use Rattle.std.specs.Option.{option_to_list}
use Rattle.std.proofs.lemmas.List.{length-map}
use Rattle.marks.specs.declared.side.Side.TheVariants.{Replay}
use Rattle.marks.specs.declared.range.Range.{Range}
use Rattle.marks.specs.Wants.{Answer}
use Rattle.replay_runs.specs.Interface.{Committing}
use Rattle.replay_runs.specs.Pool.{in_use}
use Rattle.space_memory_access.specs.declared.holder.Region.{Region}
use Rattle.space_memory_access.specs.Held.{innermost, prepared_region}
use Rattle.space_memory.specs.Spaces.{SpaceState}
use Rattle.space_memory.specs.Releases.{AllFilled, HasKey, IsFilled, committed, committed_size, outs_of}
use Rattle.space_memory_laws.specs.Returns.{used_at}
use Rattle.stub_meaning.specs.Meaning.{first_of}
use Rattle.whole_runs.specs.World.{World, begin, interface}
use Rattle.whole_runs.specs.Sides.{seen}
use Rattle.whole_runs.specs.Below.{Target, To, commit_target, pieces_for, target_at, targets}
use Rattle.whole_runs_memory.proofs.Long.{may_touch}
use Rattle.recorder_threads.specs.Threads.{args_at}
use Rattle.recorder_state.specs.declared.state.RunState.{RunState}
use Rattle.recorder_returns.specs.declared.returning.Returning.{Returning}
use Rattle.recorder_returns.specs.Bringing.{committing_of}
use Rattle.recorder_returns.specs.Coming.{IsReturning}
use Rattle.recorder_returns.specs.Copies.{MayBeCommitted, MayBeCommittedUnder, MayBeCopied, MayCopy}
use Rattle.recorder_returns.specs.Saying.{IsSaid}
use Rattle.recorder_returns.proofs.Coming.{allowed, holds}
use Rattle.recorder_returns.proofs.Pieces.{ranges_of}
use Rattle.recorder_returns.proofs.Said.{sizes_count}

last_filled : (memory : SpaceState) (gs : List Region) (g : Region) (us : List ℕ) (n : ℕ) → length us ≡ length gs → AllFilled memory.bytes (gs ++ g ∷ []) (us ++ n ∷ []) → IsFilled memory.bytes n g
last_filled memory [] g [] n c h = h.0
last_filled memory [] g (u ∷ us) n c h = absurd cc
last_filled memory (q ∷ gs) g [] n c h = absurd cc
last_filled memory (q ∷ gs) g (u ∷ us) n c h = last_filled memory gs g us n (omega (arith, c)) h.1

module _ (w : World) (s : RunState) (t f v : ℕ) (x : Answer) (r : IsReturning w s t f v x) where
  abbrev memory : SpaceState
  memory = s.memory.above.spaces

  abbrev args : List ℕ
  args = args_at s.threads t

  abbrev outs : List Range
  outs = (interface w).outs f args

  abbrev used : List ℕ
  used = (interface w).used f args v

  abbrev commits : Option Committing
  commits = (interface w).commits f args v

  abbrev all : List Target
  all = targets w Replay r.past f args v

  touch : (xs more : List Target) (q : Range) (n : ℕ) → all ≡ xs ++ To q ∷ more → used_at q n ≤ q.len → MayCopy memory t q n
  touch xs more q n is fits = subst (λ u. MayCopy memory u q n) r.thread
      (may_touch w r.past memory r.step.thread f args v used (committing_of commits) (pieces_for all r.answer) xs more false q (used_at q n) r.answered.step r.ending is fits)

  -- of each region that the call holds
  each : (xs : List Target) (rs : List Range) (more : List Target) (gs hs : List Region) (us ms : List ℕ) → all ≡ xs ++ (map To rs ++ more) → ranges_of gs ≡ rs → AllFilled memory.bytes (gs ++ hs) (us ++ ms) → length us ≡ length rs → MayBeCopied memory t rs us
  each xs [] more gs hs us ms is e filled c = tt
  each xs (q ∷ rs) more gs hs [] ms is e filled c = tt
  each xs (q ∷ rs) more [] hs (u ∷ us) ms is e filled c = absurd (none e)
    where
      none : ◌≡◌ {A = List Range} [] (q ∷ rs) → ⊥
      none z = absurd cc
  each xs (q ∷ rs) more (g ∷ gs) hs (u ∷ us) ms is e filled c =
      let first : g.range ≡ q = cc in
      let rest : ranges_of gs ≡ rs = cc in (
        touch xs (map To rs ++ more) q u is (subst (λ (z : Range). used_at z u ≤ z.len) first filled.0.fits),
        each (xs ++ To q ∷ []) rs more gs hs us ms (is ∙ sym (append_assoc xs (To q ∷ []) (map To rs ++ more))) rest filled.1 (omega (arith, c)),
      )

  abbrev gs : List Region
  gs = outs_of (innermost memory.held r.step.thread) memory.held.regions

  used_count : length used ≡ length outs
  used_count = sizes_count outs used used r.ending.sizes

  regions_so : MayBeCopied memory t outs used
  regions_so = each [] outs (commit_target w Replay r.past commits) gs (committed memory.held.regions (committing_of commits)) used (committed_size (committing_of commits)) refl (holds w s t f v x r).regions (allowed w s t f v x r).1 used_count

  -- and of the one that is committed
  gs_count : length used ≡ length gs
  gs_count = used_count ∙ (ap length (sym (holds w s t f v x r).regions) ∙ length-map gs (λ (g : Region). g.range))

  under : (k : ℕ) (o : Option ℕ) → commits ≡ Some (record { key = k; used = o }) → MayBeCommittedUnder memory t k o
  under k None is = tt
  under k (Some n) is = by (prepared_region memory.held.regions k) refl
    where
      by : (o : Option Region) → prepared_region memory.held.regions k ≡ o → MayBeCommittedUnder memory t k (Some n)
      by None e = absurd (subst (λ q. HasKey memory.held.regions (committing_of q)) is (allowed w s t f v x r).0 k (e, refl))
      by (Some g) e =
          let at : in_use (begin w) k (seen r.past) ≡ Some g.range = sym (r.answered.step.stands.above.keys k) ∙ ap (option_map (λ (z : Region). z.range)) e in
          let target : commit_target w Replay r.past commits ≡ To g.range ∷ [] = ap (commit_target w Replay r.past) is ∙ ap (λ z. target_at z ∷ []) at in
          let filled : AllFilled memory.bytes (gs ++ option_to_list (Some g)) (used ++ n ∷ []) =
          subst (λ z. AllFilled memory.bytes (gs ++ option_to_list z) (used ++ n ∷ [])) e
          (subst (λ q. AllFilled memory.bytes (gs ++ committed memory.held.regions (committing_of q)) (used ++ committed_size (committing_of q))) is (allowed w s t f v x r).1) in (
            g.range,
            ap (option_map (λ (z : Region). z.range)) e,
            touch (map To outs) [] g.range n (ap (λ ys. map To outs ++ ys) target) (last_filled memory gs g used n gs_count filled).fits,
          )

  commit_so : (o : Option Committing) → commits ≡ o → MayBeCommitted memory t o
  commit_so None is = tt
  commit_so (Some c) is = under c.key c.used is

  -- as it is said
  module _ (said : Returning) (h : IsSaid w f args v said) where
    pub sizes : length said.done.used ≡ length said.ranges.items
    sizes = ap length h.used ∙ (used_count ∙ ap length (sym h.ranges))

    pub may_copy : MayBeCopied memory t said.ranges.items said.done.used
    may_copy = subst (MayBeCopied memory t said.ranges.items) (sym h.used) (subst (λ rs. MayBeCopied memory t rs used) (sym h.ranges) regions_so)

    pub may_commit : MayBeCommitted memory t (first_of said.done.commits)
    may_commit = commit_so (first_of said.done.commits) (sym h.commit)
