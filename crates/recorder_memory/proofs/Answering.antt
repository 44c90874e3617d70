-- The pieces of an answer that come up with a Ret, one after the other.
use Rattle.std.proofs.Common.{◌≡◌, ◌⊎◌, inl, inr, ℕ, zero, suc, ◌+◌, ◌<◌, ◌≤◌, true, List, [], ◌∷◌, ◌++◌, length, get_or, map, take, drop, Option, Some, None, append_assoc, refl, sym, ap, ◌∙◌, subst, arith}
use Rattle.std.specs.Prelude.{option_map, unwrap_or, IfSome}
use Rattle.std.proofs.lemmas.List.{append-nil, length-append, length-map, length-take-le, map-append, take_all, take_more}
use Rattle.marks.specs.declared.side.Side.TheVariants.{Replay}
use Rattle.marks.specs.declared.range.Range.{Range}
use Rattle.marks.specs.Marks.{Mark}
use Rattle.replay_runs.specs.Interface.{Committing}
use Rattle.replay_runs.specs.Pool.{in_use}
use Rattle.space_memory.specs.Spaces.{SpaceState}
use Rattle.space_memory.specs.Releases.{HasKey}
use Rattle.space_memory_access.specs.declared.holder.Region.{Region}
use Rattle.space_memory_access.specs.declared.refusal.Refusal.TheVariants.{Size}
use Rattle.space_memory_access.specs.Held.{prepared_region}
use Rattle.space_memory_laws.specs.Returns.{IsCommitted}
use Rattle.space_memory_laws.proofs.Below.{written}
use Rattle.steps_above_memory.specs.declared.refusal.StepRefusal.{StepRefusal}
use Rattle.steps_above_memory.specs.Refusals.{IsFound, refusal_of}
use Rattle.whole_runs.specs.World.{World, begin, interface}
use Rattle.whole_runs.specs.Sides.{seen}
use Rattle.whole_runs.specs.Below.{Target, To, Nowhere, Missing, commit_target, target_at, target_used, targets, pieces_for}
use Rattle.whole_runs.specs.Tests.{ret_checks}
use Rattle.whole_runs_memory.specs.Stands.{InStep}
use Rattle.whole_runs_memory.specs.Rets.{AllFit, LongPieceIsFound}
use Rattle.whole_runs_memory.proofs.Long.{may_touch, lacking}
use Rattle.whole_runs_memory.proofs.Walk.{long_outs, long_committed}
use Rattle.whole_runs_memory.proofs.Steps.{steps_begin, writes, grow}
use Rattle.recorder_memory.specs.declared.memory.Memory.{Memory}
use Rattle.recorder_memory.specs.Stands.{StandsForRun, StandsForSeen}
use Rattle.recorder_memory.specs.Below.{LeavesSeen}
use Rattle.recorder_memory.specs.Returns.{IsAnswered, RefusesReturn}
use Rattle.recorder_memory.specs.Answers.{IsAnswer, Answers, RefusesAnswer, IsFirstSpoiled, IsPartly, PutsOuts, PutsLast, RefusesLast, RefusesPut, IsPut, IsNotPut, IsLacking, committed_range, regions_of}
use Rattle.recorder_memory.proofs.Filled.{count_of}
use Rattle.recorder_memory.proofs.Marking.{still_seen}
use Rattle.recorder_memory.proofs.Pieces.{split_at}

-- ---- lists of pieces

pub fit_more : (xs : List Target) (bs : List (List ℕ)) (r : Range) (b : List ℕ) → length xs ≡ length bs → AllFit xs bs → length b ≤ r.len → AllFit (xs ++ To r ∷ []) (bs ++ b ∷ [])
fit_more [] [] r b e fits le = (le, tt)
fit_more [] (c ∷ bs) r b e fits le = absurd (omega (arith, e))
fit_more (x ∷ xs) [] r b e fits le = absurd (omega (arith, e))
fit_more (To q ∷ xs) (c ∷ bs) r b e fits le = (fits.0, fit_more xs bs r b (omega (arith, e)) fits.1 le)
fit_more (Nowhere ∷ xs) (c ∷ bs) r b e fits le = fit_more xs bs r b (omega (arith, e)) fits le
fit_more (Missing ∷ xs) (c ∷ bs) r b e fits le = fit_more xs bs r b (omega (arith, e)) fits le

fit_nowhere : (xs : List Target) (bs : List (List ℕ)) (b : List ℕ) → length xs ≡ length bs → AllFit xs bs → AllFit (xs ++ Nowhere ∷ []) (bs ++ b ∷ [])
fit_nowhere [] [] b e fits = tt
fit_nowhere [] (c ∷ bs) b e fits = absurd (omega (arith, e))
fit_nowhere (x ∷ xs) [] b e fits = absurd (omega (arith, e))
fit_nowhere (To q ∷ xs) (c ∷ bs) b e fits = (fits.0, fit_nowhere xs bs b (omega (arith, e)) fits.1)
fit_nowhere (Nowhere ∷ xs) (c ∷ bs) b e fits = fit_nowhere xs bs b (omega (arith, e)) fits
fit_nowhere (Missing ∷ xs) (c ∷ bs) b e fits = fit_nowhere xs bs b (omega (arith, e)) fits

-- ---- one piece

-- a piece that was written is one more of the step
put_step : (w : World) (past : List Mark) (old new : SpaceState) (t : ℕ) (xs : List Target) (bs : List (List ℕ)) (r : Range) (b : List ℕ) →
    length xs ≡ length bs → InStep w past (pieces_for xs bs) old → IsPut old new t r b →
    InStep w past (pieces_for (xs ++ To r ∷ []) (bs ++ b ∷ [])) new
put_step w past old new t xs bs r b e step put = subst (λ ps. InStep w past ps new) (sym (grow xs bs (To r) b e))
    (writes w past old new t (pieces_for xs bs) r b step put.small put.fits (record { allowed = put.allowed; bytes_are = put.written; others = put.others; rest = put.rest }))

pub part_more : (w : World) (past : List Mark) (old new : Memory) (t : ℕ) (outs : List Range) (bs : List (List ℕ)) (r : Range) (b : List ℕ) →
    length outs ≡ length bs → new.above.watch ≡ old.above.watch → IsPartly w past outs bs old →
    IsPut old.above.spaces new.above.spaces t r b → IsPartly w past (outs ++ r ∷ []) (bs ++ b ∷ []) new
part_more w past old new t outs bs r b e same part put =
    let n : length (map To outs) ≡ length bs = length-map outs To ∙ e in
    let step : InStep w past (pieces_for (map To outs ++ To r ∷ []) (bs ++ b ∷ [])) new.above.spaces = put_step w past old.above.spaces new.above.spaces t (map To outs) bs r b n part.step put in
    record {
      fits = subst (λ xs. AllFit xs (bs ++ b ∷ [])) (sym (map-append To outs (r ∷ []))) (fit_more (map To outs) bs r b n part.fits put.fits);
      step = subst (λ xs. InStep w past (pieces_for xs (bs ++ b ∷ [])) new.above.spaces) (sym (map-append To outs (r ∷ []))) step;
      above = still_seen w past old new part.above same step.stands.above;
    }

-- where one is too long
found_long : (w : World) (past : List Mark) (func : ℕ) (args : List ℕ) (result : ℕ) (pieces : List (List ℕ)) (memory : SpaceState) (t : ℕ) (used : List ℕ) (n addr : ℕ) (found : Option ℕ) →
    LongPieceIsFound w past func args result pieces memory (take n (regions_of memory t)) used addr → IsFirstSpoiled memory t used n found →
    IsFound (ret_checks w past func args result pieces) (refusal_of (Size (unwrap_or found addr)))
found_long w past func args result pieces memory t used n addr None is spoiled = is.filled spoiled
found_long w past func args result pieces memory t used n addr (Some x) is spoiled = is.unfilled x spoiled

-- ---- the regions that the call holds

module _ (w : World) (past : List Mark) (t func : ℕ) (args : List ℕ) (result : ℕ) (outs : List Range) (used : List ℕ)
    (committing : Option (ℕ × ℕ)) (pieces : List (List ℕ)) (a : IsAnswer w past t func args result outs used committing pieces) where
  abbrev last : List Target
  last = commit_target w Replay past ((interface w).commits func args result)

  pub targets_are : targets w Replay past func args result ≡ map To outs ++ last
  targets_are = ap (λ os. map To os ++ last) a.outs_are

  pub not_put : (memory : Memory) (i : ℕ) (d : Range) (b e : List ℕ) (refusal : StepRefusal) → i < length outs → i < length pieces →
      b ≡ get_or pieces i e → HasKey memory.above.spaces.held.regions committing → IsPartly w past (take i outs) (take i pieces) memory →
      IsNotPut memory.above.spaces t used i (get_or outs i d) b refusal → IsFound (ret_checks w past func args result pieces) refusal
  not_put memory i d b e refusal lt lt' is key part (inl long) =
      subst (IsFound (ret_checks w past func args result pieces)) (sym long.refusal_is)
      (found_long w past func args result pieces memory.above.spaces t used i (get_or outs i d).addr long.found
      (subst (λ n. LongPieceIsFound w past func args result pieces memory.above.spaces (take n (regions_of memory.above.spaces t)) used (get_or outs i d).addr) (length-take-le i outs (omega arith))
      (subst (λ ps. LongPieceIsFound w past func args result ps memory.above.spaces
      (take (length (take i outs)) (regions_of memory.above.spaces t)) used (get_or outs i d).addr)
      (sym (split_at pieces i e lt' ∙ ap (λ q. take i pieces ++ q ∷ drop (suc i) pieces) (sym is)))
      (long_outs w past memory.above.spaces t func args result used committing (take i outs) (drop (suc i) outs) (get_or outs i d) (take i pieces) (drop (suc i) pieces) b part.step a.ending key
      (a.outs_are ∙ split_at outs i d lt)
      (length-take-le i outs (omega arith) ∙ sym (length-take-le i pieces (omega arith)))
      part.fits long.long)))
      long.spoiled)
  not_put memory i d b e refusal lt lt' is key part (inr not) =
      absurd (not.forbidden (may_touch w past memory.above.spaces t func args result used committing
      (pieces_for (map To (take i outs)) (take i pieces)) (map To (take i outs)) (map To (drop (suc i) outs) ++ last) true
      (get_or outs i d) (length b) part.step a.ending
      (targets_are
      ∙ ap (λ os. map To os ++ last) (split_at outs i d lt)
      ∙ ap (λ xs. xs ++ last) (map-append To (take i outs) (get_or outs i d ∷ drop (suc i) outs))
      ∙ append_assoc (map To (take i outs)) (To (get_or outs i d) ∷ map To (drop (suc i) outs)) last)
      not.fits))

-- ---- in the loop

module _ (old : Memory) (t : ℕ) (outs : List Range) (used : List ℕ) (committing : Option (ℕ × ℕ)) (pieces : List (List ℕ)) where
  pub none_put : PutsOuts old t outs used committing pieces 0 old
  none_put w past func args result h a key = record { fits = tt; step = steps_begin w past old.above.spaces h.whole; above = h.above }

  pub one_more_put : (mid new : Memory) (i : ℕ) (d : Range) (b e : List ℕ) → i < length outs → i < length pieces → b ≡ get_or pieces i e →
      new.above.watch ≡ mid.above.watch → PutsOuts old t outs used committing pieces i mid →
      IsPut mid.above.spaces new.above.spaces t (get_or outs i d) b → PutsOuts old t outs used committing pieces (i + 1) new
  one_more_put mid new i d b e lt lt' is same before put w past func args result h a key =
      subst (λ os. IsPartly w past os (take (i + 1) pieces) new) (sym (take_more outs i d lt))
      (subst (λ ps. IsPartly w past (take i outs ++ get_or outs i d ∷ []) ps new) (sym (take_more pieces i e lt' ∙ ap (λ q. take i pieces ++ q ∷ []) (sym is)))
      (part_more w past mid new t (take i outs) (take i pieces) (get_or outs i d) b (length-take-le i outs (omega arith) ∙ sym (length-take-le i pieces (omega arith))) same (before w past func args result h a key) put))

  pub put_refused : (mid : Memory) (i : ℕ) (d : Range) (b e : List ℕ) (refusal : StepRefusal) → i < length outs → i < length pieces →
      b ≡ get_or pieces i e → mid.above.spaces.held ≡ old.above.spaces.held → PutsOuts old t outs used committing pieces i mid →
      IsNotPut mid.above.spaces t used i (get_or outs i d) b refusal → RefusesPut old t outs used committing pieces refusal
  put_refused mid i d b e refusal lt lt' is held before not key w past func args result h a =
      not_put w past t func args result outs used committing pieces a mid i d b e refusal lt lt' is (subst (λ q. HasKey q.regions committing) (sym held) key) (before w past func args result h a key) not

-- ---- the key

pub key_lacking : (old : Memory) (t : ℕ) (outs : List Range) (used : List ℕ) (committing : Option (ℕ × ℕ)) (pieces : List (List ℕ)) (refusal : StepRefusal) →
    IsLacking old.above.spaces.held.regions committing refusal → RefusesAnswer old t outs used committing pieces refusal
key_lacking old t outs used committing pieces refusal l w past func args result h a =
    subst (IsFound (ret_checks w past func args result pieces)) (sym l.2)
    (lacking w past old.above.spaces t func args result used committing [] pieces l.0 (steps_begin w past old.above.spaces h.whole) a.ending l.1)

-- ---- what a replay sees stays

pub put_seen : (old mid new : Memory) (t : ℕ) (r : Range) (b : List ℕ) → new.above.watch ≡ mid.above.watch → LeavesSeen old mid → IsPut mid.above.spaces new.above.spaces t r b → LeavesSeen old new
put_seen old mid new t r b same before put w past h =
    let seen_mid = before w past h in
    still_seen w past mid new seen_mid same (written (begin w) (seen past) mid.above.spaces new.above.spaces t r.addr b seen_mid.spaces put.small
    (record { allowed = put.allowed; bytes_are = put.written; others = put.others; rest = put.rest }))

-- ---- the region that is committed

first_same : {a b c d : ℕ} → ◌≡◌ {A = Option (ℕ × ℕ)} (Some (a, b)) (Some (c, d)) → a ≡ c
first_same e = ap (λ (o : Option (ℕ × ℕ)). (unwrap_or o (0, 0)).0) e

second_same : {a b c d : ℕ} → ◌≡◌ {A = Option (ℕ × ℕ)} (Some (a, b)) (Some (c, d)) → b ≡ d
second_same e = ap (λ (o : Option (ℕ × ℕ)). (unwrap_or o (0, 0)).1) e

get_or_any : {A : Type 0} (xs : List A) (i : ℕ) (d e : A) → i < length xs → get_or xs i d ≡ get_or xs i e
get_or_any [] i d e lt = absurd (omega arith)
get_or_any (x ∷ xs) zero d e lt = refl
get_or_any (x ∷ xs) (suc i) d e lt = get_or_any xs i d e (omega (arith, lt))

pub same_piece : (pieces : List (List ℕ)) (i : ℕ) (b e : List ℕ) → i < length pieces → b ≡ get_or pieces i e → b ≡ get_or pieces i []
same_piece pieces i b e lt is = is ∙ get_or_any pieces i e [] lt

-- nothing is committed: the commit has no target, or one that is nowhere
none_committed : (w : World) (past : List Mark) (o : Option Committing) → IsCommitted o None → (commit_target w Replay past o ≡ []) ⊎ (commit_target w Replay past o ≡ Nowhere ∷ [])
none_committed w past None e = inl refl
none_committed w past (Some c) e = go c.used e
  where
    go : (u : Option ℕ) → ◌≡◌ {A = Option (ℕ × ℕ)} None (option_map (λ used. (c.key, used)) u) → (target_used w Replay c.key past u ∷ [] ≡ []) ⊎ (target_used w Replay c.key past u ∷ [] ≡ Nowhere ∷ [])
    go None z = inr refl
    go (Some n) z = absurd (other z)
      where
        other : ◌≡◌ {A = Option (ℕ × ℕ)} None (Some (c.key, n)) → ⊥
        other k = absurd cc

-- a key is: the commit has this key and this used size
some_committed : (o : Option Committing) (k n : ℕ) → IsCommitted o (Some (k, n)) → o ≡ Some (record { key = k; used = Some n })
some_committed None k n e = absurd (other e)
  where
    other : ◌≡◌ {A = Option (ℕ × ℕ)} (Some (k, n)) None → ⊥
    other z = absurd cc
some_committed (Some c) k n e = go c.used refl e
  where
    go : (u : Option ℕ) → c.used ≡ u → ◌≡◌ {A = Option (ℕ × ℕ)} (Some (k, n)) (option_map (λ used. (c.key, used)) u) → ◌≡◌ {A = Option Committing} (Some c) (Some (record { key = k; used = Some n }))
    go None is z = absurd (other z)
      where
        other : ◌≡◌ {A = Option (ℕ × ℕ)} (Some (k, n)) None → ⊥
        other y = absurd cc
    go (Some m) is z =
        let key_is : k ≡ c.key = first_same z in
        let used_is : n ≡ m = second_same z in
        ap (λ (u : Option ℕ). let q : Committing = record { key = c.key; used = u } in Some q) (is ∙ ap (λ v. Some v) (sym used_is)) ∙ ap (λ v. let q : Committing = record { key = v; used = Some n } in Some q) (sym key_is)

no_range : (regions : List Region) (c : ℕ × ℕ) → HasKey regions (Some c) → None ≡ committed_range regions (Some c) → ⊥
no_range regions c key e = go (prepared_region regions c.0) refl e
  where
    go : (o : Option Region) → prepared_region regions c.0 ≡ o → None ≡ option_map (λ (r : Region). r.range) o → ⊥
    go None is z = key c.0 (is, refl)
    go (Some r) is z = none z
      where
        none : ◌≡◌ {A = Option Range} None (Some r.range) → ⊥
        none y = absurd cc

-- all pieces are these and one more
one_left : (pieces : List (List ℕ)) (n : ℕ) → length pieces ≡ n + 1 → pieces ≡ take n pieces ++ get_or pieces n [] ∷ []
one_left pieces n e = sym (take_all (n + 1) pieces (omega (arith, e))) ∙ take_more pieces n [] (omega (arith, e))

module _ (w : World) (past : List Mark) (old mid : Memory) (t func : ℕ) (args : List ℕ) (result : ℕ) (outs : List Range) (used : List ℕ)
    (committing : Option (ℕ × ℕ)) (pieces : List (List ℕ)) (h : StandsForRun w past old)
    (a : IsAnswer w past t func args result outs used committing pieces) (le : length outs ≤ length pieces)
    (held : mid.above.spaces.held ≡ old.above.spaces.held)
    (part' : IsPartly w past (take (length outs) outs) (take (length outs) pieces) mid) where
  abbrev n : ℕ
  n = length outs

  abbrev ends : List Target
  ends = commit_target w Replay past ((interface w).commits func args result)

  part : IsPartly w past outs (take n pieces) mid
  part = subst (λ os. IsPartly w past os (take n pieces) mid) (take_all n outs (omega arith)) part'

  all_targets : targets w Replay past func args result ≡ map To outs ++ ends
  all_targets = targets_are w past t func args result outs used committing pieces a

  counted : (xs : List Target) → ends ≡ xs → length pieces ≡ n + length xs
  counted xs e = a.count ∙ ap length (all_targets ∙ ap (λ ys. map To outs ++ ys) e) ∙ length-append (map To outs) xs ∙ ap (λ k. k + length xs) (length-map outs To)

  some_taken : length (map To outs) ≡ length (take n pieces)
  some_taken = length-map outs To ∙ sym (length-take-le n pieces le)

  -- all are in their regions, where the last target is none, nowhere, or this region
  answered_with : (new : Memory) (xs : List Target) → ends ≡ xs → AllFit (map To outs ++ xs) pieces →
      InStep w past (pieces_for (map To outs ++ xs) pieces) new.above.spaces → StandsForSeen w past new →
      IsAnswered w past func args result pieces new
  answered_with new xs e fits step there = record {
    fits = subst (λ ys. AllFit ys pieces) (sym (all_targets ∙ ap (λ ys. map To outs ++ ys) e)) fits;
    step = subst (λ ys. InStep w past (pieces_for ys pieces) new.above.spaces) (sym (all_targets ∙ ap (λ ys. map To outs ++ ys) e)) step;
    above = there;
  }

  without_last : ends ≡ [] → IsAnswered w past func args result pieces mid
  without_last e =
      let all : pieces ≡ take n pieces = sym (take_all n pieces (let k = counted [] e in omega (arith, k))) in
      answered_with mid [] e
      (subst (λ ys. AllFit ys pieces) (sym (append-nil (map To outs))) (subst (AllFit (map To outs)) (sym all) part.fits))
      (subst (λ ys. InStep w past (pieces_for ys pieces) mid.above.spaces) (sym (append-nil (map To outs))) (subst (λ ps. InStep w past (pieces_for (map To outs) ps) mid.above.spaces) (sym all) part.step))
      part.above

  with_nowhere : ends ≡ Nowhere ∷ [] → IsAnswered w past func args result pieces mid
  with_nowhere e =
      let all : pieces ≡ take n pieces ++ get_or pieces n [] ∷ [] = one_left pieces n (counted (Nowhere ∷ []) e) in
      answered_with mid (Nowhere ∷ []) e
      (subst (AllFit (map To outs ++ Nowhere ∷ [])) (sym all) (fit_nowhere (map To outs) (take n pieces) (get_or pieces n []) some_taken part.fits))
      (subst (λ ps. InStep w past (pieces_for (map To outs ++ Nowhere ∷ []) ps) mid.above.spaces) (sym all)
      (subst (λ qs. InStep w past qs mid.above.spaces) (sym (grow (map To outs) (take n pieces) Nowhere (get_or pieces n []) some_taken ∙ append-nil (pieces_for (map To outs) (take n pieces)))) part.step))
      part.above

  pub answered_none : committing ≡ None → IsAnswered w past func args result pieces mid
  answered_none is = elim (none_committed w past ((interface w).commits func args result) (subst (IsCommitted ((interface w).commits func args result)) is a.ending.committed)) [
    | inl e ↦ without_last e
    | inr e ↦ with_nowhere e
  ]

  module _ (c : ℕ × ℕ) (r : Range) (is : committing ≡ Some c) (region : Some r ≡ committed_range old.above.spaces.held.regions (Some c)) where
    commits_are : (interface w).commits func args result ≡ Some (record { key = c.0; used = Some c.1 })
    commits_are = some_committed ((interface w).commits func args result) c.0 c.1 (subst (IsCommitted ((interface w).commits func args result)) is a.ending.committed)

    used_region : in_use (begin w) c.0 (seen past) ≡ Some r
    used_region = sym (h.whole.above.keys c.0) ∙ sym region

    ends_are : ends ≡ To r ∷ []
    ends_are = ap (commit_target w Replay past) commits_are ∙ ap (λ o. target_at o ∷ []) used_region

    pub answered_some : (new : Memory) → new.above.watch ≡ mid.above.watch → IsPut mid.above.spaces new.above.spaces t r (get_or pieces n []) → IsAnswered w past func args result pieces new
    answered_some new same put =
        let all : pieces ≡ take n pieces ++ get_or pieces n [] ∷ [] = one_left pieces n (counted (To r ∷ []) ends_are) in
        let step : InStep w past (pieces_for (map To outs ++ To r ∷ []) (take n pieces ++ get_or pieces n [] ∷ [])) new.above.spaces =
        put_step w past mid.above.spaces new.above.spaces t (map To outs) (take n pieces) r
        (get_or pieces n []) some_taken part.step put in
        answered_with new (To r ∷ []) ends_are
        (subst (AllFit (map To outs ++ To r ∷ [])) (sym all) (fit_more (map To outs) (take n pieces) r (get_or pieces n []) some_taken part.fits put.fits))
        (subst (λ ps. InStep w past (pieces_for (map To outs ++ To r ∷ []) ps) new.above.spaces) (sym all) step)
        (still_seen w past mid new part.above same step.stands.above)

    pub last_not_put : (refusal : StepRefusal) → map (λ (q : Region). q.range) (regions_of mid.above.spaces t) ≡ outs →
        IsNotPut mid.above.spaces t used n r (get_or pieces n []) refusal → IsFound (ret_checks w past func args result pieces) refusal
    last_not_put refusal are (inl long) =
        let all : pieces ≡ take n pieces ++ get_or pieces n [] ∷ [] = one_left pieces n (counted (To r ∷ []) ends_are) in
        let count : length (regions_of mid.above.spaces t) ≡ length outs = count_of (regions_of mid.above.spaces t) outs are in
        subst (IsFound (ret_checks w past func args result pieces)) (sym long.refusal_is)
        (found_long w past func args result pieces mid.above.spaces t used n r.addr long.found
        (subst (λ rs. LongPieceIsFound w past func args result pieces mid.above.spaces rs used r.addr) (sym (take_all n (regions_of mid.above.spaces t) (omega (arith, count))))
        (subst (λ ps. LongPieceIsFound w past func args result ps mid.above.spaces (regions_of mid.above.spaces t) used r.addr) (sym all)
        (long_committed w past mid.above.spaces t func args result used committing c.0 c.1 r (take n pieces) [] (get_or pieces n [])
        (subst (λ os. InStep w past (pieces_for (map To os) (take n pieces)) mid.above.spaces) (sym a.outs_are) part.step)
        a.ending commits_are used_region
        (ap length a.outs_are ∙ sym (length-take-le n pieces le))
        (subst (λ os. AllFit (map To os) (take n pieces)) (sym a.outs_are) part.fits)
        long.long)))
        long.spoiled)
    last_not_put refusal are (inr not) =
        absurd (not.forbidden (may_touch w past mid.above.spaces t func args result used committing (pieces_for (map To outs) (take n pieces)) (map To outs) [] true r (length (get_or pieces n [])) part.step a.ending
        (all_targets ∙ ap (λ ys. map To outs ++ ys) ends_are)
        not.fits))

-- ---- all of them

module _ (old mid : Memory) (t : ℕ) (outs : List Range) (used : List ℕ) (pieces : List (List ℕ)) (le : length outs ≤ length pieces) (held : mid.above.spaces.held ≡ old.above.spaces.held) where
  pub all_answered : (committing : Option (ℕ × ℕ)) (region : Option Range) (new : Memory) →
      region ≡ committed_range old.above.spaces.held.regions committing → HasKey old.above.spaces.held.regions committing →
      PutsOuts old t outs used committing pieces (length outs) mid → PutsLast mid t (length outs) region pieces new →
      Answers old t outs used committing pieces new
  all_answered None None new is key before put w past func args result h a = subst (IsAnswered w past func args result pieces) (sym put)
      (answered_none w past old mid t func args result outs used None pieces h a le held (before w past func args result h a key) refl)
  all_answered None (Some r) new is key before put w past func args result h a = absurd (other is)
    where
      other : ◌≡◌ {A = Option Range} (Some r) None → ⊥
      other e = absurd cc
  all_answered (Some c) None new is key before put w past func args result h a = absurd (no_range old.above.spaces.held.regions c key is)
  all_answered (Some c) (Some r) new is key before put w past func args result h a = answered_some w past old mid t func args result outs used (Some c) pieces h a le held (before w past func args result h a key) c r refl is new put.1 put.0

  pub last_refused : (committing : Option (ℕ × ℕ)) (region : Option Range) (refusal : StepRefusal) →
      region ≡ committed_range old.above.spaces.held.regions committing → HasKey old.above.spaces.held.regions committing →
      map (λ (q : Region). q.range) (regions_of mid.above.spaces t) ≡ outs → PutsOuts old t outs used committing pieces (length outs) mid →
      RefusesLast mid t used (length outs) region pieces refusal → RefusesAnswer old t outs used committing pieces refusal
  last_refused committing None refusal is key are before put w past func args result h a = absurd put
  last_refused None (Some r) refusal is key are before put w past func args result h a = absurd (other is)
    where
      other : ◌≡◌ {A = Option Range} (Some r) None → ⊥
      other e = absurd cc
  last_refused (Some c) (Some r) refusal is key are before put w past func args result h a =
      last_not_put w past old mid t func args result outs used (Some c) pieces h a le held
      (before w past func args result h a key) c r refl is refusal are put

pub last_seen : (old mid new : Memory) (t n : ℕ) (region : Option Range) (pieces : List (List ℕ)) → LeavesSeen old mid → PutsLast mid t n region pieces new → LeavesSeen old new
last_seen old mid new t n None pieces before put = subst (LeavesSeen old) (sym put) before
last_seen old mid new t n (Some r) pieces before put = put_seen old mid new t r (get_or pieces n []) put.1 before put.0

-- the tests of the Ret after all of them
pub answer_refused : (old new : Memory) (t : ℕ) (outs : List Range) (used : List ℕ) (committing : Option (ℕ × ℕ)) (pieces : List (List ℕ)) (refusal : StepRefusal) →
    Answers old t outs used committing pieces new → RefusesReturn new t used committing refusal →
    RefusesAnswer old t outs used committing pieces refusal
answer_refused old new t outs used committing pieces refusal answers refuses w past func args result h a = refuses w past func args result pieces (answers w past func args result h a) a.ending

-- a region is there only where one is committed
pub region_wanted : (regions : List Region) (committing : Option (ℕ × ℕ)) (region : Option Range) (P : Type 0) →
    region ≡ committed_range regions committing → IfSome committing (λ c. P) → IfSome region (λ r. P)
region_wanted regions None region P is p = subst (λ o. IfSome o (λ r. P)) (sym is) tt
region_wanted regions (Some c) None P is p = tt
region_wanted regions (Some c) (Some r) P is p = p
