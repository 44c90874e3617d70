-- No byte is in two of the regions that a Ret gives back.
use Rattle.std.proofs.Common.{◌≡◌, ℕ, suc, ◌+◌, ◌<◌, ◌≤◌, Bool, true, false, cond, eqb, ◌&&◌, ◌||◌, List, [], ◌∷◌, ◌++◌, length, map, Option, Some, None, inl, inr, refl, ap, sym, ◌∙◌, subst, arith}
use Rattle.std.specs.Prelude.{option_map}
use Rattle.std.specs.Option.{option_to_list}
use Rattle.std.proofs.lemmas.Bool.{cases_Bool, cond-true, cond-false, true≢false, eq-eqb}
use Rattle.marks.specs.declared.side.Side.TheVariants.{Replay}
use Rattle.marks.specs.Places.{thread_count}
use Rattle.marks.specs.declared.range.Range.{Range}
use Rattle.marks.specs.Ranges.{covers, any_range}
use Rattle.marks.specs.Marks.{Mark}
use Rattle.space_memory_access.specs.declared.holder.OpenCall.{OpenCall}
use Rattle.space_memory_access.specs.declared.holder.Region.{Region}
use Rattle.space_memory_access.specs.declared.holder.Holder.{Holder}
use Rattle.space_memory_access.specs.declared.holder.Holder.TheVariants.{In, Out, Key}
use Rattle.space_memory_access.specs.Holders.{is_pending, is_out_of, is_same_call, has_key}
use Rattle.space_memory_access.specs.Held.{innermost, prepared_region}
use Rattle.space_memory.specs.Spaces.{SpaceState}
use Rattle.space_memory.specs.Cells.{is_held}
use Rattle.space_memory.specs.Releases.{outs_of}
use Rattle.space_memory_laws.specs.Shown.{ranges_at}
use Rattle.space_memory_laws.specs.Held.{AreApart}
use Rattle.space_memory_laws.specs.StandsFor.{StandsFor}
use Rattle.space_memory_laws.proofs.Returns.{IsClosed}
use Rattle.replay_runs.specs.Runs.{marks_of}
use Rattle.replay_runs.specs.Interface.{Committing}
use Rattle.replay_runs.specs.Pool.{in_use}
use Rattle.replay_runs.specs.Threads.{open_calls}
use Rattle.whole_runs.specs.World.{World, begin}
use Rattle.whole_runs.specs.Sides.{seen}
use Rattle.whole_runs.specs.Memory.{filled}
use Rattle.whole_runs.specs.Below.{Target, To, Nowhere, Missing, target_at, target_used, commit_target, pieces_for}

abbrev one : Bool → ℕ
one true = 1
one false = 0

abbrev covering : List Region → ℕ → ℕ
covering [] x = 0
covering (g ∷ gs) x = one (covers g.range x) + covering gs x

abbrev pending : List Region → ℕ → ℕ
pending [] x = 0
pending (g ∷ gs) x = one (is_pending g.holder && covers g.range x) + pending gs x

none_pending : (gs : List Region) (x : ℕ) → is_held gs x ≡ false → pending gs x ≡ 0
none_pending [] x e = refl
none_pending (g ∷ gs) x e = go (is_pending g.holder && covers g.range x) e (none_pending gs x)
  where
    go : (b : Bool) → (b || is_held gs x) ≡ false → (is_held gs x ≡ false → pending gs x ≡ 0) → one b + pending gs x ≡ 0
    go true e again = absurd (true≢false e)
    go false e again = let k = again e in omega (arith, k)

-- of regions that are apart one at most
one_pending : (gs : List Region) (x : ℕ) → AreApart gs → pending gs x ≤ 1
one_pending [] x h = omega arith
one_pending (g ∷ gs) x h = go (is_pending g.holder && covers g.range x) (h.0 x) (one_pending gs x h.1)
  where
    go : (b : Bool) → (b ≡ true → is_held gs x ≡ false) → pending gs x ≤ 1 → one b + pending gs x ≤ 1
    go true apart again = let z = none_pending gs x (apart refl) in omega (arith, z)
    go false apart again = omega (arith, again)

-- those that a call holds, and the one of a key, are some of them
covering_cond : (b : Bool) (g : Region) (gs : List Region) (x : ℕ) → covering (cond b (g ∷ gs) gs) x ≤ one (covers g.range x) + covering gs x
covering_cond true g gs x = omega arith
covering_cond false g gs x = omega arith

module _ (call : OpenCall) (k x : ℕ) where
  abbrev keyed : List Region → ℕ
  keyed gs = covering (option_to_list (prepared_region gs k)) x

  keyed_cond : (b : Bool) (g : Region) (o : Option Region) → covering (option_to_list (cond b (Some g) o)) x ≤ one (covers g.range x) + covering (option_to_list o) x
  keyed_cond true g o = omega arith
  keyed_cond false g o = omega arith

  -- of a key's own region, or the key has another one
  either_key : (b : Bool) (g : Region) (o : Option Region) (n p : ℕ) → n + covering (option_to_list o) x ≤ p → n + covering (option_to_list (cond b (Some g) o)) x ≤ one (covers g.range x) + p
  either_key true g o n p h = omega (arith, h)
  either_key false g o n p h = omega (arith, h)

  some_pending : (gs : List Region) → covering (outs_of call gs) x + keyed gs ≤ pending gs x
  some_pending [] = omega arith
  some_pending (g ∷ gs) = go g.holder refl (some_pending gs)
    where
      go : (h : Holder) → g.holder ≡ h → covering (outs_of call gs) x + keyed gs ≤ pending gs x → covering (outs_of call (g ∷ gs)) x + keyed (g ∷ gs) ≤ pending (g ∷ gs) x
      go (In c) e again =
          subst (λ h. covering (cond (is_out_of call h) (g ∷ outs_of call gs) (outs_of call gs)) x + covering
          (option_to_list (cond (has_key k h) (Some g) (prepared_region gs k))) x ≤ one
          (is_pending h && covers g.range x) + pending gs x) (sym e) (omega (arith, again))
      go (Out c) e again =
          let n = covering_cond (is_same_call c call) g (outs_of call gs) x in
          subst (λ h. covering (cond (is_out_of call h) (g ∷ outs_of call gs) (outs_of call gs)) x + covering
          (option_to_list (cond (has_key k h) (Some g) (prepared_region gs k))) x ≤ one
          (is_pending h && covers g.range x) + pending gs x) (sym e) (omega (arith, n, again))
      go (Key j by) e again =
          subst (λ h. covering (cond (is_out_of call h) (g ∷ outs_of call gs) (outs_of call gs)) x + covering
          (option_to_list (cond (has_key k h) (Some g) (prepared_region gs k))) x ≤ one
          (is_pending h && covers g.range x) + pending gs x) (sym e)
          (either_key (eqb j k) g (prepared_region gs k) (covering (outs_of call gs) x) (pending gs x) again)

-- ---- targets

abbrev pub aimed : List Target → ℕ → ℕ
aimed [] x = 0
aimed (To r ∷ xs) x = one (covers r x) + aimed xs x
aimed (Nowhere ∷ xs) x = aimed xs x
aimed (Missing ∷ xs) x = aimed xs x

pub aimed_more : (xs ys : List Target) (x : ℕ) → aimed (xs ++ ys) x ≡ aimed xs x + aimed ys x
aimed_more [] ys x = omega arith
aimed_more (To r ∷ xs) ys x = let n = aimed_more xs ys x in omega (arith, n)
aimed_more (Nowhere ∷ xs) ys x = aimed_more xs ys x
aimed_more (Missing ∷ xs) ys x = aimed_more xs ys x

aimed_regions : (gs : List Region) (rs : List Range) (x : ℕ) → map (λ (g : Region). g.range) gs ≡ rs → aimed (map To rs) x ≡ covering gs x
aimed_regions gs rs x e = ap (λ q. aimed (map To q) x) (sym e) ∙ same gs
  where
    same : (gs : List Region) → aimed (map To (map (λ (g : Region). g.range) gs)) x ≡ covering gs x
    same [] = refl
    same (g ∷ gs) = ap (λ n. one (covers g.range x) + n) (same gs)

-- where it is in one range it is in no target after that
pub aimed_range : (rs : List Range) (x : ℕ) → any_range rs x ≡ true → 1 ≤ aimed (map To rs) x
aimed_range [] x e = absurd (true≢false (sym e))
aimed_range (r ∷ rs) x e = go (covers r x) e (aimed_range rs x)
  where
    go : (b : Bool) → (b || any_range rs x) ≡ true → (any_range rs x ≡ true → 1 ≤ aimed (map To rs) x) → 1 ≤ one b + aimed (map To rs) x
    go true e again = omega arith
    go false e again = let k = again e in omega (arith, k)

zero_left : {n : ℕ} → 0 + n ≡ 0 → n ≡ 0
zero_left {n} e = omega (arith, e)

pub nothing_aimed : (xs : List Target) (bs : List (List ℕ)) (x : ℕ) (v : Option ℕ) → aimed xs x ≡ 0 → filled (pieces_for xs bs) x v ≡ v
nothing_aimed [] bs x v e = refl
nothing_aimed (y ∷ xs) [] x v e = refl
nothing_aimed (Nowhere ∷ xs) (b ∷ bs) x v e = nothing_aimed xs bs x v e
nothing_aimed (Missing ∷ xs) (b ∷ bs) x v e = nothing_aimed xs bs x v e
nothing_aimed (To r ∷ xs) (b ∷ bs) x v e = elim (cases_Bool (covers r x)) [
  | inl is ↦ absurd (omega (arith, sym (ap (λ c. one c + aimed xs x) is) ∙ e))
  | inr out ↦ ap (filled (pieces_for xs bs) x) (cond-false (covers r x) _ v out) ∙ nothing_aimed xs bs x v (zero_left (sym (ap (λ c. one c + aimed xs x) out) ∙ e))
]

-- ---- the targets of a Ret

module _ (w : World) (past : List Mark) (memory : SpaceState) (t : ℕ) (outs : List Range) (h : StandsFor (begin w) (seen past) memory) (lt : t < thread_count) (closes : IsClosed (open_calls (marks_of (begin w) t (seen past))) outs) where
  abbrev call : OpenCall
  call = innermost memory.held t

  abbrev regions : List Region
  regions = memory.held.regions

  depth_is : call.depth ≡ suc (length closes.below)
  depth_is = (h.calls t lt).depth ∙ ap length closes.is

  pub out_ranges : map (λ (g : Region). g.range) (outs_of call regions) ≡ outs
  out_ranges =
      (h.calls t lt).outs call.depth
      ∙ ap (λ qs. ranges_at (λ c. c.outs) call.depth qs) closes.is
      ∙ (cond-true (eqb call.depth (suc (length closes.below))) closes.top.outs (ranges_at (λ c. c.outs) call.depth closes.below) (eq-eqb call.depth (suc (length closes.below)) depth_is) ∙ sym closes.outs)

  out_apart : (x k : ℕ) → aimed (map To outs) x + covering (option_to_list (prepared_region regions k)) x ≤ 1
  out_apart x k =
      let a = aimed_regions (outs_of call regions) outs x out_ranges in
      let b = some_pending call k x regions in
      let c = one_pending regions x h.sound.held.apart in
      omega (arith, a, b, c)

  key_aimed : (x k : ℕ) (o : Option Region) → prepared_region regions k ≡ o → aimed (target_at (in_use (begin w) k (seen past)) ∷ []) x ≡ covering (option_to_list o) x
  key_aimed x k None e = ap (λ u. aimed (target_at u ∷ []) x) (sym (h.keys k) ∙ ap (option_map (λ (g : Region). g.range)) e)
  key_aimed x k (Some g) e = ap (λ u. aimed (target_at u ∷ []) x) (sym (h.keys k) ∙ ap (option_map (λ (g : Region). g.range)) e)

  pub all_apart : (x : ℕ) (o : Option Committing) → aimed (map To outs ++ commit_target w Replay past o) x ≤ 1
  all_apart x None = let a = out_apart x 0 in let n = aimed_more (map To outs) [] x in omega (arith, a, n)
  all_apart x (Some c) = go c.used
    where
      go : (u : Option ℕ) → aimed (map To outs ++ target_used w Replay c.key past u ∷ []) x ≤ 1
      go None = let a = out_apart x 0 in let n = aimed_more (map To outs) (Nowhere ∷ []) x in omega (arith, a, n)
      go (Some n) =
          let a = out_apart x c.key in
          let m = aimed_more (map To outs) (target_at (in_use (begin w) c.key (seen past)) ∷ []) x in
          let k = key_aimed x c.key (prepared_region regions c.key) refl in
          omega (arith, a, m, k)
