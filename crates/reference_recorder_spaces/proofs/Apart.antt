-- No byte is in two of the regions that a Ret gives back.
use Rattle.std.proofs.Common.{◌≡◌, ℕ, suc, ◌+◌, ◌<◌, ◌≤◌, Bool, true, false, cond, eqb, ◌&&◌, ◌||◌, List, [], ◌∷◌, ◌++◌, length, map, Option, Some, refl, ap, sym, ◌∙◌, subst, arith}
use Rattle.std.specs.Option.{option_to_list}
use Rattle.std.proofs.lemmas.Bool.{cond-true, true≢false, eq-eqb}
use Rattle.marks.specs.Places.{thread_count}
use Rattle.marks.specs.declared.range.Range.{Range}
use Rattle.marks.specs.Ranges.{covers, any_range}
use Rattle.marks.specs.Marks.{Mark}
use Rattle.space_memory_access.specs.declared.holder.OpenCall.{OpenCall}
use Rattle.space_memory_access.specs.declared.holder.Region.{Region}
use Rattle.space_memory_access.specs.declared.holder.Holder.{Holder}
use Rattle.space_memory_access.specs.declared.holder.Holder.TheVariants.{In, Out, Key}
use Rattle.space_memory_access.specs.Holders.{is_pending, is_out_of, is_same_call, has_key}
use Rattle.space_memory_access.specs.Held.{innermost, prepared_region}
use Rattle.space_memory.specs.Spaces.{SpaceState}
use Rattle.space_memory.specs.Cells.{is_held}
use Rattle.space_memory.specs.Releases.{outs_of}
use Rattle.space_memory_laws.specs.Shown.{ranges_at}
use Rattle.space_memory_laws.specs.Held.{AreApart}
use Rattle.space_memory_laws.specs.StandsFor.{StandsFor}
use Rattle.space_memory_laws.proofs.Returns.{IsClosed}
use Rattle.replay_runs.specs.Runs.{Start, marks_of}
use Rattle.replay_runs.specs.Threads.{open_calls}
use Rattle.replay_runs.specs.Rules.{Apart}

abbrev one : Bool → ℕ
one true = 1
one false = 0

-- how many of the ranges have the byte
abbrev pub hits : List Range → ℕ → ℕ
hits [] x = 0
hits (r ∷ rs) x = one (covers r x) + hits rs x

pub hits_more : (rs qs : List Range) (x : ℕ) → hits (rs ++ qs) x ≡ hits rs x + hits qs x
hits_more [] qs x = omega arith
hits_more (r ∷ rs) qs x = let n = hits_more rs qs x in omega (arith, n)

hits_none : (rs : List Range) (x : ℕ) → hits rs x ≡ 0 → any_range rs x ≡ false
hits_none [] x e = refl
hits_none (r ∷ rs) x e = go (covers r x) e (hits_none rs x)
  where
    go : (b : Bool) → one b + hits rs x ≡ 0 → (hits rs x ≡ 0 → any_range rs x ≡ false) → (b || any_range rs x) ≡ false
    go true e again = absurd (omega (arith, e))
    go false e again = again (omega (arith, e))

-- where no byte is in two of them, no two meet
pub apart_if : (rs : List Range) → ((x : ℕ) → hits rs x ≤ 1) → Apart rs
apart_if [] few = tt
apart_if (r ∷ rs) few = (
  λ x c. hits_none rs x (let n = few x in let z : one (covers r x) ≡ 1 = ap one c in omega (arith, n, z)),
  apart_if rs (λ x. let n = few x in omega (arith, n)),
)

-- ---- regions

abbrev covering : List Region → ℕ → ℕ
covering [] x = 0
covering (g ∷ gs) x = one (covers g.range x) + covering gs x

abbrev pending : List Region → ℕ → ℕ
pending [] x = 0
pending (g ∷ gs) x = one (is_pending g.holder && covers g.range x) + pending gs x

none_pending : (gs : List Region) (x : ℕ) → is_held gs x ≡ false → pending gs x ≡ 0
none_pending [] x e = refl
none_pending (g ∷ gs) x e = go (is_pending g.holder && covers g.range x) e (none_pending gs x)
  where
    go : (b : Bool) → (b || is_held gs x) ≡ false → (is_held gs x ≡ false → pending gs x ≡ 0) → one b + pending gs x ≡ 0
    go true e again = absurd (true≢false e)
    go false e again = let k = again e in omega (arith, k)

-- of regions that are apart one at most
one_pending : (gs : List Region) (x : ℕ) → AreApart gs → pending gs x ≤ 1
one_pending [] x h = omega arith
one_pending (g ∷ gs) x h = go (is_pending g.holder && covers g.range x) (h.0 x) (one_pending gs x h.1)
  where
    go : (b : Bool) → (b ≡ true → is_held gs x ≡ false) → pending gs x ≤ 1 → one b + pending gs x ≤ 1
    go true apart again = let z = none_pending gs x (apart refl) in omega (arith, z)
    go false apart again = omega (arith, again)

covering_cond : (b : Bool) (g : Region) (gs : List Region) (x : ℕ) → covering (cond b (g ∷ gs) gs) x ≤ one (covers g.range x) + covering gs x
covering_cond true g gs x = omega arith
covering_cond false g gs x = omega arith

-- those that a call holds, and the one of a key, are some of them
module _ (call : OpenCall) (k x : ℕ) where
  abbrev keyed : List Region → ℕ
  keyed gs = covering (option_to_list (prepared_region gs k)) x

  either_key : (b : Bool) (g : Region) (o : Option Region) (n p : ℕ) → n + covering (option_to_list o) x ≤ p → n + covering (option_to_list (cond b (Some g) o)) x ≤ one (covers g.range x) + p
  either_key true g o n p h = omega (arith, h)
  either_key false g o n p h = omega (arith, h)

  abbrev IsAmong : Region → List Region → Holder → Type 0
  IsAmong g gs h = covering (cond (is_out_of call h) (g ∷ outs_of call gs) (outs_of call gs)) x + covering (option_to_list (cond (has_key k h) (Some g) (prepared_region gs k))) x ≤
      one (is_pending h && covers g.range x) + pending gs x

  some_pending : (gs : List Region) → covering (outs_of call gs) x + keyed gs ≤ pending gs x
  some_pending [] = omega arith
  some_pending (g ∷ gs) = go g.holder refl (some_pending gs)
    where
      go : (h : Holder) → g.holder ≡ h → covering (outs_of call gs) x + keyed gs ≤ pending gs x → covering (outs_of call (g ∷ gs)) x + keyed (g ∷ gs) ≤ pending (g ∷ gs) x
      go (In c) e again = subst (IsAmong g gs) (sym e) (omega (arith, again))
      go (Out c) e again = let n = covering_cond (is_same_call c call) g (outs_of call gs) x in subst (IsAmong g gs) (sym e) (omega (arith, n, again))
      go (Key j by) e again = subst (IsAmong g gs) (sym e) (either_key (eqb j k) g (prepared_region gs k) (covering (outs_of call gs) x) (pending gs x) again)

hits_regions : (gs : List Region) (rs : List Range) (x : ℕ) → map (λ (g : Region). g.range) gs ≡ rs → hits rs x ≡ covering gs x
hits_regions gs rs x e = ap (λ q. hits q x) (sym e) ∙ same gs
  where
    same : (gs : List Region) → hits (map (λ (g : Region). g.range) gs) x ≡ covering gs x
    same [] = refl
    same (g ∷ gs) = let n = same gs in omega (arith, n)

-- ---- those of a Ret

module _ (s : Start) (past : List Mark) (memory : SpaceState) (t : ℕ) (outs : List Range) (h : StandsFor s past memory) (lt : t < thread_count)
    (closes : IsClosed (open_calls (marks_of s t past)) outs) where
  abbrev call : OpenCall
  call = innermost memory.held t

  abbrev regions : List Region
  regions = memory.held.regions

  pub depth_is : call.depth ≡ suc (length closes.below)
  depth_is = (h.calls t lt).depth ∙ ap length closes.is

  pub out_ranges : map (λ (g : Region). g.range) (outs_of call regions) ≡ outs
  out_ranges =
      (h.calls t lt).outs call.depth
      ∙ ap (λ qs. ranges_at (λ c. c.outs) call.depth qs) closes.is
      ∙ (cond-true (eqb call.depth (suc (length closes.below))) closes.top.outs (ranges_at (λ c. c.outs) call.depth closes.below) (eq-eqb call.depth (suc (length closes.below)) depth_is) ∙ sym closes.outs)

  -- with the region of a key
  pub all_apart : (k : ℕ) (rs : List Range) → rs ≡ map (λ (g : Region). g.range) (option_to_list (prepared_region regions k)) → Apart (outs ++ rs)
  all_apart k rs is = apart_if (outs ++ rs) (λ x.
      let a = hits_regions (outs_of call regions) outs x out_ranges in
      let b = hits_regions (option_to_list (prepared_region regions k)) rs x (sym is) in
      let c = some_pending call k x regions in
      let d = one_pending regions x h.sound.held.apart in
      let m = hits_more outs rs x in
      omega (arith, a, b, c, d, m))

  pub outs_apart : Apart outs
  outs_apart = apart_if outs (λ x.
      let a = hits_regions (outs_of call regions) outs x out_ranges in
      let c = some_pending call 0 x regions in
      let d = one_pending regions x h.sound.held.apart in
      omega (arith, a, c, d))
