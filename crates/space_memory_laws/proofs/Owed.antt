-- Pending bytes are those that open calls hold and those of keys in use.
use Rattle.std.proofs.Common.{◌≡◌, ℕ, suc, ◌<◌, ◌≤◌, Bool, true, false, cond, eqb, ◌||◌, List, [], ◌∷◌, length, map, Option, Some, None, inl, inr, refl, ap, sym, ◌∙◌, arith}
use Rattle.std.specs.Prelude.{◌↔◌, option_map}
use Rattle.std.specs.List.{list_any}
use Rattle.std.proofs.lemmas.Bool.{cases_Bool, cases_eq, cases_lt, true≢false, cond-true, cond-false, eq-eqb, ne_eqb, or_cases, and_parts, and_from}
use Rattle.marks.specs.Places.{thread_count, is_system}
use Rattle.marks.specs.declared.range.Range.{Range}
use Rattle.marks.specs.Ranges.{covers, any_range}
use Rattle.marks.specs.Marks.{Mark}
use Rattle.marks.specs.Bytes.{IsHeld}
use Rattle.space_memory_bytes.specs.Areas.{IsDead}
use Rattle.space_memory_access.specs.declared.holder.OpenCall.{OpenCall}
use Rattle.space_memory_access.specs.declared.holder.Region.{Region}
use Rattle.space_memory_access.specs.declared.holder.Holder.{Holder}
use Rattle.space_memory_access.specs.declared.holder.Holder.TheVariants.{In, Out, Key}
use Rattle.space_memory_access.specs.Holders.{is_pending, is_of, is_out_of, is_same_call, has_key}
use Rattle.space_memory_access.specs.Held.{IsPending, prepared_region}
use Rattle.replay_runs.specs.Runs.{Start, marks_of, byte}
use Rattle.replay_runs.specs.Threads.{open_calls}
use Rattle.replay_runs.specs.Threads as run
use Rattle.replay_runs.specs.Pool.{in_use}
use Rattle.space_memory.specs.Spaces.{SpaceState}
use Rattle.space_memory.specs.Cells.{is_held}
use Rattle.space_memory.specs.Releases.{outs_of}
use Rattle.space_memory_laws.specs.Shown.{ranges_at}
use Rattle.space_memory_laws.specs.Held.{HaveOwnKeys, has_region}
use Rattle.space_memory_laws.specs.StandsFor.{StandsFor}
use Rattle.space_memory_laws.specs.Owed.{any_out, IsPreparedUnder, IsOwed}
use Rattle.space_memory_laws.proofs.Cells.{held_by}
use Rattle.space_memory_laws.proofs.Regions.{waits_at, some_none}
use Rattle.space_memory_laws.proofs.Refusals.{pending_byte, byte_pending}

pub or_true : (a b : Bool) → b ≡ true → (a || b) ≡ true
or_true true b e = refl
or_true false b e = e

pub or_left : (a b : Bool) → a ≡ true → (a || b) ≡ true
or_left true b e = refl
or_left false b e = absurd (true≢false (sym e))

-- the regions of a list of ranges have the bytes of the ranges
pub any_same : (gs : List Region) (rs : List Range) (x : ℕ) → map (λ (g : Region). g.range) gs ≡ rs → list_any (λ (g : Region). covers g.range x) gs ≡ any_range rs x
any_same [] [] x e = refl
any_same (g ∷ gs) (r ∷ rs) x e =
    let head : g.range ≡ r = heads g.range r (map (λ (g : Region). g.range) gs) rs e in
    ap (λ (q : Range). covers q x || list_any (λ (g : Region). covers g.range x) gs) head ∙ ap (λ b. covers r x || b) (any_same gs rs x (tails g.range r (map (λ (g : Region). g.range) gs) rs e))
  where
    heads : (a b : Range) (as' bs : List Range) → ◌≡◌ {A = List Range} (a ∷ as') (b ∷ bs) → a ≡ b
    heads a b as' bs e = cc

    tails : (a b : Range) (as' bs : List Range) → ◌≡◌ {A = List Range} (a ∷ as') (b ∷ bs) → as' ≡ bs
    tails a b as' bs e = cc
any_same [] (r ∷ rs) x e = absurd cc
any_same (g ∷ gs) [] x e = absurd cc

-- the ranges of one open call are among those of all
pub at_depth : (cs : List run.OpenCall) (d x : ℕ) → any_range (ranges_at (λ c. c.outs) d cs) x ≡ true → any_out cs x ≡ true
at_depth [] d x is = absurd (true≢false (sym is))
at_depth (c ∷ cs) d x is = elim (cases_eq d (suc (length cs))) [
  | inl e ↦ or_left (any_range c.outs x) (any_out cs x) (ap (λ rs. any_range rs x) (sym (cond-true (eqb d (suc (length cs))) c.outs (ranges_at (λ c. c.outs) d cs) (eq-eqb d (suc (length cs)) e))) ∙ is)
  | inr ne ↦ or_true (any_range c.outs x) (any_out cs x) (at_depth cs d x (ap (λ rs. any_range rs x) (sym (cond-false (eqb d (suc (length cs))) c.outs (ranges_at (λ c. c.outs) d cs) (ne_eqb d (suc (length cs)) ne))) ∙ is))
]

pub some_depth : (cs : List run.OpenCall) (x : ℕ) → any_out cs x ≡ true → (d : ℕ) × (d ≤ length cs) × (any_range (ranges_at (λ c. c.outs) d cs) x ≡ true)
some_depth [] x is = absurd (true≢false (sym is))
some_depth (c ∷ cs) x is = elim (or_cases (any_range c.outs x) (any_out cs x) is) [
  | inl here ↦ (suc (length cs), omega arith, ap (λ rs. any_range rs x) (cond-true (eqb (suc (length cs)) (suc (length cs))) c.outs (ranges_at (λ c. c.outs) (suc (length cs)) cs) (eq-eqb (suc (length cs)) (suc (length cs)) refl)) ∙ here)
  | inr more ↦
      let k = some_depth cs x more in
      (k.0, omega (arith, k.1), ap (λ rs. any_range rs x) (cond-false (eqb k.0 (suc (length cs))) c.outs (ranges_at (λ c. c.outs) k.0 cs) (ne_eqb k.0 (suc (length cs)) (λ e. absurd (omega (arith, e, k.1))))) ∙ k.2)
]

-- a byte that waits, waits in a region that a call writes, or in one of a key
data Waits (rs : List Region) (x : ℕ) : Type 0 where
  ForCall : (call : OpenCall) → list_any (λ (g : Region). covers g.range x) (outs_of call rs) ≡ true → has_region call rs ≡ true → Waits rs x
  ForKey : (k : ℕ) (g : Region) → prepared_region rs k ≡ Some g → covers g.range x ≡ true → Waits rs x

pub same_self : (c : OpenCall) → is_same_call c c ≡ true
same_self c = and_from (eqb c.thread c.thread) (eqb c.depth c.depth) (eq-eqb c.thread c.thread refl) (eq-eqb c.depth c.depth refl)

waits_for : (rs : List Region) (x : ℕ) → HaveOwnKeys rs → IsPending rs x → Waits rs x
waits_for [] x own is = absurd (true≢false (sym is))
waits_for (r ∷ rest) x own is = elim (or_cases (waits_at x r) (is_held rest x) is) [
  | inl here ↦ (let p = and_parts (is_pending r.holder) (covers r.range x) here in first r.holder refl p.0 p.1)
  | inr more ↦ later (waits_for rest x own.1 more)
]
  where
    first : (o : Holder) → r.holder ≡ o → is_pending o ≡ true → covers r.range x ≡ true → Waits (r ∷ rest) x
    first (In c) e pending c' = absurd (true≢false (sym pending))
    first (Out c) e pending c' =
        let out : is_out_of c r.holder ≡ true = ap (is_out_of c) e ∙ same_self c in
        ForCall c
        (ap (λ b. list_any (λ (g : Region). covers g.range x) (cond b (r ∷ outs_of c rest) (outs_of c rest))) out ∙ ap (λ b. b || list_any (λ (g : Region). covers g.range x) (outs_of c rest)) c')
        (ap (λ b. b || has_region c rest) (ap (is_of c) e ∙ same_self c))
    first (Key k by) e pending c' = ForKey k r (cond-true (has_key k r.holder) (Some r) (prepared_region rest k) (ap (has_key k) e ∙ eq-eqb k k refl)) c'

    later : Waits rest x → Waits (r ∷ rest) x
    later (ForCall c any has) =
        ForCall c
        (elim (is_out_of c r.holder) as
        (λ b. list_any (λ (g : Region). covers g.range x) (cond b (r ∷ outs_of c rest) (outs_of c rest)) ≡ true)
        [ true ↦ or_true (covers r.range x) (list_any (λ (g : Region). covers g.range x) (outs_of c rest)) any | false ↦ any ])
        (or_true (is_of c r.holder) (has_region c rest) has)
    later (ForKey k g there c) = elim (cases_Bool (has_key k r.holder)) [
      | inl has ↦ absurd (some_none g (sym there ∙ own.0 k has))
      | inr not ↦ ForKey k g (cond-false (has_key k r.holder) (Some r) (prepared_region rest k) not ∙ there) c
    ]

-- and the other way round
outs_wait : (rs : List Region) (call : OpenCall) (x : ℕ) → list_any (λ (g : Region). covers g.range x) (outs_of call rs) ≡ true → IsPending rs x
outs_wait [] call x is = is
outs_wait (r ∷ rest) call x is = go (is_out_of call r.holder) refl is (outs_wait rest call x)
  where
    pends : (o : Holder) → is_out_of call o ≡ true → is_pending o ≡ true
    pends (In c) e = e
    pends (Out c) e = refl
    pends (Key k by) e = refl

    go : (b : Bool) → is_out_of call r.holder ≡ b →
        list_any (λ (g : Region). covers g.range x) (cond b (r ∷ outs_of call rest) (outs_of call rest)) ≡ true →
        (list_any (λ (g : Region). covers g.range x) (outs_of call rest) ≡ true → IsPending rest x) → IsPending (r ∷ rest) x
    go true e any again = elim (or_cases (covers r.range x) (list_any (λ (g : Region). covers g.range x) (outs_of call rest)) any) [
      | inl here ↦ or_left (waits_at x r) (is_held rest x) (and_from (is_pending r.holder) (covers r.range x) (pends r.holder e) here)
      | inr more ↦ or_true (waits_at x r) (is_held rest x) (again more)
    ]
    go false e any again = or_true (waits_at x r) (is_held rest x) (again any)

key_waits : (rs : List Region) (k x : ℕ) (g : Region) → prepared_region rs k ≡ Some g → covers g.range x ≡ true → IsPending rs x
key_waits [] k x g e c = absurd (some_none g (sym e))
key_waits (r ∷ rest) k x g e c = go (has_key k r.holder) refl e (λ there. key_waits rest k x g there c)
  where
    pends : (o : Holder) → has_key k o ≡ true → is_pending o ≡ true
    pends (In c) e = e
    pends (Out c) e = refl
    pends (Key j by) e = refl

    inside : (a b : Region) → ◌≡◌ {A = Option Region} (Some a) (Some b) → a ≡ b
    inside a b e = cc

    go : (b : Bool) → has_key k r.holder ≡ b → cond b (Some r) (prepared_region rest k) ≡ Some g → (prepared_region rest k ≡ Some g → IsPending rest x) → IsPending (r ∷ rest) x
    go true has e again = or_left (waits_at x r) (is_held rest x) (and_from (is_pending r.holder) (covers r.range x) (pends r.holder has) (ap (λ (q : Region). covers q.range x) (inside r g e) ∙ c))
    go false has e again = or_true (waits_at x r) (is_held rest x) (again e)

-- the region of a key, as memory has it and as a run does
module _ (s : Start) (past : List Mark) (memory : SpaceState) (h : StandsFor s past memory) (x k : ℕ) where
  ranges_inside : (a b : Range) → ◌≡◌ {A = Option Range} (Some a) (Some b) → a ≡ b
  ranges_inside a b e = cc

  by_range : (o : Option Range) (g : Region) → in_use s k past ≡ o → prepared_region memory.held.regions k ≡ Some g → covers g.range x ≡ true → IsPreparedUnder s past k x
  by_range None g e there c = absurd (some_none g.range (sym (ap (option_map (λ (r : Region). r.range)) there) ∙ h.keys k ∙ e))
  by_range (Some r) g e there c =
      let same : g.range ≡ r = ranges_inside g.range r (sym (ap (option_map (λ (r : Region). r.range)) there) ∙ h.keys k ∙ e) in
      (r, e, ap (λ (q : Range). covers q x) (sym same) ∙ c)

  pub region_of_key : (g : Region) → prepared_region memory.held.regions k ≡ Some g → covers g.range x ≡ true → IsPreparedUnder s past k x
  region_of_key g there c = by_range (in_use s k past) g refl there c

  by_region : (o : Option Region) → prepared_region memory.held.regions k ≡ o → IsPreparedUnder s past k x → (g : Region) × (prepared_region memory.held.regions k ≡ Some g) × (covers g.range x ≡ true)
  by_region None e under = absurd (some_none under.0 (sym under.1 ∙ sym (h.keys k) ∙ ap (option_map (λ (g : Region). g.range)) e))
  by_region (Some g) e under =
      let same : g.range ≡ under.0 = ranges_inside g.range under.0 (sym (ap (option_map (λ (g : Region). g.range)) e) ∙ h.keys k ∙ under.1) in
      (g, e, ap (λ (q : Range). covers q x) same ∙ under.2)

  pub key_of_region : IsPreparedUnder s past k x → (g : Region) × (prepared_region memory.held.regions k ≡ Some g) × (covers g.range x ≡ true)
  key_of_region under = by_region (prepared_region memory.held.regions k) refl under

module _ (s : Start) (past : List Mark) (memory : SpaceState) (h : StandsFor s past memory) (x : ℕ) (own : is_system x ≡ false) where
  abbrev rs : List Region
  rs = memory.held.regions

  -- a call that has a region is open
  is_open : (call : OpenCall) → has_region call rs ≡ true → call.thread < thread_count
  is_open call has = elim (cases_lt call.thread thread_count) [
    | inl lt ↦ lt
    | inr past' ↦ absurd (true≢false (sym has ∙ h.sound.held.owned call (λ lt. absurd (omega (arith, lt, past')))))
  ]

  found : Waits rs x → IsOwed s past x
  found (ForCall call any has) =
      let lt = is_open call has in
      inl (
        call.thread,
        (
          lt,
          at_depth (open_calls (marks_of s call.thread past)) call.depth x
              (sym (any_same (outs_of call rs) (ranges_at (λ c. c.outs) call.depth (open_calls (marks_of s call.thread past))) x
              ((h.calls call.thread lt).outs call.depth)) ∙ any),
        ),
      )
  found (ForKey k g there c) = inr (k, region_of_key s past memory h x k g there c)

  there_waits : IsOwed s past x → IsPending rs x
  there_waits (inl (t, (lt, any))) =
      let d = some_depth (open_calls (marks_of s t past)) x any in
      let call : OpenCall = record { thread = t; depth = d.0 } in
      outs_wait rs call x (any_same (outs_of call rs) (ranges_at (λ c. c.outs) d.0 (open_calls (marks_of s t past))) x ((h.calls t lt).outs d.0) ∙ d.2)
  there_waits (inr (k, under)) = let g = key_of_region s past memory h x k under in key_waits rs k x g.0 g.1 g.2

  live : IsPending rs x → IsDead memory.bytes x → ⊥
  live p dead = let v = held_by rs x p in some_none v.0 (sym v.1 ∙ h.sound.unheld x dead)

  pub owed : IsHeld (byte s x past).cell ↔ IsOwed s past x
  owed = ((λ is. found (waits_for rs x h.sound.held.keys (pending_byte s past memory h x own is))), λ is. (let p = there_waits is in byte_pending s past memory h x own (live p) p))
