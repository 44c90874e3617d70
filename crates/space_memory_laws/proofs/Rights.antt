-- What code below the cut may touch above it is what is handed down to it.
use Rattle.std.proofs.Common.{◌≡◌, ℕ, suc, ◌+◌, ◌^◌, ◌<◌, ◌≤◌, Bool, true, false, cond, eqb, not, ◌&&◌, List, [], ◌∷◌, length, Option, Some, None, inl, inr, refl, ap, sym, ◌∙◌, arith}
use Rattle.std.specs.Prelude.{◌↔◌, filter}
use Rattle.std.specs.List.{list_any}
use Rattle.std.proofs.lemmas.Bool.{cases_Bool, cases_eq, true≢false, cond-true, cond-false, eq-eqb, ne_eqb, or_cases, and_parts, and_from}
use Rattle.marks.specs.Places.{thread_count}
use Rattle.marks.specs.Ranges.{covers, any_range}
use Rattle.marks.specs.Marks.{Mark}
use Rattle.space_memory_bytes.specs.Areas.{byte_at}
use Rattle.space_memory_access.specs.declared.holder.OpenCall.{OpenCall}
use Rattle.space_memory_access.specs.declared.holder.Region.{Region}
use Rattle.space_memory_access.specs.declared.holder.Holder.{Holder}
use Rattle.space_memory_access.specs.declared.holder.Holder.TheVariants.{In, Out, Key}
use Rattle.space_memory_access.specs.Holders.{serves, is_out_of, is_same_call, has_key}
use Rattle.space_memory_access.specs.Held.{IsServed, prepared_region}
use Rattle.replay_runs.specs.Runs.{Start, marks_of}
use Rattle.replay_runs.specs.Threads.{open_calls}
use Rattle.replay_runs.specs.Threads as run
use Rattle.space_memory.specs.Spaces.{SpaceState}
use Rattle.space_memory.specs.Cells.{is_held}
use Rattle.space_memory.specs.Releases.{outs_of}
use Rattle.space_memory_laws.specs.Shown.{cell_of, ranges_at, is_in_of, ins_of}
use Rattle.space_memory_laws.specs.Held.{HaveOwnKeys}
use Rattle.space_memory_laws.specs.StandsFor.{StandsFor}
use Rattle.space_memory_laws.specs.Rights.{any_in, IsHandedDown, LoadsBelowShowTheRun}
use Rattle.space_memory_laws.proofs.Cells.{cover_parts, live_ends, unheld}
use Rattle.space_memory_laws.proofs.Access.{number_byte}
use Rattle.space_memory_laws.proofs.Regions.{some_none}
use Rattle.space_memory_laws.proofs.Refusals.{byte_pending}
use Rattle.space_memory_laws.proofs.Owed.{or_true, or_left, any_same, at_depth, some_depth, region_of_key, key_of_region}

-- the ranges that calls read
in_depth : (cs : List run.OpenCall) (d x : ℕ) → any_range (ranges_at (λ c. c.ins) d cs) x ≡ true → any_in cs x ≡ true
in_depth [] d x is = absurd (true≢false (sym is))
in_depth (c ∷ cs) d x is = elim (cases_eq d (suc (length cs))) [
  | inl e ↦ or_left (any_range c.ins x) (any_in cs x) (ap (λ rs. any_range rs x) (sym (cond-true (eqb d (suc (length cs))) c.ins (ranges_at (λ c. c.ins) d cs) (eq-eqb d (suc (length cs)) e))) ∙ is)
  | inr ne ↦ or_true (any_range c.ins x) (any_in cs x) (in_depth cs d x (ap (λ rs. any_range rs x) (sym (cond-false (eqb d (suc (length cs))) c.ins (ranges_at (λ c. c.ins) d cs) (ne_eqb d (suc (length cs)) ne))) ∙ is))
]

depth_in : (cs : List run.OpenCall) (x : ℕ) → any_in cs x ≡ true → (d : ℕ) × (d ≤ length cs) × (any_range (ranges_at (λ c. c.ins) d cs) x ≡ true)
depth_in [] x is = absurd (true≢false (sym is))
depth_in (c ∷ cs) x is = elim (or_cases (any_range c.ins x) (any_in cs x) is) [
  | inl here ↦ (suc (length cs), omega arith, ap (λ rs. any_range rs x) (cond-true (eqb (suc (length cs)) (suc (length cs))) c.ins (ranges_at (λ c. c.ins) (suc (length cs)) cs) (eq-eqb (suc (length cs)) (suc (length cs)) refl)) ∙ here)
  | inr more ↦
      let k = depth_in cs x more in
      (k.0, omega (arith, k.1), ap (λ rs. any_range rs x) (cond-false (eqb k.0 (suc (length cs))) c.ins (ranges_at (λ c. c.ins) k.0 cs) (ne_eqb k.0 (suc (length cs)) (λ e. absurd (omega (arith, e, k.1))))) ∙ k.2)
]

-- a region that serves a thread: a call of the thread reads it, or holds it, or it is that of a key
data Serves (rs : List Region) (t : ℕ) (write : Bool) (x : ℕ) : Type 0 where
  ByIn : (d : ℕ) → write ≡ false → list_any (λ (g : Region). covers g.range x) (ins_of (record { thread = t; depth = d }) rs) ≡ true → Serves rs t write x
  ByOut : (d : ℕ) → list_any (λ (g : Region). covers g.range x) (outs_of (record { thread = t; depth = d }) rs) ≡ true → Serves rs t write x
  ByKey : (k : ℕ) (g : Region) → prepared_region rs k ≡ Some g → covers g.range x ≡ true → Serves rs t write x

-- one more region before
more_kept : (f : Region → Bool) (r : Region) (rest : List Region) (x : ℕ) →
    list_any (λ (g : Region). covers g.range x) (filter f rest) ≡ true →
    list_any (λ (g : Region). covers g.range x) (filter f (r ∷ rest)) ≡ true
more_kept f r rest x any = elim (f r) as
    (λ b. list_any (λ (g : Region). covers g.range x) (cond b (r ∷ filter f rest) (filter f rest)) ≡ true)
    [ true ↦ or_true (covers r.range x) (list_any (λ (g : Region). covers g.range x) (filter f rest)) any | false ↦ any ]

first_kept : (f : Region → Bool) (r : Region) (rest : List Region) (x : ℕ) → f r ≡ true → covers r.range x ≡ true → list_any (λ (g : Region). covers g.range x) (filter f (r ∷ rest)) ≡ true
first_kept f r rest x is c =
    ap (λ b. list_any (λ (g : Region). covers g.range x) (cond b (r ∷ filter f rest) (filter f rest))) is
    ∙ or_left (covers r.range x) (list_any (λ (g : Region). covers g.range x) (filter f rest)) c

not_true : (b : Bool) → not b ≡ true → b ≡ false
not_true true e = sym e
not_true false e = refl

serving : (rs : List Region) (t : ℕ) (write : Bool) (x : ℕ) → HaveOwnKeys rs → IsServed rs t write x → Serves rs t write x
serving [] t write x own is = absurd (true≢false (sym is))
serving (r ∷ rest) t write x own is = elim (or_cases (serves t write r.holder && covers r.range x) (list_any (λ (q : Region). serves t write q.holder && covers q.range x) rest) is) [
  | inl here ↦ (let p = and_parts (serves t write r.holder) (covers r.range x) here in first r.holder refl p.0 p.1)
  | inr more ↦ later (serving rest t write x own.1 more)
]
  where
    of_thread : (c : OpenCall) → eqb c.thread t ≡ true → is_same_call c (record { thread = t; depth = c.depth }) ≡ true
    of_thread c e = and_from (eqb c.thread t) (eqb c.depth c.depth) e (eq-eqb c.depth c.depth refl)

    first : (o : Holder) → r.holder ≡ o → serves t write o ≡ true → covers r.range x ≡ true → Serves (r ∷ rest) t write x
    first (In c) e s c' =
        let p = and_parts (not write) (eqb c.thread t) s in
        ByIn c.depth (not_true write p.0) (first_kept (λ (g : Region). is_in_of (record { thread = t; depth = c.depth }) g.holder) r rest x (ap (is_in_of (record { thread = t; depth = c.depth })) e ∙ of_thread c p.1) c')
    first (Out c) e s c' = ByOut c.depth (first_kept (λ (g : Region). is_out_of (record { thread = t; depth = c.depth }) g.holder) r rest x (ap (is_out_of (record { thread = t; depth = c.depth })) e ∙ of_thread c s) c')
    first (Key k by) e s c' = ByKey k r (cond-true (has_key k r.holder) (Some r) (prepared_region rest k) (ap (has_key k) e ∙ eq-eqb k k refl)) c'

    later : Serves rest t write x → Serves (r ∷ rest) t write x
    later (ByIn d w any) = ByIn d w (more_kept (λ (g : Region). is_in_of (record { thread = t; depth = d }) g.holder) r rest x any)
    later (ByOut d any) = ByOut d (more_kept (λ (g : Region). is_out_of (record { thread = t; depth = d }) g.holder) r rest x any)
    later (ByKey k g there c) = elim (cases_Bool (has_key k r.holder)) [
      | inl has ↦ absurd (some_none g (sym there ∙ own.0 k has))
      | inr other ↦ ByKey k g (cond-false (has_key k r.holder) (Some r) (prepared_region rest k) other ∙ there) c
    ]

-- regions of a kind that serves the thread
kind_serves : (rs : List Region) (t : ℕ) (write : Bool) (x : ℕ) (f : Holder → Bool) → ((o : Holder) → f o ≡ true → serves t write o ≡ true) →
    list_any (λ (g : Region). covers g.range x) (filter (λ (g : Region). f g.holder) rs) ≡ true → IsServed rs t write x
kind_serves [] t write x f good is = is
kind_serves (r ∷ rest) t write x f good is = go (f r.holder) refl is (kind_serves rest t write x f good)
  where
    go : (b : Bool) → f r.holder ≡ b →
        list_any (λ (g : Region). covers g.range x) (cond b (r ∷ filter (λ (g : Region). f g.holder) rest) (filter (λ (g : Region). f g.holder) rest)) ≡ true →
        (list_any (λ (g : Region). covers g.range x) (filter (λ (g : Region). f g.holder) rest) ≡ true → IsServed rest t write x) →
        IsServed (r ∷ rest) t write x
    go true e any again = elim (or_cases (covers r.range x) (list_any (λ (g : Region). covers g.range x) (filter (λ (g : Region). f g.holder) rest)) any) [
      | inl here ↦ or_left (serves t write r.holder && covers r.range x) (list_any (λ (q : Region). serves t write q.holder && covers q.range x) rest) (and_from (serves t write r.holder) (covers r.range x) (good r.holder e) here)
      | inr more ↦ or_true (serves t write r.holder && covers r.range x) (list_any (λ (q : Region). serves t write q.holder && covers q.range x) rest) (again more)
    ]
    go false e any again = or_true (serves t write r.holder && covers r.range x) (list_any (λ (q : Region). serves t write q.holder && covers q.range x) rest) (again any)

key_serves : (rs : List Region) (t : ℕ) (write : Bool) (k x : ℕ) (g : Region) → prepared_region rs k ≡ Some g → covers g.range x ≡ true → IsServed rs t write x
key_serves [] t write k x g e c = absurd (some_none g (sym e))
key_serves (r ∷ rest) t write k x g e c = go (has_key k r.holder) refl e (λ there. key_serves rest t write k x g there c)
  where
    good : (o : Holder) → has_key k o ≡ true → serves t write o ≡ true
    good (In o) e = absurd (true≢false (sym e))
    good (Out o) e = absurd (true≢false (sym e))
    good (Key j by) e = refl

    inside : (a b : Region) → ◌≡◌ {A = Option Region} (Some a) (Some b) → a ≡ b
    inside a b e = cc

    go : (b : Bool) → has_key k r.holder ≡ b → cond b (Some r) (prepared_region rest k) ≡ Some g → (prepared_region rest k ≡ Some g → IsServed rest t write x) → IsServed (r ∷ rest) t write x
    go true has e again = or_left (serves t write r.holder && covers r.range x)
        (list_any (λ (q : Region). serves t write q.holder && covers q.range x) rest)
        (and_from (serves t write r.holder) (covers r.range x) (good r.holder has)
        (ap (λ (q : Region). covers q.range x) (inside r g e) ∙ c))
    go false has e again = or_true (serves t write r.holder && covers r.range x) (list_any (λ (q : Region). serves t write q.holder && covers q.range x) rest) (again e)

module _ (s : Start) (past : List Mark) (memory : SpaceState) (t : ℕ) (write : Bool) (x : ℕ) (h : StandsFor s past memory) (lt : t < thread_count) where
  abbrev rs : List Region
  rs = memory.held.regions

  abbrev cs : List run.OpenCall
  cs = open_calls (marks_of s t past)

  handed : Serves rs t write x → IsHandedDown s past t write x
  handed (ByIn d w any) = inr (inl (w, in_depth cs d x (sym (any_same (ins_of (record { thread = t; depth = d }) rs) (ranges_at (λ c. c.ins) d cs) x ((h.calls t lt).ins d)) ∙ any)))
  handed (ByOut d any) = inl (at_depth cs d x (sym (any_same (outs_of (record { thread = t; depth = d }) rs) (ranges_at (λ c. c.outs) d cs) x ((h.calls t lt).outs d)) ∙ any))
  handed (ByKey k g there c) = inr (inr (k, region_of_key s past memory h x k g there c))

  in_good : (d : ℕ) → write ≡ false → (o : Holder) → is_in_of (record { thread = t; depth = d }) o ≡ true → serves t write o ≡ true
  in_good d w (In c) e = and_from (not write) (eqb c.thread t) (ap not w) (and_parts (eqb c.thread t) (eqb c.depth d) e).0
  in_good d w (Out c) e = absurd (true≢false (sym e))
  in_good d w (Key k by) e = refl

  out_good : (d : ℕ) (o : Holder) → is_out_of (record { thread = t; depth = d }) o ≡ true → serves t write o ≡ true
  out_good d (In c) e = absurd (true≢false (sym e))
  out_good d (Out c) e = (and_parts (eqb c.thread t) (eqb c.depth d) e).0
  out_good d (Key k by) e = refl

  served : IsHandedDown s past t write x → IsServed rs t write x
  served (inl out) =
      let d = some_depth cs x out in
      kind_serves rs t write x (is_out_of (record { thread = t; depth = d.0 })) (out_good d.0) (any_same (outs_of (record { thread = t; depth = d.0 }) rs) (ranges_at (λ c. c.outs) d.0 cs) x ((h.calls t lt).outs d.0) ∙ d.2)
  served (inr (inl (w, ins))) =
      let d = depth_in cs x ins in
      kind_serves rs t write x (is_in_of (record { thread = t; depth = d.0 })) (in_good d.0 w) (any_same (ins_of (record { thread = t; depth = d.0 }) rs) (ranges_at (λ c. c.ins) d.0 cs) x ((h.calls t lt).ins d.0) ∙ d.2)
  served (inr (inr (k, under))) = let g = key_of_region s past memory h x k under in key_serves rs t write k x g.0 g.1 g.2

  pub rights : IsServed rs t write x ↔ IsHandedDown s past t write x
  rights = ((λ is. handed (serving rs t write x h.sound.held.keys is)), served)

pub shows_run : LoadsBelowShowTheRun
shows_run s past memory thread addr width value h small l x c own = elim (cases_Bool (is_held memory.held.regions x)) [
  | inl waits ↦ inr (byte_pending s past memory h x own (l.allowed.live x (let p = cover_parts (record { addr = addr; len = width }) x c in (p.0, p.1, omega (arith, p.1, ends)))) waits)
  | inr idle ↦ inl (h.bytes x own ∙ ap (cell_of (byte_at memory.bytes x)) (unheld memory.held.regions x (λ p. true≢false (sym p ∙ idle))) ∙ ap (λ b. cell_of b None) (number_byte memory.bytes addr width value x l.number c))
]
  where
    ends : addr + width < 2 ^ 64
    ends = live_ends memory.bytes (record { addr = addr; len = width }) h.sound.ends small l.allowed.live
