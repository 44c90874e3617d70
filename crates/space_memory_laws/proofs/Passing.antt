-- Checks that pass, and go on to the next ones.
use Rattle.std.proofs.Common.{◌≡◌, ℕ, Bool, true, false, eqb, ◌||◌, List, [], ◌∷◌, ◌++◌, map, inl, inr, refl, ap, sym, ◌∙◌, All}
use Rattle.std.proofs.lemmas.Bool.{cases_Bool, true≢false, eq-eqb, eqb-true}
use Rattle.std.proofs.lemmas.List.Elements.{All-head, All-tail}
use Rattle.marks.specs.declared.side.Side.TheVariants.{Replay, System}
use Rattle.marks.specs.declared.range.Range.{Range}
use Rattle.marks.specs.Ranges.{Prepared, covers, any_range, prepared_ranges}
use Rattle.marks.specs.Marks.{Mark}
use Rattle.replay_runs.specs.Runs.{Start}
use Rattle.replay_runs.specs.Interface.{Interface}
use Rattle.replay_runs.specs.Pool.{prepares_key, in_use}
use Rattle.replay_runs.specs.Rules.{AllMayRun, Apart, DistinctKeys}
use Rattle.replay_runs.specs.Checks.{Finding, Checks, Check, range_checks, read_checks, hold_checks, any_number, key_checks, mode_checks, indirect_check}
use Rattle.replay_runs.specs.Passing.{Unraced, NoneInUse}
use Rattle.space_memory.specs.Spaces.{SpaceState}
use Rattle.space_memory_laws.specs.StandsFor.{StandsFor}
use Rattle.space_memory_laws.specs.Calls.{Reads, Holds, range_of, is_written, held_part, prepared_part, parts_of, IsFree}
use Rattle.space_memory_laws.specs.CallChecks.{AllUnraced}
use Rattle.space_memory_laws.proofs.Refusals.{dead_byte, pending_byte}

-- the ranges are free to be read, or to be held
abbrev pub AllFree : SpaceState → Bool → List Range → Type 0
AllFree base write [] = Unit {0}
AllFree base write (r ∷ rs) = IsFree base (held_part write r) × AllFree base write rs

pub free_reads : (base : SpaceState) (ins outs : List Range) (prepared : List Prepared) → All (IsFree base) (parts_of ins outs prepared) → AllFree base false ins
free_reads base [] outs prepared h = tt
free_reads base (r ∷ ins) outs prepared h = (All-head (IsFree base) (Reads r) (parts_of ins outs prepared) h, free_reads base ins outs prepared (All-tail (IsFree base) (Reads r) (parts_of ins outs prepared) h))

free_prepares : (base : SpaceState) (prepared : List Prepared) → All (IsFree base) (map prepared_part prepared) → AllFree base true (prepared_ranges prepared)
free_prepares base [] h = tt
free_prepares base (p ∷ ps) h =
    let f = All-head (IsFree base) (prepared_part p) (map prepared_part ps) h in
    (record { own = f.own; live = f.live; free = f.free; writable = f.writable }, free_prepares base ps (All-tail (IsFree base) (prepared_part p) (map prepared_part ps) h))

free_outs : (base : SpaceState) (outs : List Range) (prepared : List Prepared) → All (IsFree base) (map Holds outs ++ map prepared_part prepared) → AllFree base true (outs ++ prepared_ranges prepared)
free_outs base [] prepared h = free_prepares base prepared h
free_outs base (r ∷ outs) prepared h = (All-head (IsFree base) (Holds r) (map Holds outs ++ map prepared_part prepared) h, free_outs base outs prepared (All-tail (IsFree base) (Holds r) (map Holds outs ++ map prepared_part prepared) h))

pub free_holds : (base : SpaceState) (ins outs : List Range) (prepared : List Prepared) → All (IsFree base) (parts_of ins outs prepared) → AllFree base true (outs ++ prepared_ranges prepared)
free_holds base [] outs prepared h = free_outs base outs prepared h
free_holds base (r ∷ ins) outs prepared h = free_holds base ins outs prepared (All-tail (IsFree base) (Reads r) (parts_of ins outs prepared) h)

-- ranges and keys that were tested, the last one first
pub piled : {A : Type 0} → List A → List A → List A
piled [] more = more
piled (x ∷ xs) more = piled xs (x ∷ more)

pub piled_any : (rs more : List Range) (x : ℕ) → any_range (piled rs more) x ≡ (any_range rs x || any_range more x)
unfolding piled
piled_any [] more x = refl
piled_any (r ∷ rs) more x = piled_any rs (r ∷ more) x ∙ swap (covers r x) (any_range rs x) (any_range more x)
  where
    swap : (a b c : Bool) → (b || (a || c)) ≡ ((a || b) || c)
    swap true true c = refl
    swap true false c = refl
    swap false b c = refl

abbrev pub keys_of : List Prepared → List ℕ
keys_of ps = map (λ p. p.key) ps

pub piled_key : (ps : List Prepared) (more : List ℕ) (k : ℕ) → any_number (piled (keys_of ps) more) k ≡ (prepares_key ps k || any_number more k)
unfolding piled
piled_key [] more k = refl
piled_key (p ∷ ps) more k = piled_key ps (p.key ∷ more) k ∙ swap (eqb p.key k) (prepares_key ps k) (any_number more k)
  where
    swap : (a b c : Bool) → (b || (a || c)) ≡ ((a || b) || c)
    swap true true c = refl
    swap true false c = refl
    swap false b c = refl

held_write : (write : Bool) (r : Range) → write ≡ true → is_written (held_part write r) ≡ true
held_write true r e = refl
held_write false r e = e

held_range_is : (write : Bool) (r : Range) → range_of (held_part write r) ≡ r
held_range_is true r = refl
held_range_is false r = refl

-- a fact of checks that goes past those that pass
module _ (P : Checks → Type 0) (step : (Bad : ℕ → Type 0) (Found : ℕ → Finding → Type 0) (cs : Checks) → ((x : ℕ) → Bad x → ⊥) → P cs → P (Check Bad Found cs)) where
  pub past_modes : (i : Interface) (fs : List ℕ) (cs : Checks) → AllMayRun i fs → P cs → P (mode_checks i Replay fs cs)
  past_modes i [] cs h p = p
  past_modes i (f ∷ fs) cs h p = step _ _ (mode_checks i Replay fs cs) (λ x bad. true≢false (sym h.0 ∙ bad.1)) (past_modes i fs cs h.1 p)

  pub past_indirect : (i : Interface) (indirect : Bool) (f : ℕ) (cs : Checks) → (indirect ≡ true → i.may_run System f ≡ true) → P cs → P (indirect_check i indirect System f cs)
  past_indirect i false f cs h p = p
  past_indirect i true f cs h p = step _ _ cs (λ x bad. true≢false (sym (h refl) ∙ bad.1)) p

  module _ (s : Start) (past : List Mark) (t : ℕ) (base : SpaceState) (h : StandsFor s past base) where
    past_range : (write : Bool) (more : List Range) (r : Range) (cs : Checks) → IsFree base (held_part write r) → Unraced past t write r →
        ((x : ℕ) → covers r x ≡ true → any_range more x ≡ false) → P cs → P (range_checks s past t write more r cs)
    past_range write more r cs free unraced apart p =
        step _ _ _ (λ x bad. true≢false (sym bad.1 ∙ free.own x (there x bad.0)))
        (step _ _ _ (λ x bad. unraced x bad.1.0 bad.0 bad.1.1)
        (step _ _ _ (λ x bad. free.live x (there x bad.0) (dead_byte s past base h x (free.own x (there x bad.0)) bad.1))
        (step _ _ _ (λ x bad. elim bad.1 [
          | inl held ↦ true≢false (sym (pending_byte s past base h x (free.own x (there x bad.0)) held) ∙ free.free x (there x bad.0))
          | inr waits ↦ true≢false (sym waits ∙ apart x bad.0)
        ])
        (step _ _ cs (λ x bad. true≢false (sym bad.2 ∙ free.writable x (there x bad.0) (held_write write r bad.1))) p))))
      where
        there : (x : ℕ) → covers r x ≡ true → covers (range_of (held_part write r)) x ≡ true
        there x in' = ap (λ q. covers q x) (held_range_is write r) ∙ in'

    pub past_reads : (before rest : List Range) (cs : Checks) → AllFree base false before → AllUnraced past t false before →
        P (read_checks s past t rest cs) → P (read_checks s past t (before ++ rest) cs)
    past_reads [] rest cs free unraced p = p
    past_reads (r ∷ before) rest cs free unraced p = past_range false [] r (read_checks s past t (before ++ rest) cs) free.0 unraced.0 (λ x in'. refl) (past_reads before rest cs free.1 unraced.1 p)

    pub past_holds : (before rest more : List Range) (cs : Checks) → AllFree base true before → AllUnraced past t true before → Apart before →
        ((x : ℕ) → any_range before x ≡ true → any_range more x ≡ false) → P (hold_checks s past t (piled before more) rest cs) →
        P (hold_checks s past t more (before ++ rest) cs)
    unfolding piled
    past_holds [] rest more cs free unraced apart away p = p
    past_holds (r ∷ before) rest more cs free unraced apart away p =
        past_range true more r (hold_checks s past t (r ∷ more) (before ++ rest) cs) free.0 unraced.0 (λ x in'. away x (ap (λ b. b || any_range before x) in'))
        (past_holds before rest (r ∷ more) cs free.1 unraced.1 apart.1
        (λ x in'. away_head (covers r x) (any_range more x) (outside x in') (away x (or_true (covers r x) (any_range before x) in')))
        p)
      where
        or_true : (a b : Bool) → b ≡ true → (a || b) ≡ true
        or_true true b e = refl
        or_true false b e = e

        outside : (x : ℕ) → any_range before x ≡ true → covers r x ≡ false
        outside x in' = elim (cases_Bool (covers r x)) [ inl both ↦ absurd (true≢false (sym in' ∙ apart.0 x both)) | inr out ↦ out ]

        away_head : (a b : Bool) → a ≡ false → b ≡ false → (a || b) ≡ false
        away_head true b e f = e
        away_head false b e f = f

    pub past_keys : (before rest : List Prepared) (more : List ℕ) (cs : Checks) → NoneInUse s past before → DistinctKeys before →
        ((k : ℕ) → prepares_key before k ≡ true → any_number more k ≡ false) → P (key_checks s past (piled (keys_of before) more) rest cs) →
        P (key_checks s past more (before ++ rest) cs)
    unfolding piled
    past_keys [] rest more cs free distinct away p = p
    past_keys (q ∷ before) rest more cs free distinct away p =
        step _ _ (key_checks s past (q.key ∷ more) (before ++ rest) cs)
        (λ k bad. elim bad.1 [
          | inl used ↦ used (ap (λ j. in_use s j past) bad.0 ∙ free.0)
          | inr waits ↦ true≢false (sym waits ∙ away k (ap (λ b. b || prepares_key before k) (eq-eqb q.key k (sym bad.0))))
        ])
        (past_keys before rest (q.key ∷ more) cs free.1 distinct.1
        (λ k in'. away_head (eqb q.key k) (any_number more k) (other k in') (away k (or_true (eqb q.key k) (prepares_key before k) in')))
        p)
      where
        or_true : (a b : Bool) → b ≡ true → (a || b) ≡ true
        or_true true b e = refl
        or_true false b e = e

        other : (k : ℕ) → prepares_key before k ≡ true → eqb q.key k ≡ false
        other k in' = elim (cases_Bool (eqb q.key k)) [ inl same ↦ absurd (true≢false (sym in' ∙ ap (prepares_key before) (sym (eqb-true q.key k same)) ∙ distinct.0)) | inr ne ↦ ne ]

        away_head : (a b : Bool) → a ≡ false → b ≡ false → (a || b) ≡ false
        away_head true b e f = e
        away_head false b e f = f
