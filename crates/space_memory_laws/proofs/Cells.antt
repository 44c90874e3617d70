-- Bytes of a range, and what a byte of memory is in a run.
use Rattle.std.proofs.Common.{◌≡◌, ℕ, suc, ◌+◌, ◌-◌, ◌^◌, ◌<◌, ◌≤◌, ◌⊎◌, Bool, true, false, cond, ◌&&◌, ◌||◌, leb, ltb, List, [], ◌∷◌, get_or, Option, Some, None, is_some, inl, inr, refl, ap, sym, ◌∙◌, arith}
use Rattle.std.specs.List.{list_any}
use Rattle.std.proofs.lemmas.Bool.{cases_lt, cases_Bool, lt-ltb, le-ltb, le-leb, lt-leb, leb-true, ltb-true, and_from, and_left, and_right, and_parts, true≢false}
use Rattle.marks.specs.Places.{replay_globals, replay_end, system_globals, system_end, is_replay, is_system}
use Rattle.marks.specs.declared.range.Range.{Range}
use Rattle.marks.specs.Ranges.{covers, NoneIn, IsInRange}
use Rattle.memory_map.specs.declared.areas.TheConstants.{SYSTEM_MEMORY}
use Rattle.space_memory_bytes.specs.Areas.{AreaState, IsDead}
use Rattle.space_memory_access.specs.declared.holder.Region.{Region}
use Rattle.space_memory_access.specs.Holders.{is_pending}
use Rattle.space_memory_access.specs.Held.{IsPending}
use Rattle.space_memory_laws.specs.Shown.{value_when_held}

-- an address is covered by a range, or lies before or after it
pub cover_cases : (r : Range) (x : ℕ) → record { is : covers r x ≡ true; from : r.addr ≤ x; below : x < r.addr + r.len } ⊎ record { is : covers r x ≡ false; out : (x < r.addr) ⊎ (r.addr + r.len ≤ x) }
cover_cases r x = elim (cases_lt x r.addr) [
  | inl before ↦ inr (record { is = and_left (leb r.addr x) (ltb x (r.addr + r.len)) (lt-leb r.addr x before); out = inl before })
  | inr from ↦ elim (cases_lt x (r.addr + r.len)) [
    | inl below ↦ inl (record { is = and_from (leb r.addr x) (ltb x (r.addr + r.len)) (le-leb r.addr x from) (lt-ltb x (r.addr + r.len) below); from = from; below = below })
    | inr after ↦ inr (record { is = and_right (leb r.addr x) (ltb x (r.addr + r.len)) (le-ltb x (r.addr + r.len) after); out = inr after })
  ]
]

pub cover_parts : (r : Range) (x : ℕ) → covers r x ≡ true → (r.addr ≤ x) × (x < r.addr + r.len)
cover_parts r x c = let p = and_parts (leb r.addr x) (ltb x (r.addr + r.len)) c in (leb-true r.addr x p.0, ltb-true x (r.addr + r.len) p.1)

pub covered : (r : Range) (x : ℕ) → r.addr ≤ x → x < r.addr + r.len → covers r x ≡ true
covered r x from below = and_from (leb r.addr x) (ltb x (r.addr + r.len)) (le-leb r.addr x from) (lt-ltb x (r.addr + r.len) below)

-- a range of live bytes ends before the last address
pub live_ends : (bytes : List AreaState) (r : Range) → ((x : ℕ) → 2 ^ 64 ≤ suc x → IsDead bytes x) → r.addr < 2 ^ 64 → NoneIn r (IsDead bytes) → r.addr + r.len < 2 ^ 64
live_ends bytes r ends small live = elim (cases_lt (r.addr + r.len) (2 ^ 64)) [
  | inl lt ↦ lt
  | inr past ↦ absurd (live (2 ^ 64 - 1) (omega arith, omega arith, omega arith) (ends (2 ^ 64 - 1) (omega arith)))
]

-- no byte of a range is of system memory
pub not_system : (r : Range) (x : ℕ) → r.addr + r.len < 2 ^ 64 → NoneIn r (IsInRange SYSTEM_MEMORY) → covers r x ≡ true → is_system x ≡ false
not_system r x ends own c = elim (cases_Bool (is_system x)) [
  | inl is ↦
      let p = cover_parts r x c in
      let q = and_parts (leb system_globals x) (ltb x system_end) is in
      let from : system_globals ≤ x = leb-true system_globals x q.0 in
      let to : x < system_end = ltb-true x system_end q.1 in
      absurd (own x (p.0, p.1, omega (arith, p.1)) (from, to, omega (arith, p.1)))
  | inr is ↦ is
]

-- a byte that isn't pending was held by none, and the other way round
pub unheld : (regions : List Region) (x : ℕ) → (IsPending regions x → ⊥) → value_when_held regions x ≡ None
unheld [] x none = refl
unheld (r ∷ rest) x none = go (is_pending r.holder && covers r.range x) none (unheld rest x)
  where
    go : (b : Bool) → ((b || list_any (λ (q : Region). is_pending q.holder && covers q.range x) rest) ≡ true → ⊥) →
        ((IsPending rest x → ⊥) → value_when_held rest x ≡ None) →
        cond b (Some (get_or r.before (x - r.range.addr) 0)) (value_when_held rest x) ≡ None
    go true free again = absurd (free refl)
    go false free again = again free

pub held_by : (regions : List Region) (x : ℕ) → IsPending regions x → (v : ℕ) × (value_when_held regions x ≡ Some v)
held_by [] x p = absurd (true≢false (sym p))
held_by (r ∷ rest) x p = go (is_pending r.holder && covers r.range x) p (held_by rest x)
  where
    go : (b : Bool) → (b || list_any (λ (q : Region). is_pending q.holder && covers q.range x) rest) ≡ true →
        (IsPending rest x → (v : ℕ) × (value_when_held rest x ≡ Some v)) →
        (v : ℕ) × (cond b (Some (get_or r.before (x - r.range.addr) 0)) (value_when_held rest x) ≡ Some v)
    go true is again = (get_or r.before (x - r.range.addr) 0, refl)
    go false is again = again is

-- a byte is dead where an equal one is
pub dead_from : (b : Option ℕ) → is_some b ≡ false → b ≡ None
dead_from None e = refl
dead_from (Some v) e = absurd (true≢false e)

pub dead_as : {b c : Option ℕ} → is_some b ≡ is_some c → c ≡ None → b ≡ None
dead_as {b} {c} same dead = dead_from b (same ∙ ap is_some dead)

-- what lies below system memory is none of it
pub below_system : (x : ℕ) → x < system_globals → is_system x ≡ false
below_system x lt = and_left (leb system_globals x) (ltb x system_end) (lt-leb system_globals x lt)

pub in_replay : (x : ℕ) → replay_globals ≤ x → x < replay_end → is_replay x ≡ true
in_replay x from to = and_from (leb replay_globals x) (ltb x replay_end) (le-leb replay_globals x from) (lt-ltb x replay_end to)
