-- An access that keeps to its side is allowed where its bytes live.
use Rattle.std.proofs.Common.{◌≡◌, ◌↔◌, ℕ, ◌+◌, ◌-◌, ◌^◌, ◌<◌, ◌≤◌, ◌⊎◌, Bool, true, false, ◌&&◌, leb, ltb, List, [], ◌∷◌, Option, None, refl, ap, sym, ◌∙◌, subst, inl, inr, arith}
use Rattle.std.specs.List.{list_any}
use Rattle.std.proofs.lemmas.Bool.{or_cases, or_left, or_right, and_parts, and_from, both_ways, leb-true}
use Rattle.marks.specs.declared.side.Side.{Side}
use Rattle.marks.specs.declared.side.Side.TheVariants.{Replay, System}
use Rattle.marks.specs.declared.range.Range.{Range}
use Rattle.marks.specs.Ranges.{IsInRange, NoneIn, covers}
use Rattle.memory_map.specs.declared.areas.TheConstants.{REPLAY_MEMORY}
use Rattle.space_memory_bytes.specs.Areas.{AreaState, byte_at, IsDead, AllLive}
use Rattle.space_memory_access.specs.declared.holder.Region.{Region}
use Rattle.space_memory_access.specs.declared.access.Access.{Access}
use Rattle.space_memory_access.specs.Holders.{serves}
use Rattle.space_memory_access.specs.Held.{IsPending, IsServed, IsServedWhole, is_part}
use Rattle.space_memory_access.specs.Accesses.{IsForeignTo, IsForeign, IsPendingTo, IsConstantTo, IsAllowed, IsOwnTo, IsOpen}
use Rattle.space_memory_access.proofs.Firsts.{covers_from}

-- a region that serves a range serves each byte of it
in_part : (outer inner : Range) (x : ℕ) → is_part outer inner ≡ true → IsInRange inner x → covers outer x ≡ true
in_part outer inner x part in' =
    let parts = and_parts (leb outer.addr inner.addr) (leb (inner.addr + inner.len) (outer.addr + outer.len)) part in
    let low : outer.addr ≤ inner.addr = leb-true outer.addr inner.addr parts.0 in
    let high : inner.addr + inner.len ≤ outer.addr + outer.len = leb-true (inner.addr + inner.len) (outer.addr + outer.len) parts.1 in
    covers_from outer x (omega (arith, in'.0), omega (arith, in'.1), in'.2)

served_each : (regions : List Region) (thread : ℕ) (write : Bool) (range : Range) (x : ℕ) → IsServedWhole regions thread write range → IsInRange range x → IsServed regions thread write x
served_each [] thread write range x whole in' = absurd (both_ways false refl whole)
served_each (r ∷ rest) thread write range x whole in' = elim (or_cases (serves thread write r.holder && is_part r.range range) (list_any (λ (q : Region). serves thread write q.holder && is_part q.range range) rest) whole) [
  | inl this ↦
      let parts = and_parts (serves thread write r.holder) (is_part r.range range) this in
      or_left (serves thread write r.holder && covers r.range x) (list_any (λ (q : Region). serves thread write q.holder && covers q.range x) rest) (and_from (serves thread write r.holder) (covers r.range x) parts.0 (in_part r.range range x parts.1 in'))
  | inr later ↦ or_right (serves thread write r.holder && covers r.range x) (list_any (λ (q : Region). serves thread write q.holder && covers q.range x) rest) (served_each rest thread write range x later in')
]

module _ (regions : List Region) (a : Access) (bytes : List AreaState) (live : AllLive bytes a.range.addr a.range.len) where
  lives : NoneIn a.range (IsDead bytes)
  lives x in' dead =
      let there : a.range.addr + (x - a.range.addr) ≡ x = omega (arith, in'.0) in
      live (x - a.range.addr) (omega (arith, in'.0, in'.1)) (ap (λ y. byte_at bytes y) there ∙ dead)

  own : (side : Side) → IsOwnTo side regions a → NoneIn a.range (IsForeignTo side bytes regions a)
  own Replay is x in' system = omega (arith, is.0, in'.1, system.0)
  own System (inl above) x in' without = omega (arith, above, in'.0, without.0.1)
  own System (inr (inl below)) x in' without = omega (arith, below, in'.1, without.0.0)
  own System (inr (inr whole)) x in' without = without.1 (lives x in', served_each regions a.thread a.write a.range x whole in')

  free : (side : Side) → IsOwnTo side regions a → NoneIn a.range (IsPendingTo side regions)
  free Replay is = is.1
  free System is = λ x in' pending. pending

  writable : (write : Bool) → (write ≡ true → REPLAY_MEMORY.addr ≤ a.range.addr) → NoneIn a.range (IsConstantTo write)
  writable true past x in' constant = omega (arith, past refl, in'.0, constant.1)
  writable false past x in' constant = constant

  pub open_allowed : IsOpen regions a → IsAllowed bytes regions a
  open_allowed way = record {
    own = own a.side way.own;
    live = lives;
    free = free a.side way.own;
    writable = writable a.write way.writable;
  }

-- it is open exactly where it keeps to its side and past the constants
pub open_so : (regions : List Region) (a : Access) (b : Bool) → (b ≡ true) ↔ IsOwnTo a.side regions a → (a.write ≡ true → REPLAY_MEMORY.addr ≤ a.range.addr) → (b ≡ true) ↔ IsOpen regions a
open_so regions a b own past = (λ yes. record { own = own.0 yes; writable = past }, λ way. own.1 way.own)
