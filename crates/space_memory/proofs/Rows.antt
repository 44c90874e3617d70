-- The next row with a live byte is that of the next live byte.
use Rattle.std.proofs.Common.{◌≡◌, ℕ, ◌+◌, ◌*◌, ◌/◌, ◌%◌, ◌<◌, ◌≤◌, Bool, true, false, Option, Some, None, refl, ap, sym, ◌∙◌, arith}
use Rattle.space_memory_bytes.specs.Areas.{byte_at, IsDead}
use Rattle.space_memory_bytes.specs.Nexts.{IsNext}
use Rattle.space_memory.specs.declared.cell.Cell.{Cell}
use Rattle.space_memory.specs.declared.cell.Cell.TheVariants.{Dead, Pending, Byte}
use Rattle.space_memory.specs.Spaces.{SpaceState}
use Rattle.space_memory.specs.Cells.{is_held, shown, cell_at, IsLiveRow}

-- only a dead byte shows as dead
shown_dead : (byte : Option ℕ) (held : Bool) → shown byte held ≡ Dead → byte ≡ None
shown_dead None held e = refl
shown_dead (Some byte) true e = let wrong : Pending ≡ Dead = e in absurd (cc)
shown_dead (Some byte) false e = let wrong : Byte byte ≡ Dead = e in absurd (cc)

module _ (spaces : SpaceState) (from : ℕ) (whole : from % 16 ≡ 0) where
  -- a live row has a live byte
  live_byte : (y : ℕ) → IsLiveRow spaces y → (i : ℕ) × (i < 16) × (IsDead spaces.bytes (y + i) → ⊥)
  live_byte y row = (row.1.0, row.1.1, λ dead. row.1.2 (ap (λ byte. shown byte (is_held spaces.held.regions (y + row.1.0))) dead))

  pub no_row : ((x : ℕ) → from ≤ x → ¬ (IsDead spaces.bytes x → ⊥)) → (y : ℕ) → from ≤ y → ¬ IsLiveRow spaces y
  no_row none y le row = let found = live_byte y row in none (y + found.0) (omega (arith, le)) found.2

  pub row_of : (addr : ℕ) → IsNext (λ x. ¬ IsDead spaces.bytes x) from addr → IsNext (IsLiveRow spaces) from (addr / 16 * 16)
  row_of addr next =
      let place : addr ≡ addr / 16 * 16 + addr % 16 = omega arith in
      record {
        reached = omega (arith, whole, next.reached);
        holds = (omega arith, (addr % 16, omega arith, λ dead. next.holds (shown_dead (byte_at spaces.bytes addr) (is_held spaces.held.regions addr) (ap (λ x. cell_at spaces x) place ∙ dead))));
        least = λ y le row.
            let found = live_byte y row in
            let near : addr ≤ y + found.0 = next.least (y + found.0) (omega (arith, le)) found.2 in
            omega (arith, near, row.0, found.1);
      }
