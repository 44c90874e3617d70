-- Freeing a block.
use Rattle.std.specs.Prelude.{◌≡◌, ℕ, true, false, List, Some, None}
use Rattle.marks.specs.declared.side.Side.{Side}
use Rattle.marks.specs.declared.side.Side.TheVariants.{Replay, System}
use Rattle.marks.specs.declared.range.Range.{Range}
use Rattle.marks.specs.Ranges.{covers, IsLeastIn}
use Rattle.memory_map.specs.declared.areas.TheConstants.{REPLAY_MEMORY, SYSTEM_MEMORY}
use Rattle.pool_list.specs.declared.block.Block.{Block}
use Rattle.pool_list.specs.Blocks.{length_at}
use Rattle.space_memory_access.specs.declared.holder.Region.{Region}
use Rattle.space_memory_access.specs.declared.refusal.Refusal.{Refusal}
use Rattle.space_memory_access.specs.declared.refusal.Refusal.TheVariants.{NotLive, Pending, OtherSpace, ReadOnly, StackFull, KeyInUse, NoKey, Size}
use Rattle.space_memory_access.specs.Accesses.{IsPendingTo}

-- the memory of the other side, in which code may free nothing, whatever it may read or write there
abbrev pub other_memory : Side → Range
other_memory Replay = SYSTEM_MEMORY
other_memory System = REPLAY_MEMORY

-- a free at an address other than 0 is refused: the address is of the other side's memory; or else no live
-- block of the
-- side begins there; or else a byte of the block is pending for replay code, and the least is shown
abbrev pub IsFreeRefused : Side → List Block → List Region → ℕ → Refusal → Type 0
IsFreeRefused side blocks regions addr (OtherSpace x) = (covers (other_memory side) addr ≡ true) ×
    (x ≡ addr)
IsFreeRefused side blocks regions addr (NotLive x) = (covers (other_memory side) addr ≡ false) ×
    (length_at blocks addr ≡ None) × (x ≡ addr)
IsFreeRefused side blocks regions addr (Pending x) =
    (covers (other_memory side) addr ≡ false) ×
    ((len : ℕ) × (length_at blocks addr ≡ Some len) ×
    IsLeastIn (record { addr = addr; len = len }) (IsPendingTo side regions) x)
IsFreeRefused side blocks regions addr (ReadOnly x) = ⊥
IsFreeRefused side blocks regions addr (StackFull x) = ⊥
IsFreeRefused side blocks regions addr (KeyInUse x) = ⊥
IsFreeRefused side blocks regions addr (NoKey x) = ⊥
IsFreeRefused side blocks regions addr (Size x) = ⊥
