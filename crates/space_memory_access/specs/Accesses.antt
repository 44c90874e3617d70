-- What an access to memory may touch, and the first test that it fails.
use Rattle.std.specs.Prelude.{◌≡◌, ◌⊎◌, ℕ, ◌+◌, ◌≤◌, Bool, true, false, List, []}
use Rattle.marks.specs.declared.side.Side.{Side}
use Rattle.marks.specs.declared.side.Side.TheVariants.{Replay, System}
use Rattle.memory_map.specs.declared.areas.TheConstants.{CONSTANTS, REPLAY_MEMORY, SYSTEM_MEMORY}
use Rattle.marks.specs.Ranges.{IsInRange, NoneIn, IsLeastIn}
use Rattle.space_memory_bytes.specs.Areas.{AreaState, IsDead}
use Rattle.space_memory_access.specs.declared.holder.Region.{Region}
use Rattle.space_memory_access.specs.Held.{IsPending, IsServed, IsServedWhole}
use Rattle.space_memory_access.specs.declared.access.Access.{Access}
use Rattle.space_memory_access.specs.declared.refusal.Refusal.{Refusal}
use Rattle.space_memory_access.specs.declared.refusal.Refusal.TheVariants.{NotLive, Pending, OtherSpace, ReadOnly, StackFull, KeyInUse, NoKey, Size}

-- system code may touch the byte of replay memory: it lives, in a region that a call of the thread holds
-- for that, or in
-- one that is prepared
abbrev pub HasRight : List AreaState → List Region → Access → ℕ → Type 0
HasRight bytes regions a x = (¬ IsDead bytes x) × IsServed regions a.thread a.write x

-- the byte is of replay memory, and system code has no right to it
abbrev pub IsWithoutRight : List AreaState → List Region → Access → ℕ → Type 0
IsWithoutRight bytes regions a x = IsInRange REPLAY_MEMORY x × ¬ HasRight bytes regions a x

-- the byte is of the other side: of system memory for replay code, of replay memory without right for
-- system code
abbrev pub IsForeignTo : Side → List AreaState → List Region → Access → ℕ → Type 0
IsForeignTo Replay bytes regions a x = IsInRange SYSTEM_MEMORY x
IsForeignTo System bytes regions a x = IsWithoutRight bytes regions a x

abbrev pub IsForeign : List AreaState → List Region → Access → ℕ → Type 0
IsForeign bytes regions a = IsForeignTo a.side bytes regions a

-- the byte is pending, which only replay code minds
abbrev pub IsPendingTo : Side → List Region → ℕ → Type 0
IsPendingTo Replay regions x = IsPending regions x
IsPendingTo System regions x = ⊥

-- the byte is a constant, which only a write minds
abbrev pub IsConstantTo : Bool → ℕ → Type 0
IsConstantTo true x = IsInRange CONSTANTS x
IsConstantTo false x = ⊥

-- no byte of the access fails any of the four tests
pub record IsAllowed (bytes : List AreaState) (regions : List Region) (a : Access) : Type 0 where
  pub own : NoneIn a.range (IsForeign bytes regions a)
  pub live : NoneIn a.range (IsDead bytes)
  pub free : NoneIn a.range (IsPendingTo a.side regions)
  pub writable : NoneIn a.range (IsConstantTo a.write)

-- a byte of the access fails a test, and none fails one before it: the refusal shows the least such byte
abbrev pub IsRefused : List AreaState → List Region → Access → Refusal → Type 0
IsRefused bytes regions a (OtherSpace x) = IsLeastIn a.range (IsForeign bytes regions a) x
IsRefused bytes regions a (NotLive x) = NoneIn a.range (IsForeign bytes regions a) ×
    IsLeastIn a.range (IsDead bytes) x
IsRefused bytes regions a (Pending x) = NoneIn a.range (IsForeign bytes regions a) ×
    NoneIn a.range (IsDead bytes) × IsLeastIn a.range (IsPendingTo a.side regions) x
IsRefused bytes regions a (ReadOnly x) = NoneIn a.range (IsForeign bytes regions a) ×
    NoneIn a.range (IsDead bytes) × NoneIn a.range (IsPendingTo a.side regions) ×
    IsLeastIn a.range (IsConstantTo a.write) x
IsRefused bytes regions a (StackFull x) = ⊥
IsRefused bytes regions a (KeyInUse x) = ⊥
IsRefused bytes regions a (NoKey x) = ⊥
IsRefused bytes regions a (Size x) = ⊥

-- the access keeps to its side, wherever it may be dead: replay code stays before system memory and off all
-- pending bytes; system code stays out of replay memory, or in one region that serves it there
abbrev pub IsOwnTo : Side → List Region → Access → Type 0
IsOwnTo Replay regions a = (a.range.addr + a.range.len ≤ SYSTEM_MEMORY.addr) ×
    NoneIn a.range (IsPending regions)
IsOwnTo System regions a = (REPLAY_MEMORY.addr + REPLAY_MEMORY.len ≤ a.range.addr) ⊎
    (a.range.addr + a.range.len ≤ REPLAY_MEMORY.addr) ⊎
    IsServedWhole regions a.thread a.write a.range

-- so no test but that of dead bytes can fail, if a write stays past the constants too
pub record IsOpen (regions : List Region) (a : Access) : Type 0 where
  pub own : IsOwnTo a.side regions a
  pub writable : a.write ≡ true → REPLAY_MEMORY.addr ≤ a.range.addr
