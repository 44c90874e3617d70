-- Why a step is refused, as a number and an address.
use Rattle.std.specs.Prelude.{ℕ}
use Rattle.space_memory_access.specs.declared.refusal.Refusal.{Refusal}
use Rattle.space_memory_access.specs.declared.refusal.Refusal.TheVariants.{NotLive, Pending, OtherSpace, ReadOnly, StackFull, KeyInUse, NoKey, Size}

-- the number of the cause
abbrev pub number : Refusal → ℕ
number (NotLive x) = 1
number (Pending x) = 2
number (OtherSpace x) = 3
number (ReadOnly x) = 4
number (StackFull x) = 5
number (KeyInUse x) = 6
number (NoKey x) = 7
number (Size x) = 8

-- the address or key that is shown
abbrev pub address : Refusal → ℕ
address (NotLive x) = x
address (Pending x) = x
address (OtherSpace x) = x
address (ReadOnly x) = x
address (StackFull x) = x
address (KeyInUse x) = x
address (NoKey x) = x
address (Size x) = x
