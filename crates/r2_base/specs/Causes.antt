-- When a call may answer that the outside failed.
use Rattle.std.specs.Prelude.{◌≡◌, ℕ, ◌-◌, ◌^◌, ◌≤◌, ◌<◌, ◌⊎◌}
use Rattle.r2_base.specs.declared.fault.Fault.{Fault}
use Rattle.r2_base.specs.declared.fault.Fault.TheVariants.{Failed, Missing, Memory}

-- the count is greater than before, or has come to the last value of a counter; so what rose in a part of a
-- call rose in the call
abbrev pub Rose : ℕ → ℕ → Type 0
Rose before now = (before < now) ⊎ (2 ^ 64 - 1 ≤ now)

-- the cause of a fault of a reading call, by its count of faults
abbrev pub IsReadCause : ℕ → ℕ → Fault → Type 0
IsReadCause before now Failed = Rose before now
IsReadCause before now Missing = now ≡ before
IsReadCause before now Memory = Unit {0}

-- the same of a writing call, which never answers Missing
abbrev pub IsWriteCause : ℕ → ℕ → Fault → Type 0
IsWriteCause before now Failed = Rose before now
IsWriteCause before now Missing = ⊥
IsWriteCause before now Memory = Unit {0}
