-- Calls that fail by their numbers.
use Rattle.std.specs.Prelude.{◌≡◌, ℕ, ◌+◌, ◌-◌, ◌^◌, List, Result, Ok, Err, Bool, true, false, IsTrue, min, nat_eq}
use Rattle.std.specs.List.{list_any}
use Rattle.r2_base.specs.declared.fault.Fault.{Fault}
use Rattle.r2_base.specs.declared.fault.Fault.TheVariants.{Failed, Missing, Memory}

-- a counter after one more; it stands still at its last value
abbrev pub next : ℕ → ℕ
next n = min (n + 1) (2 ^ 64 - 1)

-- whether the number stands in the list
abbrev pub is_listed : List ℕ → ℕ → Bool
is_listed numbers number = list_any (λ n. nat_eq n number) numbers

-- a call answers Failed exactly where it is a failing one, out of memory aside
abbrev pub FailsExactly : {T : Type 0} → Bool → Result T Fault → Type 0
FailsExactly fails (Ok x) = fails ≡ false
FailsExactly fails (Err Failed) = fails ≡ true
FailsExactly fails (Err Missing) = fails ≡ false
FailsExactly fails (Err Memory) = Unit {0}

-- a count of faults after a call with this answer
abbrev pub faults_after : {T : Type 0} → Result T Fault → ℕ → ℕ
faults_after (Ok x) count = count
faults_after (Err Failed) count = next count
faults_after (Err Missing) count = count
faults_after (Err Memory) count = count
