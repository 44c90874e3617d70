-- The addresses between two, in which all pending bytes lie.
use Rattle.std.specs.Prelude.{◌≡◌, ℕ, ◌≤◌, ◌<◌, ◌^◌, List, length}
use Rattle.memory_map.specs.declared.areas.TheConstants.{THREADS}
use Rattle.space_memory_access.specs.declared.holder.Region.{Region}
use Rattle.space_memory_access.specs.declared.span.Span.{Span}
use Rattle.space_memory_access.specs.Held.{IsPending}

abbrev pub IsIn : Span → ℕ → Type 0
IsIn s x = (s.first ≤ x) × (x ≤ s.last)

-- each pending byte lies in the span
abbrev pub HoldsPending : Span → List Region → Type 0
HoldsPending s regions = (x : ℕ) → x < 2 ^ 64 → IsPending regions x → IsIn s x

-- what is kept of regions: open calls are counted for each thread, and the span has all pending bytes
pub record AreKept (regions : List Region) (depths : List ℕ) (pending : Span) : Type 0 where
  pub threads : length depths ≡ THREADS
  pub within : HoldsPending pending regions
