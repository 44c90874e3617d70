-- How many calls each thread has open, once one more is.
use Rattle.std.proofs.Common.{◌≡◌, ℕ, ◌+◌, ◌<◌, ◌≤◌, List, length, slice_index, slice_set, ◌∙◌, arith}
use Rattle.std.proofs.lemmas.List.{get_or-set_same, length-set}
use Rattle.memory_map.specs.declared.areas.TheConstants.{THREADS}

pub is_open : (ds : List ℕ) (t : ℕ) → length ds ≡ THREADS → t < THREADS → 1 ≤ slice_index (slice_set ds t (slice_index ds t + 1)) t
is_open ds t all lt = omega (arith, get_or-set_same ds t (slice_index ds t + 1) 0 (omega (arith, all, lt)))

pub as_many : (ds : List ℕ) (t n : ℕ) → length ds ≡ THREADS → length (slice_set ds t n) ≡ THREADS
as_many ds t n all = length-set ds t n ∙ all
