-- Ranges of keys and tickets.
use Rattle.std.proofs.Common.{◌≡◌, ℕ, suc, ◌^◌, ◌<◌, List, [], ◌∷◌, length, get_or, arith}
use Rattle.std.specs.List.{AllByRecursion}
use Rattle.run_events.specs.declared.key.KeyMark.{KeyMark}
use Rattle.run_events.specs.Tickets.{HasWord, with_tickets}
use Rattle.steps_above_stamps.specs.Tickets.{IsInRange}

pub in_range : (qs : List KeyMark) (ns : List ℕ) → length ns ≡ length qs → AllByRecursion HasWord qs → ((i d : ℕ) → i < length ns → get_or ns i d < 2 ^ 32) → AllByRecursion IsInRange (with_tickets qs ns)
in_range [] ns same words small = tt
in_range (q ∷ qs) [] same words small = absurd (omega (arith, same))
in_range (q ∷ qs) (n ∷ ns) same words small = ((words.0, small 0 0 (omega arith)), in_range qs ns (omega (arith, same)) words.1 (λ i d below. small (suc i) d (omega (arith, below))))
