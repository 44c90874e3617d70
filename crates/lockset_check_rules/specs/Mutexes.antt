-- Sets of mutexes: the list of the members of a set, the least first, so that equal sets are equal lists.
use Rattle.std.specs.Prelude.{ℤ, Bool, not, int_lt, List, [], ◌∷◌, ◌++◌, filter}
use Rattle.std.specs.List.{list_all, list_any}
use Rattle.std.specs.Cmp.Lexicographic.{pointwise}
use Rattle.std.specs.Ordering.{int_eq}

-- the mutexes that are held at a place, whatever way led there
abbrev pub Locks : Type 0
Locks = List ℤ

abbrev pub is_held : ℤ → Locks → Bool
is_held k s = list_any (λ m. int_eq m k) s

-- all of these are held
abbrev pub are_held : List ℤ → Locks → Bool
are_held ks s = list_all (λ k. is_held k s) ks

-- one more, between those below it and those above it
abbrev pub with_lock : ℤ → Locks → Locks
with_lock k s = filter (λ m. int_lt m k) s ++ k ∷ filter (λ m. int_lt k m) s

abbrev pub without_lock : ℤ → Locks → Locks
without_lock k s = filter (λ m. not (int_eq m k)) s

-- those that are in both
abbrev pub shared : Locks → Locks → Locks
shared s t = filter (λ m. is_held m t) s

abbrev pub same : Locks → Locks → Bool
same s t = pointwise int_eq s t

-- these more
abbrev pub with_locks : List ℤ → Locks → Locks
with_locks [] s = s
with_locks (k ∷ ks) s = with_locks ks (with_lock k s)

-- the set of these
abbrev pub locks_of : List ℤ → Locks
locks_of ks = with_locks ks []
