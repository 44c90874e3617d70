-- Keys by the number of their class and their value.
use Rattle.std.specs.Prelude.{ℕ, max, Bool, false, ◌||◌, ◌&&◌, ◌==◌, List, [], ◌∷◌}
use Rattle.std.specs.BTreeMap.{is_at}
use Rattle.std.specs.declared.cmp.Ordering.{Ordering}
use Rattle.std.specs.Ordering.{nat_cmp, ordering_then}
use Rattle.run_events.specs.Class.{number_of}
use Rattle.run_events.specs.declared.key.Key.{Key}
use Rattle.logical_clock.specs.declared.name.KeyName.{KeyName}

abbrev pub name : Key → KeyName
name k = record { class = number_of k.class; value = k.value }

abbrev pub key_cmp : KeyName → KeyName → Ordering
key_cmp a b = ordering_then (nat_cmp a.class b.class) (nat_cmp a.value b.value)

-- names are the same
abbrev pub same_name : KeyName → KeyName → Bool
same_name a b = a.class == b.class && a.value == b.value

-- one of the keys has the name
abbrev pub is_named : List Key → KeyName → Bool
is_named [] q = false
is_named (k ∷ ks) q = is_at (key_cmp (name k)) q || is_named ks q

-- the greatest of these numbers of keys, 0 where there are no keys
abbrev pub greatest_of : (Key → ℕ) → List Key → ℕ
greatest_of f [] = 0
greatest_of f (k ∷ ks) = max (f k) (greatest_of f ks)
