-- How names are kept: as the keys of maps.
use Rattle.std.specs.Prelude.{◌≡◌, ℕ, ◌<◌, List, map, Option, length}
use Rattle.std.specs.List.{AllByRecursion}
use Rattle.std.specs.Map.{keys_of, lookup}
use Rattle.c_scopes.specs.Scopes.{same_name}
use Rattle.c_scopes.specs.Bindings.{Name, text_at}
use Rattle.c_types_rules.specs.Environment.{place_in}

-- names with their values, as texts
abbrev pub texts : {V : Type 0} → List (Name × V) → List (List ℕ × V)
texts entries = map (λ e. (e.0.items, e.1)) entries

-- the value of the first entry of this name
abbrev pub value_of : {V : Type 0} → List ℕ → List (Name × V) → Option V
value_of name entries = lookup (λ k. same_name name k.items) entries

-- the tags of all definitions, by the indexes of their names
abbrev pub tags_at : List Name → List ℕ → List (List ℕ)
tags_at names order = map (text_at names) order

-- each name has the place of its first definition, and any other none
pub record AreFirst (entries : List (Name × ℕ)) (order : List ℕ) : Type 0 where
  pub within : AllByRecursion (λ n. n < length entries) order
  pub first : (name : List ℕ) → value_of name entries ≡ place_in name (tags_at (keys_of entries) order)
