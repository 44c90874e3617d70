-- How scopes are kept: names by numbers, and all bindings in one list, the newest last.
use Rattle.std.specs.Prelude.{◌≡◌, ℕ, ◌<◌, ◌≤◌, ◌==◌, zero, suc, List, [], ◌∷◌, ◌++◌, Option, Some, None, if◌then◌else◌, length, take, drop, reverse, map, slice_get, position, Vec}
use Rattle.std.specs.Option.{unwrap_or}
use Rattle.std.specs.List.{AllByRecursion}
use Rattle.std.specs.declared.alloc.Global.{Global}
use Rattle.c_scopes.specs.declared.binding.Binding.{Binding}
use Rattle.c_scopes.specs.Scopes.{Scope, same_name}

-- a name as it is stored
abbrev pub Name : Type 0
Name = Vec ℕ Global

-- the second list is the first, with more after it
abbrev pub Continues : List Name → List Name → Type 0
Continues old new = (more : List Name) × (new ≡ old ++ more)

-- the number of a name
abbrev pub index_of : List ℕ → List Name → Option ℕ
index_of name names = position (λ k. same_name name k.items) names

-- the name of a number
abbrev pub text_at : List Name → ℕ → List ℕ
text_at [] n = []
text_at (k ∷ names) zero = k.items
text_at (k ∷ names) (suc n) = text_at names n

-- the place in the list at a number; None past its end
abbrev pub place_in : List (Option ℕ) → ℕ → Option ℕ
place_in places n = unwrap_or (slice_get places n) None

module _ {V : Type 0} where
  -- bindings as names with their meanings
  abbrev pub named : List Name → List (Binding V) → Scope V
  named names bindings = map (λ b. (text_at names b.name, b.meaning)) bindings

  -- the scopes, the innermost first, where each but the outermost starts at such a place among the bindings
  abbrev pub scopes_of : List Name → List ℕ → List (Binding V) → List (Scope V)
  scopes_of names [] bindings = named names (reverse bindings) ∷ []
  scopes_of names (start ∷ starts) bindings = named names (reverse (drop start bindings)) ∷
      scopes_of names starts (take start bindings)

  -- the place of the newest binding of a name, where the newest binding comes first
  abbrev pub newest : ℕ → List (Binding V) → Option ℕ
  newest n [] = None
  newest n (b ∷ older) = if n == b.name then Some (length older) else newest n older

  -- bindings, the newest first, whose names have lower numbers: each hides the newest one of its name
  -- before it
  abbrev pub IsChain : ℕ → List (Binding V) → Type 0
  IsChain limit [] = Unit {0}
  IsChain limit (b ∷ older) = (b.name < limit) × (b.hidden ≡ newest b.name older) × IsChain limit older

  -- each number of a name has the place of its newest binding, where the newest binding comes first
  pub record Ties (places : List (Option ℕ)) (bindings : List (Binding V)) : Type 0 where
    pub chain : IsChain (length places) bindings
    pub newest_of : (n : ℕ) → n < length places → slice_get places n ≡ Some (newest n bindings)

  -- the bindings with one more
  abbrev pub bound : ℕ → V → List (Binding V) → List (Binding V)
  bound name meaning bindings = bindings ++ record {
    name = name;
    meaning = meaning;
    hidden =
        newest name (reverse bindings);
  } ∷ []

  -- the binding's name stands at its number
  abbrev pub IsNumbered : List Name → Binding V → Type 0
  IsNumbered names b = index_of (text_at names b.name) names ≡ Some b.name

-- where the bindings of the innermost scope start
abbrev pub innermost_start : List ℕ → ℕ
innermost_start [] = 0
innermost_start (start ∷ starts) = start

-- starts of scopes, the innermost first: none after the end, and none after an inner one
abbrev pub AreStarts : List ℕ → ℕ → Type 0
AreStarts [] end = Unit {0}
AreStarts (start ∷ starts) end = (start ≤ end) × AreStarts starts start

-- how the parts of the scopes belong together
pub record AreKept {V : Type 0} (names : List Name) (places : List (Option ℕ)) (starts : List ℕ)
    (bindings : List (Binding V)) : Type 0 where
  pub room : length names ≤ length places
  pub in_order : AreStarts starts (length bindings)
  pub numbered : AllByRecursion (IsNumbered names) (reverse bindings)
  pub ties : Ties places (reverse bindings)
