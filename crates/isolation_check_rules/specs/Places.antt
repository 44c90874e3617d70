-- Where the strings and globals of a program lie, for a cut, and what a run is told of its functions.
use Rattle.std.specs.Prelude.{◌≡◌, ◌↔◌, ℕ, ◌+◌, Bool, true, List, [], ◌∷◌, ◌++◌, length, map, Some, slice_get}
use Rattle.marks.specs.declared.side.Side.TheVariants.{Replay, System}
use Rattle.memory_map.specs.declared.placed.Place.{Place}
use Rattle.memory_map.specs.declared.placed.Placed.{Placed}
use Rattle.c_types_model.specs.declared.extent.Extent.{Extent}
use Rattle.c_builtins.specs.Table.{first_source_function}
use Rattle.c_types_rules.specs.Sources.{Global, Program, extents_in}
use Rattle.c_types_rules.specs.Limits.{type_of}
use Rattle.c_semantics.specs.Context.{Source}
use Rattle.cut_graph_rules.specs.Findings.{Cut, May}
use Rattle.isolation_check_rules.specs.declared.area.Area.{Area}
use Rattle.isolation_check_rules.specs.Areas.{AreAreas}
use Rattle.isolation_check_rules.specs.Addresses.{addresses_from, first_ends, string_addresses}
use Rattle.isolation_check_rules.specs.Images.{global_image}

-- a string of the source: the offset where it begins, and its bytes
pub record Literal : Type 0 where
  pub from : ℕ
  pub bytes : List ℕ

abbrev pub bytes_in : List Literal → List (List ℕ)
bytes_in ls = map (λ l. l.bytes) ls

-- the sizes and alignments of the globals
abbrev pub global_extents : Program → List Extent
global_extents p = extents_in p (map type_of p.globals)

-- the source, whose objects lie so
abbrev pub source_of : Program → List Literal → Placed → Source
source_of p ls q = record { program = p; texts = map (λ l. l.from) ls; placed = q }

-- the bytes of globals with these sizes
abbrev pub inits : Source → List Global → List Extent → List (List ℕ)
inits s [] xs = []
inits s (g ∷ gs) [] = []
inits s (g ∷ gs) (x ∷ xs) = global_image s x.size g.value g.type ∷ inits s gs xs

abbrev pub addresses_of : List Place → List ℕ
addresses_of ps = map (λ o. o.addr) ps

abbrev pub inits_of : List Place → List (List ℕ)
inits_of ps = map (λ o. o.init) ps

-- one flag per function by number, builtins too
pub record AreFlags (p : Program) (P : ℕ → Type 0) (flags : List Bool) : Type 0 where
  pub each : length flags ≡ first_source_function + length p.functions
  pub exact : (f : ℕ) (b : Bool) → slice_get flags f ≡ Some b → (b ≡ true) ↔ P f

-- all strings and globals lie where they should, and have the bytes that they should
pub record IsPlaced (c : Cut) (ls : List Literal) (q : Placed) : Type 0 where
  pub areas : List Area
  pub lie : AreAreas c areas
  pub strings_at : addresses_of q.strings ≡ string_addresses (bytes_in ls)
  pub strings : inits_of q.strings ≡ map (λ bytes. bytes ++ 0 ∷ []) (bytes_in ls)
  pub globals_at : addresses_of q.globals ≡
      addresses_from (first_ends (bytes_in ls)) areas (global_extents c.program)
  pub globals : inits_of q.globals ≡
      inits (source_of c.program ls q) c.program.globals (global_extents c.program)
  pub replay : AreFlags c.program (May c Replay) q.replay
  pub system : AreFlags c.program (May c System) q.system
  pub faces : AreFlags c.program (λ f. c.face f ≡ true) q.faces
