-- In which modes the functions of a source may run, for a cut.
use Rattle.std.specs.Prelude.{◌≡◌, ℕ, ◌+◌, ◌-◌, ◌<◌, nat_lt, Bool, true, false, if◌then◌else◌, List, [], length, Option, Some, None, slice_get}
use Rattle.std.specs.List.{Contains}
use Rattle.marks.specs.declared.side.Side.{Side}
use Rattle.marks.specs.declared.side.Side.TheVariants.{Replay, System}
use Rattle.c_builtins.specs.Table.{first_source_function}
use Rattle.cut_graph_rules.specs.declared.mention.Mention.{Mention}
use Rattle.cut_graph_rules.specs.declared.mention.Mention.TheVariants.{Function, Global}
use Rattle.cut_graph_rules.specs.Sources.{Mentioned}

abbrev pub or_nothing : Option (List Mention) → List Mention
or_nothing (Some ms) = ms
or_nothing None = []

-- what a function mentions by its number; a builtin mentions nothing
abbrev pub mentions_in : Mentioned → (number : ℕ) → List Mention
mentions_in n number = if nat_lt number first_source_function then [] else
    or_nothing (slice_get n.functions (number - first_source_function))

-- what the value of a global mentions by its place
abbrev pub mentions_in_value : Mentioned → (place : ℕ) → List Mention
mentions_in_value n place = or_nothing (slice_get n.globals place)

-- the number is that of a function of the source, or below all of them, as those of builtins are
abbrev pub IsFunction : Mentioned → (number : ℕ) → Type 0
IsFunction n number = number < first_source_function + length n.functions

-- a function names another in its body, or it names a global in whose value the other is named; the globals
-- that are named in that value are followed no further
pub data Names (n : Mentioned) (f h : ℕ) : Type 0 where
  in_body : Contains (mentions_in n f) (Function h) → Names n f h
  in_value : {g : ℕ} → Contains (mentions_in n f) (Global g) →
      Contains (mentions_in_value n g) (Function h) → Names n f h

-- the least rule. `main` may run above the cut. What may run there passes that on to the functions that it
-- names, but for those of the interface, which may run below the cut; what may run below passes that on to
-- all that it names
pub data MayRun (n : Mentioned) (face : ℕ → Bool) (main : ℕ) : Side → ℕ → Type 0 where
  begins : MayRun n face main Replay main
  stays : {f h : ℕ} → MayRun n face main Replay f → Names n f h → IsFunction n h → face h ≡ false →
      MayRun n face main Replay h
  crosses : {f h : ℕ} → MayRun n face main Replay f → Names n f h → IsFunction n h → face h ≡ true →
      MayRun n face main System h
  below : {f h : ℕ} → MayRun n face main System f → Names n f h → IsFunction n h →
      MayRun n face main System h
