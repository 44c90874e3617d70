-- What is declared at a place of a source, and the table by which types and typed nodes go by numbers.
use Rattle.std.specs.Prelude.{◌≡◌, ◌<◌, ℕ, Bool, false, List, [], ◌∷◌, ◌++◌, map, length, nat_le}
use Rattle.std.specs.List.{All}
use Rattle.source_limits.specs.Limits.{greatest_object}
use Rattle.c_types_model.specs.Types.{CType}
use Rattle.c_types_model.specs.Layouts.{capped_extent}
use Rattle.c_types_model.specs.declared.extent.Extent.{Extent}
use Rattle.c_types_table.specs.declared.ty.Ty.{Ty}
use Rattle.c_types_table.specs.Tables.{types_of}
use Rattle.c_scopes.specs.Scopes.{Scope}
use Rattle.c_types_rules.specs.Environment.{Environment, Struct, extents}
use Rattle.c_types_rules.specs.Checked.{Notes}
use Rattle.c_types_nodes.specs.declared.ids.NodeId.{NodeId}
use Rattle.c_types_nodes.specs.Tables.{Table, Keeps}
use Rattle.c_types_nodes.specs.Lists.{nodes_at}
use Rattle.c_types_structs.specs.Members.{Definitions}
use Rattle.c_types_environment.specs.declared.meaning.Meaning.{Meaning}
use Rattle.c_types_environment.specs.Reading.{scopes_by, structs_by, struct_with, IsNameBelow, IsMemberBelow}

pub record State : Type 0 where
  -- the types and typed nodes so far
  pub table : Table
  -- what is declared
  pub env : Environment
  -- an object was found that is too large
  pub found_large : Bool
  -- the nodes that stand unevaluated
  pub unevaluated : List NodeId

-- what is noted
abbrev pub notes_of : State → Notes
notes_of s = record { large = s.found_large; unevaluated = nodes_at s.table s.unevaluated }

-- all numbers stand for what they did, and everything else is as it was
pub record KeepsAll (old new : State) : Type 0 where
  pub numbers : Keeps old.table new.table
  pub env : new.env ≡ old.env
  pub notes : notes_of new ≡ notes_of old

-- what the tags, structs and names stand for where types go by the numbers of a table
abbrev pub env_by : List CType → List (List ℕ) → Definitions → List (Scope Meaning) → Environment
env_by ts tags structs scopes = record {
  tags = tags;
  structs = structs_by ts [] structs.members;
  scopes =
      scopes_by ts scopes;
}

-- what a table and all that is declared stand for
abbrev pub state_by : Table → List (List ℕ) → Definitions → List (Scope Meaning) → (found_large : Bool) →
    List NodeId → State
state_by t tags structs scopes large ids = record {
  table = t;
  env =
      env_by (types_of t.types) tags structs scopes;
  found_large = large;
  unevaluated = ids;
}

-- the sizes and alignments of structs as they are stored
abbrev pub stored_extents : List CType → Definitions → List Extent
stored_extents ts structs = map capped_extent (map (λ s. s.extent) (structs_by ts [] structs.members))

-- all types of members and names are in the table, the sizes of structs are those of their members, and
-- there is a scope
pub record IsSound (types : List Ty) (structs : Definitions) (scopes : List (Scope Meaning)) : Type 0 where
  pub members : All (All (IsMemberBelow (length types))) structs.members
  pub names : All (All (IsNameBelow (length types))) scopes
  pub extents : structs.extents ≡ stored_extents (types_of types) structs
  pub scoped : 0 < length scopes

-- one more struct is defined
abbrev pub with_struct : Environment → List (List ℕ × CType) → Environment
with_struct env ms = record env { structs = env.structs ++ struct_with (extents env) ms ∷ [] }

-- an object of the next struct with these members is not too large
abbrev pub is_small_struct : Environment → List (List ℕ × CType) → Bool
is_small_struct env ms = nat_le (struct_with (extents env) ms).extent.size greatest_object
