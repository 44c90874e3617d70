-- What a typed source stands for.
use Rattle.std.specs.Prelude.{◌≡◌, ℕ, ◌≤◌, List, map}
use Rattle.std.specs.List.{All}
use Rattle.source_limits.specs.Limits.{greatest_object}
use Rattle.c_syntax.specs.Stands.{Holds}
use Rattle.c_syntax.specs.Syntax.{Decls}
use Rattle.c_syntax_laws.specs.Numbers.{FitsDecls}
use Rattle.c_types_rules.specs.Environment.{Struct}
use Rattle.c_types_rules.specs.Limits.{Typed, outcome}
use Rattle.c_types_rules.specs.Sources.{Program, at_file, tags_of}
use Rattle.c_types_nodes.specs.Tables.{Keeps}
use Rattle.c_types_program.specs.Declarations.{IsFunction, IsGlobal, function_in, global_in}
use Rattle.c_types_source.specs.declared.parts.Parts.{Parts}

-- sizes up to this one are as they are stored
abbrev pub IsSmall : Struct → Type 0
IsSmall s = s.extent.size ≤ greatest_object

-- the parts are typed as this program, where these are the tags of the structs that it defines
pub record IsTypedAs (tags : List (List ℕ)) (p : Program) (s : Parts) : Type 0 where
  pub env : s.env.env ≡ at_file tags p
  pub functions : map (function_in s.env.table) s.functions ≡ p.functions
  pub globals : map (global_in s.env.table) s.globals ≡ p.globals
  -- all numbers are those of the table
  pub are_functions : All (IsFunction s.env.table) s.functions
  pub are_globals : All (IsGlobal s.env.table) s.globals
  pub small : All IsSmall p.structs

-- the tree is that of these declarations, which keep all rules of types and exceed no limit, and are this
-- program
pub record IsTypedSource (ds : Decls) (p : Program) (s : Parts) : Type 0 where
  pub holds : Holds s.tree ds
  pub typed : outcome ds ≡ Typed p
  pub is : IsTypedAs (tags_of ds) p s

-- the parts are those of some such source, whose numbers are such as tokens are
abbrev pub IsRight : Parts → Type 0
IsRight s = (ds : Decls) × (p : Program) × FitsDecls ds × IsTypedSource ds p s

-- all numbers stand for what they did, and all else is as it was
pub record GoesOn (old new : Parts) : Type 0 where
  pub numbers : Keeps old.env.table new.env.table
  pub env : new.env.env ≡ old.env.env
  pub tree : new.tree ≡ old.tree
  pub functions : new.functions ≡ old.functions
  pub globals : new.globals ≡ old.globals
  pub texts : new.texts ≡ old.texts
