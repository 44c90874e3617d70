-- The graph of what may run where. Its vertices are the functions that run above the cut, by number, builtins
-- too, then the globals that are named there, by place, and then the same for below the cut.
use Rattle.std.specs.Prelude.{ℕ, ◌+◌, nat_lt, Bool, true, false, ◌&&◌, if◌then◌else◌, List, [], ◌∷◌, ◌++◌, length, map, replicate}
use Rattle.std.specs.List.{flat_map}
use Rattle.marks.specs.declared.side.Side.{Side}
use Rattle.marks.specs.declared.side.Side.TheVariants.{Replay, System}
use Rattle.c_builtins.specs.Table.{first_source_function}
use Rattle.cut_graph_rules.specs.declared.mention.Mention.{Mention}
use Rattle.cut_graph_rules.specs.declared.mention.Mention.TheVariants.{Function, Global, Written}
use Rattle.cut_graph_rules.specs.Sources.{Mentioned}
use Rattle.cut_graph_paths.specs.Graphs.{flag}
use Rattle.cut_graph_modes.specs.declared.vertices.Naming.{Naming}

-- the side on which a function runs that is named on a side
abbrev pub side_of : (faces : List Bool) → Side → (number : ℕ) → Side
side_of faces Replay h = if flag faces h then System else Replay
side_of faces System h = System

-- ---- vertices, where there are so many functions and globals

abbrev pub first_of : (functions globals : ℕ) → Side → ℕ
first_of functions globals Replay = 0
first_of functions globals System = functions + globals

abbrev pub function_at : (functions globals : ℕ) → Side → (number : ℕ) → ℕ
function_at functions globals side h = first_of functions globals side + h

abbrev pub global_at : (functions globals : ℕ) → Side → (place : ℕ) → ℕ
global_at functions globals side g = first_of functions globals side + (functions + g)

-- ---- edges

-- where the name of a function leads: to it on its side
abbrev pub function_target : Naming → (faces : List Bool) → (number : ℕ) → List ℕ
function_target n faces h = if nat_lt h n.functions
    then function_at n.functions n.globals (side_of faces n.side h) h ∷ [] else []

-- where the name of a global leads: to it on the same side, where those are followed
abbrev pub global_target : Naming → (place : ℕ) → List ℕ
global_target n g = if n.follows && nat_lt g n.globals
    then global_at n.functions n.globals n.side g ∷ [] else []

abbrev pub target : Naming → (faces : List Bool) → Mention → List ℕ
target n faces (Function h) = function_target n faces h
target n faces (Global g) = global_target n g
target n faces (Written g) = []

-- what is named on a side: by functions, where names of globals are followed, or by values of globals, where
-- they aren't
abbrev pub naming_on : Mentioned → Side → (follows : Bool) → Naming
naming_on n side follows = record {
  functions = first_source_function + length n.functions;
  globals = length n.globals;
  side = side;
  follows = follows;
}

-- where each of several lists of mentions leads
abbrev pub rows_of : Naming → (faces : List Bool) → List (List Mention) → List (List ℕ)
rows_of n faces lists = map (flat_map (target n faces)) lists

-- the edges of the vertices of one side; those of builtins lead nowhere
abbrev pub side_rows : Mentioned → (faces : List Bool) → Side → List (List ℕ)
side_rows n faces side = replicate first_source_function [] ++
    (rows_of (naming_on n side true) faces n.functions ++ rows_of (naming_on n side false) faces n.globals)

abbrev pub graph_of : Mentioned → (faces : List Bool) → List (List ℕ)
graph_of n faces = side_rows n faces Replay ++ side_rows n faces System
