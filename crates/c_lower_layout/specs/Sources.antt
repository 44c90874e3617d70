-- The source that a typed program stands for, before it is known where anything lies, and numbers of types
-- of functions.
use Rattle.std.specs.Prelude.{ℕ, zero, suc, if◌then◌else◌, List, [], ◌∷◌, ◌++◌, map}
use Rattle.memory_map.specs.declared.placed.Placed.{Placed}
use Rattle.c_types_model.specs.Types.{CType}
use Rattle.c_builtins.specs.Table.{prototype_of, thread_function}
use Rattle.c_builtins.specs.declared.builtin.Builtin.TheVariants.{Malloc, Free, Spawn, Join, Lock, Unlock, Print}
use Rattle.c_types_rules.specs.TypeTests.{same_type}
use Rattle.c_types_rules.specs.Sources.{Function}
use Rattle.c_semantics.specs.Context.{Source}
use Rattle.c_types_program.specs.Declarations.{Declared}
use Rattle.c_types_program.specs.Programs.{program_in, texts_in}

abbrev nowhere : Placed
nowhere = record { globals = []; strings = []; replay = []; system = []; faces = [] }

-- the source that a program stands for, whose objects lie nowhere
unfoldable pub source_in : Declared → Source
source_in p = record { program = program_in p []; texts = texts_in p.texts; placed = nowhere }

-- the types of a thread's function and of the builtins by number
abbrev pub fixed_types : List CType
fixed_types = thread_function ∷ prototype_of Malloc ∷ prototype_of Free ∷ prototype_of Spawn ∷
    prototype_of Join ∷ prototype_of Lock ∷ prototype_of Unlock ∷ prototype_of Print ∷ []

abbrev pub types_of_functions : List Function → List CType
types_of_functions fs = map (λ f. f.type) fs

-- the place of the first type that is equal; that after the last where none is
abbrev pub place_among : CType → List CType → ℕ
place_among t [] = zero
place_among t (u ∷ us) = if same_type t u then zero else suc (place_among t us)

-- the number of a type of functions: its place among those types and then those of the source's functions
unfoldable pub sig_in : Declared → CType → ℕ
sig_in p t = place_among t (fixed_types ++ types_of_functions (program_in p []).functions)
