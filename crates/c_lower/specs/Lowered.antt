-- The flat code of a typed program.
use Rattle.std.specs.Prelude.{◌≡◌, ℕ, ◌+◌, List, [], ◌∷◌, ◌++◌, length, map, Option, Some, None}
use Rattle.c_code.specs.declared.code.FuncInfo.{FuncInfo}
use Rattle.c_code.specs.declared.instr.Instr.{Instr}
use Rattle.c_code.specs.Machine.{Flat, flat}
use Rattle.c_types_model.specs.Types.{CType}
use Rattle.c_types_table.specs.Tables.{type_at}
use Rattle.c_builtins.specs.declared.builtin.Builtin.{Builtin}
use Rattle.c_builtins.specs.declared.lookup.TheConstants.{BUILTINS}
use Rattle.c_builtins.specs.Table.{name_of, params_of as params_of_prototype, prototype_of, result_of as result_of_prototype}
use Rattle.c_types_rules.specs.Sources.{params_of, result_of}
use Rattle.c_types_rules.specs.Limits.{frame_size}
use Rattle.c_semantics.specs.Context.{Source, local_offsets, shape_of, shapes_of}
use Rattle.c_lower_placement.specs.Code.{body_code}
use Rattle.c_types_program.specs.declared.function.Body.{Body}
use Rattle.c_types_program.specs.declared.function.Function.{Function}
use Rattle.c_types_program.specs.Declarations.{Declared, body_in, types_in}
use Rattle.c_types_program.specs.Programs.{program_in, texts_in}
use Rattle.c_lower_layout.specs.Sources.{sig_in, source_in}
use Rattle.c_lower_bodies.specs.Making.{making, setting}

-- the types of a function's parameters and locals
abbrev pub locals_of : Declared → Body → List CType
locals_of p b = types_in p.table.types b.locals

-- the code of a function; one without a body has none
abbrev pub code_of : Declared → Option Body → List Instr
code_of p None = []
code_of p (Some b) = body_code (body_in p.table b)
    (making (setting p (local_offsets (source_in p) (locals_of p b))))

-- the code of functions, one after another
abbrev pub codes_of : Declared → List Function → List Instr
codes_of p [] = []
codes_of p (f ∷ fs) = code_of p f.body ++ codes_of p fs

-- the size of a function's frame; one without a body has none
abbrev pub frame_of : Declared → Option Body → ℕ
frame_of p None = 0
frame_of p (Some b) = frame_size (source_in p).program (locals_of p b)

abbrev pub entry_at : Option Body → ℕ → Option ℕ
entry_at None at = None
entry_at (Some b) at = Some at

-- what callers know of a function with such a frame, which begins there
abbrev pub known_info : Declared → Function → (frame : ℕ) → (entry : Option ℕ) → FuncInfo
known_info p f size at = record {
  name = f.name;
  params = shapes_of (params_of (type_at p.table.types f.ty));
  result = shape_of (result_of (type_at p.table.types f.ty));
  sig = sig_in p (type_at p.table.types f.ty);
  frame = size;
  entry = at;
}

-- what callers know of a function, whose code begins there
abbrev pub info_of : Declared → ℕ → Function → FuncInfo
info_of p at f = known_info p f (frame_of p f.body) (entry_at f.body at)

-- the same of functions, one after another
abbrev pub infos_from : Declared → ℕ → List Function → List FuncInfo
infos_from p at [] = []
infos_from p at (f ∷ fs) = info_of p at f ∷ infos_from p (at + length (code_of p f.body)) fs

-- what callers know of a builtin
abbrev pub builtin_info : Declared → Builtin → FuncInfo
builtin_info p b = record {
  name = name_of b;
  params = shapes_of (params_of_prototype (prototype_of b));
  result = shape_of (result_of_prototype (prototype_of b));
  sig = sig_in p (prototype_of b);
  frame = 0;
  entry = None;
}

-- the code of a program
abbrev pub lowered : Declared → Flat
lowered p = flat (map (builtin_info p) BUILTINS) (infos_from p 0 p.functions) (codes_of p p.functions)

-- the source is the one that the program stands for, wherever its objects lie
pub record IsSourceOf (p : Declared) (s : Source) : Type 0 where
  pub program : s.program ≡ program_in p s.program.names
  pub texts : s.texts ≡ texts_in p.texts
