-- What holds of programs that keep the rules of types and their limits.
use Rattle.std.specs.Prelude.{◌≡◌, ℕ, ◌+◌, ◌^◌, ◌<◌, ◌≤◌, length, take, Some, slice_get}
use Rattle.source_limits.specs.Limits.{greatest_frame, greatest_object, most_params}
use Rattle.marks.specs.Places.{builtin_count}
use Rattle.c_code.specs.declared.code.FuncInfo.{FuncInfo}
use Rattle.c_code.specs.Frames.{param_offsets, params_end}
use Rattle.c_code.specs.Machine.{Flat, func_of}
use Rattle.c_types_model.specs.Types.{CType}
use Rattle.c_builtins.specs.declared.builtin.Builtin.{Builtin}
use Rattle.c_builtins.specs.Table.{number_of}
use Rattle.c_types_rules.specs.TypedTree.{Body}
use Rattle.c_types_rules.specs.Environment.{Struct}
use Rattle.c_types_rules.specs.Limits.{frame_size}
use Rattle.c_types_rules.specs.Sources.{result_of}
use Rattle.c_semantics.specs.Context.{Source, body_of, local_offsets, param_shapes, type_of}
use Rattle.c_semantics.specs.Returned.{Converts}
use Rattle.c_lower_placement.specs.Code.{making}
use Rattle.c_lower_placement.specs.Heights.{StatementCalls}
use Rattle.c_types_program.specs.Declarations.{Declared}
use Rattle.c_lower_layout.specs.Indexed.{members_end}
use Rattle.c_lower_layout.specs.Sources.{sig_in, source_in}

-- flat code knows each function of a source and each builtin, and of a function its parameters and the
-- number of its type,
-- which no other type has
pub record Knows (s : Source) (code : Flat) (sig : CType → ℕ) : Type 0 where
  pub each : (f : ℕ) (info : FuncInfo) → func_of code f ≡ Some info → (info.params ≡ param_shapes s f) ×
      (info.sig ≡ sig (type_of s f))
  pub tells : (f : ℕ) (info : FuncInfo) (t : CType) → func_of code f ≡ Some info → info.sig ≡ sig t →
      type_of s f ≡ t
  pub builtins : (b : Builtin) → (info : FuncInfo) × (func_of code (number_of b) ≡ Some info)
  pub sources : (k : ℕ) → k < length s.program.functions → (info : FuncInfo) ×
      (func_of code (builtin_count + k) ≡ Some info)

-- in a body each call is of what is known, and has one value per parameter, converted to its type; each
-- `return` converts its value to the result's type; and its frame is no greater than a frame may be and
-- begins with its parameters, each at the place of its local
pub record IsBodyFit (s : Source) (sig : CType → ℕ) (f : ℕ) (b : Body) : Type 0 where
  pub calls : (code : Flat) → Knows s code sig → StatementCalls b.statements (making s code sig b)
  pub returns : Converts (result_of (type_of s f)) b.statements
  pub small : frame_size s.program b.locals ≤ greatest_frame
  pub holds : params_end 0 (param_shapes s f) ≤ frame_size s.program b.locals
  pub places : take (length (param_shapes s f)) (local_offsets s b.locals) ≡
      param_offsets 0 (param_shapes s f)

pub record IsFitSource (s : Source) (sig : CType → ℕ) : Type 0 where
  pub bodies : (f : ℕ) (b : Body) → body_of s f ≡ Some b → IsBodyFit s sig f b
  pub few_params : (f : ℕ) → length (param_shapes s f) ≤ most_params
  pub few_functions : builtin_count + length s.program.functions ≤ 2 ^ 16
  -- the members of a struct end where an object may
  pub members : (k : ℕ) (t : Struct) → slice_get s.program.structs k ≡ Some t →
      members_end s.program t ≤ greatest_object

-- what the rules of types and their limits give
abbrev pub IsFit : Declared → Type 0
IsFit p = IsFitSource (source_in p) (sig_in p)
