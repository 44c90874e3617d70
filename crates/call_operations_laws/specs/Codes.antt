-- The code of a source, as far as its stubs ask.
use Rattle.std.specs.Prelude.{◌≡◌, ◌≤◌, ◌-◌, ℕ, Bool, true, List, Some, None, is_none, is_some, slice_get}
use Rattle.marks.specs.Places.{builtin_count}
use Rattle.c_types_program.specs.declared.function.Function.{Function}
use Rattle.c_code.specs.declared.code.FuncInfo.{FuncInfo}
use Rattle.c_code.specs.Machine.{Flat, func_of}
use Rattle.annot_reader.specs.Interface.{Interface}
use Rattle.annot_reader.specs.Interfaces.{annots_at, declared_at}
use Rattle.stub_meaning.specs.Meaning.{type_of}
use Rattle.stub_meaning.specs.Rules.{KeepsRules}
use Rattle.call_operations.specs.Said.{call_says}
use Rattle.call_operations.specs.Sets.{is_external}

-- the functions of the code, from the first of the source on, are those of the source, and those that the
-- source doesn't define have no body
pub record HasFunctions (fs : List Function) (code : Flat) : Type 0 where
  pub listed : (f : ℕ) (info : FuncInfo) → builtin_count ≤ f → func_of code f ≡ Some info →
      (g : Function) × (slice_get fs (f - builtin_count) ≡ Some g) × (is_none g.body ≡ is_none info.entry)
  pub each : (f : ℕ) → is_external fs f ≡ true →
      (info : FuncInfo) × (func_of code f ≡ Some info) × (info.entry ≡ None)

-- what the annotations of each function say keeps the rules, for the types that the code knows
abbrev pub KeepRules : Interface → Flat → Type 0
KeepRules i code = (f : ℕ) (info : FuncInfo) → builtin_count ≤ f → func_of code f ≡ Some info →
    KeepsRules (type_of (Some info)) (call_says (declared_at i f))

-- the function is in the interface
abbrev pub is_face : Interface → ℕ → Bool
is_face i f = is_some (annots_at i f)
