-- Which types of functions the numbers in code tell.
use Rattle.std.specs.Prelude.{◌≡◌, ◌↔◌, ℕ, Some}
use Rattle.c_code.specs.declared.code.FuncInfo.{FuncInfo}
use Rattle.c_code.specs.Machine.{Flat, func_of}
use Rattle.c_code.specs.Valid.{start_sig}
use Rattle.c_builtins.specs.Table.{thread_function}
use Rattle.c_semantics.specs.Context.{Source, type_of}
use Rattle.c_lower_placement.specs.Placement.{IsSigOf}

-- two functions have one number exactly where their types are equal, and `int (void *)` has the number 0
pub record TellsTypes (s : Source) (code : Flat) : Type 0 where
  pub same : (f g : ℕ) (a b : FuncInfo) → func_of code f ≡ Some a → func_of code g ≡ Some b →
      (a.sig ≡ b.sig) ↔ (type_of s f ≡ type_of s g)
  pub starts : IsSigOf s code thread_function start_sig
