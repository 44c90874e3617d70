-- What a set of stubs gives a run.
use Rattle.std.specs.Prelude.{ℕ, Bool, List, [], ◌∷◌, Option, Some, None}
use Rattle.marks.specs.declared.side.Side.{Side}
use Rattle.c_code.specs.declared.shape.Shape.TheVariants.{Void}
use Rattle.c_code.specs.declared.code.FuncInfo.{FuncInfo}
use Rattle.c_code.specs.Builtins.{Prototype, prototype}
use Rattle.c_code.specs.Values.{is_value}
use Rattle.c_code.specs.Machine.{Flat, func_of}
use Rattle.c_code.specs.MarkLists.{takes_values}
use Rattle.stub_operations.specs.Stubs.{Stubs, added_at, or_none}
use Rattle.replay_runs.specs.Interface.{Interface}
use Rattle.stub_meaning.specs.Calls.{Called, Done, done}

abbrev pub type_of : Option FuncInfo → Prototype
type_of (Some f) = prototype f.params f.result
type_of None = prototype [] Void

abbrev pub called : Option FuncInfo → (args : List ℕ) → (result : ℕ) → Called
called f args result = record { type = type_of f; args = args; result = result }

-- what is done in a call of a function of the interface
abbrev pub done_at : Flat → Stubs → (func : ℕ) → (args : List ℕ) → (result : ℕ) → Done
done_at code s f args result = done code (called (func_of code f) args result) (or_none (added_at s f))

abbrev pub first_of : {A : Type 0} → List A → Option A
first_of [] = None
first_of (x ∷ xs) = Some x

-- with the modes in which functions may run, and the number of `main`
abbrev pub interface_of : Flat → (main : ℕ) → (may_run : Side → ℕ → Bool) → Stubs → Interface
interface_of code main may_run s = record {
  main = main;
  ins = λ f args. (done_at code s f args 0).ins;
  outs = λ f args. (done_at code s f args 0).outs;
  prepares = λ f args. (done_at code s f args 0).prepares;
  used = λ f args result. (done_at code s f args result).used;
  commits = λ f args result. first_of (done_at code s f args result).commits;
  registers = λ f args. (done_at code s f args 0).registers;
  keys_at_call = λ f args. (done_at code s f args 0).keys_at_call;
  keys_at_return = λ f args. (done_at code s f args 0).keys_at_return;
  is_cached = λ f. (done_at code s f [] 0).is_cached;
  may_run = may_run;
  takes = λ f args. takes_values (func_of code f) args;
  gives = λ f result. is_value (type_of (func_of code f)).result result;
}
