-- A builtin prepares no region below the cut.
use Rattle.std.proofs.Common.{◌≡◌, ℕ, ◌<◌, Bool, true, false, cond, List, [], ◌++◌, Option, Some, is_some, refl, sym, ap, ◌∙◌, subst, arith}
use Rattle.marks.specs.declared.side.Side.TheVariants.{System}
use Rattle.marks.specs.Ranges.{Prepared}
use Rattle.c_builtins.specs.declared.builtin.Builtin.{Builtin}
use Rattle.c_builtins.specs.declared.builtin.Builtin.TheVariants as builtins
use Rattle.c_builtins.specs.Table.{in_interface, number_of}
use Rattle.c_code.specs.declared.code.FuncInfo.{FuncInfo}
use Rattle.c_code.specs.Machine.{Flat, func_of, is_face}
use Rattle.stub_operations.specs.declared.operation.StubOp.{StubOp}
use Rattle.stub_operations.specs.declared.purpose.Purpose.TheVariants.{Record}
use Rattle.stub_operations.specs.Builtins.{builtin_operations}
use Rattle.stub_operations.specs.Operations.{passed}
use Rattle.stub_operations.specs.Stubs.{added_at, or_none}
use Rattle.stub_meaning.specs.Calls.{Called, done}
use Rattle.stub_meaning.specs.Meaning.{called}
use Rattle.stub_meaning.specs.Fits.{IsOutside}
use Rattle.whole_runs.specs.World.{World, interface_on}
use Rattle.whole_runs.specs.Outcomes.{builtin_of}
use Rattle.whole_runs.specs.Fits.{IsFit}
use Rattle.recorder_system.proofs.Numbers.{number_is}

none_prepared : (code : Flat) (c : Called) (b : Builtin) → (done code c (builtin_operations b ++ passed Record)).prepares ≡ []
none_prepared code c builtins.Malloc = refl
none_prepared code c builtins.Free = refl
none_prepared code c builtins.Spawn = refl
none_prepared code c builtins.Join = refl
none_prepared code c builtins.Lock = refl
none_prepared code c builtins.Unlock = refl
none_prepared code c builtins.Print = refl

small : (b : Builtin) → number_of b < 16
small builtins.Malloc = omega arith
small builtins.Free = omega arith
small builtins.Spawn = omega arith
small builtins.Join = omega arith
small builtins.Lock = omega arith
small builtins.Unlock = omega arith
small builtins.Print = omega arith

module _ (w : World) (fit : IsFit w) (b : Builtin) (args : List ℕ) where
  abbrev f : ℕ
  f = number_of b

  abbrev says : List StubOp → List Prepared
  says ops = (done w.laid.code (called (func_of w.laid.code f) args 0) ops).prepares

  -- the operations below the cut, by those that are added
  abbrev ops_by : Option (List StubOp) → List StubOp
  ops_by o = or_none (added_at (cond (is_some o) w.stubs (record { added = w.stubs.below; below = [] })) f)

  source : (info : FuncInfo) → IsOutside w.laid.code (is_face w.laid) f info → ⊥
  source info o = let le = o.source in let lt = small b in omega (arith, le, lt)

  by_number : (i : Bool) → in_interface b ≡ i → says (ops_by (added_at w.stubs f)) ≡ []
  by_number true e =
      let is = fit.stubs.builtins b e in
      ap says (ap ops_by is ∙ ap or_none is) ∙ none_prepared w.laid.code (called (func_of w.laid.code f) args 0) b
  by_number false e = ap says (ap ops_by (fit.stubs.others f (fit.placed.modes.builtins b ∙ e)) ∙ fit.stubs.none_below f source)

pub prepares_nothing : (w : World) → IsFit w → (f : ℕ) (b : Builtin) → builtin_of f ≡ Some b → (args : List ℕ) → (interface_on w System f).prepares f args ≡ []
prepares_nothing w fit f b is args = subst (λ g. (interface_on w System g).prepares g args ≡ []) (sym (number_is f b is)) (by_number w fit b args (in_interface b) refl)
