-- A Ret has few keys and few regions, whatever its function.
use Rattle.std.proofs.Common.{◌≡◌, inl, inr, ℕ, zero, suc, ◌-◌, ◌^◌, ◌<◌, ◌≤◌, Bool, true, false, cond, List, [], ◌∷◌, ◌++◌, length, Option, Some, None, refl, sym, ap, ◌∙◌, subst, arith}
use Rattle.std.specs.Prelude.{slice_get}
use Rattle.std.proofs.lemmas.Bool.{cases_lt, lt-ltb, true≢false}
use Rattle.marks.specs.Places.{builtin_count}
use Rattle.marks.specs.Marks.{NoRegion}
use Rattle.c_builtins.specs.declared.builtin.Builtin.{Builtin}
use Rattle.c_builtins.specs.declared.builtin.Builtin.TheVariants as builtins
use Rattle.c_builtins.specs.Table.{in_interface, number_of}
use Rattle.c_code.specs.declared.code.FuncInfo.{FuncInfo}
use Rattle.c_code.specs.Builtins.{AreBuiltins, Prototype, prototypes}
use Rattle.c_code.specs.Machine.{Flat, func_of, is_face}
use Rattle.c_code.specs.MarkLists.{takes_values}
use Rattle.c_code.specs.Typed.{AreArguments}
use Rattle.stub_operations.specs.declared.operation.StubOp.{StubOp}
use Rattle.stub_operations.specs.declared.purpose.Purpose.TheVariants.{Record}
use Rattle.stub_operations.specs.Builtins.{builtin_operations}
use Rattle.stub_operations.specs.Operations.{passed}
use Rattle.stub_operations.specs.Stubs.{added_at, or_none}
use Rattle.stub_meaning.specs.Calls.{Called, done}
use Rattle.stub_meaning.specs.Meaning.{called, first_of}
use Rattle.replay_runs.specs.Keys.{commit_keys, sorted_keys}
use Rattle.whole_runs.specs.World.{World, interface}
use Rattle.whole_runs.specs.Fits.{IsFit}
use Rattle.recorder_returns.proofs.Few.{keys_few, regions_few}
use Rattle.recorder_returns.proofs.Said.{sizes_count, used_sizes}
use Rattle.recorder_returns.proofs.Bodies.{is_known}

-- with these operations the Ret of the call
record IsFew (code : Flat) (c : Called) (v : ℕ) (o : Option (List StubOp)) : Type 0 where
  regions : length (done code (record c { result = 0 }) (or_none o)).outs ≤ 8
  keys : length (sorted_keys ((done code (record c { result = 0 }) (or_none o)).keys_at_return ++ commit_keys (first_of (done code (record c { result = v }) (or_none o)).commits))) ≤ 16

of_none : (code : Flat) (c : Called) (v : ℕ) → IsFew code c v None
of_none code c v = record { regions = omega arith; keys = omega arith }

of_builtin : (code : Flat) (c : Called) (v : ℕ) (b : Builtin) → IsFew code c v (Some (builtin_operations b ++ passed Record))
of_builtin code c v builtins.Malloc = record { regions = omega arith; keys = omega arith }
of_builtin code c v builtins.Free = record { regions = omega arith; keys = omega arith }
of_builtin code c v builtins.Spawn = record { regions = omega arith; keys = omega arith }
of_builtin code c v builtins.Join = record { regions = omega arith; keys = omega arith }
of_builtin code c v builtins.Lock = record { regions = omega arith; keys = omega arith }
of_builtin code c v builtins.Unlock = record { regions = omega arith; keys = omega arith }
of_builtin code c v builtins.Print = record { regions = omega arith; keys = omega arith }

none_there : (fs : List FuncInfo) (ps : List Prototype) → AreBuiltins fs ps → (f : ℕ) → slice_get ps f ≡ None → slice_get fs f ≡ None
none_there [] [] h f e = refl
none_there [] (q ∷ ps) h f e = absurd h
none_there (g ∷ fs) [] h f e = absurd h
none_there (g ∷ fs) (q ∷ ps) h zero e = absurd cc
none_there (g ∷ fs) (q ∷ ps) h (suc f) e = none_there fs ps h.1 f e

module _ (w : World) (fit : IsFit w) (args : List ℕ) (v : ℕ) where
  abbrev AreFew : ℕ → Type 0
  AreFew f = IsFew w.laid.code (called (func_of w.laid.code f) args 0) v (added_at w.stubs f)

  outside_few : (f : ℕ) → is_face w.laid f ≡ false → AreFew f
  outside_few f e = subst (IsFew w.laid.code (called (func_of w.laid.code f) args 0) v) (sym (fit.stubs.others f e)) (of_none w.laid.code (called (func_of w.laid.code f) args 0) v)

  table_few : (b : Builtin) → AreFew (number_of b)
  table_few b = by (in_interface b) refl
    where
      by : (i : Bool) → in_interface b ≡ i → AreFew (number_of b)
      by true e = subst (IsFew w.laid.code (called (func_of w.laid.code (number_of b)) args 0) v) (sym (fit.stubs.builtins b e)) (of_builtin w.laid.code (called (func_of w.laid.code (number_of b)) args 0) v b)
      by false e = outside_few (number_of b) (fit.placed.modes.builtins b ∙ e)

  low_few : (f : ℕ) (info : FuncInfo) → f < builtin_count → func_of w.laid.code f ≡ Some info → AreFew f
  low_few zero info lt known = table_few builtins.Malloc
  low_few (suc zero) info lt known = table_few builtins.Free
  low_few (suc (suc zero)) info lt known = table_few builtins.Spawn
  low_few (suc (suc (suc zero))) info lt known = table_few builtins.Join
  low_few (suc (suc (suc (suc zero)))) info lt known = table_few builtins.Lock
  low_few (suc (suc (suc (suc (suc zero))))) info lt known = table_few builtins.Unlock
  low_few (suc (suc (suc (suc (suc (suc zero)))))) info lt known = table_few builtins.Print
  low_few (suc (suc (suc (suc (suc (suc (suc f))))))) info lt known = absurd (some_none (sym known ∙ (in_table ∙ none_there w.laid.code.builtins prototypes fit.code.valid.builtins (suc (suc (suc (suc (suc (suc (suc f))))))) refl)))
    where
      some_none : ◌≡◌ {A = Option FuncInfo} (Some info) None → ⊥
      some_none e = cc

      in_table : func_of w.laid.code (suc (suc (suc (suc (suc (suc (suc f))))))) ≡ slice_get w.laid.code.builtins (suc (suc (suc (suc (suc (suc (suc f)))))))
      in_table = ap (λ b. cond b (slice_get w.laid.code.builtins (suc (suc (suc (suc (suc (suc (suc f)))))))) (slice_get w.laid.code.sources (suc (suc (suc (suc (suc (suc (suc f)))))) - builtin_count)))
          (lt-ltb (suc (suc (suc (suc (suc (suc (suc f))))))) builtin_count lt)

  source_few : (f : ℕ) (info : FuncInfo) → builtin_count ≤ f → func_of w.laid.code f ≡ Some info → AreFew f
  source_few f info source known = record {
    regions = regions_few w fit f info source known args;
    keys = keys_few w fit f info source known args v 0 [] false [] NoRegion;
  }

  known_few : (f : ℕ) (info : FuncInfo) → func_of w.laid.code f ≡ Some info → AreFew f
  known_few f info known = elim (cases_lt f builtin_count) [
    | inl lt ↦ low_few f info lt known
    | inr le ↦ source_few f info le known
  ]

  module _ (f : ℕ) (takes : AreArguments w.laid f args) where
    info : (g : FuncInfo) × (func_of w.laid.code f ≡ Some g)
    info = by (func_of w.laid.code f) refl takes
      where
        by : (o : Option FuncInfo) → func_of w.laid.code f ≡ o → takes_values o args ≡ true → (g : FuncInfo) × (func_of w.laid.code f ≡ Some g)
        by (Some g) known e = (g, known)
        by None known e = absurd (true≢false (sym e))

    -- the function has a number of 16 bits
    pub number_low : f < 2 ^ 16
    number_low = elim (cases_lt f builtin_count) [
      | inl lt ↦ omega (arith, lt)
      | inr le ↦ (
          let lt = is_known w.laid.code f info.0 le info.1 in
          let most = fit.code.valid.numbered in
          omega (arith, lt, most))
    ]

    few : AreFew f
    few = known_few f info.0 info.1

    pub ret_keys : length (sorted_keys ((interface w).keys_at_return f args ++ commit_keys ((interface w).commits f args v))) ≤ 16
    ret_keys = few.keys

    -- as many sizes as regions
    pub ret_sizes : length ((interface w).used f args v) ≤ 8
    ret_sizes =
        let same = sizes_count ((interface w).outs f args) ((interface w).used f args v) ((interface w).used f args v)
        (used_sizes w.laid.code (called (func_of w.laid.code f) args 0) v (or_none (added_at w.stubs f))) in
        let le = few.regions in
        omega (arith, same, le)
