-- A Call has at most 16 keys, so that its record can be written.
use Rattle.std.proofs.Common.{◌≡◌, inl, inr, ℕ, zero, suc, ◌-◌, ◌<◌, ◌≤◌, Bool, true, false, cond, List, [], ◌∷◌, ◌++◌, length, Option, Some, None, refl, sym, ap, ◌∙◌, subst, arith}
use Rattle.std.specs.Prelude.{slice_get}
use Rattle.std.proofs.lemmas.Bool.{cases_lt, lt-ltb, true≢false}
use Rattle.marks.specs.Places.{builtin_count}
use Rattle.c_builtins.specs.declared.builtin.Builtin.{Builtin}
use Rattle.c_builtins.specs.declared.builtin.Builtin.TheVariants as builtins
use Rattle.c_builtins.specs.Table.{in_interface, number_of}
use Rattle.c_code.specs.declared.code.FuncInfo.{FuncInfo}
use Rattle.c_code.specs.Builtins.{AreBuiltins, Prototype, prototypes}
use Rattle.c_code.specs.Machine.{Flat, func_of, is_face}
use Rattle.c_code.specs.MarkLists.{takes_values}
use Rattle.c_code.specs.Typed.{AreArguments}
use Rattle.stub_operations.specs.declared.operation.StubOp.{StubOp}
use Rattle.stub_operations.specs.declared.purpose.Purpose.TheVariants.{Record}
use Rattle.stub_operations.specs.Builtins.{builtin_operations}
use Rattle.stub_operations.specs.Operations.{passed}
use Rattle.stub_operations.specs.Stubs.{added_at, or_none}
use Rattle.stub_meaning.specs.Calls.{Called, done}
use Rattle.stub_meaning.specs.Meaning.{called, done_at, type_of}
use Rattle.stub_calls.specs.Calls.{call_keys}
use Rattle.whole_runs.specs.World.{World}
use Rattle.whole_runs.specs.Fits.{IsFit}
use Rattle.recorder_calls.proofs.Handed.{said_each}
use Rattle.recorder_calls.proofs.SaidKeys.{annotated_few, plain_few}

-- ---- of builtins

nothing : 0 ≤ 16
nothing = omega arith

builtin_few : (code : Flat) (c : Called) (b : Builtin) → length (call_keys (done code c (builtin_operations b ++ passed Record))) ≤ 16
builtin_few code c builtins.Malloc = nothing
builtin_few code c builtins.Free = nothing
builtin_few code c builtins.Spawn = let n : length (call_keys (done code c (builtin_operations builtins.Spawn ++ passed Record))) ≤ 1 = plain_few code c (builtin_operations builtins.Spawn ++ passed Record) in omega (arith, n)
builtin_few code c builtins.Join = nothing
builtin_few code c builtins.Lock = nothing
builtin_few code c builtins.Unlock = let n : length (call_keys (done code c (builtin_operations builtins.Unlock ++ passed Record))) ≤ 1 = plain_few code c (builtin_operations builtins.Unlock ++ passed Record) in omega (arith, n)
builtin_few code c builtins.Print = let n : length (call_keys (done code c (builtin_operations builtins.Print ++ passed Record))) ≤ 1 = plain_few code c (builtin_operations builtins.Print ++ passed Record) in omega (arith, n)

none_there : (fs : List FuncInfo) (ps : List Prototype) → AreBuiltins fs ps → (f : ℕ) → slice_get ps f ≡ None → slice_get fs f ≡ None
none_there [] [] h f e = refl
none_there [] (q ∷ ps) h f e = absurd h
none_there (g ∷ fs) [] h f e = absurd h
none_there (g ∷ fs) (q ∷ ps) h zero e = absurd cc
none_there (g ∷ fs) (q ∷ ps) h (suc f) e = none_there fs ps h.1 f e

module _ (w : World) (fit : IsFit w) where
  -- with the operations of a function
  abbrev keys_by : (f : ℕ) (args : List ℕ) → Option (List StubOp) → ℕ
  keys_by f args o = length (call_keys (done w.laid.code (called (func_of w.laid.code f) args 0) (or_none o)))

  nothing_few : (f : ℕ) (args : List ℕ) → is_face w.laid f ≡ false → keys_by f args (added_at w.stubs f) ≤ 16
  nothing_few f args e = subst (λ o. keys_by f args o ≤ 16) (sym (fit.stubs.others f e)) nothing

  table_few : (b : Builtin) (args : List ℕ) → keys_by (number_of b) args (added_at w.stubs (number_of b)) ≤ 16
  table_few b args = by (in_interface b) refl
    where
      by : (i : Bool) → in_interface b ≡ i → keys_by (number_of b) args (added_at w.stubs (number_of b)) ≤ 16
      by true e = subst (λ o. keys_by (number_of b) args o ≤ 16) (sym (fit.stubs.builtins b e)) (builtin_few w.laid.code (called (func_of w.laid.code (number_of b)) args 0) b)
      by false e = nothing_few (number_of b) args (fit.placed.modes.builtins b ∙ e)

  low_few : (f : ℕ) (info : FuncInfo) (args : List ℕ) → f < builtin_count → func_of w.laid.code f ≡ Some info → keys_by f args (added_at w.stubs f) ≤ 16
  low_few zero info args lt known = table_few builtins.Malloc args
  low_few (suc zero) info args lt known = table_few builtins.Free args
  low_few (suc (suc zero)) info args lt known = table_few builtins.Spawn args
  low_few (suc (suc (suc zero))) info args lt known = table_few builtins.Join args
  low_few (suc (suc (suc (suc zero)))) info args lt known = table_few builtins.Lock args
  low_few (suc (suc (suc (suc (suc zero))))) info args lt known = table_few builtins.Unlock args
  low_few (suc (suc (suc (suc (suc (suc zero)))))) info args lt known = table_few builtins.Print args
  low_few (suc (suc (suc (suc (suc (suc (suc f))))))) info args lt known = absurd (some_none (sym known ∙ (in_table ∙ none_there w.laid.code.builtins prototypes fit.code.valid.builtins (suc (suc (suc (suc (suc (suc (suc f))))))) refl)))
    where
      some_none : ◌≡◌ {A = Option FuncInfo} (Some info) None → ⊥
      some_none e = cc

      in_table : func_of w.laid.code (suc (suc (suc (suc (suc (suc (suc f))))))) ≡ slice_get w.laid.code.builtins (suc (suc (suc (suc (suc (suc (suc f)))))))
      in_table = ap (λ b. cond b (slice_get w.laid.code.builtins (suc (suc (suc (suc (suc (suc (suc f)))))))) (slice_get w.laid.code.sources (suc (suc (suc (suc (suc (suc (suc f)))))) - builtin_count)))
          (lt-ltb (suc (suc (suc (suc (suc (suc (suc f))))))) builtin_count lt)

  -- ---- of the functions of a source

  source_few : (f : ℕ) (info : FuncInfo) (args : List ℕ) → builtin_count ≤ f → func_of w.laid.code f ≡ Some info → keys_by f args (added_at w.stubs f) ≤ 16
  source_few f info args source known = by (is_face w.laid f) refl
    where
      by : (b : Bool) → is_face w.laid f ≡ b → keys_by f args (added_at w.stubs f) ≤ 16
      by true e =
          let h = fit.stubs.sources f info source known e in
          let few = fit.code.valid.few_params f info known in
          let each = said_each (type_of (Some info)) info.params h.0.params h.1.params in
          let n = annotated_few w.laid.code (called (func_of w.laid.code f) args 0) h.0 (type_of (Some info)) info.params h.1.params in
          subst (λ o. keys_by f args o ≤ 16) (sym h.2) (omega (arith, few, each, n))
      by false e = nothing_few f args e

  pub keys_few : (f : ℕ) (args : List ℕ) → AreArguments w.laid f args → length (call_keys (done_at w.laid.code w.stubs f args 0)) ≤ 16
  keys_few f args fits = by (func_of w.laid.code f) refl fits
    where
      by : (o : Option FuncInfo) → func_of w.laid.code f ≡ o → takes_values o args ≡ true → keys_by f args (added_at w.stubs f) ≤ 16
      by None known takes = absurd (true≢false (sym takes))
      by (Some info) known takes = elim (cases_lt f builtin_count) [
        | inl lt ↦ low_few f info args lt known
        | inr le ↦ source_few f info args le known
      ]
