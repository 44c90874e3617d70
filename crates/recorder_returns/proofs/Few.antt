-- A Ret has few regions and few keys.
use Rattle.std.proofs.Common.{◌≡◌, ℕ, ◌≤◌, Bool, true, false, List, [], ◌∷◌, ◌++◌, length, Some, refl, sym, ap, subst, arith}
use Rattle.marks.specs.Places.{builtin_count}
use Rattle.marks.specs.Ranges.{Piece}
use Rattle.marks.specs.Marks.{Commit, Ret, Mark}
use Rattle.c_code.specs.declared.code.FuncInfo.{FuncInfo}
use Rattle.c_code.specs.declared.shape.Shape.{Shape}
use Rattle.c_code.specs.Builtins.{Prototype}
use Rattle.c_code.specs.Machine.{func_of, is_face}
use Rattle.stub_operations.specs.declared.operation.StubOp.{StubOp}
use Rattle.stub_operations.specs.Operations.{ParameterSays}
use Rattle.stub_operations.specs.Stubs.{added_at, or_none}
use Rattle.stub_meaning.specs.Meaning.{called}
use Rattle.stub_meaning.specs.Calls.{done}
use Rattle.stub_meaning.specs.Rules.{KeepParameters}
use Rattle.stub_calls.specs.Calls.{return_keys}
use Rattle.replay_runs.specs.Keys.{commit_keys, sorted_keys}
use Rattle.whole_runs.specs.World.{World, interface}
use Rattle.whole_runs.specs.Fits.{IsFit}
use Rattle.recorder_events.specs.Making.{next_keys}
use Rattle.recorder_returns.proofs.Operations.{AreFew, few_annotated}
use Rattle.recorder_returns.proofs.Said.{key_count, key_same, region_count, sorted_short, with_commit}

said_each : (t : Prototype) (ss : List Shape) (xs : List ParameterSays) → KeepParameters t ss xs → length xs ≡ length ss
said_each t [] [] h = refl
said_each t [] (x ∷ xs) h = absurd h
said_each t (s ∷ ss) [] h = absurd h
said_each t (s ∷ ss) (x ∷ xs) h = let e = said_each t ss xs h.1 in omega (arith, e)

module _ (w : World) (fit : IsFit w) (f : ℕ) (info : FuncInfo) (source : builtin_count ≤ f) (known : func_of w.laid.code f ≡ Some info) where
  abbrev pub ops : List StubOp
  ops = or_none (added_at w.stubs f)

  pub are_few : AreFew ops
  are_few = by (is_face w.laid f) refl
    where
      by : (b : Bool) → is_face w.laid f ≡ b → AreFew ops
      by true e =
          let h = fit.stubs.sources f info source known e in
          let few = fit.code.valid.few_params f info known in
          let each = said_each _ info.params h.0.params h.1.params in
          subst (λ o. AreFew (or_none o)) (sym h.2) (few_annotated h.0 (omega (arith, each, few)))
      by false e = subst (λ o. AreFew (or_none o)) (sym (fit.stubs.others f e)) (record { regions = omega arith; keys = omega arith })

  pub regions_few : (args : List ℕ) → length ((interface w).outs f args) ≤ 8
  regions_few args = let e = region_count w.laid.code (called (func_of w.laid.code f) args 0) ops in let n = are_few.regions in omega (arith, e, n)

  pub keys_few : (args : List ℕ) (v : ℕ) (t : ℕ) (past : List Mark) (same : Bool) (up : List Piece) (commit : Commit) → length (next_keys w t past (Ret f args v same up commit)) ≤ 16
  keys_few args v t past same up commit =
      let said = (interface w).keys_at_return f args in
      let a = sorted_short (said ++ commit_keys ((interface w).commits f args v)) in
      let b = with_commit said ((interface w).commits f args v) in
      let c = key_count w.laid.code (called (func_of w.laid.code f) args 0) ops in
      let n = are_few.keys in
      omega (arith, a, b, c, n)

-- they are those that the stubs say, once the result is known
pub keys_said : (w : World) (f : ℕ) (args : List ℕ) (v t : ℕ) (past : List Mark) (same : Bool) (up : List Piece) (commit : Commit)
    → return_keys (done w.laid.code (called (func_of w.laid.code f) args v) (or_none (added_at w.stubs f))) ≡ next_keys w t past (Ret f args v same up commit)
keys_said w f args v t past same up commit =
    ap (λ ks. sorted_keys (ks ++ commit_keys ((interface w).commits f args v))) (sym (key_same w.laid.code (called (func_of w.laid.code f) args v) v (or_none (added_at w.stubs f))))
