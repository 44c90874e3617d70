-- What is done at the Ret of a builtin or external: its regions and keys are few, and it is given a piece for each region.
use Rattle.std.proofs.Common.{◌≡◌, ℕ, zero, suc, ◌+◌, ◌-◌, ◌<◌, ◌≤◌, Bool, true, false, cond, ltb, ltb-true, List, [], ◌∷◌, ◌++◌, length, map, Option, Some, None, refl, sym, ap, ◌∙◌, subst, arith}
use Rattle.std.specs.Prelude.{is_some, slice_get}
use Rattle.std.proofs.lemmas.List.{length-append, length-map}
use Rattle.marks.specs.declared.side.Side.TheVariants.{Replay, System}
use Rattle.marks.specs.Places.{builtin_count}
use Rattle.marks.specs.Marks.{Mark, NoRegion}
use Rattle.c_builtins.specs.declared.builtin.Builtin.{Builtin}
use Rattle.c_builtins.specs.declared.builtin.Builtin.TheVariants.{Malloc, Free, Spawn, Join, Lock, Unlock, Print}
use Rattle.c_builtins.specs.Table.{in_interface, number_of}
use Rattle.c_code.specs.declared.code.FuncInfo.{FuncInfo}
use Rattle.c_code.specs.Machine.{Flat, func_of, is_face}
use Rattle.c_code.specs.MarkLists.{result_of, result_shape}
use Rattle.c_code.specs.Values.{is_value}
use Rattle.stub_operations.specs.declared.operation.StubOp.{StubOp}
use Rattle.stub_operations.specs.declared.purpose.Purpose.TheVariants.{Record}
use Rattle.stub_operations.specs.Builtins.{builtin_operations}
use Rattle.stub_operations.specs.Operations.{passed}
use Rattle.stub_operations.specs.Stubs.{added_at, or_none}
use Rattle.stub_meaning.specs.Calls.{Called, Done, done}
use Rattle.stub_meaning.specs.Meaning.{called, first_of, type_of}
use Rattle.replay_runs.specs.Interface.{Committing}
use Rattle.replay_runs.specs.Keys.{commit_keys}
use Rattle.whole_runs.specs.World.{World, interface, interface_on, interface_with}
use Rattle.whole_runs.specs.Outcomes.{builtin_of}
use Rattle.whole_runs.specs.Below.{To, commit_target, targets}
use Rattle.whole_runs.specs.Fits.{IsFit, committed}
use Rattle.recorder_system.proofs.Numbers.{number_is}
use Rattle.recorder_returns.specs.Coming.{IsOfInterface}
use Rattle.recorder_returns.proofs.Few.{keys_few, regions_few}
use Rattle.recorder_returns.proofs.Said.{sorted_short, with_commit}

shape_is : (o : Option FuncInfo) → result_shape o ≡ (type_of o).result
shape_is (Some f) = refl
shape_is None = refl

-- ---- builtins

-- nothing comes up with it but its value, and it has one key at most
record IsBare (d : Done) : Type 0 where
  outs : d.outs ≡ []
  commits : first_of d.commits ≡ None
  keys : length d.keys_at_return ≤ 1

abbrev ops_of : Builtin → List StubOp
ops_of b = builtin_operations b ++ passed Record

bare : (code : Flat) (c : Called) (b : Builtin) → IsBare (done code c (ops_of b))
bare code c Malloc = record { outs = refl; commits = refl; keys = omega arith }
bare code c Free = record { outs = refl; commits = refl; keys = omega arith }
bare code c Spawn = record { outs = refl; commits = refl; keys = omega arith }
bare code c Join = record { outs = refl; commits = refl; keys = omega arith }
bare code c Lock = record { outs = refl; commits = refl; keys = omega arith }
bare code c Unlock = record { outs = refl; commits = refl; keys = omega arith }
bare code c Print = record { outs = refl; commits = refl; keys = omega arith }

low : (b : Builtin) → number_of b < builtin_count
low Malloc = omega arith
low Free = omega arith
low Spawn = omega arith
low Join = omega arith
low Lock = omega arith
low Unlock = omega arith
low Print = omega arith

module _ (w : World) (fit : IsFit w) (f : ℕ) (b : Builtin) (is : builtin_of f ≡ Some b) (inside : in_interface b ≡ true) where
  ops_are : or_none (added_at w.stubs f) ≡ ops_of b
  ops_are = ap (λ g. or_none (added_at w.stubs g)) (number_is f b is) ∙ ap or_none (fit.stubs.builtins b inside)

  bare_so : (args : List ℕ) (v : ℕ) → IsBare (done w.laid.code (called (func_of w.laid.code f) args v) (or_none (added_at w.stubs f)))
  bare_so args v = subst (λ ops. IsBare (done w.laid.code (called (func_of w.laid.code f) args v) ops)) (sym ops_are) (bare w.laid.code (called (func_of w.laid.code f) args v) b)

  pub no_outs : (args : List ℕ) → (interface w).outs f args ≡ []
  no_outs args = (bare_so args 0).outs

  pub no_commit : (args : List ℕ) (v : ℕ) → (interface w).commits f args v ≡ None
  no_commit args v = (bare_so args v).commits

  pub builtin_said : (args : List ℕ) (v : ℕ) → is_value (result_of w.laid f) v ≡ true → IsOfInterface w f args v
  builtin_said args v value = record {
    known = let lt = low b in let e = number_is f b is in omega (arith, lt, e);
    gives = subst (λ t. is_value t v ≡ true) (shape_is (func_of w.laid.code f)) value;
    regions = let e = ap length (no_outs args) in omega (arith, e);
    keys =
        let said = (interface w).keys_at_return f args in
        let k = (bare_so args 0).keys in
        let a = sorted_short (said ++ commit_keys ((interface w).commits f args v)) in
        let c = with_commit said ((interface w).commits f args v) in
        omega (arith, k, a, c);
  }

-- ---- externals

below_count : {X : Type 0} (xs : List X) (n : ℕ) (x : X) → slice_get xs n ≡ Some x → n < length xs
below_count [] n x e = absurd cc
below_count (y ∷ ys) zero x e = omega arith
below_count (y ∷ ys) (suc n) x e = let lt = below_count ys n x e in omega (arith, lt)

module _ (w : World) (f : ℕ) (info : FuncInfo) (source : builtin_count ≤ f) (known : func_of w.laid.code f ≡ Some info) where
  among : f < builtin_count + length w.laid.code.sources
  among = by (ltb f builtin_count) refl known
    where
      by : (c : Bool) → ltb f builtin_count ≡ c → cond c (slice_get w.laid.code.builtins f) (slice_get w.laid.code.sources (f - builtin_count)) ≡ Some info → f < builtin_count + length w.laid.code.sources
      by true z e = let lt = ltb-true f builtin_count z in omega (arith, lt, source)
      by false z e = let lt = below_count w.laid.code.sources (f - builtin_count) info e in omega (arith, lt, source)

  pub source_said : IsFit w → (args : List ℕ) (v : ℕ) → is_value (result_of w.laid f) v ≡ true → IsOfInterface w f args v
  source_said fit args v value = record {
    known = among;
    gives = subst (λ t. is_value t v ≡ true) (shape_is (func_of w.laid.code f)) value;
    regions = regions_few w fit f info source known args;
    keys = keys_few w fit f info source known args v 0 [] false [] NoRegion;
  }

  -- below the cut a function of the interface has the operations that it has above
  pub same_interface : IsFit w → is_face w.laid f ≡ true → interface_on w System f ≡ interface w
  same_interface fit face =
      let h = fit.stubs.sources f info source known face in
      ap (interface_with w) (ap (λ (o : Option (List StubOp)). cond (is_some o) w.stubs (record { added = w.stubs.below; below = [] })) h.2)

-- ---- targets

commit_count : (w : World) (past : List Mark) (o : Option Committing) → length (commit_target w Replay past o) ≡ committed (is_some o)
commit_count w past None = refl
commit_count w past (Some c) = refl

pub target_count : (w : World) (past : List Mark) (f : ℕ) (args : List ℕ) (v : ℕ) → length (targets w Replay past f args v) ≡ length ((interface w).outs f args) + committed (is_some ((interface w).commits f args v))
target_count w past f args v =
    length-append (map To ((interface w).outs f args)) (commit_target w Replay past ((interface w).commits f args v))
    ∙ (λ j. length-map ((interface w).outs f args) To j + commit_count w past ((interface w).commits f args v) j)
