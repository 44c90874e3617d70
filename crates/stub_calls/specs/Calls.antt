-- What is computed of one call.
use Rattle.std.specs.Prelude.{◌≡◌, ℕ, ℤ, Bool, true, ltb, List, [], ◌∷◌, ◌++◌, map}
use Rattle.run_events.specs.declared.key.Class.TheVariants.{Async, Callback}
use Rattle.run_events.specs.declared.key.Key.{Key}
use Rattle.marks.specs.Ranges.{Prepared}
use Rattle.replay_runs.specs.Keys.{commit_keys, key, sorted_keys, with_key}
use Rattle.stub_core.specs.declared.terms.Term.{Term}
use Rattle.stub_core.specs.declared.terms.Term.TheVariants.{Const, Param, Return}
use Rattle.stub_meaning.specs.Calls.{Called, Done, number, numbers}
use Rattle.stub_meaning.specs.Meaning.{first_of}

-- a term that is a parameter names one of so many
abbrev pub is_within : ℕ → Term → Bool
is_within n (Const k) = true
is_within n (Param p) = ltb p n
is_within n Return = true

-- these are the arguments of the call, the numbers that they are, and the number that its result is
pub record AreValuesOf (args : List ℕ) (ints : List ℤ) (outcome : ℤ) (c : Called) : Type 0 where
  pub args_are : args ≡ c.args
  pub ints_are : ints ≡ numbers c.type.params c.args
  pub outcome_is : outcome ≡ number c.type.result c.result

-- keys in order with some more
abbrev pub with_keys : List Key → List Key → List Key
with_keys [] js = js
with_keys (k ∷ ks) js = with_key k (with_keys ks js)

-- the keys of the Call: those that are said, those of the functions that are registered, and those of the
-- regions that are prepared
abbrev pub call_keys : Done → List Key
call_keys d = sorted_keys (d.keys_at_call ++
    (map (key Callback) d.registers ++ map (λ (p : Prepared). key Async p.key) d.prepares))

-- those of the Ret: those that are said, and that of the region that is committed
abbrev pub return_keys : Done → List Key
return_keys d = sorted_keys (d.keys_at_return ++ commit_keys (first_of d.commits))
