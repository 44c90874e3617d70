-- What is said of a call: used sizes and regions, and how many there are.
use Rattle.std.proofs.Common.{◌≡◌, ℕ, suc, ◌≤◌, Bool, true, false, cond, eqb, List, [], ◌∷◌, ◌++◌, length, Option, Some, None, refl, ap, arith}
use Rattle.run_events.specs.declared.key.Key.{Key}
use Rattle.c_code.specs.Machine.{Flat}
use Rattle.stub_operations.specs.declared.operation.StubOp.{StubOp}
use Rattle.stub_operations.specs.declared.operation.StubOp.TheVariants.{ReadIn, HoldOut, Prepare, Register, Commit, KeyAtCall, KeyAtRet, CacheRet, Pass}
use Rattle.stub_meaning.specs.Calls.{Called, argument, counted, done, key_value, size_in}
use Rattle.marks.specs.declared.range.Range.{Range}
use Rattle.replay_runs.specs.Runs.{same_key}
use Rattle.replay_runs.specs.Keys.{commit_keys, key, key_before, sorted_keys, with_key}
use Rattle.replay_runs.specs.Interface.{Committing}
use Rattle.space_memory_laws.specs.Returns.{AreUsedSizes}
use Rattle.recorder_returns.proofs.Operations.{key_of, region_of, sum}

module _ (code : Flat) (c : Called) where
  pub key_count : (ops : List StubOp) → length (done code c ops).keys_at_return ≡ sum key_of ops
  key_count [] = refl
  key_count (ReadIn p size ∷ ops) = let e = key_count ops in omega (arith, e)
  key_count (HoldOut p most used ∷ ops) = let e = key_count ops in omega (arith, e)
  key_count (Prepare p k most ∷ ops) = let e = key_count ops in omega (arith, e)
  key_count (Register p ∷ ops) = let e = key_count ops in omega (arith, e)
  key_count (Commit k used ∷ ops) = let e = key_count ops in omega (arith, e)
  key_count (KeyAtCall class p ∷ ops) = let e = key_count ops in omega (arith, e)
  key_count (KeyAtRet class p ∷ ops) = let e = key_count ops in omega (arith, e)
  key_count (CacheRet ∷ ops) = let e = key_count ops in omega (arith, e)
  key_count (Pass ∷ ops) = let e = key_count ops in omega (arith, e)

  pub region_count : (ops : List StubOp) → length (done code c ops).outs ≡ sum region_of ops
  region_count [] = refl
  region_count (ReadIn p size ∷ ops) = let e = region_count ops in omega (arith, e)
  region_count (HoldOut p most used ∷ ops) = let e = region_count ops in omega (arith, e)
  region_count (Prepare p k most ∷ ops) = let e = region_count ops in omega (arith, e)
  region_count (Register p ∷ ops) = let e = region_count ops in omega (arith, e)
  region_count (Commit k used ∷ ops) = let e = region_count ops in omega (arith, e)
  region_count (KeyAtCall class p ∷ ops) = let e = region_count ops in omega (arith, e)
  region_count (KeyAtRet class p ∷ ops) = let e = region_count ops in omega (arith, e)
  region_count (CacheRet ∷ ops) = let e = region_count ops in omega (arith, e)
  region_count (Pass ∷ ops) = let e = region_count ops in omega (arith, e)

  null_twice : (b : Bool) (n : ℕ) → cond b 0 n ≡ cond b 0 (cond b 0 n)
  null_twice true n = refl
  null_twice false n = refl

  -- the regions are the same whatever the result, and of that of NULL nothing is used
  pub used_sizes : (result : ℕ) (ops : List StubOp) → AreUsedSizes (done code (record c { result = 0 }) ops).outs (done code (record c { result = result }) ops).used (done code (record c { result = result }) ops).used
  used_sizes result [] = tt
  used_sizes result (ReadIn p size ∷ ops) = used_sizes result ops
  used_sizes result (HoldOut p most used ∷ ops) = (null_twice (eqb (argument c p) 0) (counted (size_in (record c { result = result }) used)), used_sizes result ops)
  used_sizes result (Prepare p k most ∷ ops) = used_sizes result ops
  used_sizes result (Register p ∷ ops) = used_sizes result ops
  used_sizes result (Commit k used ∷ ops) = used_sizes result ops
  used_sizes result (KeyAtCall class p ∷ ops) = used_sizes result ops
  used_sizes result (KeyAtRet class p ∷ ops) = used_sizes result ops
  used_sizes result (CacheRet ∷ ops) = used_sizes result ops
  used_sizes result (Pass ∷ ops) = used_sizes result ops

  key_value_same : (result : ℕ) (o : Option ℕ) → key_value (record c { result = 0 }) o ≡ key_value (record c { result = result }) o
  key_value_same result (Some p) = refl
  key_value_same result None = refl

  -- so are the keys of the Ret
  pub key_same : (result : ℕ) (ops : List StubOp) → (done code (record c { result = 0 }) ops).keys_at_return ≡ (done code (record c { result = result }) ops).keys_at_return
  key_same result [] = refl
  key_same result (ReadIn p size ∷ ops) = key_same result ops
  key_same result (HoldOut p most used ∷ ops) = key_same result ops
  key_same result (Prepare p k most ∷ ops) = key_same result ops
  key_same result (Register p ∷ ops) = key_same result ops
  key_same result (Commit k used ∷ ops) = key_same result ops
  key_same result (KeyAtCall class p ∷ ops) = key_same result ops
  key_same result (KeyAtRet class p ∷ ops) = (λ j. key class (key_value_same result p j) ∷ key_same result ops j)
  key_same result (CacheRet ∷ ops) = key_same result ops
  key_same result (Pass ∷ ops) = key_same result ops

-- whether equal Rets are written once is the same at all calls
pub cached_same : (code : Flat) (c d : Called) (ops : List StubOp) → (done code c ops).is_cached ≡ (done code d ops).is_cached
cached_same code c d [] = refl
cached_same code c d (ReadIn p size ∷ ops) = cached_same code c d ops
cached_same code c d (HoldOut p most used ∷ ops) = cached_same code c d ops
cached_same code c d (Prepare p k most ∷ ops) = cached_same code c d ops
cached_same code c d (Register p ∷ ops) = cached_same code c d ops
cached_same code c d (Commit k used ∷ ops) = cached_same code c d ops
cached_same code c d (KeyAtCall class p ∷ ops) = cached_same code c d ops
cached_same code c d (KeyAtRet class p ∷ ops) = cached_same code c d ops
cached_same code c d (CacheRet ∷ ops) = refl
cached_same code c d (Pass ∷ ops) = cached_same code c d ops

-- ---- lists

pub sizes_count : (rs : List Range) (us ns : List ℕ) → AreUsedSizes rs us ns → length us ≡ length rs
sizes_count [] [] [] h = refl
sizes_count [] [] (n ∷ ns) h = absurd h
sizes_count [] (u ∷ us) ns h = absurd h
sizes_count (r ∷ rs) [] ns h = absurd h
sizes_count (r ∷ rs) (u ∷ us) [] h = absurd h
sizes_count (r ∷ rs) (u ∷ us) (n ∷ ns) h = ap suc (sizes_count rs us ns h.1)

with_longer : (k : Key) (ks : List Key) → length (with_key k ks) ≤ suc (length ks)
with_longer k [] = omega arith
with_longer k (j ∷ js) = by (same_key k j) (key_before k j) (with_longer k js)
  where
    by : (a b : Bool) → length (with_key k js) ≤ suc (length js) → length (cond a (j ∷ js) (cond b (k ∷ (j ∷ js)) (j ∷ with_key k js))) ≤ suc (suc (length js))
    by true b h = omega arith
    by false true h = omega arith
    by false false h = omega (arith, h)

pub sorted_short : (ks : List Key) → length (sorted_keys ks) ≤ length ks
sorted_short [] = omega arith
sorted_short (k ∷ ks) = let a = with_longer k (sorted_keys ks) in let b = sorted_short ks in omega (arith, a, b)

pub with_commit : (ks : List Key) (o : Option Committing) → length (ks ++ commit_keys o) ≤ suc (length ks)
with_commit [] None = omega arith
with_commit [] (Some c) = omega arith
with_commit (k ∷ ks) o = let h = with_commit ks o in omega (arith, h)
