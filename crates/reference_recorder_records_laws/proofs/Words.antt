-- Values of code are words, and so are the keys of its calls.
use Rattle.std.proofs.Common.{◌≡◌, ℕ, zero, suc, ◌-◌, ◌/◌, ◌^◌, ◌<◌, Bool, true, false, ◌&&◌, cond, eqb, leb, ℤ, pos, negsuc, List, [], ◌∷◌, ◌++◌, get_or, map, Option, Some, None, subst, arith, eqb-true}
use Rattle.std.specs.Prelude.{is_some}
use Rattle.std.specs.List.{AllByRecursion}
use Rattle.std.proofs.lemmas.Bool.{ltb-true}
use Rattle.std.proofs.lemmas.Nat.{pow_pos}
use Rattle.std.proofs.Math.Nat.{mod-lt}
use Rattle.run_events.specs.declared.key.Class.TheVariants.{Callback, Async}
use Rattle.run_events.specs.declared.key.Key.{Key}
use Rattle.marks.specs.Places.{builtin_count, function_address}
use Rattle.marks.specs.Ranges.{Prepared}
use Rattle.log_codec.specs.LogText.{IsWord}
use Rattle.c_code.specs.declared.shape.Shape.{Shape}
use Rattle.c_code.specs.declared.shape.Shape.TheVariants.{Void, Int, Pointer}
use Rattle.c_code.specs.Values.{converted, is_value, read, written}
use Rattle.c_code.specs.Machine.{Flat, func_of}
use Rattle.stub_operations.specs.declared.operation.StubOp.{StubOp}
use Rattle.stub_operations.specs.declared.operation.StubOp.TheVariants.{ReadIn, HoldOut, Prepare, Register, Commit, KeyAtCall, KeyAtRet, CacheRet, Pass}
use Rattle.stub_meaning.specs.Calls.{Called, argument, done, function_at, key_value}
use Rattle.stub_meaning.specs.Meaning.{first_of}
use Rattle.replay_runs.specs.Interface.{Committing}
use Rattle.replay_runs.specs.Keys.{commit_keys, key, key_before, sorted_keys, with_key}
use Rattle.replay_runs.specs.Runs.{same_key}
use Rattle.recorder_book.proofs.Lists.{all_append, all_map}

small : (z : ℤ) → written z < 2 ^ 64
small (pos n) = mod-lt n (pow_pos 64)
small (negsuc n) = omega arith

-- a value of any type is a word
pub word : (s : Shape) (n : ℕ) → is_value s n ≡ true → IsWord n
word Void n e = let z = eqb-true n 0 e in omega (arith, z)
word (Int k) n e = subst IsWord (eqb-true (converted k n) n e) (small (read k n))
word Pointer n e = ltb-true n (2 ^ 64) e

-- ---- keys

abbrev pub HasWord : Key → Type 0
HasWord k = k.value < 2 ^ 64

abbrev pub HaveWords : List Key → Type 0
HaveWords ks = AllByRecursion HasWord ks

words_with : (k : Key) (js : List Key) → HasWord k → HaveWords js → HaveWords (with_key k js)
words_with k [] h all = (h, tt)
words_with k (j ∷ js) h all = by (same_key k j) (key_before k j) (words_with k js h all.1)
  where
    by : (same first : Bool) → HaveWords (with_key k js) → HaveWords (cond same (j ∷ js) (cond first (k ∷ j ∷ js) (j ∷ with_key k js)))
    by true first more = all
    by false true more = (h, all)
    by false false more = (all.0, more)

pub words_sorted : (ks : List Key) → HaveWords ks → HaveWords (sorted_keys ks)
words_sorted [] all = tt
words_sorted (k ∷ ks) all = words_with k (sorted_keys ks) all.0 (words_sorted ks all.1)

argument_word : (vs : List ℕ) (p : ℕ) → AllByRecursion IsWord vs → get_or vs p 0 < 2 ^ 64
argument_word [] zero all = omega arith
argument_word [] (suc p) all = omega arith
argument_word (v ∷ vs) zero all = all.0
argument_word (v ∷ vs) (suc p) all = argument_word vs p all.1

function_words : (code : Flat) (address : ℕ) → address < 2 ^ 64 → AllByRecursion IsWord (function_at code address)
function_words code address lt = by (eqb address (function_address f) && (leb builtin_count f && is_some (func_of code f)))
  where
    f : ℕ
    f = (address - function_address 0) / 16

    by : (b : Bool) → AllByRecursion IsWord (cond b (f ∷ []) [])
    by true = (omega (arith, lt), tt)
    by false = tt

-- ---- what is done in a call

module _ (code : Flat) (c : Called) (all : AllByRecursion IsWord c.args) where
  said_word : (o : Option ℕ) → key_value c o < 2 ^ 64
  said_word (Some p) = argument_word c.args p all
  said_word None = omega arith

  pub at_call : (ops : List StubOp) → HaveWords (done code c ops).keys_at_call
  at_call [] = tt
  at_call (ReadIn p size ∷ ops) = at_call ops
  at_call (HoldOut p most used ∷ ops) = at_call ops
  at_call (Prepare p k most ∷ ops) = at_call ops
  at_call (Register p ∷ ops) = at_call ops
  at_call (Commit k used ∷ ops) = at_call ops
  at_call (KeyAtCall class p ∷ ops) = (said_word p, at_call ops)
  at_call (KeyAtRet class p ∷ ops) = at_call ops
  at_call (CacheRet ∷ ops) = at_call ops
  at_call (Pass ∷ ops) = at_call ops

  pub at_return : (ops : List StubOp) → HaveWords (done code c ops).keys_at_return
  at_return [] = tt
  at_return (ReadIn p size ∷ ops) = at_return ops
  at_return (HoldOut p most used ∷ ops) = at_return ops
  at_return (Prepare p k most ∷ ops) = at_return ops
  at_return (Register p ∷ ops) = at_return ops
  at_return (Commit k used ∷ ops) = at_return ops
  at_return (KeyAtCall class p ∷ ops) = at_return ops
  at_return (KeyAtRet class p ∷ ops) = (said_word p, at_return ops)
  at_return (CacheRet ∷ ops) = at_return ops
  at_return (Pass ∷ ops) = at_return ops

  prepared : (ops : List StubOp) → AllByRecursion (λ (p : Prepared). p.key < 2 ^ 64) (done code c ops).prepares
  prepared [] = tt
  prepared (ReadIn p size ∷ ops) = prepared ops
  prepared (HoldOut p most used ∷ ops) = prepared ops
  prepared (Prepare p k most ∷ ops) = (argument_word c.args k all, prepared ops)
  prepared (Register p ∷ ops) = prepared ops
  prepared (Commit k used ∷ ops) = prepared ops
  prepared (KeyAtCall class p ∷ ops) = prepared ops
  prepared (KeyAtRet class p ∷ ops) = prepared ops
  prepared (CacheRet ∷ ops) = prepared ops
  prepared (Pass ∷ ops) = prepared ops

  registered : (ops : List StubOp) → AllByRecursion IsWord (done code c ops).registers
  registered [] = tt
  registered (ReadIn p size ∷ ops) = registered ops
  registered (HoldOut p most used ∷ ops) = registered ops
  registered (Prepare p k most ∷ ops) = registered ops
  registered (Register p ∷ ops) = all_append IsWord (function_at code (argument c p)) (done code c ops).registers (function_words code (argument c p) (argument_word c.args p all)) (registered ops)
  registered (Commit k used ∷ ops) = registered ops
  registered (KeyAtCall class p ∷ ops) = registered ops
  registered (KeyAtRet class p ∷ ops) = registered ops
  registered (CacheRet ∷ ops) = registered ops
  registered (Pass ∷ ops) = registered ops

  committed : (ops : List StubOp) → AllByRecursion (λ (o : Committing). o.key < 2 ^ 64) (done code c ops).commits
  committed [] = tt
  committed (ReadIn p size ∷ ops) = committed ops
  committed (HoldOut p most used ∷ ops) = committed ops
  committed (Prepare p k most ∷ ops) = committed ops
  committed (Register p ∷ ops) = committed ops
  committed (Commit k used ∷ ops) = (argument_word c.args k all, committed ops)
  committed (KeyAtCall class p ∷ ops) = committed ops
  committed (KeyAtRet class p ∷ ops) = committed ops
  committed (CacheRet ∷ ops) = committed ops
  committed (Pass ∷ ops) = committed ops

  first_word : (cs : List Committing) → AllByRecursion (λ (o : Committing). o.key < 2 ^ 64) cs → HaveWords (commit_keys (first_of cs))
  first_word [] h = tt
  first_word (o ∷ cs) h = (h.0, tt)

  pub of_commit : (ops : List StubOp) → HaveWords (commit_keys (first_of (done code c ops).commits))
  of_commit ops = first_word (done code c ops).commits (committed ops)

  -- of a Call, beside those that are said
  pub handed_down : (ops : List StubOp) → HaveWords (map (key Callback) (done code c ops).registers ++ map (λ (p : Prepared). key Async p.key) (done code c ops).prepares)
  handed_down ops =
      all_append HasWord (map (key Callback) (done code c ops).registers) (map (λ (p : Prepared). key Async p.key) (done code c ops).prepares)
      (all_map IsWord HasWord (key Callback) (λ f h. h) (done code c ops).registers (registered ops))
      (all_map (λ (p : Prepared). p.key < 2 ^ 64) HasWord (λ (p : Prepared). key Async p.key) (λ p h. h) (done code c ops).prepares (prepared ops))
