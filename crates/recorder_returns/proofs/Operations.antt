-- How many operations of a kind a call of a function has.
use Rattle.std.proofs.Common.{◌≡◌, ℕ, ◌+◌, ◌≤◌, Bool, true, false, cond, leb, List, [], ◌∷◌, ◌++◌, length, Option, Some, None, refl, arith}
use Rattle.run_events.specs.declared.key.Class.{Class}
use Rattle.run_events.specs.declared.key.Class.TheVariants.{User, Async}
use Rattle.stub_core.specs.declared.terms.Size.{Size}
use Rattle.stub_operations.specs.declared.operation.StubOp.{StubOp}
use Rattle.stub_operations.specs.declared.operation.StubOp.TheVariants.{ReadIn, HoldOut, Prepare, Register, Commit, KeyAtCall, KeyAtRet, CacheRet, Pass}
use Rattle.stub_operations.specs.declared.purpose.Purpose.TheVariants.{Record}
use Rattle.stub_operations.specs.Operations.{CallSays, ParameterSays, by_place, committing, holding, is_among, is_key, is_prepared, keys_at_call, keys_at_return, only_if, operations, passed, preparing, reading}

module _ (m : StubOp → ℕ) where
  -- how many there are of a kind, which is 1 of each of them, and 0 of the others
  abbrev pub sum : List StubOp → ℕ
  sum [] = 0
  sum (op ∷ ops) = m op + sum ops

  sum_append : (xs ys : List StubOp) → sum (xs ++ ys) ≡ sum xs + sum ys
  sum_append [] ys = omega arith
  sum_append (x ∷ xs) ys = let e = sum_append xs ys in omega (arith, e)

  sum_none : (of : ℕ → ParameterSays → List StubOp) → ((p : ℕ) (x : ParameterSays) → sum (of p x) ≡ 0) → (p : ℕ) (xs : List ParameterSays) → sum (by_place of p xs) ≡ 0
  sum_none of h p [] = refl
  sum_none of h p (x ∷ xs) = let a = sum_append (of p x) (by_place of (p + 1) xs) in let b = h p x in let c = sum_none of h (p + 1) xs in omega (arith, a, b, c)

  sum_ones : (of : ℕ → ParameterSays → List StubOp) → ((p : ℕ) (x : ParameterSays) → sum (of p x) ≤ 1) → (p : ℕ) (xs : List ParameterSays) → sum (by_place of p xs) ≤ length xs
  sum_ones of h p [] = omega arith
  sum_ones of h p (x ∷ xs) = let a = sum_append (of p x) (by_place of (p + 1) xs) in let b = h p x in let c = sum_ones of h (p + 1) xs in omega (arith, a, b, c)

  -- none of these is of the kind
  pub record Zeros : Type 0 where
    pub reads : (p : ℕ) (size : Size) → m (ReadIn p size) ≡ 0
    pub prepares : (p k : ℕ) (cap : Size) → m (Prepare p k cap) ≡ 0
    pub registers : (p : ℕ) → m (Register p) ≡ 0
    pub commits : (k : ℕ) (used : Size) → m (Commit k used) ≡ 0
    pub calls : (class : Class) (p : Option ℕ) → m (KeyAtCall class p) ≡ 0
    pub caches : m CacheRet ≡ 0
    pub passes : m Pass ≡ 0

  module _ (z : Zeros) where
    one_zero : (op : StubOp) → m op ≡ 0 → sum (op ∷ []) ≡ 0
    one_zero op e = omega (arith, e)

    only_zero : (b : Bool) (op : StubOp) → m op ≡ 0 → sum (only_if b op) ≡ 0
    only_zero true op e = one_zero op e
    only_zero false op e = refl

    reading_zero : (p : ℕ) (o : Option Size) → sum (reading p o) ≡ 0
    reading_zero p None = refl
    reading_zero p (Some size) = one_zero (ReadIn p size) (z.reads p size)

    preparing_zero : (p : ℕ) (o : Option (ℕ × Size)) → sum (preparing p o) ≡ 0
    preparing_zero p None = refl
    preparing_zero p (Some (k, cap)) = one_zero (Prepare p k cap) (z.prepares p k cap)

    committing_zero : (o : Option (ℕ × Size)) → sum (committing o) ≡ 0
    committing_zero None = refl
    committing_zero (Some (k, used)) = one_zero (Commit k used) (z.commits k used)

    call_zero : (n : CallSays) (p : ℕ) → sum (keys_at_call n p) ≡ 0
    call_zero n p =
        let a = sum_append (only_if (is_among p n.sync) (KeyAtCall User (Some p))) (only_if (is_prepared p n.params) (KeyAtCall Async (Some p))) in
        let b = only_zero (is_among p n.sync) (KeyAtCall User (Some p)) (z.calls User (Some p)) in
        let c = only_zero (is_prepared p n.params) (KeyAtCall Async (Some p)) (z.calls Async (Some p)) in
        omega (arith, a, b, c)

    module _ (n : CallSays) where
      abbrev reads : List StubOp
      reads = by_place (λ p x. reading p x.reads) 0 n.params

      abbrev pub holds : List StubOp
      holds = by_place (λ p x. holding p x.writes) 0 n.params

      abbrev prepares : List StubOp
      prepares = by_place (λ p x. preparing p x.prepares) 0 n.params

      abbrev registers : List StubOp
      registers = by_place (λ p x. only_if x.callback (Register p)) 0 n.params

      abbrev at_call : List StubOp
      at_call = by_place (λ p x. keys_at_call n p) 0 n.params

      abbrev pub at_return : List StubOp
      at_return = by_place (λ p x. keys_at_return n p) 0 n.params

      abbrev caches : List StubOp
      caches = only_if n.cache CacheRet

      -- so they are regions to be written and keys of the Ret
      pub total : sum (operations n ++ passed Record) ≡ sum holds + sum at_return
      total =
          let e = sum_append (operations n) (passed Record) in
          let h : sum (operations n) ≡ sum (reads ++ holds ++ prepares ++ registers ++ committing n.commit ++ at_call ++ at_return) + sum caches = sum_append (reads ++ holds ++ prepares ++ registers ++ committing n.commit ++ at_call ++ at_return) caches in
          let g = sum_append (reads ++ holds ++ prepares ++ registers ++ committing n.commit ++ at_call) at_return in
          let f = sum_append (reads ++ holds ++ prepares ++ registers ++ committing n.commit) at_call in
          let d = sum_append (reads ++ holds ++ prepares ++ registers) (committing n.commit) in
          let c = sum_append (reads ++ holds ++ prepares) registers in
          let b = sum_append (reads ++ holds) prepares in
          let a = sum_append reads holds in
          let p = one_zero Pass z.passes in
          let r = sum_none (λ p x. reading p x.reads) (λ p x. reading_zero p x.reads) 0 n.params in
          let s = sum_none (λ p x. preparing p x.prepares) (λ p x. preparing_zero p x.prepares) 0 n.params in
          let t = sum_none (λ p x. only_if x.callback (Register p)) (λ p x. only_zero x.callback (Register p) (z.registers p)) 0 n.params in
          let u = committing_zero n.commit in
          let v = sum_none (λ p x. keys_at_call n p) (λ p x. call_zero n p) 0 n.params in
          let y = only_zero n.cache CacheRet z.caches in
          omega (arith, e, a, b, c, d, f, g, h, p, r, s, t, u, v, y)

-- ---- regions to be written

abbrev pub region_of : StubOp → ℕ
region_of (ReadIn p size) = 0
region_of (HoldOut p cap used) = 1
region_of (Prepare p k cap) = 0
region_of (Register p) = 0
region_of (Commit k used) = 0
region_of (KeyAtCall class p) = 0
region_of (KeyAtRet class p) = 0
region_of CacheRet = 0
region_of Pass = 0

no_regions : Zeros region_of
no_regions = record { reads = λ p size. refl; prepares = λ p k cap. refl; registers = λ p. refl; commits = λ k used. refl; calls = λ class p. refl; caches = refl; passes = refl }

holding_one : (p : ℕ) (o : Option (Size × Size)) → sum region_of (holding p o) ≤ 1
holding_one p None = omega arith
holding_one p (Some (cap, used)) = omega arith

returning_no_region : (n : CallSays) (p : ℕ) → sum region_of (keys_at_return n p) ≡ 0
returning_no_region n p = by (is_among p n.sync) (is_key p n.commit)
  where
    by : (a b : Bool) → sum region_of (only_if a (KeyAtRet User (Some p)) ++ only_if b (KeyAtRet Async (Some p))) ≡ 0
    by true true = refl
    by true false = refl
    by false true = refl
    by false false = refl

-- ---- keys of the Ret

abbrev pub key_of : StubOp → ℕ
key_of (ReadIn p size) = 0
key_of (HoldOut p cap used) = 0
key_of (Prepare p k cap) = 0
key_of (Register p) = 0
key_of (Commit k used) = 0
key_of (KeyAtCall class p) = 0
key_of (KeyAtRet class p) = 1
key_of CacheRet = 0
key_of Pass = 0

no_keys : Zeros key_of
no_keys = record { reads = λ p size. refl; prepares = λ p k cap. refl; registers = λ p. refl; commits = λ k used. refl; calls = λ class p. refl; caches = refl; passes = refl }

holding_no_key : (p : ℕ) (o : Option (Size × Size)) → sum key_of (holding p o) ≡ 0
holding_no_key p None = refl
holding_no_key p (Some (cap, used)) = refl

-- of the parameters from a place on one may be the key of what is committed
abbrev left : Option (ℕ × Size) → ℕ → ℕ
left None p = 0
left (Some c) p = cond (leb p c.0) 1 0

abbrev one_if : Bool → ℕ
one_if true = 1
one_if false = 0

left_after : (o : Option (ℕ × Size)) (p : ℕ) → left o (p + 1) + one_if (is_key p o) ≤ left o p
left_after None p = let e : one_if (is_key p None) ≡ 0 = refl in omega (arith, e)
left_after (Some (k, size)) p = grind (arith, one_if)

keys_one : (n : CallSays) (p : ℕ) → sum key_of (keys_at_return n p) ≤ 1 + one_if (is_key p n.commit)
keys_one n p = by (is_among p n.sync) (is_key p n.commit)
  where
    by : (a b : Bool) → sum key_of (only_if a (KeyAtRet User (Some p)) ++ only_if b (KeyAtRet Async (Some p))) ≤ 1 + one_if b
    by true true = let e : one_if true ≡ 1 = refl in omega (arith, e)
    by true false = let e : one_if false ≡ 0 = refl in omega (arith, e)
    by false true = let e : one_if true ≡ 1 = refl in omega (arith, e)
    by false false = let e : one_if false ≡ 0 = refl in omega (arith, e)

keys_left : (n : CallSays) (p : ℕ) (xs : List ParameterSays) → sum key_of (by_place (λ p x. keys_at_return n p) p xs) ≤ length xs + left n.commit p
keys_left n p [] = omega arith
keys_left n p (x ∷ xs) =
    let a = sum_append key_of (keys_at_return n p) (by_place (λ p x. keys_at_return n p) (p + 1) xs) in
    let b = keys_one n p in
    let c = keys_left n (p + 1) xs in
    let d = left_after n.commit p in
    omega (arith, a, b, c, d)

left_one : (o : Option (ℕ × Size)) (p : ℕ) → left o p ≤ 1
left_one None p = omega arith
left_one (Some c) p = by (leb p c.0)
  where
    by : (b : Bool) → cond b 1 0 ≤ 1
    by true = omega arith
    by false = omega arith

-- ---- of annotations

pub record AreFew (ops : List StubOp) : Type 0 where
  pub regions : sum region_of ops ≤ 8
  pub keys : sum key_of ops ≤ 9

pub few_annotated : (n : CallSays) → length n.params ≤ 8 → AreFew (operations n ++ passed Record)
few_annotated n le = record {
  regions =
      let a = total region_of no_regions n in
      let b = sum_ones region_of (λ p x. holding p x.writes) (λ p x. holding_one p x.writes) 0 n.params in
      let c = sum_none region_of (λ p x. keys_at_return n p) (λ p x. returning_no_region n p) 0 n.params in
      omega (arith, a, b, c, le);
  keys =
      let a = total key_of no_keys n in
      let b = sum_none key_of (λ p x. holding p x.writes) (λ p x. holding_no_key p x.writes) 0 n.params in
      let c = keys_left n 0 n.params in
      let d = left_one n.commit 0 in
      omega (arith, a, b, c, d, le);
}
