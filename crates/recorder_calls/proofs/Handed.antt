-- How many functions a Call registers, and how many regions it prepares, by the operations of its function.
use Rattle.std.proofs.Common.{◌≡◌, ℕ, ◌+◌, ◌-◌, ◌/◌, ◌≤◌, Bool, true, false, cond, ◌&&◌, eqb, leb, List, [], ◌∷◌, ◌++◌, length, Option, Some, None, refl, arith}
use Rattle.std.specs.Prelude.{is_some}
use Rattle.std.proofs.lemmas.List.{length-append}
use Rattle.run_events.specs.declared.key.Class.TheVariants.{User, Async}
use Rattle.marks.specs.Places.{builtin_count, function_address}
use Rattle.c_code.specs.declared.shape.Shape.{Shape}
use Rattle.c_code.specs.Builtins.{Prototype}
use Rattle.c_code.specs.Machine.{Flat, func_of}
use Rattle.stub_core.specs.declared.terms.Size.{Size}
use Rattle.stub_operations.specs.declared.operation.StubOp.{StubOp}
use Rattle.stub_operations.specs.declared.operation.StubOp.TheVariants.{ReadIn, HoldOut, Prepare, Register, Commit, KeyAtCall, KeyAtRet, CacheRet, Pass}
use Rattle.stub_operations.specs.declared.purpose.Purpose.TheVariants.{Record}
use Rattle.stub_operations.specs.Operations.{CallSays, ParameterSays, by_place, committing, holding, is_among, is_key, is_prepared, keys_at_call, keys_at_return, only_if, operations, passed, preparing, reading}
use Rattle.stub_meaning.specs.Calls.{Called, argument, done, function_at}
use Rattle.stub_meaning.specs.Rules.{KeepParameters}

-- 1 of each operation that does so, and 0 of the others
abbrev pub hands : StubOp → ℕ
hands (ReadIn p size) = 0
hands (HoldOut p most used) = 0
hands (Prepare p k most) = 1
hands (Register p) = 1
hands (Commit k used) = 0
hands (KeyAtCall class p) = 0
hands (KeyAtRet class p) = 0
hands CacheRet = 0
hands Pass = 0

abbrev pub sum : List StubOp → ℕ
sum [] = 0
sum (op ∷ ops) = hands op + sum ops

sum_append : (xs ys : List StubOp) → sum (xs ++ ys) ≡ sum xs + sum ys
sum_append [] ys = omega arith
sum_append (x ∷ xs) ys = let e = sum_append xs ys in omega (arith, e)

sum_none : (of : ℕ → ParameterSays → List StubOp) → ((p : ℕ) (x : ParameterSays) → sum (of p x) ≡ 0) → (p : ℕ) (xs : List ParameterSays) → sum (by_place of p xs) ≡ 0
sum_none of h p [] = refl
sum_none of h p (x ∷ xs) = let a = sum_append (of p x) (by_place of (p + 1) xs) in let b = h p x in let c = sum_none of h (p + 1) xs in omega (arith, a, b, c)

reading_none : (p : ℕ) (o : Option Size) → sum (reading p o) ≡ 0
reading_none p None = refl
reading_none p (Some size) = refl

holding_none : (p : ℕ) (o : Option (Size × Size)) → sum (holding p o) ≡ 0
holding_none p None = refl
holding_none p (Some (most, used)) = refl

committing_none : (o : Option (ℕ × Size)) → sum (committing o) ≡ 0
committing_none None = refl
committing_none (Some (k, used)) = refl

two_none : (a b : Bool) (x y : StubOp) → hands x ≡ 0 → hands y ≡ 0 → sum (only_if a x ++ only_if b y) ≡ 0
two_none true true x y ex ey = omega (arith, ex, ey)
two_none true false x y ex ey = omega (arith, ex)
two_none false true x y ex ey = omega (arith, ey)
two_none false false x y ex ey = refl

caching_none : (b : Bool) → sum (only_if b CacheRet) ≡ 0
caching_none true = refl
caching_none false = refl

-- of one parameter one of the two at most
abbrev pub OneOf : ParameterSays → Type 0
OneOf x = x.callback ≡ true → x.prepares ≡ None

abbrev pub AllOneOf : List ParameterSays → Type 0
AllOneOf [] = Unit {0}
AllOneOf (x ∷ xs) = OneOf x × AllOneOf xs

one_of : (p : ℕ) (x : ParameterSays) → OneOf x → sum (preparing p x.prepares) + sum (only_if x.callback (Register p)) ≤ 1
one_of p x h = by x.callback x.prepares h
  where
    by : (b : Bool) (o : Option (ℕ × Size)) → (b ≡ true → o ≡ None) → sum (preparing p o) + sum (only_if b (Register p)) ≤ 1
    by true None h = omega arith
    by true (Some (k, most)) h = absurd (none (h refl))
      where
        none : ◌≡◌ {A = Option (ℕ × Size)} (Some (k, most)) None → ⊥
        none e = cc
    by false None h = omega arith
    by false (Some (k, most)) h = omega arith

one_each : (p : ℕ) (xs : List ParameterSays) → AllOneOf xs → sum (by_place (λ p x. preparing p x.prepares) p xs) + sum (by_place (λ p x. only_if x.callback (Register p)) p xs) ≤ length xs
one_each p [] h = omega arith
one_each p (x ∷ xs) h =
    let a = sum_append (preparing p x.prepares) (by_place (λ p x. preparing p x.prepares) (p + 1) xs) in
    let b = sum_append (only_if x.callback (Register p)) (by_place (λ p x. only_if x.callback (Register p)) (p + 1) xs) in
    let c = one_of p x h.0 in
    let d = one_each (p + 1) xs h.1 in
    omega (arith, a, b, c, d)

-- the number of the function at an address
abbrev number_at : ℕ → ℕ
number_at at = (at - function_address 0) / 16

module _ (code : Flat) (c : Called) where
  one_function : (at : ℕ) → length (function_at code at) ≤ 1
  one_function at = by (eqb at (function_address (number_at at)) && (leb builtin_count (number_at at) && is_some (func_of code (number_at at))))
    where
      by : (b : Bool) → length (cond b (number_at at ∷ []) []) ≤ 1
      by true = omega arith
      by false = omega arith

  -- as many as there are operations
  pub handed : (ops : List StubOp) → length (done code c ops).registers + length (done code c ops).prepares ≤ sum ops
  handed [] = omega arith
  handed (ReadIn p size ∷ ops) = let e = handed ops in omega (arith, e)
  handed (HoldOut p most used ∷ ops) = let e = handed ops in omega (arith, e)
  handed (Prepare p k most ∷ ops) = let e = handed ops in omega (arith, e)
  handed (Register p ∷ ops) =
      let a = one_function (argument c p) in
      let b = length-append (function_at code (argument c p)) (done code c ops).registers in
      let e = handed ops in
      omega (arith, a, b, e)
  handed (Commit k used ∷ ops) = let e = handed ops in omega (arith, e)
  handed (KeyAtCall class p ∷ ops) = let e = handed ops in omega (arith, e)
  handed (KeyAtRet class p ∷ ops) = let e = handed ops in omega (arith, e)
  handed (CacheRet ∷ ops) = let e = handed ops in omega (arith, e)
  handed (Pass ∷ ops) = let e = handed ops in omega (arith, e)

-- ---- of annotations

pub keep_one_of : (t : Prototype) (ss : List Shape) (xs : List ParameterSays) → KeepParameters t ss xs → AllOneOf xs
keep_one_of t [] [] h = tt
keep_one_of t [] (x ∷ xs) h = absurd h
keep_one_of t (s ∷ ss) [] h = absurd h
keep_one_of t (s ∷ ss) (x ∷ xs) h = ((λ e. (h.0.callback e).3), keep_one_of t ss xs h.1)

pub said_each : (t : Prototype) (ss : List Shape) (xs : List ParameterSays) → KeepParameters t ss xs → length xs ≡ length ss
said_each t [] [] h = refl
said_each t [] (x ∷ xs) h = absurd h
said_each t (s ∷ ss) [] h = absurd h
said_each t (s ∷ ss) (x ∷ xs) h = let e = said_each t ss xs h.1 in omega (arith, e)

module _ (n : CallSays) where
  abbrev pub reads : List StubOp
  reads = by_place (λ p x. reading p x.reads) 0 n.params

  abbrev pub holds : List StubOp
  holds = by_place (λ p x. holding p x.writes) 0 n.params

  abbrev pub prepares : List StubOp
  prepares = by_place (λ p x. preparing p x.prepares) 0 n.params

  abbrev pub registers : List StubOp
  registers = by_place (λ p x. only_if x.callback (Register p)) 0 n.params

  abbrev pub at_call : List StubOp
  at_call = by_place (λ p x. keys_at_call n p) 0 n.params

  abbrev pub at_return : List StubOp
  at_return = by_place (λ p x. keys_at_return n p) 0 n.params

  abbrev pub caches : List StubOp
  caches = only_if n.cache CacheRet

  abbrev pub ops : List StubOp
  ops = operations n ++ passed Record

  -- no more than there are parameters
  pub hands_few : AllOneOf n.params → sum ops ≤ length n.params
  hands_few one =
      let e = sum_append (operations n) (passed Record) in
      let h : sum (operations n) ≡ sum (reads ++ holds ++ prepares ++ registers ++ committing n.commit ++ at_call ++ at_return) + sum caches = sum_append (reads ++ holds ++ prepares ++ registers ++ committing n.commit ++ at_call ++ at_return) caches in
      let g = sum_append (reads ++ holds ++ prepares ++ registers ++ committing n.commit ++ at_call) at_return in
      let f = sum_append (reads ++ holds ++ prepares ++ registers ++ committing n.commit) at_call in
      let d = sum_append (reads ++ holds ++ prepares ++ registers) (committing n.commit) in
      let c = sum_append (reads ++ holds ++ prepares) registers in
      let b = sum_append (reads ++ holds) prepares in
      let a = sum_append reads holds in
      let r = sum_none (λ p x. reading p x.reads) (λ p x. reading_none p x.reads) 0 n.params in
      let s = sum_none (λ p x. holding p x.writes) (λ p x. holding_none p x.writes) 0 n.params in
      let t = one_each 0 n.params one in
      let u = committing_none n.commit in
      let v = sum_none (λ p x. keys_at_call n p) (λ p x. two_none (is_among p n.sync) (is_prepared p n.params) (KeyAtCall User (Some p)) (KeyAtCall Async (Some p)) refl refl) 0 n.params in
      let y = sum_none (λ p x. keys_at_return n p) (λ p x. two_none (is_among p n.sync) (is_key p n.commit) (KeyAtRet User (Some p)) (KeyAtRet Async (Some p)) refl refl) 0 n.params in
      let z = caching_none n.cache in
      omega (arith, e, a, b, c, d, f, g, h, r, s, t, u, v, y, z)
