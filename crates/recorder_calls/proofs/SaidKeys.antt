-- The keys of a Call, by the operations of its function.
use Rattle.std.proofs.Common.{◌≡◌, ⊎_elim, inl, inr, ℕ, zero, suc, ◌+◌, ◌*◌, ◌<◌, ◌≤◌, Bool, true, false, ◌||◌, eqb, List, [], ◌∷◌, ◌++◌, length, map, Option, Some, None, refl, sym, ap, subst, arith, eqb-true}
use Rattle.std.proofs.lemmas.Bool.{cases_eq, or_cases, true≢false}
use Rattle.std.proofs.lemmas.List.{length-append, length-map}
use Rattle.run_events.specs.declared.key.Class.TheVariants.{User, Callback, Async}
use Rattle.run_events.specs.declared.key.Key.{Key}
use Rattle.marks.specs.Ranges.{Prepared}
use Rattle.marks.proofs.Touched.{or_true_left, or_true_right}
use Rattle.logical_clock.specs.Events.{is_among}
use Rattle.c_code.specs.declared.shape.Shape.{Shape}
use Rattle.c_code.specs.Builtins.{Prototype}
use Rattle.c_code.specs.Machine.{Flat}
use Rattle.stub_core.specs.declared.terms.Size.{Size}
use Rattle.stub_operations.specs.declared.operation.StubOp.{StubOp}
use Rattle.stub_operations.specs.declared.operation.StubOp.TheVariants.{ReadIn, HoldOut, Prepare, Register, Commit, KeyAtCall, KeyAtRet, CacheRet, Pass}
use Rattle.stub_operations.specs.declared.purpose.Purpose.TheVariants.{Record}
use Rattle.stub_operations.specs.Operations.{CallSays, ParameterSays, by_place, committing, holding, is_key, is_prepared, keys_at_call, keys_at_return, only_if, operations, passed, preparing, reading}
use Rattle.stub_operations.specs.Operations as says
use Rattle.stub_meaning.specs.Calls.{Called, argument, done, key_value}
use Rattle.stub_meaning.specs.Rules.{KeepParameters}
use Rattle.stub_calls.specs.Calls.{call_keys}
use Rattle.replay_runs.specs.Keys.{key}
use Rattle.replay_runs.specs.Runs.{same_key}
use Rattle.replay_runs.proofs.Keys.{same_key_refl, same_key_true}
use Rattle.recorder_calls.proofs.Bounded.{among_append, among_left, among_right, few_among, sorted_short}
use Rattle.recorder_calls.proofs.Handed.{at_call, at_return, caches, handed, hands_few, holds, keep_one_of, ops, prepares, reads, registers, sum}

-- ---- regions that are prepared under a parameter

abbrev prepares_under : ℕ → StubOp → Bool
prepares_under k (ReadIn p size) = false
prepares_under k (HoldOut p most used) = false
prepares_under k (Prepare p j most) = eqb j k
prepares_under k (Register p) = false
prepares_under k (Commit j used) = false
prepares_under k (KeyAtCall class p) = false
prepares_under k (KeyAtRet class p) = false
prepares_under k CacheRet = false
prepares_under k Pass = false

abbrev any_under : ℕ → List StubOp → Bool
any_under k [] = false
any_under k (op ∷ ops) = prepares_under k op || any_under k ops

under_left : (k : ℕ) (xs ys : List StubOp) → any_under k xs ≡ true → any_under k (xs ++ ys) ≡ true
under_left k [] ys h = absurd (true≢false (sym h))
under_left k (x ∷ xs) ys h = ⊎_elim
    (λ z. or_true_left (prepares_under k x) (any_under k (xs ++ ys)) z)
    (λ z. or_true_right (prepares_under k x) (any_under k (xs ++ ys)) (under_left k xs ys z))
    (or_cases (prepares_under k x) (any_under k xs) h)

under_right : (k : ℕ) (xs ys : List StubOp) → any_under k ys ≡ true → any_under k (xs ++ ys) ≡ true
under_right k [] ys h = h
under_right k (x ∷ xs) ys h = or_true_right (prepares_under k x) (any_under k (xs ++ ys)) (under_right k xs ys h)

under_place : (k p : ℕ) (xs : List ParameterSays) → is_prepared k xs ≡ true → any_under k (by_place (λ p x. preparing p x.prepares) p xs) ≡ true
under_place k p [] h = absurd (true≢false (sym h))
under_place k p (x ∷ xs) h = ⊎_elim
    (λ z. under_left k (preparing p x.prepares) (by_place (λ p x. preparing p x.prepares) (p + 1) xs) (here x.prepares z))
    (λ z. under_right k (preparing p x.prepares) (by_place (λ p x. preparing p x.prepares) (p + 1) xs) (under_place k (p + 1) xs z))
    (or_cases (is_key k x.prepares) (is_prepared k xs) h)
  where
    here : (o : Option (ℕ × Size)) → is_key k o ≡ true → any_under k (preparing p o) ≡ true
    here None z = absurd (true≢false (sym z))
    here (Some (j, most)) z = or_true_left (eqb j k) false z

module _ (code : Flat) (c : Called) where
  -- keys of regions that are prepared
  abbrev keys_under : List StubOp → List Key
  keys_under ops = map (λ (p : Prepared). key Async p.key) (done code c ops).prepares

  has_under : (k : ℕ) (ops : List StubOp) → any_under k ops ≡ true → is_among (keys_under ops) (key Async (argument c k)) ≡ true
  has_under k [] h = absurd (true≢false (sym h))
  has_under k (ReadIn p size ∷ ops) h = has_under k ops h
  has_under k (HoldOut p most used ∷ ops) h = has_under k ops h
  has_under k (Prepare p j most ∷ ops) h = ⊎_elim
      (λ z. or_true_left (same_key (key Async (argument c j)) (key Async (argument c k))) (is_among (keys_under ops) (key Async (argument c k)))
      (subst (λ i. same_key (key Async (argument c i)) (key Async (argument c k)) ≡ true) (sym (eqb-true j k z)) (same_key_refl (key Async (argument c k)))))
      (λ z. or_true_right (same_key (key Async (argument c j)) (key Async (argument c k))) (is_among (keys_under ops) (key Async (argument c k))) (has_under k ops z))
      (or_cases (eqb j k) (any_under k ops) h)
  has_under k (Register p ∷ ops) h = has_under k ops h
  has_under k (Commit j used ∷ ops) h = has_under k ops h
  has_under k (KeyAtCall class p ∷ ops) h = has_under k ops h
  has_under k (KeyAtRet class p ∷ ops) h = has_under k ops h
  has_under k (CacheRet ∷ ops) h = has_under k ops h
  has_under k (Pass ∷ ops) h = has_under k ops h

  -- ---- keys that are said

  module _ (js : List Key) where
    -- the key is one of these
    abbrev Fine : StubOp → Type 0
    Fine (ReadIn p size) = Unit {0}
    Fine (HoldOut p most used) = Unit {0}
    Fine (Prepare p k most) = Unit {0}
    Fine (Register p) = Unit {0}
    Fine (Commit k used) = Unit {0}
    Fine (KeyAtCall class p) = is_among js (key class (key_value c p)) ≡ true
    Fine (KeyAtRet class p) = Unit {0}
    Fine CacheRet = Unit {0}
    Fine Pass = Unit {0}

    abbrev AllFine : List StubOp → Type 0
    AllFine [] = Unit {0}
    AllFine (op ∷ ops) = Fine op × AllFine ops

    fine_append : (xs ys : List StubOp) → AllFine xs → AllFine ys → AllFine (xs ++ ys)
    fine_append [] ys hx hy = hy
    fine_append (x ∷ xs) ys hx hy = (hx.0, fine_append xs ys hx.1 hy)

    fine_if : (b : Bool) (op : StubOp) → (b ≡ true → Fine op) → AllFine (only_if b op)
    fine_if true op h = (h refl, tt)
    fine_if false op h = tt

    fine_places : (of : ℕ → ParameterSays → List StubOp) (n p : ℕ) (xs : List ParameterSays) → p + length xs ≤ n → ((q : ℕ) (x : ParameterSays) → q < n → AllFine (of q x)) → AllFine (by_place of p xs)
    fine_places of n p [] le h = tt
    fine_places of n p (x ∷ xs) le h = fine_append (of p x) (by_place of (p + 1) xs) (h p x (omega (arith, le))) (fine_places of n (p + 1) xs (omega (arith, le)) h)

    fine_all : (of : ℕ → ParameterSays → List StubOp) (xs : List ParameterSays) → ((q : ℕ) (x : ParameterSays) → AllFine (of q x)) → AllFine (by_place of 0 xs)
    fine_all of xs h = fine_places of (length xs) 0 xs (omega arith) (λ q x lt. h q x)

    fine_reading : (p : ℕ) (o : Option Size) → AllFine (reading p o)
    fine_reading p None = tt
    fine_reading p (Some size) = (tt, tt)

    fine_holding : (p : ℕ) (o : Option (Size × Size)) → AllFine (holding p o)
    fine_holding p None = tt
    fine_holding p (Some (most, used)) = (tt, tt)

    fine_preparing : (p : ℕ) (o : Option (ℕ × Size)) → AllFine (preparing p o)
    fine_preparing p None = tt
    fine_preparing p (Some (k, most)) = (tt, tt)

    fine_committing : (o : Option (ℕ × Size)) → AllFine (committing o)
    fine_committing None = tt
    fine_committing (Some (k, used)) = (tt, tt)

    -- so each key that is said is
    fine_keys : (ops : List StubOp) → AllFine ops → (i : Key) → is_among (done code c ops).keys_at_call i ≡ true → is_among js i ≡ true
    fine_keys [] h i a = absurd (true≢false (sym a))
    fine_keys (ReadIn p size ∷ ops) h i a = fine_keys ops h.1 i a
    fine_keys (HoldOut p most used ∷ ops) h i a = fine_keys ops h.1 i a
    fine_keys (Prepare p k most ∷ ops) h i a = fine_keys ops h.1 i a
    fine_keys (Register p ∷ ops) h i a = fine_keys ops h.1 i a
    fine_keys (Commit k used ∷ ops) h i a = fine_keys ops h.1 i a
    fine_keys (KeyAtCall class p ∷ ops) h i a = ⊎_elim
        (λ z. subst (λ k. is_among js k ≡ true) (same_key_true (key class (key_value c p)) i z) h.0)
        (λ z. fine_keys ops h.1 i z)
        (or_cases (same_key (key class (key_value c p)) i) (is_among (done code c ops).keys_at_call i) a)
    fine_keys (KeyAtRet class p ∷ ops) h i a = fine_keys ops h.1 i a
    fine_keys (CacheRet ∷ ops) h i a = fine_keys ops h.1 i a
    fine_keys (Pass ∷ ops) h i a = fine_keys ops h.1 i a

  -- ---- the values of parameters as keys

  abbrev of_users : ℕ → List Key
  of_users zero = []
  of_users (suc p) = key User (argument c p) ∷ of_users p

  count_users : (n : ℕ) → length (of_users n) ≡ n
  count_users zero = refl
  count_users (suc n) = ap suc (count_users n)

  has_user : (n p : ℕ) → p < n → is_among (of_users n) (key User (argument c p)) ≡ true
  has_user zero p lt = absurd (omega (arith, lt))
  has_user (suc n) p lt = elim (cases_eq n p) [
    | inl e ↦ or_true_left (same_key (key User (argument c n)) (key User (argument c p))) (is_among (of_users n) (key User (argument c p)))
        (subst (λ i. same_key (key User (argument c i)) (key User (argument c p)) ≡ true) (sym e) (same_key_refl (key User (argument c p))))
    | inr apart ↦ or_true_right (same_key (key User (argument c n)) (key User (argument c p))) (is_among (of_users n) (key User (argument c p))) (has_user n p (omega (arith, lt, apart)))
  ]

  -- ---- all keys of the Call

  abbrev others : List StubOp → List Key
  others os = map (key Callback) (done code c os).registers ++ keys_under os

  others_count : (os : List StubOp) → length (others os) ≤ sum os
  others_count os =
      let a = length-append (map (key Callback) (done code c os).registers) (keys_under os) in
      let b = length-map (done code c os).registers (key Callback) in
      let d = length-map (done code c os).prepares (λ (p : Prepared). key Async p.key) in
      let e = handed code c os in
      omega (arith, a, b, d, e)

  -- without annotations
  pub plain_few : (os : List StubOp) → length (call_keys (done code c os)) ≤ length (done code c os).keys_at_call + sum os
  plain_few os =
      let a = sorted_short ((done code c os).keys_at_call ++ others os) in
      let b = length-append (done code c os).keys_at_call (others os) in
      let d = others_count os in
      omega (arith, a, b, d)

  module _ (n : CallSays) where
    abbrev all : List Key
    all = of_users (length n.params) ++ others (ops n)

    -- a region is prepared under it
    prepared_in : (q : ℕ) → is_prepared q n.params ≡ true → any_under q (ops n) ≡ true
    prepared_in q e =
        under_left q (operations n) (passed Record)
        (under_left q (reads n ++ holds n ++ prepares n ++ registers n ++ committing n.commit ++ at_call n ++ at_return n) (caches n)
        (under_left q (reads n ++ holds n ++ prepares n ++ registers n ++ committing n.commit ++ at_call n) (at_return n)
        (under_left q (reads n ++ holds n ++ prepares n ++ registers n ++ committing n.commit) (at_call n)
        (under_left q (reads n ++ holds n ++ prepares n ++ registers n) (committing n.commit)
        (under_left q (reads n ++ holds n ++ prepares n) (registers n)
        (under_right q (reads n ++ holds n) (prepares n) (under_place q 0 n.params e)))))))

    call_fine : (q : ℕ) → q < length n.params → AllFine all (keys_at_call n q)
    call_fine q lt = fine_append all (only_if (says.is_among q n.sync) (KeyAtCall User (Some q))) (only_if (is_prepared q n.params) (KeyAtCall Async (Some q)))
        (fine_if all (says.is_among q n.sync) (KeyAtCall User (Some q)) (λ e. among_left (of_users (length n.params)) (others (ops n)) (key User (argument c q)) (has_user (length n.params) q lt)))
        (fine_if all (is_prepared q n.params) (KeyAtCall Async (Some q)) (λ e. among_right (of_users (length n.params)) (others (ops n)) (key Async (argument c q))
        (among_right (map (key Callback) (done code c (ops n)).registers) (keys_under (ops n)) (key Async (argument c q)) (has_under q (ops n) (prepared_in q e)))))

    return_fine : (q : ℕ) → AllFine all (keys_at_return n q)
    return_fine q = fine_append all (only_if (says.is_among q n.sync) (KeyAtRet User (Some q))) (only_if (is_key q n.commit) (KeyAtRet Async (Some q)))
        (fine_if all (says.is_among q n.sync) (KeyAtRet User (Some q)) (λ e. tt))
        (fine_if all (is_key q n.commit) (KeyAtRet Async (Some q)) (λ e. tt))

    ops_fine : AllFine all (ops n)
    ops_fine =
        fine_append all (operations n) (passed Record)
        (fine_append all (reads n ++ holds n ++ prepares n ++ registers n ++ committing n.commit ++ at_call n ++ at_return n) (caches n)
        (fine_append all (reads n ++ holds n ++ prepares n ++ registers n ++ committing n.commit ++ at_call n) (at_return n)
        (fine_append all (reads n ++ holds n ++ prepares n ++ registers n ++ committing n.commit) (at_call n)
        (fine_append all (reads n ++ holds n ++ prepares n ++ registers n) (committing n.commit)
        (fine_append all (reads n ++ holds n ++ prepares n) (registers n)
        (fine_append all (reads n ++ holds n) (prepares n)
        (fine_append all (reads n) (holds n)
        (fine_all all (λ p x. reading p x.reads) n.params (λ q x. fine_reading all q x.reads))
        (fine_all all (λ p x. holding p x.writes) n.params (λ q x. fine_holding all q x.writes)))
        (fine_all all (λ p x. preparing p x.prepares) n.params (λ q x. fine_preparing all q x.prepares)))
        (fine_all all (λ p x. only_if x.callback (Register p)) n.params (λ q x. fine_if all x.callback (Register q) (λ e. tt))))
        (fine_committing all n.commit))
        (fine_places all (λ p x. keys_at_call n p) (length n.params) 0 n.params (omega arith) (λ q x lt. call_fine q lt)))
        (fine_all all (λ p x. keys_at_return n p) n.params (λ q x. return_fine q)))
        (fine_if all n.cache CacheRet (λ e. tt)))
        (tt, tt)

    -- at most two of each parameter
    pub annotated_few : (t : Prototype) (ss : List Shape) → KeepParameters t ss n.params → length (call_keys (done code c (ops n))) ≤ 2 * length n.params
    annotated_few t ss keeps =
        let a = few_among ((done code c (ops n)).keys_at_call ++ others (ops n)) all covered in
        let b = length-append (of_users (length n.params)) (others (ops n)) in
        let d = count_users (length n.params) in
        let e = others_count (ops n) in
        let f = hands_few n (keep_one_of t ss n.params keeps) in
        omega (arith, a, b, d, e, f)
      where
        covered : (i : Key) → is_among ((done code c (ops n)).keys_at_call ++ others (ops n)) i ≡ true → is_among all i ≡ true
        covered i h = ⊎_elim
            (λ z. fine_keys all (ops n) ops_fine i z)
            (λ z. among_right (of_users (length n.params)) (others (ops n)) i z)
            (among_append (done code c (ops n)).keys_at_call (others (ops n)) i h)
