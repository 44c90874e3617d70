-- An answer that a call is given is one of the file.
use Rattle.std.proofs.Common.{◌≡◌, ℕ, zero, suc, Bool, true, false, cond, eqb, List, [], ◌∷◌, Option, Some, None, refl, ap, subst, arith, eqb-true}
use Rattle.std.specs.Prelude.{Contains, filter, slice_get}
use Rattle.system_side.specs.declared.file.Scripted.{Scripted}
use Rattle.whole_runs.specs.Below.{Given, ByPool, NoMore, Says, next_answer}

pub record IsOfFile (answers : List Scripted) (f v : ℕ) (pieces : List (List ℕ)) : Type 0 where
  pub answer : Scripted
  pub among : Contains answers answer
  pub func_is : answer.func ≡ f
  pub result_is : answer.result ≡ v
  pub pieces_are : answer.pieces ≡ pieces

pub record IsOne (answers : List Scripted) (f : ℕ) (a : Scripted) : Type 0 where
  pub among : Contains answers a
  pub func_is : a.func ≡ f

abbrev of : ℕ → Scripted → Bool
of f a = eqb a.func f

after : (b a : Scripted) (rest : List Scripted) (f : ℕ) → IsOne rest f a → IsOne (b ∷ rest) f a
after b a rest f h = record { among = (suc h.among.0, (let lt = h.among.1 in omega (arith, lt)), h.among.2); func_is = h.func_is }

picked : (answers : List Scripted) (f n : ℕ) (a : Scripted) → slice_get (filter (of f) answers) n ≡ Some a → IsOne answers f a
picked [] f n a e = absurd cc
picked (b ∷ rest) f n a e = by (eqb b.func f) refl n (λ k z. after b a rest f (picked rest f k a z)) e
  where
    by : (c : Bool) → eqb b.func f ≡ c → (k : ℕ) → ((j : ℕ) → slice_get (filter (of f) rest) j ≡ Some a → IsOne (b ∷ rest) f a) → slice_get (cond c (b ∷ filter (of f) rest) (filter (of f) rest)) k ≡ Some a → IsOne (b ∷ rest) f a
    by true z zero later q =
        let same : b ≡ a = cc in
        subst (IsOne (b ∷ rest) f) same (record { among = (0, omega arith, refl); func_is = eqb-true b.func f z })
    by true z (suc k) later q = later k q
    by false z k later q = later k q

abbrev value_in : ℕ → Given → ℕ
value_in d ByPool = d
value_in d (Says v ps) = v
value_in d NoMore = d

abbrev pub pieces_in : List (List ℕ) → Given → List (List ℕ)
pieces_in d ByPool = d
pieces_in d (Says v ps) = ps
pieces_in d NoMore = d

pub of_file : (answers : List Scripted) (f n v : ℕ) (pieces : List (List ℕ)) → next_answer (slice_get (filter (of f) answers) n) ≡ Says v pieces → IsOfFile answers f v pieces
of_file answers f n v pieces e = by (slice_get (filter (of f) answers) n) refl e
  where
    by : (o : Option Scripted) → slice_get (filter (of f) answers) n ≡ o → next_answer o ≡ Says v pieces → IsOfFile answers f v pieces
    by None z q = absurd cc
    by (Some a) z q =
        let one = picked answers f n a z in
        record { answer = a; among = one.among; func_is = one.func_is; result_is = ap (value_in v) q; pieces_are = ap (pieces_in pieces) q }

pub same_answer : (a b : Scripted) → ◌≡◌ {A = Option Scripted} (Some a) (Some b) → a ≡ b
same_answer a b e = cc
