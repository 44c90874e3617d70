-- What writes one after the other leave.
use Rattle.std.proofs.Common.{◌≡◌, ◌≤◌, ◌<◌, ◌+◌, ◌++◌, ◌∷◌, [], zero, suc, ℕ, List, Result, Ok, Err, length, take, drop, map, get_or, sym, ◌∙◌, ap, arith, add-one, subst, append_assoc}
use Rattle.std.specs.Result.{IsErrAnd}
use Rattle.r2_base.specs.declared.fault.Fault.{Fault}
use Rattle.r2_cli_outcome.specs.World.{World, Later}
use Rattle.r2_cli_outcome.specs.Outcome.{Target, Write, file, out, err}
use Rattle.r2_cli_outcome.specs.After.{After}
use Rattle.r2_cli_outcome.specs.Left.{StopsAt, faults_at}
use Rattle.r2_cli_outcome.specs.Sending.{Stops, failed, memory, Does}
use Rattle.r2_cli_outcome.proofs.StageLemmas.{rose_from}
use Rattle.r2_cli_outcome.proofs.AfterLemmas.{after_then}

-- writes one after the other

within : (xs before rest zs : List Write) (w : Write) (ys : List Write) → ys ≡ before ++ w ∷ rest → xs ++ (ys ++ zs) ≡ (xs ++ before) ++ w ∷ (rest ++ zs)
within xs before rest zs w ys e = ap (λ (l : List Write). xs ++ (l ++ zs)) e ∙ ap (λ (l : List Write). xs ++ l) (append_assoc before (w ∷ rest) zs) ∙ sym (append_assoc xs before (w ∷ (rest ++ zs)))

stops_further : (xs ys zs all done : List Write) (w : Write) → all ≡ xs ++ (ys ++ zs) → StopsAt ys w done → StopsAt all w (xs ++ done)
stops_further xs ys zs all done w e s = record {
  before = xs ++ s.before;
  rest = s.rest ++ zs;
  part = s.part;
  of = e ∙ within xs s.before s.rest zs w ys s.of;
  is_part = s.is_part;
  are_done = ap (λ (l : List Write). xs ++ l) s.are_done ∙ sym (append_assoc xs s.before s.part);
}

pub faults_later : (t : Target) (a b : World) → Later a b → faults_at t a ≤ faults_at t b
faults_later (file name) a b l = l.writes
faults_later out a b l = l.out
faults_later err a b l = l.err

pub stops_within : (xs ys zs all : List Write) (a b c : World) (fault : Fault) → all ≡ xs ++ (ys ++ zs) → After xs a b → Later a b → Stops ys b c fault → Stops all a c fault
stops_within xs ys zs all a b c fault e after later (failed {w = w} {done = done} f s r d) =
    failed f (stops_further xs ys zs all done w e s) (rose_from (faults_at w.to a) (faults_at w.to b) (faults_at w.to c) (faults_later w.to a b later) r) (after_then xs done a b c after d)
stops_within xs ys zs all a b c fault e after later (memory {w = w} {done = done} f s d) = memory f (stops_further xs ys zs all done w e s) (after_then xs done a b c after d)

taken_suc : {A B : Type 0} (f : A → B) (xs : List A) (i : ℕ) (x : A) → i < length xs → x ≡ get_or xs i x → map f (take (suc i) xs) ≡ map f (take i xs) ++ f x ∷ []
taken_suc f [] i x lt e = absurd (omega arith)
taken_suc f (y ∷ ys) zero x lt e = ap (λ z. f z ∷ []) (sym e)
taken_suc f (y ∷ ys) (suc i) x lt e = ap (λ l. f y ∷ l) (taken_suc f ys i x (omega arith) e)

pub taken_more : {A B : Type 0} (f : A → B) (xs : List A) (i : ℕ) (x : A) → i < length xs → x ≡ get_or xs i x → map f (take (i + 1) xs) ≡ map f (take i xs) ++ f x ∷ []
taken_more f xs i x lt e = ap (λ (k : ℕ). map f (take k xs)) (add-one i) ∙ taken_suc f xs i x lt e

pub split_at : {A B : Type 0} (f : A → B) (xs : List A) (i : ℕ) (x : A) → i < length xs → x ≡ get_or xs i x → map f xs ≡ map f (take i xs) ++ ((f x ∷ []) ++ map f (drop (suc i) xs))
split_at f [] i x lt e = absurd (omega arith)
split_at f (y ∷ ys) zero x lt e = ap (λ z. f z ∷ map f ys) (sym e)
split_at f (y ∷ ys) (suc i) x lt e = ap (λ l. f y ∷ l) (split_at f ys i x (omega arith) e)

pub that_err : {T E : Type 0} (r : Result T E) (e : E) → IsErrAnd r (λ x. x ≡ e) → r ≡ Err e
that_err (Ok t) e h = absurd h
that_err (Err x) e h = ap (λ y. Err y) h

-- one write more, in the loop

pub refused_more : (xs ys zs all : List Write) (a b c : World) (fault : Fault) (result : Result (Unit {0}) Fault) → all ≡ xs ++ (ys ++ zs) → After xs a b → Later a b → Does ys b c (Err fault) → IsErrAnd result (λ x. x ≡ fault) → Does all a c result
refused_more xs ys zs all a b c fault result e after later d is = subst (λ (r : Result (Unit {0}) Fault). Does all a c r) (sym (that_err result fault is)) (stops_within xs ys zs all a b c fault e after later d)

pub done_more : (xs ys more : List Write) (a b c : World) → more ≡ xs ++ ys → After xs a b → After ys b c → After more a c
done_more xs ys more a b c e p q = subst (λ (l : List Write). After l a c) (sym e) (after_then xs ys a b c p q)

pub all_done : (writes all : List Write) (a b : World) → writes ≡ all → After writes a b → After all a b
all_done writes all a b e p = subst (λ (l : List Write). After l a b) e p
