-- What sorting by the comparison of findings gives, where each is kept once.
use Rattle.std.proofs.Common.{◌≡◌, ℕ, zero, suc, ◌==◌, ◌&&◌, ◌||◌, Bool, true, false, cond, nat_lt, List, [], ◌∷◌, refl, sym, ap, ◌∙◌, rules}
use Rattle.std.specs.declared.cmp.Ordering.{Ordering}
use Rattle.std.specs.declared.cmp.Ordering.TheVariants.{Less, Equal, Greater}
use Rattle.std.specs.Cmp.{IsTotalOrder, IsEquivalence}
use Rattle.std.specs.Cmp.Rules.{comparing}
use Rattle.std.specs.Cmp.Lexicographic.{same_text, slice_cmp}
use Rattle.std.specs.List.{AllByRecursion, dedup}
use Rattle.std.specs.List.Sorted.{IsPermutation, IsSorted, IsStrictlySortedBy}
use Rattle.std.specs.Ordering.{eq_by_cmp, nat_cmp, ordering_then}
use Rattle.std.proofs.lemmas.Cmp.{and_equiv, nat_cmp_total, nat_eq_equiv, nat_list_cmp_total, nat_list_eq_equiv, on_equiv, on_total, then_total}
use Rattle.std.proofs.lemmas.List.Elements.{All-from_recursion}
use Rattle.std.proofs.lemmas.List.Kept.{IsStrictlySortedBy-dedup, Contains-dedup, Contains-from_dedup}
use Rattle.std.proofs.lemmas.List.Sorted.{Contains-permutation, IsPermutation-sym}
use borrow.Author.Tests.{eqb-true}
use Rattle.lockset_check_rules.specs.declared.finding.LockFinding.{LockFinding}
use Rattle.lockset_check_rules.specs.declared.finding.LockFinding.TheVariants.{Unheld, Address, NotConstant, UnlockUnheld, LoopLocks, ReturnLocks}
use Rattle.lockset_check_rules.specs.Comparison.{line_cmp, line_eq, name_in, rank_of}
use Rattle.lockset_check_rules.specs.Order.{AreSorted, Ascending, comes_before, offset_of, text_before}

-- ---- what compares as less comes before

step : (l e : Bool) (o : Ordering) (t : Bool) → (o ≡ Less → t ≡ true) → ordering_then (cond l Less (cond e Equal Greater)) o ≡ Less → (l || (e && t)) ≡ true
step true e o t f h = refl
step false true o t f h = f h
step false false o t f h = absurd cc

texts : (n m : List ℕ) → slice_cmp nat_cmp n m ≡ Less → text_before n m ≡ true
texts [] [] h = absurd cc
texts [] (y ∷ ys) h = refl
texts (x ∷ xs) [] h = absurd cc
texts (x ∷ xs) (y ∷ ys) h = step (nat_lt x y) (x == y) (slice_cmp nat_cmp xs ys) (text_before xs ys) (texts xs ys) h

before : (f g : LockFinding) → line_cmp f g ≡ Less → comes_before f g ≡ true
before (Address a n) (Address b m) h = step (nat_lt a b) (a == b) _ _ (texts n m) h
before (Address a n) (LoopLocks b) h = step (nat_lt a b) (a == b) _ _ (λ e. cc) h
before (Address a n) (NotConstant b) h = step (nat_lt a b) (a == b) _ _ (λ e. cc) h
before (Address a n) (ReturnLocks b) h = step (nat_lt a b) (a == b) _ _ (λ e. cc) h
before (Address a n) (Unheld b m) h = step (nat_lt a b) (a == b) _ _ (λ e. cc) h
before (Address a n) (UnlockUnheld b) h = step (nat_lt a b) (a == b) _ _ (λ e. cc) h
before (LoopLocks a) (Address b m) h = step (nat_lt a b) (a == b) _ _ (λ e. cc) h
before (LoopLocks a) (LoopLocks b) h = step (nat_lt a b) (a == b) _ _ (λ e. cc) h
before (LoopLocks a) (NotConstant b) h = step (nat_lt a b) (a == b) _ _ (λ e. cc) h
before (LoopLocks a) (ReturnLocks b) h = step (nat_lt a b) (a == b) _ _ (λ e. cc) h
before (LoopLocks a) (Unheld b m) h = step (nat_lt a b) (a == b) _ _ (λ e. cc) h
before (LoopLocks a) (UnlockUnheld b) h = step (nat_lt a b) (a == b) _ _ (λ e. cc) h
before (NotConstant a) (Address b m) h = step (nat_lt a b) (a == b) _ _ (λ e. cc) h
before (NotConstant a) (LoopLocks b) h = step (nat_lt a b) (a == b) _ _ (λ e. cc) h
before (NotConstant a) (NotConstant b) h = step (nat_lt a b) (a == b) _ _ (λ e. cc) h
before (NotConstant a) (ReturnLocks b) h = step (nat_lt a b) (a == b) _ _ (λ e. cc) h
before (NotConstant a) (Unheld b m) h = step (nat_lt a b) (a == b) _ _ (λ e. cc) h
before (NotConstant a) (UnlockUnheld b) h = step (nat_lt a b) (a == b) _ _ (λ e. cc) h
before (ReturnLocks a) (Address b m) h = step (nat_lt a b) (a == b) _ _ (λ e. cc) h
before (ReturnLocks a) (LoopLocks b) h = step (nat_lt a b) (a == b) _ _ (λ e. cc) h
before (ReturnLocks a) (NotConstant b) h = step (nat_lt a b) (a == b) _ _ (λ e. cc) h
before (ReturnLocks a) (ReturnLocks b) h = step (nat_lt a b) (a == b) _ _ (λ e. cc) h
before (ReturnLocks a) (Unheld b m) h = step (nat_lt a b) (a == b) _ _ (λ e. cc) h
before (ReturnLocks a) (UnlockUnheld b) h = step (nat_lt a b) (a == b) _ _ (λ e. cc) h
before (Unheld a n) (Address b m) h = step (nat_lt a b) (a == b) _ _ (λ e. cc) h
before (Unheld a n) (LoopLocks b) h = step (nat_lt a b) (a == b) _ _ (λ e. cc) h
before (Unheld a n) (NotConstant b) h = step (nat_lt a b) (a == b) _ _ (λ e. cc) h
before (Unheld a n) (ReturnLocks b) h = step (nat_lt a b) (a == b) _ _ (λ e. cc) h
before (Unheld a n) (Unheld b m) h = step (nat_lt a b) (a == b) _ _ (texts n m) h
before (Unheld a n) (UnlockUnheld b) h = step (nat_lt a b) (a == b) _ _ (λ e. cc) h
before (UnlockUnheld a) (Address b m) h = step (nat_lt a b) (a == b) _ _ (λ e. cc) h
before (UnlockUnheld a) (LoopLocks b) h = step (nat_lt a b) (a == b) _ _ (λ e. cc) h
before (UnlockUnheld a) (NotConstant b) h = step (nat_lt a b) (a == b) _ _ (λ e. cc) h
before (UnlockUnheld a) (ReturnLocks b) h = step (nat_lt a b) (a == b) _ _ (λ e. cc) h
before (UnlockUnheld a) (Unheld b m) h = step (nat_lt a b) (a == b) _ _ (λ e. cc) h
before (UnlockUnheld a) (UnlockUnheld b) h = step (nat_lt a b) (a == b) _ _ (λ e. cc) h

rising : (fs : List LockFinding) → IsStrictlySortedBy line_cmp fs → Ascending fs
unfolding IsStrictlySortedBy
rising [] h = tt
rising (f ∷ fs) h = (All-from_recursion (λ g. comes_before f g ≡ true) fs (each fs h.0), rising fs h.1)
  where
    each : (gs : List LockFinding) → AllByRecursion (λ g. line_cmp f g ≡ Less) gs → AllByRecursion (λ g. comes_before f g ≡ true) gs
    each [] k = tt
    each (g ∷ gs) k = (before f g k.0, each gs k.1)

-- ---- what compares as equal is the same

both : (a b : Bool) → (a && b) ≡ true → (a ≡ true) × (b ≡ true)
both true b h = (refl, h)
both false b h = absurd cc

-- a finding of its offset, the place of its word, and its name
of_parts : (from rank : ℕ) → List ℕ → LockFinding
of_parts from zero name = Address from name
of_parts from (suc zero) name = LoopLocks from
of_parts from (suc (suc zero)) name = NotConstant from
of_parts from (suc (suc (suc zero))) name = ReturnLocks from
of_parts from (suc (suc (suc (suc zero)))) name = Unheld from name
of_parts from (suc (suc (suc (suc (suc n))))) name = UnlockUnheld from

is_of_parts : (f : LockFinding) → of_parts (offset_of f) (rank_of f) (name_in f) ≡ f
unfolding of_parts
is_of_parts (Address a n) = refl
is_of_parts (LoopLocks a) = refl
is_of_parts (NotConstant a) = refl
is_of_parts (ReturnLocks a) = refl
is_of_parts (Unheld a n) = refl
is_of_parts (UnlockUnheld a) = refl

same : (f g : LockFinding) → line_eq f g ≡ true → f ≡ g
same f g h =
    let offset = both (offset_of f == offset_of g) _ h in
    let rest = both (rank_of f == rank_of g) _ offset.1 in
    let a : offset_of f ≡ offset_of g = eqb-true _ _ offset.0 in
    let b : rank_of f ≡ rank_of g = eqb-true _ _ rest.0 in
    let c : name_in f ≡ name_in g = same_text _ _ (sym rest.1) in
    sym (is_of_parts f) ∙ (ap (λ x. of_parts x (rank_of f) (name_in f)) a ∙ (ap (λ x. of_parts (offset_of g) x (name_in f)) b
    ∙ (ap (λ x. of_parts (offset_of g) (rank_of g) x) c ∙ is_of_parts g)))

-- ---- a sorted list, of which each is kept once

total : IsTotalOrder line_cmp
total = then_total (on_total offset_of nat_cmp_total) (then_total (on_total rank_of nat_cmp_total) (on_total name_in nat_list_cmp_total))

equivalence : IsEquivalence line_eq
equivalence = and_equiv (on_equiv offset_of nat_eq_equiv) (and_equiv (on_equiv rank_of nat_eq_equiv) (on_equiv name_in nat_list_eq_equiv))

ties : (f g : LockFinding) → line_eq f g ≡ eq_by_cmp line_cmp f g
ties = search (comparing, rules)

pub sorted : (found moved : List LockFinding) → IsPermutation found moved → IsSorted line_cmp moved → AreSorted found (dedup line_eq moved)
sorted found moved perm up = record {
  order = rising (dedup line_eq moved) (IsStrictlySortedBy-dedup total ties moved up);
  same = λ f. (
    λ h. Contains-permutation moved found f (IsPermutation-sym found moved perm) (Contains-from_dedup line_eq moved f h),
    λ h. Contains-dedup equivalence same moved f (Contains-permutation found moved f perm h),
  );
}
