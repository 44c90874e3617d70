-- The sets that functions need, one after another.
use Rattle.std.proofs.Common.{◌≡◌, ℕ, ℤ, zero, suc, ◌+◌, ◌-◌, ◌<◌, ◌≤◌, List, [], ◌∷◌, ◌++◌, length, map, take, refl, sym, ap, ◌∙◌, arith}
use Rattle.std.specs.Prelude.{get_or}
use Rattle.std.proofs.lemmas.List.{take_all, take_more}
use Rattle.lockset_check_rules.specs.Mutexes.{Locks, locks_of}
use Rattle.lockset_check_held.specs.HeldSets.{HeldSets, at_first, need_at, needing}

need_taken : (ks : List (List ℤ)) (i place : ℕ) → i < place → place ≤ length ks → need_at (map locks_of (take place ks)) i ≡ locks_of (get_or ks i [])
need_taken [] i place lt le = absurd (omega arith)
need_taken (k ∷ ks) i zero lt le = absurd (omega arith)
need_taken (k ∷ ks) zero (suc place) lt le = refl
need_taken (k ∷ ks) (suc i) (suc place) lt le = need_taken ks i place (omega arith) (omega arith)

-- a list that is equal to the one before it
pub made_again : (ks : List (List ℤ)) (needs : List Locks) (place : ℕ) (now before : List ℤ) (h : HeldSets) → 0 < place → place < length ks → needs ≡ map locks_of (take place ks)
    → now ≡ get_or ks place now → before ≡ get_or ks (place - 1) before → now ≡ before
    → needing (need_at needs (place - 1)) h ≡ needing (locks_of (get_or ks place [])) h
made_again ks needs place now before h some lt e is was same =
    ap (λ (s : Locks). needing s h)
    (ap (λ (ls : List Locks). need_at ls (place - 1)) e
    ∙ (need_taken ks (place - 1) place (omega arith) (omega arith)
    ∙ ap locks_of (any_default ks (place - 1) before (omega arith) ∙ (sym was ∙ (sym same ∙ (is ∙ sym (any_default ks place now lt)))))))
  where
    any_default : (xs : List (List ℤ)) (i : ℕ) (d : List ℤ) → i < length xs → get_or xs i [] ≡ get_or xs i d
    any_default [] i d below = absurd (omega arith)
    any_default (x ∷ xs) zero d below = refl
    any_default (x ∷ xs) (suc i) d below = any_default xs i d (omega arith)

mapped : (xs ys : List (List ℤ)) → map locks_of (xs ++ ys) ≡ map locks_of xs ++ map locks_of ys
mapped [] ys = refl
mapped (x ∷ xs) ys = ap (λ (l : List Locks). locks_of x ∷ l) (mapped xs ys)

pub one_more : (ks : List (List ℤ)) (i : ℕ) (h : HeldSets) → i < length ks → h ≡ record at_first { needs = map locks_of (take i ks) }
    → needing (locks_of (get_or ks i [])) h ≡ record at_first { needs = map locks_of (take (i + 1) ks) }
one_more ks i h lt e =
    ap (needing (locks_of (get_or ks i []))) e
    ∙ ap (λ (ls : List Locks). record at_first { needs = ls })
    (sym (ap (map locks_of) (take_more ks i [] lt) ∙ mapped (take i ks) (get_or ks i [] ∷ [])))

pub all_made : (ks : List (List ℤ)) (i : ℕ) (h : HeldSets) → length ks ≤ i → h ≡ record at_first { needs = map locks_of (take i ks) } → h ≡ record at_first { needs = map locks_of ks }
all_made ks i h le e = e ∙ ap (λ (l : List (List ℤ)). record at_first { needs = map locks_of l }) (take_all i ks le)
