-- Going along blocks for the first one that begins at an address.
use Rattle.std.proofs.Common.{◌≡◌, ℕ, suc, ◌+◌, ◌<◌, ◌≤◌, Bool, true, false, cond, ◌==◌, List, [], ◌∷◌, ◌++◌, length, get_or, take, drop, remove, ap, sym, ◌∙◌, arith, append_assoc, append-nil, drop-cons, take_all}
use Rattle.std.proofs.lemmas.List.{drop_all, take_more}
use Rattle.marks.specs.declared.range.Range.{Range}
use Rattle.replay_runs.specs.Pool.{without}

-- of the blocks from one on
from_one : (at : ℕ) (bs : List Range) (i : ℕ) (d : Range) → i < length bs →
    without at (drop i bs) ≡ cond ((get_or bs i d).addr == at) (drop (suc i) bs) (get_or bs i d ∷ without at (drop (suc i) bs))
from_one at bs i d lt = ap (without at) (drop-cons bs i d lt)

pub passed_one : (at : ℕ) (bs : List Range) (i : ℕ) (d : Range) → i < length bs →
    ((get_or bs i d).addr == at) ≡ false → without at bs ≡ take i bs ++ without at (drop i bs) →
    without at bs ≡ take (i + 1) bs ++ without at (drop (i + 1) bs)
passed_one at bs i d lt miss e =
    let next : suc i ≡ i + 1 = omega arith in
    let taken : take i bs ++ get_or bs i d ∷ [] ≡ take (i + 1) bs = sym (take_more bs i d lt) in
    e
    ∙ ap (λ (cs : List Range). take i bs ++ cs) (from_one at bs i d lt ∙ ap (λ (t : Bool). cond t (drop (suc i) bs) (get_or bs i d ∷ without at (drop (suc i) bs))) miss)
    ∙ sym (append_assoc (take i bs) (get_or bs i d ∷ []) (without at (drop (suc i) bs)))
    ∙ ap (λ (cs : List Range). cs ++ without at (drop (suc i) bs)) taken
    ∙ ap (λ (n : ℕ). take (i + 1) bs ++ without at (drop n bs)) next

pub found_one : (at : ℕ) (bs : List Range) (i : ℕ) (d : Range) → i < length bs →
    ((get_or bs i d).addr == at) ≡ true → without at bs ≡ take i bs ++ without at (drop i bs) →
    without at bs ≡ remove bs i
found_one at bs i d lt hit e =
    e
    ∙ ap (λ (cs : List Range). take i bs ++ cs) (from_one at bs i d lt ∙ ap (λ (t : Bool). cond t (drop (suc i) bs) (get_or bs i d ∷ without at (drop (suc i) bs))) hit)

pub passed_all : (at : ℕ) (bs : List Range) (n : ℕ) → length bs ≤ n → without at bs ≡ take n bs ++ without at (drop n bs) →
    without at bs ≡ bs
passed_all at bs n le e =
    e ∙ ap (λ (cs : List Range). take n bs ++ without at cs) (drop_all n bs le) ∙ append-nil (take n bs) ∙ take_all n bs le
