-- Flags of parts of a list.
use Rattle.std.proofs.Common.{◌≡◌, ℕ, zero, suc, ◌+◌, ◌-◌, ◌<◌, ◌≤◌, Bool, true, false, List, [], ◌∷◌, length, get_or, take, drop, refl, sym, ap, ◌∙◌, subst, arith}
use Rattle.cut_graph_paths.specs.Graphs.{flag}
use Rattle.cut_graph_modes.specs.Runs.{IsPart}

pub flag_inside : (bs : List Bool) (k : ℕ) (d : Bool) → k < length bs → get_or bs k d ≡ flag bs k
flag_inside [] k d lt = absurd (omega arith)
flag_inside (b ∷ bs) zero d lt = refl
flag_inside (b ∷ bs) (suc k) d lt = flag_inside bs k d (omega arith)

pub flag_past : (bs : List Bool) (k : ℕ) → length bs ≤ k → flag bs k ≡ false
flag_past [] k le = refl
flag_past (b ∷ bs) zero le = absurd (omega arith)
flag_past (b ∷ bs) (suc k) le = flag_past bs k (omega arith)

flag_take : (n : ℕ) (bs : List Bool) (f : ℕ) → f < n → flag (take n bs) f ≡ flag bs f
flag_take zero bs f lt = absurd (omega arith)
flag_take (suc n) [] f lt = refl
flag_take (suc n) (b ∷ bs) zero lt = refl
flag_take (suc n) (b ∷ bs) (suc f) lt = flag_take n bs f (omega arith)

taken : (n : ℕ) (bs : List Bool) (f : ℕ) → flag (take n bs) f ≡ true → f < n
taken zero bs f e = cc
taken (suc n) [] f e = cc
taken (suc n) (b ∷ bs) zero e = omega arith
taken (suc n) (b ∷ bs) (suc f) e = let h = taken n bs f e in omega arith

flag_drop : (n : ℕ) (bs : List Bool) (f : ℕ) → flag (drop n bs) f ≡ flag bs (n + f)
flag_drop zero bs f = let e : f ≡ zero + f = omega arith in ap (flag bs) e
flag_drop (suc n) [] f = refl
flag_drop (suc n) (b ∷ bs) f = let e : suc (n + f) ≡ suc n + f = omega arith in flag_drop n bs f ∙ ap (flag (b ∷ bs)) e

flags_part : (bs : List Bool) (a n : ℕ) → IsPart (take n (drop a bs)) bs a n
flags_part bs a n = record {
  is = λ f. (
    λ e. let lt : f < n = taken n (drop a bs) f e in (lt, sym (flag_take n (drop a bs) f lt ∙ flag_drop a bs f) ∙ e),
    λ h. (flag_take n (drop a bs) f h.0 ∙ flag_drop a bs f) ∙ h.1,
  );
}

pub flags_between : (bs : List Bool) (a n : ℕ) (part : List Bool) → part ≡ take ((a + n) - a) (drop a bs) → IsPart part bs a n
flags_between bs a n part is =
    let count : (a + n) - a ≡ n = omega arith in
    subst (λ (p : List Bool). IsPart p bs a n) (sym (is ∙ ap (λ (k : ℕ). take k (drop a bs)) count)) (flags_part bs a n)

-- the same of equal flags, places and counts
pub part_same : {part flags given : List Bool} {first from count number : ℕ} → IsPart part given from number → given ≡ flags → from ≡ first → number ≡ count → IsPart part flags first count
part_same {part} {flags} {given} {first} {from} {count} {number} h e i j =
    subst (λ (bs : List Bool). IsPart part bs first count) e
    (subst (λ (k : ℕ). IsPart part given k count) i (subst (λ (k : ℕ). IsPart part given from k) j h))
