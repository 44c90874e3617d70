-- One mark, and several.
use Rattle.std.proofs.Common.{◌≡◌, ◌⊎◌, inl, inr, ℕ, zero, suc, ◌+◌, ◌<◌, Bool, true, false, List, [], ◌∷◌, ◌++◌, length, get_or, set, take, refl, sym, ap, ◌∙◌, subst, arith}
use Rattle.std.specs.List.{Contains}
use Rattle.std.proofs.lemmas.List.{length-set, take_more}
use Rattle.std.proofs.lemmas.List.Elements.{Contains-append_cases, Contains-append_left, Contains-append_right, Contains-push, Contains-push_cases}
use Rattle.cut_graph_paths.specs.Graphs.{flag}
use Rattle.cut_graph_paths.specs.Searches.{IsClear, IsFollowed, unmarked}

pub flag_is : (bs : List Bool) (k : ℕ) (d : Bool) → k < length bs → flag bs k ≡ get_or bs k d
flag_is [] k d lt = absurd (omega arith)
flag_is (b ∷ bs) zero d lt = refl
flag_is (b ∷ bs) (suc k) d lt = flag_is bs k d (omega arith)

pub flag_inside : (bs : List Bool) (k : ℕ) → flag bs k ≡ true → k < length bs
flag_inside [] k e = cc
flag_inside (b ∷ bs) zero e = omega arith
flag_inside (b ∷ bs) (suc k) e = let h = flag_inside bs k e in omega arith

flag_set : (bs : List Bool) (v : ℕ) → v < length bs → flag (set bs v true) v ≡ true
flag_set [] v lt = absurd (omega arith)
flag_set (b ∷ bs) zero lt = refl
flag_set (b ∷ bs) (suc v) lt = flag_set bs v (omega arith)

flag_kept : (bs : List Bool) (v k : ℕ) → flag bs k ≡ true → flag (set bs v true) k ≡ true
flag_kept [] v k e = e
flag_kept (b ∷ bs) zero zero e = refl
flag_kept (b ∷ bs) zero (suc k) e = e
flag_kept (b ∷ bs) (suc v) zero e = e
flag_kept (b ∷ bs) (suc v) (suc k) e = flag_kept bs v k e

flag_only : (bs : List Bool) (v k : ℕ) → flag (set bs v true) k ≡ true → (flag bs k ≡ true) ⊎ (v ≡ k)
flag_only [] v k e = inl e
flag_only (b ∷ bs) zero zero e = inr refl
flag_only (b ∷ bs) zero (suc k) e = inl e
flag_only (b ∷ bs) (suc v) zero e = inl e
flag_only (b ∷ bs) (suc v) (suc k) e = elim (flag_only bs v k e) [ inl h ↦ inl h | inr h ↦ inr (ap suc h) ]

unmarked_set : (bs : List Bool) (v : ℕ) → v < length bs → flag bs v ≡ false → unmarked (set bs v true) + 1 ≡ unmarked bs
unmarked_set [] v lt e = absurd (omega arith)
unmarked_set (true ∷ bs) zero lt e = cc
unmarked_set (false ∷ bs) zero lt e = refl
unmarked_set (true ∷ bs) (suc v) lt e = unmarked_set bs v (omega arith) e
unmarked_set (false ∷ bs) (suc v) lt e = ap (λ (n : ℕ). n + 1) (unmarked_set bs v (omega arith) e)

one : (v k : ℕ) → Contains (v ∷ []) k → v ≡ k
one v k h = elim (Contains-push_cases [] v k h) [ inl g ↦ absurd (omega (arith, g.1)) | inr e ↦ e ]

-- nothing to mark
pub nothing : (ms : List Bool) (ts : List ℕ) → IsFollowed [] ms ts ms ts
nothing ms ts = record {
  size = refl;
  marked = λ k h. absurd (omega (arith, h.1));
  kept = λ k e. e;
  only = λ k e. inl e;
  added = λ k e. inl e;
  listed = λ k h. h;
  among = λ k h. inl h;
  count = refl;
}

-- it was marked before
pub again : (ms : List Bool) (ts : List ℕ) (v : ℕ) → flag ms v ≡ true → IsFollowed (v ∷ []) ms ts ms ts
again ms ts v is = record {
  size = refl;
  marked = λ k h. ap (flag ms) (sym (one v k h)) ∙ is;
  kept = λ k e. e;
  only = λ k e. inl e;
  added = λ k e. inl e;
  listed = λ k h. h;
  among = λ k h. inl h;
  count = refl;
}

-- it wasn't
pub first : (ms : List Bool) (ts : List ℕ) (v : ℕ) → v < length ms → flag ms v ≡ false → IsFollowed (v ∷ []) ms ts (set ms v true) (ts ++ v ∷ [])
first ms ts v lt isnt = record {
  size = length-set ms v true;
  marked = λ k h. ap (flag (set ms v true)) (sym (one v k h)) ∙ flag_set ms v lt;
  kept = λ k e. flag_kept ms v k e;
  only = λ k e. elim (flag_only ms v k e) [ inl h ↦ inl h | inr h ↦ inr (subst (λ (n : ℕ). Contains (v ∷ []) n) h (Contains-push [] v)) ];
  added = λ k e. elim (flag_only ms v k e) [ inl h ↦ inl h | inr h ↦ inr (subst (λ (n : ℕ). Contains (ts ++ v ∷ []) n) h (Contains-push ts v)) ];
  listed = λ k h. Contains-append_left ts (v ∷ []) k h;
  among = λ k h. elim (Contains-push_cases ts v k h) [ inl g ↦ inl g | inr e ↦ inr (ap (flag (set ms v true)) (sym e) ∙ flag_set ms v lt) ];
  count = let a = unmarked_set ms v lt isnt in let b = length_one ts v in omega arith;
}
  where
    length_one : (xs : List ℕ) (x : ℕ) → length (xs ++ x ∷ []) ≡ length xs + 1
    length_one [] x = refl
    length_one (y ∷ xs) x = let h = length_one xs x in omega arith

-- some, and then others
pub both : {xs ys : List ℕ} {ms ns os : List Bool} {ts us ws : List ℕ} → IsFollowed xs ms ts ns us → IsFollowed ys ns us os ws → IsFollowed (xs ++ ys) ms ts os ws
both {xs} {ys} {ms} {ns} {os} {ts} {us} {ws} f g = record {
  size = g.size ∙ f.size;
  marked = λ k h. elim (Contains-append_cases xs ys k h) [ inl a ↦ g.kept k (f.marked k a) | inr b ↦ g.marked k b ];
  kept = λ k e. g.kept k (f.kept k e);
  only = λ k e. elim (g.only k e) [
    | inl a ↦ elim (f.only k a) [ inl b ↦ inl b | inr b ↦ inr (Contains-append_left xs ys k b) ]
    | inr b ↦ inr (Contains-append_right xs ys k b)
  ];
  added = λ k e. elim (g.added k e) [
    | inl a ↦ elim (f.added k a) [ inl b ↦ inl b | inr b ↦ inr (g.listed k b) ]
    | inr b ↦ inr b
  ];
  listed = λ k h. g.listed k (f.listed k h);
  among = λ k h. elim (g.among k h) [
    | inl a ↦ elim (f.among k a) [ inl b ↦ inl b | inr b ↦ inr (g.kept k b) ]
    | inr b ↦ inr b
  ];
  count = g.count ∙ f.count;
}

-- one of several more
pub one_more : (xs : List ℕ) (i : ℕ) {ms ns os : List Bool} {ts us ws : List ℕ} → i < length xs → IsFollowed (take i xs) ms ts ns us → IsFollowed (get_or xs i 0 ∷ []) ns us os ws →
    IsFollowed (take (i + 1) xs) ms ts os ws
one_more xs i {ms} {ns} {os} {ts} {us} {ws} lt f g = subst (λ (ys : List ℕ). IsFollowed ys ms ts os ws) (sym (take_more xs i 0 lt)) (both f g)

-- ---- marks that aren't set

none_after : (ms : List Bool) → ((k : ℕ) → flag ms k ≡ false) → (k : ℕ) → flag (ms ++ false ∷ []) k ≡ false
none_after [] h zero = refl
none_after [] h (suc k) = refl
none_after (m ∷ ms) h zero = h zero
none_after (m ∷ ms) h (suc k) = none_after ms (λ j. h (suc j)) k

length_push : (ms : List Bool) → length (ms ++ false ∷ []) ≡ length ms + 1
length_push [] = refl
length_push (m ∷ ms) = let h = length_push ms in omega arith

pub one_clear : (n : ℕ) (ms : List Bool) → IsClear n ms → IsClear (n + 1) (ms ++ false ∷ [])
one_clear n ms c = record {
  size = length_push ms ∙ ap (λ (k : ℕ). k + 1) c.size;
  clear = none_after ms c.clear;
}
