-- The first part of a text.
use Rattle.std.proofs.Common.{◌≡◌, ℕ, ◌+◌, ◌-◌, ◌<◌, Bool, true, false, cond, eqb, List, [], ◌∷◌, ◌++◌, length, get_or, take, drop, refl, sym, ap, ◌∙◌, subst, eq-eqb}
use Rattle.std.specs.List.{onto_first}
use Rattle.std.proofs.lemmas.List.{drop_more, take-append-drop, take_rest}
use Rattle.sys_script_lines.specs.Parts.{IsPart, parts}
use Rattle.sys_script_lines.proofs.Cuts.{first_part}

abbrev head_or : List ℕ → List (List ℕ) → List ℕ
head_or d [] = d
head_or d (x ∷ xs) = x

abbrev tail_of : List (List ℕ) → List (List ℕ)
tail_of [] = []
tail_of (x ∷ xs) = xs

abbrev rest_of : List ℕ → List ℕ
rest_of [] = []
rest_of (b ∷ bs) = bs

-- each part of a text is one part itself; of the first
pub is_part : (end : ℕ) (text x : List ℕ) (xs : List (List ℕ)) → parts end text ≡ x ∷ xs → IsPart end x
is_part end [] x xs e = subst (IsPart end) (ap (head_or []) e) refl
is_part end (b ∷ bs) x xs e = by (is_part end bs) (eqb b end) refl e
  where
    by : ((y : List ℕ) (ys : List (List ℕ)) → parts end bs ≡ y ∷ ys → IsPart end y) → (t : Bool) → eqb b end ≡ t → cond t ([] ∷ parts end bs) (onto_first b (parts end bs)) ≡ x ∷ xs → IsPart end x
    by later true z k = subst (IsPart end) (ap (head_or []) k) refl
    by later false z k =
        let (p, found) = first_part end bs in
        let (ps, is) = found in
        let here : b ∷ p ≡ x = ap (head_or []) (ap (onto_first b) (sym is) ∙ k) in
        let more : IsPart end p = later p ps is in
        let whole : IsPart end (b ∷ p) = ap (λ c. cond c ([] ∷ parts end p) (onto_first b (parts end p))) z ∙ ap (onto_first b) more in
        subst (IsPart end) here whole

-- a part, then the byte that ends it
pub part_then : (end : ℕ) (x rest : List ℕ) → IsPart end x → parts end (x ++ end ∷ rest) ≡ x ∷ parts end rest
part_then end [] rest h = ap (λ c. cond c ([] ∷ parts end rest) (onto_first end (parts end rest))) (eq-eqb end end refl)
part_then end (b ∷ bs) rest h = by (part_then end bs rest) (eqb b end) refl h
  where
    by : (IsPart end bs → parts end (bs ++ end ∷ rest) ≡ bs ∷ parts end rest) → (t : Bool) → eqb b end ≡ t → cond t ([] ∷ parts end bs) (onto_first b (parts end bs)) ≡ (b ∷ bs) ∷ [] → parts end (b ∷ bs ++ end ∷ rest) ≡ (b ∷ bs) ∷ parts end rest
    by later true z k = absurd (let bad : [] ≡ b ∷ bs = ap (head_or []) k in cc)
    by later false z k =
        let (p, found) = first_part end bs in
        let (ps, is) = found in
        let all : (b ∷ p) ∷ ps ≡ (b ∷ bs) ∷ [] = ap (onto_first b) (sym is) ∙ k in
        let same : p ≡ bs = ap (λ ws. rest_of (head_or [] ws)) all in
        let none : ps ≡ [] = ap tail_of all in
        let more : IsPart end bs = is ∙ (λ i. same i ∷ none i) in
        ap (λ c. cond c ([] ∷ parts end (bs ++ end ∷ rest)) (onto_first b (parts end (bs ++ end ∷ rest)))) z
        ∙ ap (onto_first b) (later more)

-- a text that begins with a part and the byte that ends it
pub begins_with : (end : ℕ) (text x : List ℕ) → IsPart end x → length x < length text → get_or text (length x) 0 ≡ end → take (length x) text ≡ x
    → parts end text ≡ x ∷ parts end (take (length text - (length x + 1)) (drop (length x + 1) text))
begins_with end text x h lt there start =
    let n = length x in
    let rest = drop (n + 1) text in
    let whole : x ++ end ∷ rest ≡ text =
    ap (λ ws. ws ++ end ∷ rest) (sym start)
    ∙ (ap (λ b. take n text ++ b ∷ rest) (sym there) ∙ (ap (λ ws. take n text ++ ws) (sym (drop_more text n 0 lt)) ∙ take-append-drop n text)) in
    sym (ap (parts end) whole) ∙ (part_then end x rest h ∙ ap (λ r. x ∷ parts end r) (sym (take_rest text (n + 1))))
