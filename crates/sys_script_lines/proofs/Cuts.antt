-- Where a text is cut, and its parts.
use Rattle.std.proofs.Common.{◌≡◌, ℕ, zero, suc, ◌+◌, ◌-◌, ◌<◌, ◌≤◌, Bool, true, false, cond, eqb, List, [], ◌∷◌, length, get_or, take, drop, Some, None, refl, sym, ap, ◌∙◌, arith, eq-eqb}
use Rattle.std.specs.List.{onto_first}
use Rattle.std.specs.Option.{option_map}
use Rattle.std.proofs.lemmas.Bool.{ne_eqb}
use Rattle.std.proofs.lemmas.List.{take_rest}
use Rattle.sys_script_lines.specs.Parts.{cut_at, onto, parts}

-- none of the first n bytes ends a part
abbrev pub NoneBefore : ℕ → List ℕ → ℕ → Type 0
NoneBefore end text n = (k : ℕ) → k < n → get_or text k 0 ≡ end → ⊥

pub cut_found : (end : ℕ) (text : List ℕ) (n : ℕ) → n < length text → NoneBefore end text n → get_or text n 0 ≡ end → cut_at end text ≡ Some (take n text, drop (suc n) text)
cut_found end [] n lt none is = absurd (omega arith)
cut_found end (b ∷ bs) zero lt none is = ap (λ t. cond t (Some ([], bs)) (option_map (onto b) (cut_at end bs))) (eq-eqb b end is)
cut_found end (b ∷ bs) (suc n) lt none is =
    ap (λ t. cond t (Some ([], bs)) (option_map (onto b) (cut_at end bs))) (ne_eqb b end (none 0 (omega arith)))
    ∙ ap (option_map (onto b)) (cut_found end bs n (omega arith) (λ k k_lt e. none (suc k) (omega arith) e) is)

pub cut_missing : (end : ℕ) (text : List ℕ) → NoneBefore end text (length text) → cut_at end text ≡ None
cut_missing end [] none = refl
cut_missing end (b ∷ bs) none =
    ap (λ t. cond t (Some ([], bs)) (option_map (onto b) (cut_at end bs))) (ne_eqb b end (none 0 (omega arith)))
    ∙ ap (option_map (onto b)) (cut_missing end bs (λ k k_lt e. none (suc k) (omega arith) e))

pub parts_found : (end : ℕ) (text : List ℕ) (n : ℕ) → n < length text → NoneBefore end text n → get_or text n 0 ≡ end → parts end text ≡ take n text ∷ parts end (drop (suc n) text)
parts_found end [] n lt none is = absurd (omega arith)
parts_found end (b ∷ bs) zero lt none is = ap (λ t. cond t ([] ∷ parts end bs) (onto_first b (parts end bs))) (eq-eqb b end is)
parts_found end (b ∷ bs) (suc n) lt none is =
    ap (λ t. cond t ([] ∷ parts end bs) (onto_first b (parts end bs))) (ne_eqb b end (none 0 (omega arith)))
    ∙ ap (onto_first b) (parts_found end bs n (omega arith) (λ k k_lt e. none (suc k) (omega arith) e) is)

pub parts_missing : (end : ℕ) (text : List ℕ) → NoneBefore end text (length text) → parts end text ≡ text ∷ []
parts_missing end [] none = refl
parts_missing end (b ∷ bs) none =
    ap (λ t. cond t ([] ∷ parts end bs) (onto_first b (parts end bs))) (ne_eqb b end (none 0 (omega arith)))
    ∙ ap (onto_first b) (parts_missing end bs (λ k k_lt e. none (suc k) (omega arith) e))

-- there is a first part
first_by : (end b : ℕ) (bs : List ℕ) (t : Bool) (more : List (List ℕ)) → (x : List ℕ) × ((xs : List (List ℕ)) × (cond t ([] ∷ more) (onto_first b more) ≡ x ∷ xs))
first_by end b bs true more = ([], (more, refl))
first_by end b bs false [] = (b ∷ [], ([], refl))
first_by end b bs false (part ∷ more) = (b ∷ part, (more, refl))

pub first_part : (end : ℕ) (text : List ℕ) → (x : List ℕ) × ((xs : List (List ℕ)) × (parts end text ≡ x ∷ xs))
first_part end [] = ([], ([], refl))
first_part end (b ∷ bs) = first_by end b bs (eqb b end) (parts end bs)

-- the same, as the code names what stands before and after
rest_is : (text : List ℕ) (n : ℕ) → take (length text - (n + 1)) (drop (n + 1) text) ≡ drop (suc n) text
rest_is text n = let e : n + 1 ≡ suc n = omega arith in take_rest text (n + 1) ∙ ap (λ k. drop k text) e

pub cut_is : (end : ℕ) (text : List ℕ) (n : ℕ) → n < length text → NoneBefore end text n → get_or text n 0 ≡ end → Some (take n text, take (length text - (n + 1)) (drop (n + 1) text)) ≡ cut_at end text
cut_is end text n lt none is = ap (λ rest. Some (take n text, rest)) (rest_is text n) ∙ sym (cut_found end text n lt none is)

pub parts_are : (end : ℕ) (text : List ℕ) (n : ℕ) → n < length text → NoneBefore end text n → get_or text n 0 ≡ end → parts end text ≡ take n text ∷ parts end (take (length text - (n + 1)) (drop (n + 1) text))
parts_are end text n lt none is = parts_found end text n lt none is ∙ ap (λ rest. take n text ∷ parts end rest) (sym (rest_is text n))

pub none_there : (end : ℕ) (text : List ℕ) (n : ℕ) → length text ≤ n → NoneBefore end text n → NoneBefore end text (length text)
none_there end text n le none = λ k k_lt e. none k (omega arith) e
