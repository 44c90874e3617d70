-- The places of answers, by function.
use Rattle.std.proofs.Common.{◌≡◌, ℕ, zero, suc, ◌+◌, ◌<◌, ◌≤◌, cond, eqb, List, [], ◌∷◌, ◌++◌, length, get_or, set, drop, sym, refl, ap, ◌∙◌, inl, inr, append_assoc}
use Rattle.std.proofs.lemmas.Bool.{cases_eq, eq-eqb, ne_eqb}
use Rattle.std.proofs.lemmas.List.{drop_more, drop_all, append-nil, get_or-set_same, get_or-set_other}
use Rattle.system_side.specs.declared.file.Scripted.{Scripted}
use Rattle.system_side.specs.Answers.{places_of, left_of}

-- one more function without answers
pub left_push : (left : List (List ℕ)) (f : ℕ) → left_of (left ++ [] ∷ []) f ≡ left_of left f
left_push [] zero = refl
left_push [] (suc f) = refl
left_push (x ∷ xs) zero = refl
left_push (x ∷ xs) (suc f) = left_push xs f

-- one more place of a function
pub left_put : (old left : List (List ℕ)) (at place : ℕ) (f : ℕ) → at < length left → ((g : ℕ) → left_of left g ≡ left_of old g) → left_of (set left at (left_of left at ++ place ∷ [])) f ≡ cond (eqb at f) (left_of old f ++ place ∷ []) (left_of old f)
left_put old left at place f lt same = elim (cases_eq at f) [
  | inl here ↦ rw (eq-eqb at f here) (ap (λ k. left_of (set left at (left_of left at ++ place ∷ [])) k) (sym here) ∙ get_or-set_same left at _ [] lt ∙ ap (λ (ps : List ℕ). ps ++ place ∷ []) (same at ∙ ap (left_of old) here))
  | inr ne ↦ rw (ne_eqb at f ne) (get_or-set_other left at f _ [] (λ e. ne (sym e)) ∙ same f)
]

-- the places so far, and those that are still to come
pub record Noted (answers : List Scripted) (i : ℕ) (left : List (List ℕ)) : Type 0 where
  pub of : (f : ℕ) → left_of left f ++ places_of f i (drop i answers) ≡ places_of f 0 answers

pub noted_none : (answers : List Scripted) → Noted answers 0 []
noted_none answers = record { of = λ f. refl }

put_or_not : (t : ℕ) (f i : ℕ) (old new rest : List ℕ) → new ≡ cond (eqb t f) (old ++ i ∷ []) old → new ++ rest ≡ old ++ cond (eqb t f) (i ∷ rest) rest
put_or_not t f i old new rest is = elim (cases_eq t f) [
  | inl here ↦ (let e : new ≡ old ++ i ∷ [] = is ∙ ap (λ b. cond b (old ++ i ∷ []) old) (eq-eqb t f here) in rw (eq-eqb t f here) (ap (λ (ps : List ℕ). ps ++ rest) e ∙ append_assoc old (i ∷ []) rest))
  | inr ne ↦ (let e : new ≡ old = is ∙ ap (λ b. cond b (old ++ i ∷ []) old) (ne_eqb t f ne) in rw (ne_eqb t f ne) (ap (λ (ps : List ℕ). ps ++ rest) e))
]

pub noted_more : (answers : List Scripted) (i : ℕ) (a : Scripted) (old new : List (List ℕ)) → i < length answers → a ≡ get_or answers i a → Noted answers i old → ((f : ℕ) → left_of new f ≡ cond (eqb a.func f) (left_of old f ++ i ∷ []) (left_of old f)) → Noted answers (i + 1) new
noted_more answers i a old new lt is so_far added =
    let split : drop i answers ≡ a ∷ drop (i + 1) answers = drop_more answers i a lt ∙ ap (λ (b : Scripted). b ∷ drop (i + 1) answers) (sym is) in
    record {
      of = λ f. put_or_not a.func f i (left_of old f) (left_of new f) (places_of f (i + 1) (drop (i + 1) answers)) (added f) ∙ ap (λ (bs : List Scripted). left_of old f ++ places_of f i bs) (sym split) ∙ so_far.of f;
    }

pub noted_all : (answers : List Scripted) (i : ℕ) (left : List (List ℕ)) → length answers ≤ i → Noted answers i left → (f : ℕ) → left_of left f ≡ places_of f 0 answers
noted_all answers i left ge so_far f = sym (append-nil (left_of left f)) ∙ ap (λ (bs : List Scripted). left_of left f ++ places_of f i bs) (sym (drop_all i answers ge)) ∙ so_far.of f
