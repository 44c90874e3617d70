-- What names mean, read off the bindings.
use Rattle.std.proofs.Common.{◌≡◌, ℕ, ◌+◌, ◌<◌, ◌≤◌, Bool, true, false, cond, ltb, eqb, List, [], ◌∷◌, ◌++◌, length, get_or, take, drop, Option, Some, None, refl, sym, ap, subst, ◌∙◌, arith, length-append}
use Rattle.std.specs.Prelude.{reverse, slice_get}
use Rattle.std.specs.List.{AllByRecursion}
use Rattle.std.specs.Option.{option_or, option_map, option_and_then, unwrap_or}
use Rattle.std.proofs.lemmas.Bool.{le-ltb, lt-ltb, ltb-true, ltb-false}
use Rattle.std.proofs.lemmas.Option.{slice_get_past, slice_get_read}
use Rattle.std.proofs.lemmas.List.{take-append-drop, reverse-append, reverse-reverse, length-reverse, length-take-le, append-nil}
use Rattle.c_scopes.specs.declared.binding.Binding.{Binding}
use Rattle.c_scopes.specs.Scopes.{Scope, same_name, meaning_in, meaning_of, innermost}
use Rattle.c_scopes.specs.Bindings.{Name, index_of, text_at, place_in, named, scopes_of, newest, IsNumbered, Ties, AreStarts, AreKept, innermost_start}
use Rattle.c_scopes.proofs.Numbers.{index_within, other_name, same_number}
use Rattle.c_scopes.proofs.Places.{newest_within, read_prefix, read_last}

-- a list falls into two parts, each reversed
pub parts : {A : Type 0} (xs : List A) (n : ℕ) → reverse xs ≡ reverse (drop n xs) ++ reverse (take n xs)
parts xs n = ap reverse (sym (take-append-drop n xs)) ∙ reverse-append (take n xs) (drop n xs)

pub all_left : {A : Type 0} (P : A → Type 0) (xs ys : List A) → AllByRecursion P (xs ++ ys) → AllByRecursion P xs
all_left P [] ys h = tt
all_left P (x ∷ xs) ys h = (h.0, all_left P xs ys h.1)

pub all_right : {A : Type 0} (P : A → Type 0) (xs ys : List A) → AllByRecursion P (xs ++ ys) → AllByRecursion P ys
all_right P [] ys h = h
all_right P (x ∷ xs) ys h = all_right P xs ys h.1

or_none : {A : Type 0} (o : Option A) → option_or o None ≡ o
or_none None = refl
or_none (Some x) = refl

start_within : (starts : List ℕ) (n : ℕ) → AreStarts starts n → innermost_start starts ≤ n
start_within [] n h = omega arith
start_within (s ∷ ss) n h = h.0

module _ {V : Type 0} where
  -- what the binding at a place means
  abbrev pub meaning_at : List (Binding V) → ℕ → Option V
  meaning_at bs p = option_map (λ (b : Binding V). b.meaning) (slice_get bs p)

  -- the same, but None below a start
  abbrev pub meaning_from : ℕ → List (Binding V) → ℕ → Option V
  meaning_from start bs p = cond (ltb p start) None (meaning_at bs p)

  split : (name : List ℕ) (names : List Name) (xs ys : List (Binding V)) → meaning_in name (named names (xs ++ ys)) ≡ option_or (meaning_in name (named names xs)) (meaning_in name (named names ys))
  split name names [] ys = refl
  split name names (b ∷ xs) ys = by (same_name name (text_at names b.name)) (split name names xs ys)
    where
      by : (t : Bool) → meaning_in name (named names (xs ++ ys)) ≡ option_or (meaning_in name (named names xs)) (meaning_in name (named names ys))
          → cond t (Some b.meaning) (meaning_in name (named names (xs ++ ys))) ≡ option_or (cond t (Some b.meaning) (meaning_in name (named names xs))) (meaning_in name (named names ys))
      by true h = refl
      by false h = h

  -- a name means what it means among all bindings, whatever the scopes
  whole : (name : List ℕ) (names : List Name) (starts : List ℕ) (bs : List (Binding V)) → meaning_of name (scopes_of names starts bs) ≡ meaning_in name (named names (reverse bs))
  whole name names [] bs = or_none (meaning_in name (named names (reverse bs)))
  whole name names (s ∷ ss) bs =
      ap (option_or (meaning_in name (named names (reverse (drop s bs))))) (whole name names ss (take s bs))
      ∙ sym (ap (λ (xs : List (Binding V)). meaning_in name (named names xs)) (parts bs s) ∙ split name names (reverse (drop s bs)) (reverse (take s bs)))

  inner : (names : List Name) (starts : List ℕ) (bs : List (Binding V)) → innermost (scopes_of names starts bs) ≡ named names (reverse (drop (innermost_start starts) bs))
  inner names [] bs = refl
  inner names (s ∷ ss) bs = refl

  -- no binding has a name without number
  nowhere : (name : List ℕ) (names : List Name) (bs : List (Binding V)) → AllByRecursion (IsNumbered names) bs → index_of name names ≡ None → meaning_in name (named names bs) ≡ None
  nowhere name names [] h e = refl
  nowhere name names (b ∷ bs) h e = ap (λ t. cond t (Some b.meaning) (meaning_in name (named names bs))) (other_name name names b h.0 e) ∙ nowhere name names bs h.1 e

  at_prefix : (b : Binding V) (bs : List (Binding V)) (p : ℕ) → p < length bs → meaning_at (reverse (b ∷ bs)) p ≡ meaning_at (reverse bs) p
  at_prefix b bs p lt =
      ap (λ (xs : List (Binding V)). meaning_at xs p) (reverse-append (b ∷ []) bs)
      ∙ ap (option_map (λ (b : Binding V). b.meaning)) (read_prefix (reverse bs) (b ∷ []) p (let l = length-reverse bs in omega arith))

  at_last : (b : Binding V) (bs : List (Binding V)) → meaning_at (reverse (b ∷ bs)) (length bs) ≡ Some b.meaning
  at_last b bs =
      ap (λ (xs : List (Binding V)). meaning_at xs (length bs)) (reverse-append (b ∷ []) bs)
      ∙ ap (option_map (λ (b : Binding V). b.meaning)) (read_last (reverse bs) b (length bs) (sym (length-reverse bs)))

  below : (n : ℕ) (bs : List (Binding V)) (limit : ℕ) (f : ℕ → Option V) → length bs ≤ limit → None ≡ option_and_then (λ p. cond (ltb p limit) None (f p)) (newest n bs)
  below n bs limit f le = by (newest n bs) refl
    where
      by : (o : Option ℕ) → newest n bs ≡ o → None ≡ option_and_then (λ p. cond (ltb p limit) None (f p)) o
      by None e = refl
      by (Some p) e = let lt : p < length bs = newest_within n bs p e in sym (ap (λ t. cond t None (f p)) (lt-ltb p limit (omega arith)))

  further : (n : ℕ) (b : Binding V) (bs : List (Binding V)) (limit : ℕ) → option_and_then (meaning_from limit (reverse bs)) (newest n bs) ≡ option_and_then (meaning_from limit (reverse (b ∷ bs))) (newest n bs)
  further n b bs limit = by (newest n bs) refl
    where
      by : (o : Option ℕ) → newest n bs ≡ o → option_and_then (meaning_from limit (reverse bs)) o ≡ option_and_then (meaning_from limit (reverse (b ∷ bs))) o
      by None e = refl
      by (Some p) e = ap (λ m. cond (ltb p limit) None m) (sym (at_prefix b bs p (newest_within n bs p e)))

  -- the newest binding of a name says what it means in the newest part of the bindings, where it is in that part
  newest_means : (name : List ℕ) (names : List Name) (n limit : ℕ) (xs ys : List (Binding V)) → AllByRecursion (IsNumbered names) xs → index_of name names ≡ Some n → length ys ≡ limit
      → meaning_in name (named names xs) ≡ option_and_then (meaning_from limit (reverse (xs ++ ys))) (newest n (xs ++ ys))
  newest_means name names n limit [] ys h e size = below n ys limit (meaning_at (reverse ys)) (omega arith)
  newest_means name names n limit (b ∷ xs) ys h e size =
      let test : same_name name (text_at names b.name) ≡ eqb n b.name = same_number name names n b h.0 e in
      ap (λ t. cond t (Some b.meaning) (meaning_in name (named names xs))) test
      ∙ by (newest_means name names n limit xs ys h.1 e size) (eqb n b.name)
    where
      by : meaning_in name (named names xs) ≡ option_and_then (meaning_from limit (reverse (xs ++ ys))) (newest n (xs ++ ys)) → (t : Bool)
          → cond t (Some b.meaning) (meaning_in name (named names xs)) ≡ option_and_then (meaning_from limit (reverse (b ∷ (xs ++ ys)))) (cond t (Some (length (xs ++ ys))) (newest n (xs ++ ys)))
      by later true =
          let l = length-append xs ys in
          sym (ap (λ t. cond t None (meaning_at (reverse (b ∷ (xs ++ ys))) (length (xs ++ ys)))) (le-ltb (length (xs ++ ys)) limit (omega arith)) ∙ at_last b (xs ++ ys))
      by later false = later ∙ further n b (xs ++ ys) limit

  -- the place that a name has is that of its newest binding
  place_is_newest : (name : List ℕ) (names : List Name) (places : List (Option ℕ)) (bs : List (Binding V)) (n : ℕ) → length names ≤ length places → Ties places bs → index_of name names ≡ Some n → place_in places n ≡ newest n bs
  place_is_newest name names places bs n room ties e =
      let within : n < length names = index_within name names n e in
      ap (λ (o : Option (Option ℕ)). unwrap_or o None) (ties.newest_of n (omega arith))

  from_zero : (bs : List (Binding V)) (o : Option ℕ) → option_and_then (meaning_from 0 bs) o ≡ option_and_then (meaning_at bs) o
  from_zero bs None = refl
  from_zero bs (Some p) = ap (λ t. cond t None (meaning_at bs p)) (le-ltb p 0 (omega arith))

  -- what a name means
  pub meaning : (name : List ℕ) (names : List Name) (places : List (Option ℕ)) (starts : List ℕ) (bs : List (Binding V)) → AreKept names places starts bs
      → meaning_of name (scopes_of names starts bs) ≡ option_and_then (meaning_at bs) (option_and_then (place_in places) (index_of name names))
  meaning name names places starts bs kept = whole name names starts bs ∙ by (index_of name names) refl
    where
      by : (o : Option ℕ) → index_of name names ≡ o → meaning_in name (named names (reverse bs)) ≡ option_and_then (meaning_at bs) (option_and_then (place_in places) o)
      by None e = nowhere name names (reverse bs) kept.numbered e
      by (Some n) e =
          newest_means name names n 0 (reverse bs) [] kept.numbered e refl
          ∙ (ap (λ (zs : List (Binding V)). option_and_then (meaning_from 0 (reverse zs)) (newest n zs)) (append-nil (reverse bs))
          ∙ (ap (λ (zs : List (Binding V)). option_and_then (meaning_from 0 zs) (newest n (reverse bs))) (reverse-reverse bs)
          ∙ (from_zero bs (newest n (reverse bs))
          ∙ ap (option_and_then (meaning_at bs)) (sym (place_is_newest name names places (reverse bs) n kept.room kept.ties e)))))

  -- what a name means in the innermost scope
  pub meaning_here : (name : List ℕ) (names : List Name) (places : List (Option ℕ)) (starts : List ℕ) (bs : List (Binding V)) → AreKept names places starts bs
      → meaning_in name (innermost (scopes_of names starts bs)) ≡ option_and_then (meaning_from (innermost_start starts) bs) (option_and_then (place_in places) (index_of name names))
  meaning_here name names places starts bs kept = ap (meaning_in name) (inner names starts bs) ∙ by (innermost_start starts) (start_within starts (length bs) kept.in_order) (index_of name names) refl
    where
      by : (s : ℕ) → s ≤ length bs → (o : Option ℕ) → index_of name names ≡ o → meaning_in name (named names (reverse (drop s bs))) ≡ option_and_then (meaning_from s bs) (option_and_then (place_in places) o)
      by s le None e =
          let numbered : AllByRecursion (IsNumbered names) (reverse (drop s bs) ++ reverse (take s bs)) = subst (AllByRecursion (IsNumbered names)) (parts bs s) kept.numbered in
          nowhere name names (reverse (drop s bs)) (all_left (IsNumbered names) (reverse (drop s bs)) (reverse (take s bs)) numbered) e
      by s le (Some n) e =
          let numbered : AllByRecursion (IsNumbered names) (reverse (drop s bs) ++ reverse (take s bs)) = subst (AllByRecursion (IsNumbered names)) (parts bs s) kept.numbered in
          let size : length (reverse (take s bs)) ≡ s = length-reverse (take s bs) ∙ length-take-le s bs le in
          newest_means name names n s (reverse (drop s bs)) (reverse (take s bs)) (all_left (IsNumbered names) (reverse (drop s bs)) (reverse (take s bs)) numbered) e size
          ∙ (ap (λ (zs : List (Binding V)). option_and_then (meaning_from s (reverse zs)) (newest n zs)) (sym (parts bs s))
          ∙ (ap (λ (zs : List (Binding V)). option_and_then (meaning_from s zs) (newest n (reverse bs))) (reverse-reverse bs)
          ∙ ap (option_and_then (meaning_from s bs)) (sym (place_is_newest name names places (reverse bs) n kept.room kept.ties e))))

  -- the same, where a place was looked up
  pub found_is : (name : List ℕ) (names : List Name) (places slots : List (Option ℕ)) (starts : List ℕ) (bs : List (Binding V)) (now : List (Scope V)) (place : Option ℕ) → AreKept names places starts bs
      → scopes_of names starts bs ≡ now → slots ≡ places → place ≡ option_and_then (place_in slots) (index_of name names) → meaning_of name now ≡ option_and_then (meaning_at bs) place
  found_is name names places slots starts bs now place kept view same look =
      ap (meaning_of name) (sym view)
      ∙ (meaning name names places starts bs kept
      ∙ ap (option_and_then (meaning_at bs)) (sym (look ∙ ap (λ ps. option_and_then (place_in ps) (index_of name names)) same)))

  pub found_here_is : (name : List ℕ) (names : List Name) (places slots : List (Option ℕ)) (starts : List ℕ) (bs : List (Binding V)) (now : List (Scope V)) (place : Option ℕ) → AreKept names places starts bs
      → scopes_of names starts bs ≡ now → slots ≡ places → place ≡ option_and_then (place_in slots) (index_of name names)
      → meaning_in name (innermost now) ≡ option_and_then (meaning_from (innermost_start starts) bs) place
  found_here_is name names places slots starts bs now place kept view same look =
      ap (λ (s : List (Scope V)). meaning_in name (innermost s)) (sym view)
      ∙ (meaning_here name names places starts bs kept
      ∙ ap (option_and_then (meaning_from (innermost_start starts) bs)) (sym (look ∙ ap (λ ps. option_and_then (place_in ps) (index_of name names)) same)))

  -- what is read at a place
  pub nothing_at : (bs read : List (Binding V)) (p : ℕ) → read ≡ bs → false ≡ ltb p (length read) → meaning_at bs p ≡ None
  nothing_at bs read p same past =
      let le : length read ≤ p = ltb-false p (length read) (sym past) in
      ap (λ (xs : List (Binding V)). meaning_at xs p) (sym same) ∙ ap (option_map (λ (b : Binding V). b.meaning)) (slice_get_past read p le)

  pub something_at : (bs read : List (Binding V)) (p : ℕ) (b : Binding V) → read ≡ bs → true ≡ ltb p (length read) → b ≡ get_or read p b → meaning_at bs p ≡ Some b.meaning
  something_at bs read p b same within is =
      let lt : p < length read = ltb-true p (length read) (sym within) in
      ap (λ (xs : List (Binding V)). meaning_at xs p) (sym same) ∙ ap (option_map (λ (b : Binding V). b.meaning)) (slice_get_read read (length read) p b refl lt is)

  pub from_below : (start p : ℕ) (bs : List (Binding V)) → p < start → meaning_from start bs p ≡ None
  from_below start p bs lt = ap (λ t. cond t None (meaning_at bs p)) (lt-ltb p start lt)

  pub from_above : (start p : ℕ) (bs : List (Binding V)) → start ≤ p → meaning_from start bs p ≡ meaning_at bs p
  from_above start p bs le = ap (λ t. cond t None (meaning_at bs p)) (le-ltb p start le)
