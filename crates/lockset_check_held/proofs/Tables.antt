-- Mutexes that are known, and the sets that rows stand for.
use Rattle.std.proofs.Common.{◌≡◌, ℕ, ℤ, zero, suc, ◌+◌, ◌<◌, ◌≤◌, Bool, true, false, cond, not, ◌&&◌, ◌||◌, List, [], ◌∷◌, ◌++◌, length, length-append, Option, Some, None, nat_lt, refl, sym, ap, subst, ◌∙◌, arith}
use Rattle.std.specs.Prelude.{get_or, nat_eq, slice_get}
use Rattle.std.specs.List.{list_any, position_or_len}
use Rattle.std.specs.Ordering.{int_eq}
use Rattle.std.specs.Option.{option_map}
use Rattle.std.proofs.lemmas.Bool.{eq-eqb, le-ltb, lt-ltb, ltb-false, ltb-true, ne_eqb}
use Rattle.std.proofs.lemmas.Cmp.{int_eq_equiv}
use Rattle.std.proofs.lemmas.List.Folds.{list_any-append, list_any_at}
use Rattle.std.proofs.lemmas.List.Quantifiers.{position-Some}
use Rattle.std.proofs.lemmas.Option.{get_or_from_slice_get, slice_get_within}
use Rattle.indexmap.specs.IndexSet.{insert_key}
use Rattle.lockset_check_rules.specs.Mutexes.{Locks, is_held, locks_of, with_lock, without_lock}
use Rattle.lockset_check_held.specs.Ascending.{Ascends}
use Rattle.lockset_check_held.specs.Rows.{AreWithin, IsTable, IsWithin, Learns, is_on, picked, place_in, row_at, set_by, set_of, sets_of, word_of}
use Rattle.lockset_check_held.specs.Changes.{one_of, turned}
use Rattle.lockset_check_held.proofs.Bits.{no_bit}
use Rattle.lockset_check_held.proofs.Changes.{turned_within}
use Rattle.lockset_check_held.proofs.Members.{given_again, held_with, held_without, is_itself, same_members, same_number, taken_again}
use Rattle.lockset_check_held.proofs.Places.{nothing_ascends, with_ascends, without_ascends}
use Rattle.lockset_check_held.proofs.Starts.{held_with_locks, with_locks_ascends}

-- whether a place that was found passes a test
abbrev on_at : (ℕ → Bool) → Option ℕ → Bool
on_at test None = false
on_at test (Some p) = test p

on_next : (test : ℕ → Bool) (o : Option ℕ) → on_at test (option_map suc o) ≡ on_at (λ p. test (suc p)) o
on_next test None = refl
on_next test (Some p) = refl

same_place : (p q : ℕ) → Some p ≡ Some q → p ≡ q
same_place p q e = cc

swapped : (m k : ℤ) → int_eq m k ≡ int_eq k m
swapped m k = int_eq_equiv.symm m k

-- ---- places

-- the place of a mutex, by what is known first
next_place : (m k : ℤ) (ks : List ℤ) → place_in m (k ∷ ks) ≡ cond (int_eq k m) (Some 0) (option_map suc (place_in m ks))
unfolding place_in
next_place m k ks = by (int_eq m k) refl ∙ ap (λ (b : Bool). cond b (Some 0) (option_map suc (place_in m ks))) (swapped m k)
  where
    at : ℕ → ℕ → Option ℕ
    at a n = cond (nat_lt a n) (Some a) None

    first : (n : ℕ) → at 0 (suc n) ≡ Some 0
    first n = ap (λ (b : Bool). cond b (Some 0) None) (lt-ltb 0 (suc n) (omega arith))

    later : (a n : ℕ) (b : Bool) → nat_lt a n ≡ b → at (suc a) (suc n) ≡ option_map suc (at a n)
    later a n true e =
        let lt = ltb-true a n e in
        ap (λ (b : Bool). cond b (Some (suc a)) None) (lt-ltb (suc a) (suc n) (omega (arith, lt)))
        ∙ sym (ap (λ (b : Bool). option_map suc (cond b (Some a) None)) e)
    later a n false e =
        let le = ltb-false a n e in
        ap (λ (b : Bool). cond b (Some (suc a)) None) (le-ltb (suc a) (suc n) (omega (arith, le)))
        ∙ sym (ap (λ (b : Bool). option_map suc (cond b (Some a) None)) e)

    long : length (k ∷ ks) ≡ suc (length ks)
    long = omega arith

    by : (b : Bool) → int_eq m k ≡ b → place_in m (k ∷ ks) ≡ cond (int_eq m k) (Some 0) (option_map suc (place_in m ks))
    by true e =
        ap (λ (b : Bool). at (cond (not b) (1 + position_or_len (int_eq m) ks) 0) (length (k ∷ ks))) e
        ∙ (ap (at 0) long
        ∙ (first (length ks)
        ∙ sym (ap (λ (b : Bool). cond b (Some 0) (option_map suc (place_in m ks))) e)))
    by false e =
        let a = position_or_len (int_eq m) ks in
        let n = length ks in
        let one : 1 + a ≡ suc a = omega arith in
        ap (λ (b : Bool). at (cond (not b) (1 + position_or_len (int_eq m) ks) 0) (length (k ∷ ks))) e
        ∙ ((λ j. at (one j) (long j))
        ∙ (later a n (nat_lt a n) refl
        ∙ sym (ap (λ (b : Bool). cond b (Some 0) (option_map suc (place_in m ks))) e)))

pub bounded : (known : List ℤ) (m : ℤ) (p : ℕ) → place_in m known ≡ Some p → p < length known
unfolding place_in
bounded known m p e = (position-Some (int_eq m) known p m e).0

at_place : (known : List ℤ) (m d : ℤ) (p : ℕ) → place_in m known ≡ Some p → m ≡ get_or known p d
unfolding place_in
at_place known m d p e = same_number m (get_or known p d) (position-Some (int_eq m) known p d e).1

own : (known : List ℤ) (m n : ℤ) (p : ℕ) → place_in m known ≡ Some p → place_in n known ≡ Some p → m ≡ n
own known m n p e f = at_place known m m p e ∙ sym (at_place known n m p f)

found_held : (known : List ℤ) (m : ℤ) (p : ℕ) → place_in m known ≡ Some p → is_held m known ≡ true
found_held known m p e = list_any_at (λ n. int_eq n m) known p m (bounded known m p e)
    (ap (λ n. int_eq n m) (sym (at_place known m m p e)) ∙ is_itself m)

pub used : (known : List ℤ) → IsTable known → (p : ℕ) → p < length known → (m : ℤ) × (place_in m known ≡ Some p)
used [] t p lt = absurd (omega arith)
used (k ∷ ks) t zero lt = (k, next_place k k ks ∙ ap (λ (b : Bool). cond b (Some 0) (option_map suc (place_in k ks))) (is_itself k))
used (k ∷ ks) t (suc p) lt =
    let u = used ks t.1 p (omega arith) in
    (u.0, next_place u.0 k ks ∙ (ap (λ (b : Bool). cond b (Some 0) (option_map suc (place_in u.0 ks))) (differs u.0 u.1 (int_eq k u.0) refl) ∙ ap (option_map suc) u.1))
  where
    differs : (m : ℤ) → place_in m ks ≡ Some p → (b : Bool) → int_eq k m ≡ b → int_eq k m ≡ false
    differs m e false f = f
    differs m e true f = absurd (let no : true ≡ false = sym (found_held ks m p e) ∙ (ap (λ n. is_held n ks) (sym (same_number k m f)) ∙ t.0) in cc)

-- ---- what a row has

not_picked : (m : ℤ) (known : List ℤ) (test : ℕ → Bool) → is_held m known ≡ false → is_held m (picked known test) ≡ false
not_picked m [] test h = refl
not_picked m (k ∷ ks) test h = by (λ e. not_picked m ks (λ p. test (suc p)) e) (int_eq k m) refl (test 0)
  where
    rest : List ℤ
    rest = picked ks (λ p. test (suc p))

    by : (is_held m ks ≡ false → is_held m rest ≡ false) → (a : Bool) → int_eq k m ≡ a → (b : Bool) → is_held m (cond b (k ∷ rest) rest) ≡ false
    by others true e b = absurd (let no : true ≡ false = sym (ap (λ (c : Bool). c || is_held m ks) e) ∙ h in cc)
    by others false e true =
        ap (λ (c : Bool). c || is_held m rest) e
        ∙ others (sym (ap (λ (c : Bool). c || is_held m ks) e) ∙ h)
    by others false e false = others (sym (ap (λ (c : Bool). c || is_held m ks) e) ∙ h)

held_picked : (m : ℤ) (known : List ℤ) (test : ℕ → Bool) → IsTable known → is_held m (picked known test) ≡ on_at test (place_in m known)
unfolding place_in
held_picked m [] test t = refl
held_picked m (k ∷ ks) test t = by (held_picked m ks (λ p. test (suc p)) t.1) (int_eq k m) refl (test 0) refl
  where
    rest : List ℤ
    rest = picked ks (λ p. test (suc p))

    here : (b : Bool) → test 0 ≡ b → is_held m (picked (k ∷ ks) test) ≡ is_held m (cond b (k ∷ rest) rest)
    here b e = ap (λ (c : Bool). is_held m (cond c (k ∷ rest) rest)) e

    there : (a : Bool) → int_eq k m ≡ a → on_at test (place_in m (k ∷ ks)) ≡ on_at test (cond a (Some 0) (option_map suc (place_in m ks)))
    there a e = ap (on_at test) (next_place m k ks ∙ ap (λ (c : Bool). cond c (Some 0) (option_map suc (place_in m ks))) e)

    by : is_held m rest ≡ on_at (λ p. test (suc p)) (place_in m ks)
        → (a : Bool) → int_eq k m ≡ a → (b : Bool) → test 0 ≡ b → is_held m (picked (k ∷ ks) test) ≡ on_at test (place_in m (k ∷ ks))
    by h true e true f = here true f ∙ (ap (λ (c : Bool). c || is_held m rest) e ∙ (sym f ∙ sym (there true e)))
    by h true e false f =
        let none : is_held m rest ≡ false = subst (λ (n : ℤ). is_held n rest ≡ false) (same_number k m e) (not_picked k ks (λ p. test (suc p)) t.0) in
        here false f ∙ (none ∙ (sym f ∙ sym (there true e)))
    by h false e true f =
        here true f
        ∙ (ap (λ (c : Bool). c || is_held m rest) e ∙ (h ∙ (sym (on_next test (place_in m ks)) ∙ sym (there false e))))
    by h false e false f = here false f ∙ (h ∙ (sym (on_next test (place_in m ks)) ∙ sym (there false e)))

or_none : (b : Bool) → (b || false) ≡ b
or_none true = refl
or_none false = refl

held_set : (m : ℤ) (known : List ℤ) (test : ℕ → Bool) → IsTable known → is_held m (set_by known test) ≡ on_at test (place_in m known)
held_set m known test t =
    let ks = picked known test in
    held_with_locks m ks [] ∙ (or_none (is_held m ks) ∙ held_picked m known test t)

pub set_ascends : (known : List ℤ) (test : ℕ → Bool) → Ascends (set_by known test)
set_ascends known test = with_locks_ascends (picked known test) [] nothing_ascends

pub held_some : (m : ℤ) (known : List ℤ) (test : ℕ → Bool) (p : ℕ) → IsTable known → place_in m known ≡ Some p → test p ≡ is_held m (set_by known test)
held_some m known test p t e = sym (held_set m known test t ∙ ap (on_at test) e)

pub held_none : (m : ℤ) (known : List ℤ) (test : ℕ → Bool) → IsTable known → place_in m known ≡ None → false ≡ is_held m (set_by known test)
held_none m known test t e = sym (held_set m known test t ∙ ap (on_at test) e)

-- the same of a row
pub held_on : (m : ℤ) (known : List ℤ) (row : List ℕ) (p : ℕ) → IsTable known → place_in m known ≡ Some p → is_on row p ≡ is_held m (set_of known row)
held_on m known row p t e = held_some m known (is_on row) p t e

pub held_off : (m : ℤ) (known : List ℤ) (row : List ℕ) → IsTable known → place_in m known ≡ None → false ≡ is_held m (set_of known row)
held_off m known row t e = held_none m known (is_on row) t e

pub no_table : IsTable []
no_table = tt

pub nothing_on : (p : ℕ) → is_on [] p ≡ false
nothing_on p = no_bit (word_of []) p refl

pub nothing_within : (count : ℕ) → IsWithin count (is_on [])
nothing_within count p le = nothing_on p

none_picked : (known : List ℤ) (test : ℕ → Bool) → ((p : ℕ) → test p ≡ false) → picked known test ≡ []
none_picked [] test off = refl
none_picked (k ∷ ks) test off =
    let rest = picked ks (λ p. test (suc p)) in
    ap (λ (b : Bool). cond b (k ∷ rest) rest) (off 0) ∙ none_picked ks (λ p. test (suc p)) (λ p. off (suc p))

pub no_places : (known : List ℤ) → set_of known [] ≡ []
no_places known = ap locks_of (none_picked known (is_on []) nothing_on)

-- ---- one that is known from now on

more_picked : (known : List ℤ) (m : ℤ) (test : ℕ → Bool) → test (length known) ≡ false → picked (known ++ m ∷ []) test ≡ picked known test
more_picked [] m test off = ap (λ (b : Bool). cond b (m ∷ []) []) off
more_picked (k ∷ ks) m test off = ap (λ (l : List ℤ). cond (test 0) (k ∷ l) l) (more_picked ks m (λ p. test (suc p)) off)

pub any_turned : (m : ℤ) (ks : List ℤ) → list_any (int_eq m) ks ≡ is_held m ks
any_turned m [] = refl
any_turned m (k ∷ ks) = λ j. swapped m k j || any_turned m ks j

left_off : (a b : Bool) → (a || b) ≡ false → a ≡ false
left_off true b h = h
left_off false b h = refl

right_off : (a b : Bool) → (a || b) ≡ false → b ≡ false
right_off true b h = absurd cc
right_off false b h = h

table_more : (known : List ℤ) (m : ℤ) → IsTable known → is_held m known ≡ false → IsTable (known ++ m ∷ [])
table_more [] m t h = (refl, tt)
table_more (k ∷ ks) m t h = (
  list_any-append (λ n. int_eq n k) ks (m ∷ [])
      ∙ (λ j. t.0 j || ((swapped m k ∙ left_off (int_eq k m) (is_held m ks) h) j || false)),
  table_more ks m t.1 (right_off (int_eq k m) (is_held m ks) h),
)

learned : (known : List ℤ) (m : ℤ) → Learns known (known ++ m ∷ [])
learned known m = (
  let long = length-append known (m ∷ []) in omega (arith, long),
  λ test within. ap locks_of (more_picked known m test (within (length known) (omega arith))),
)

pub learns_nothing : (known : List ℤ) → Learns known known
learns_nothing known = (omega arith, λ test within. refl)

pub learns_more : (old new last : List ℤ) → Learns old new → Learns new last → Learns old last
learns_more old new last l m = (
  let first = l.0 in let second = m.0 in omega arith,
  λ test within. m.1 test (λ p le. let first = l.0 in within p (omega arith)) ∙ l.1 test within,
)

-- what is known after a mutex was put in
module _ (known : List ℤ) (m : ℤ) where
  pub table_put : IsTable known → IsTable (insert_key int_eq known m)
  table_put t = by (list_any (int_eq m) known) refl
    where
      by : (b : Bool) → list_any (int_eq m) known ≡ b → IsTable (insert_key int_eq known m)
      by true e = subst IsTable (sym (ap (λ (b : Bool). cond b known (known ++ m ∷ [])) e)) t
      by false e = subst IsTable (sym (ap (λ (b : Bool). cond b known (known ++ m ∷ [])) e)) (table_more known m t (sym (any_turned m known) ∙ e))

  pub learned_put : Learns known (insert_key int_eq known m)
  learned_put = by (list_any (int_eq m) known) refl
    where
      by : (b : Bool) → list_any (int_eq m) known ≡ b → Learns known (insert_key int_eq known m)
      by true e = subst (Learns known) (sym (ap (λ (b : Bool). cond b known (known ++ m ∷ [])) e)) (learns_nothing known)
      by false e = subst (Learns known) (sym (ap (λ (b : Bool). cond b known (known ++ m ∷ [])) e)) (learned known m)

pub past_rows : (rows : List (List ℕ)) (p : ℕ) → length rows ≤ p → row_at rows p ≡ []
past_rows [] zero le = refl
past_rows [] (suc p) le = refl
past_rows (r ∷ rs) zero le = absurd (omega arith)
past_rows (r ∷ rs) (suc p) le = past_rows rs p (omega arith)

pub placed : (known : List ℤ) (m k : ℤ) (p : ℕ) → IsTable known → slice_get known p ≡ Some k → int_eq m k ≡ true → place_in m known ≡ Some p
placed known m k p t e same =
    let u = used known t p (slice_get_within known p k e) in
    let is : u.0 ≡ m = at_place known u.0 k p u.1 ∙ (get_or_from_slice_get known p k k e ∙ sym (same_number m k same)) in
    subst (λ (n : ℤ). place_in n known ≡ Some p) is u.1

-- ---- places that turn

swapped_is : (m k : ℤ) (c : Bool) → int_eq m k ≡ c → int_eq k m ≡ c
swapped_is m k c e = swapped k m ∙ e

module _ (known : List ℤ) (t : IsTable known) where
  -- places stand for a set where they agree on each mutex
  pub stands : (test : ℕ → Bool) (s : Locks) → Ascends s → ((m : ℤ) → on_at test (place_in m known) ≡ is_held m s) → set_by known test ≡ s
  stands test s up h = same_members (set_by known test) s (set_ascends known test) up (λ m. held_set m known test t ∙ h m)

  module _ (m : ℤ) (p : ℕ) (test : ℕ → Bool) (e : place_in m known ≡ Some p) where
    -- whether a mutex is held once the place of one has turned
    held_turned : (n : ℤ) → on_at (turned (nat_eq p) test) (place_in n known) ≡ one_of (int_eq m n) (is_held n (set_by known test))
    held_turned n = by (place_in n known) refl (int_eq m n) refl
      where
        held : (o : Option ℕ) → place_in n known ≡ o → is_held n (set_by known test) ≡ on_at test o
        held o g = held_set n known test t ∙ ap (on_at test) g

        by : (o : Option ℕ) → place_in n known ≡ o → (b : Bool) → int_eq m n ≡ b
            → on_at (turned (nat_eq p) test) (place_in n known) ≡ one_of (int_eq m n) (is_held n (set_by known test))
        by None g true f = absurd (let no : Some p ≡ None = sym e ∙ (ap (λ k. place_in k known) (same_number m n f) ∙ g) in cc)
        by None g false f = ap (on_at (turned (nat_eq p) test)) g ∙ sym (λ j. one_of (f j) (held None g j))
        by (Some q) g true f =
            let here : p ≡ q = same_place p q (sym e ∙ (ap (λ k. place_in k known) (same_number m n f) ∙ g)) in
            ap (on_at (turned (nat_eq p) test)) g
            ∙ (ap (λ (b : Bool). one_of b (test q)) (eq-eqb p q here)
            ∙ sym (λ j. one_of (f j) (held (Some q) g j)))
        by (Some q) g false f =
            ap (on_at (turned (nat_eq p) test)) g
            ∙ (ap (λ (b : Bool). one_of b (test q)) (ne_eqb p q (λ here. absurd (let no : true ≡ false = sym (ap (λ k. int_eq m k) (own known n m q g (e ∙ ap (λ (i : ℕ). Some i) here)) ∙ is_itself m) ∙ f in cc)))
            ∙ sym (λ j. one_of (f j) (held (Some q) g j)))

    pub added : test p ≡ false → set_by known (turned (nat_eq p) test) ≡ with_lock m (set_by known test)
    added off = stands (turned (nat_eq p) test) (with_lock m s) (with_ascends m s (set_ascends known test))
        (λ n. held_turned n ∙ (by n (int_eq m n) refl ∙ sym (held_with m n s)))
      where
        s : Locks
        s = set_by known test

        by : (n : ℤ) (b : Bool) → int_eq m n ≡ b → one_of (int_eq m n) (is_held n s) ≡ (int_eq m n || is_held n s)
        by n true f =
            let none : is_held n s ≡ false = ap (λ k. is_held k s) (sym (same_number m n f)) ∙ (sym (held_some m known test p t e) ∙ off) in
            (λ j. one_of (f j) (none j)) ∙ sym (ap (λ (b : Bool). b || is_held n s) f)
        by n false f = ap (λ (b : Bool). one_of b (is_held n s)) f ∙ sym (ap (λ (b : Bool). b || is_held n s) f)

    pub removed : test p ≡ true → set_by known (turned (nat_eq p) test) ≡ without_lock m (set_by known test)
    removed on = stands (turned (nat_eq p) test) (without_lock m s) (without_ascends m s (without_lock m s) (set_ascends known test) refl)
        (λ n. held_turned n ∙ (by n (int_eq m n) refl ∙ sym (held_without m n s)))
      where
        s : Locks
        s = set_by known test

        by : (n : ℤ) (b : Bool) → int_eq m n ≡ b → one_of (int_eq m n) (is_held n s) ≡ (not (int_eq n m) && is_held n s)
        by n true f =
            let one : is_held n s ≡ true = ap (λ k. is_held k s) (sym (same_number m n f)) ∙ (sym (held_some m known test p t e) ∙ on) in
            (λ j. one_of (f j) (one j)) ∙ sym (ap (λ (b : Bool). not b && is_held n s) (swapped_is m n true f))
        by n false f = ap (λ (b : Bool). one_of b (is_held n s)) f ∙ sym (ap (λ (b : Bool). not b && is_held n s) (swapped_is m n false f))

    pub not_added : test p ≡ true → set_by known test ≡ with_lock m (set_by known test)
    not_added on = sym (taken_again m (set_by known test) (set_ascends known test) (sym (held_some m known test p t e) ∙ on))

    pub not_held : test p ≡ false → set_by known test ≡ without_lock m (set_by known test)
    not_held off = sym (given_again m (set_by known test) (set_ascends known test) (sym (held_some m known test p t e) ∙ off))

  pub not_known : (m : ℤ) (test : ℕ → Bool) → place_in m known ≡ None → set_by known test ≡ without_lock m (set_by known test)
  not_known m test e = sym (given_again m (set_by known test) (set_ascends known test) (sym (held_none m known test t e)))

-- ---- places below a number

pub place_within : (count p : ℕ) → p < count → IsWithin count (nat_eq p)
place_within count p lt q le = ne_eqb p q (λ (e : p ≡ q). omega arith)

pub within_more : (old new : List ℤ) (test : ℕ → Bool) → Learns old new → IsWithin (length old) test → IsWithin (length new) test
within_more old new test h w q le = let long = h.0 in w q (omega arith)

pub all_within_more : (old new : List ℤ) (rows : List (List ℕ)) → Learns old new → AreWithin (length old) rows → AreWithin (length new) rows
all_within_more old new [] h w = tt
all_within_more old new (row ∷ rows) h w = (within_more old new (is_on row) h w.0, all_within_more old new rows h w.1)

pub sets_stay : (old new : List ℤ) (rows : List (List ℕ)) → Learns old new → AreWithin (length old) rows → sets_of new rows ≡ sets_of old rows
sets_stay old new [] h w = refl
sets_stay old new (row ∷ rows) h w = λ j. h.1 (is_on row) w.0 j ∷ sets_stay old new rows h w.1 j

-- ---- one mutex more in a row

module _ (old new : List ℤ) (t : IsTable new) (l : Learns old new) (m : ℤ) (p : ℕ) (e : place_in m new ≡ Some p) (row : List ℕ) (w : IsWithin (length old) (is_on row)) where
  pub added_here : (next : List ℕ) → is_on row p ≡ false → is_on next ≡ turned (nat_eq p) (is_on row) → set_of new next ≡ with_lock m (set_of old row)
  added_here next off h = ap (set_by new) h ∙ (added new t m p (is_on row) e off ∙ ap (with_lock m) (l.1 (is_on row) w))

  pub not_added_here : is_on row p ≡ true → set_of new row ≡ with_lock m (set_of old row)
  not_added_here on = not_added new t m p (is_on row) e on ∙ ap (with_lock m) (l.1 (is_on row) w)

  pub still_within : IsWithin (length new) (is_on row)
  still_within = within_more old new (is_on row) l w

  pub within_here : (next : List ℕ) → is_on next ≡ turned (nat_eq p) (is_on row) → IsWithin (length new) (is_on next)
  within_here next h = subst (IsWithin (length new)) (sym h) (turned_within (nat_eq p) (is_on row) (length new) (place_within (length new) p (bounded new m p e)) still_within)
