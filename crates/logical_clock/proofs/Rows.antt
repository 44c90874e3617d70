-- What is kept of keys by their numbers, and how it changes.
use Rattle.std.proofs.Common.{◌≡◌, ℕ, suc, zero, ◌+◌, ◌<◌, Bool, true, false, ◌||◌, not, cond, List, [], ◌∷◌, ◌++◌, length, take, get_or, Option, Some, None, refl, sym, ap, ◌∙◌, subst, arith}
use Rattle.std.specs.Prelude.{nat_lt, position, unwrap_or}
use Rattle.std.specs.List.{position_or_len}
use Rattle.std.specs.Option.{option_map}
use Rattle.std.specs.Map.{lookup, keys_of}
use Rattle.std.proofs.lemmas.Bool.Decides.{nat_tests}
use Rattle.std.proofs.lemmas.List.{take_more}
use Rattle.std.proofs.lemmas.Slice.Zip.{AllZip-long, all_zipped_more}
use Rattle.std.specs.BTreeMap.{is_at}
use Rattle.indexmap.specs.IndexMap.{insert_entry, set_value_at}
use Rattle.run_events.specs.declared.key.Key.{Key}
use Rattle.logical_clock.specs.declared.name.KeyName.{KeyName}
use Rattle.logical_clock.specs.declared.keys.Counted.{Counted}
use Rattle.logical_clock.specs.Events.{AreDistinct}
use Rattle.logical_clock.specs.Names.{name, key_cmp, same_name, is_named}
use Rattle.logical_clock.specs.Kept.{nothing, counted_at, number_at, row_at, HaveNumbers, one_more, after}
use Rattle.logical_clock.proofs.Places.{name_is, same_is, same_self, name_swaps, at_name, named_more, not_before}

-- a key's number is its place

pub number_is_place : (es : List (KeyName × Counted)) (q : KeyName) → position (same_name q) (keys_of es) ≡ number_at es q
number_is_place [] q = refl
number_is_place (e ∷ es) q = go (same_name q e.0) (position_or_len (same_name q) (keys_of es)) (length (keys_of es)) (number_at es q) (number_is_place es q)
  where
    go : (b : Bool) (n m : ℕ) (o : Option ℕ) → cond (nat_lt n m) (Some n) None ≡ o
        → cond (nat_lt (cond (not b) (1 + n) 0) (suc m)) (Some (cond (not b) (1 + n) 0)) None ≡ cond b (Some 0) (option_map suc o)
    go true n m o h = let first : nat_lt 0 (suc m) ≡ true = grind (arith, nat_tests) in ap (λ c. cond c (Some 0) None) first
    go false n m o h =
        let more : 1 + n ≡ suc n = omega arith in
        let same : nat_lt (1 + n) (suc m) ≡ nat_lt n m = grind (arith, nat_tests) in
        (λ i. cond (same i) (Some (more i)) None) ∙ into (nat_lt n m) n ∙ ap (option_map suc) h
      where
        into : (b : Bool) (n : ℕ) → cond b (Some (suc n)) None ≡ option_map suc (cond b (Some n) None)
        into true n = refl
        into false n = refl

suc_of : (o : Option ℕ) (n : ℕ) → option_map suc o ≡ Some n → (m : ℕ) × (o ≡ Some m) × (suc m ≡ n)
suc_of None n e = absurd cc
suc_of (Some m) n e = (m, refl, cc)

no_suc : (o : Option ℕ) → option_map suc o ≡ None → o ≡ None
no_suc None e = refl
no_suc (Some m) e = absurd cc

-- it has a row, which is its own
pub number_below : (es : List (KeyName × Counted)) (q : KeyName) (n : ℕ) → number_at es q ≡ Some n → n < length es
number_below [] q n is = absurd cc
number_below (e ∷ es) q n is = go (same_name q e.0) (λ m at. number_below es q m at) is
  where
    go : (b : Bool) → ((m : ℕ) → number_at es q ≡ Some m → m < length es) → cond b (Some 0) (option_map suc (number_at es q)) ≡ Some n → n < length (e ∷ es)
    go true rest is = let z : 0 ≡ n = cc in omega (arith, z)
    go false rest is = let p = suc_of (number_at es q) n is in let lt = rest p.0 p.1 in omega (arith, lt, p.2)

pub row_is : (es : List (KeyName × Counted)) (q : KeyName) (n : ℕ) → number_at es q ≡ Some n → row_at es n ≡ counted_at es q
row_is [] q n is = absurd cc
row_is (e ∷ es) q n is = go (same_name q e.0) (λ m at. row_is es q m at) is
  where
    go : (b : Bool) → ((m : ℕ) → number_at es q ≡ Some m → row_at es m ≡ counted_at es q) → cond b (Some 0) (option_map suc (number_at es q)) ≡ Some n → row_at (e ∷ es) n ≡ unwrap_or (cond b (Some e.1) (lookup (same_name q) es)) nothing
    go true rest is = let z : 0 ≡ n = cc in subst (λ m. row_at (e ∷ es) m ≡ e.1) z refl
    go false rest is = let p = suc_of (number_at es q) n is in subst (λ m. row_at (e ∷ es) m ≡ counted_at es q) p.2 (rest p.0 p.1)

-- a key more, which is last

pub appended : (es : List (KeyName × Counted)) (k : KeyName) (v : Counted) → number_at es k ≡ None → insert_entry same_name es k v ≡ es ++ (k, v) ∷ []
appended [] k v none = refl
appended (e ∷ es) k v none = go (same_name k e.0) (λ h. appended es k v h) none
  where
    go : (b : Bool) → (number_at es k ≡ None → insert_entry same_name es k v ≡ es ++ (k, v) ∷ []) → cond b (Some 0) (option_map suc (number_at es k)) ≡ None → cond b ((e.0, v) ∷ es) (e ∷ insert_entry same_name es k v) ≡ e ∷ (es ++ (k, v) ∷ [])
    go true rest none = absurd cc
    go false rest none = ap (λ l. e ∷ l) (rest (no_suc (number_at es k) none))

pub next_number : (es : List (KeyName × Counted)) (k : KeyName) (v : Counted) → number_at es k ≡ None → number_at (es ++ (k, v) ∷ []) k ≡ Some (length es)
next_number [] k v none = ap (λ b. cond b (Some 0) None) (same_self k)
next_number (e ∷ es) k v none = go (same_name k e.0) (λ h. next_number es k v h) none
  where
    go : (b : Bool) → (number_at es k ≡ None → number_at (es ++ (k, v) ∷ []) k ≡ Some (length es)) → cond b (Some 0) (option_map suc (number_at es k)) ≡ None → cond b (Some 0) (option_map suc (number_at (es ++ (k, v) ∷ []) k)) ≡ Some (suc (length es))
    go true rest none = absurd cc
    go false rest none = ap (option_map suc) (rest (no_suc (number_at es k) none))

pub next_keeps : (es : List (KeyName × Counted)) (e : KeyName × Counted) (q : KeyName) (n : ℕ) → number_at es q ≡ Some n → number_at (es ++ e ∷ []) q ≡ Some n
next_keeps [] e q n is = absurd cc
next_keeps (d ∷ es) e q n is = go (same_name q d.0) (λ m at. next_keeps es e q m at) is
  where
    go : (b : Bool) → ((m : ℕ) → number_at es q ≡ Some m → number_at (es ++ e ∷ []) q ≡ Some m) → cond b (Some 0) (option_map suc (number_at es q)) ≡ Some n → cond b (Some 0) (option_map suc (number_at (es ++ e ∷ []) q)) ≡ Some n
    go true rest is = is
    go false rest is = let p = suc_of (number_at es q) n is in ap (option_map suc) (rest p.0 p.1) ∙ ap (λ m. Some m) p.2

pub next_same : (es : List (KeyName × Counted)) (k q : KeyName) → counted_at (es ++ (k, nothing) ∷ []) q ≡ counted_at es q
next_same [] k q = go (same_name q k)
  where
    go : (b : Bool) → unwrap_or (cond b (Some nothing) None) nothing ≡ nothing
    go true = refl
    go false = refl
next_same (e ∷ es) k q = go (same_name q e.0) (next_same es k q)
  where
    go : (b : Bool) → counted_at (es ++ (k, nothing) ∷ []) q ≡ counted_at es q → unwrap_or (cond b (Some e.1) (lookup (same_name q) (es ++ (k, nothing) ∷ []))) nothing ≡ unwrap_or (cond b (Some e.1) (lookup (same_name q) es)) nothing
    go true rest = refl
    go false rest = rest

-- a row that is written

pub numbers_stay : (es : List (KeyName × Counted)) (n : ℕ) (v : Counted) (q : KeyName) → number_at (set_value_at es n v) q ≡ number_at es q
numbers_stay [] n v q = refl
numbers_stay (e ∷ es) zero v q = refl
numbers_stay (e ∷ es) (suc n) v q = ap (λ o. cond (same_name q e.0) (Some 0) (option_map suc o)) (numbers_stay es n v q)

-- the first row
first_written : (e : KeyName × Counted) (es : List (KeyName × Counted)) (v : Counted) (q : KeyName) (a b : Bool) → a ≡ b → unwrap_or (cond a (Some v) (lookup (same_name q) es)) nothing ≡ cond b v (unwrap_or (cond a (Some e.1) (lookup (same_name q) es)) nothing)
first_written e es v q true true s = refl
first_written e es v q true false s = absurd cc
first_written e es v q false true s = absurd cc
first_written e es v q false false s = refl

-- a later one
later_written : (e : KeyName × Counted) (es new : List (KeyName × Counted)) (k : KeyName) (v : Counted) (q : KeyName) → same_name k e.0 ≡ false → counted_at new q ≡ cond (is_at (key_cmp k) q) v (counted_at es q) → counted_at (e ∷ new) q ≡ cond (is_at (key_cmp k) q) v (counted_at (e ∷ es) q)
later_written e es new k v q off h = go (same_name q e.0) (is_at (key_cmp k) q) refl refl h
  where
    go : (a b : Bool) → same_name q e.0 ≡ a → is_at (key_cmp k) q ≡ b → counted_at new q ≡ cond b v (counted_at es q) → unwrap_or (cond a (Some e.1) (lookup (same_name q) new)) nothing ≡ cond b v (unwrap_or (cond a (Some e.1) (lookup (same_name q) es)) nothing)
    go true true f g h = let z : same_name k e.0 ≡ true = subst (λ x. same_name x e.0 ≡ true) (sym (name_is k q g)) f in absurd cc
    go true false f g h = refl
    go false b f g h = h

pub row_written : (es : List (KeyName × Counted)) (k : KeyName) (n : ℕ) (v : Counted) → number_at es k ≡ Some n → (q : KeyName) → counted_at (set_value_at es n v) q ≡ cond (is_at (key_cmp k) q) v (counted_at es q)
row_written [] k n v is q = absurd cc
row_written (e ∷ es) k n v is q = go (same_name k e.0) refl (λ m at. row_written es k m v at q) is
  where
    go : (b : Bool) → same_name k e.0 ≡ b → ((m : ℕ) → number_at es k ≡ Some m → counted_at (set_value_at es m v) q ≡ cond (is_at (key_cmp k) q) v (counted_at es q)) → cond b (Some 0) (option_map suc (number_at es k)) ≡ Some n → counted_at (set_value_at (e ∷ es) n v) q ≡ cond (is_at (key_cmp k) q) v (counted_at (e ∷ es) q)
    go true at rest is =
        let z : 0 ≡ n = cc in
        let same : same_name q e.0 ≡ is_at (key_cmp k) q = ap (same_name q) (sym (same_is k e.0 at)) ∙ (name_swaps q k ∙ sym (at_name k q)) in
        subst (λ m. counted_at (set_value_at (e ∷ es) m v) q ≡ cond (is_at (key_cmp k) q) v (counted_at (e ∷ es) q)) z (first_written e es v q (same_name q e.0) (is_at (key_cmp k) q) same)
    go false at rest is =
        let p = suc_of (number_at es k) n is in
        subst (λ m. counted_at (set_value_at (e ∷ es) m v) q ≡ cond (is_at (key_cmp k) q) v (counted_at (e ∷ es) q)) p.2 (later_written e es (set_value_at es p.0 v) k v q at (rest p.0 p.1))

-- numbers of keys

pub number_of : (number : KeyName → Option ℕ) (ks : List Key) (ns : List ℕ) (i : ℕ) (d : Key) → HaveNumbers number ks ns → i < length ks → number (name (get_or ks i d)) ≡ Some (get_or ns i 0)
number_of number [] ns i d h lt = absurd (omega (arith, lt))
number_of number (k ∷ ks) [] i d h lt = absurd h
number_of number (k ∷ ks) (n ∷ ns) zero d h lt = h.0
number_of number (k ∷ ks) (n ∷ ns) (suc i) d h lt = number_of number ks ns i d h.1 (omega (arith, lt))

pub numbers_long : (number : KeyName → Option ℕ) (ks : List Key) (ns : List ℕ) → HaveNumbers number ks ns → length ns ≡ length ks
numbers_long number ks ns h = AllZip-long (λ (k : Key) (n : ℕ). number (name k) ≡ Some n) ks ns h

numbers_kept : (old new : KeyName → Option ℕ) (ks : List Key) (ns : List ℕ) → ((q : KeyName) (n : ℕ) → old q ≡ Some n → new q ≡ Some n) → HaveNumbers old ks ns → HaveNumbers new ks ns
numbers_kept old new [] [] keep h = tt
numbers_kept old new [] (n ∷ ns) keep h = absurd h
numbers_kept old new (k ∷ ks) [] keep h = absurd h
numbers_kept old new (k ∷ ks) (n ∷ ns) keep h = (keep (name k) n h.0, numbers_kept old new ks ns keep h.1)

-- one key more
pub numbers_more : (old new : KeyName → Option ℕ) (ks : List Key) (i : ℕ) (d : Key) (ns more : List ℕ) (n : ℕ) → i < length ks → ((q : KeyName) (n : ℕ) → old q ≡ Some n → new q ≡ Some n) → HaveNumbers old (take i ks) ns → new (name (get_or ks i d)) ≡ Some n → more ≡ ns ++ n ∷ [] → HaveNumbers new (take (i + 1) ks) more
numbers_more old new ks i d ns more n lt keep h is e =
    let k = get_or ks i d in
    let z = all_zipped_more (λ (k : Key) (n : ℕ). new (name k) ≡ Some n) (take i ks) ns k n (numbers_kept old new (take i ks) ns keep h) is in
    subst (HaveNumbers new (take (i + 1) ks)) (sym e) (subst (λ (l : List Key). HaveNumbers new l (ns ++ n ∷ [])) (sym (take_more ks i d lt)) z)

-- what is kept after the events of the keys with these names, and then one more

counts_more : (ks : List Key) (k : Key) (q : KeyName) (clock : ℕ) (was now : KeyName → Counted) (new : Counted) → is_named ks (name k) ≡ false → ((q : KeyName) → now q ≡ after (is_named ks q) clock (was q)) → new ≡ cond (is_at (key_cmp (name k)) q) (one_more clock (now (name k))) (now q)
    → new ≡ after (is_named (ks ++ k ∷ []) q) clock (was q)
counts_more ks k q clock was now new off h e = e ∙ (go (is_at (key_cmp (name k)) q) refl ∙ ap (λ b. after b clock (was q)) (sym (named_more ks k q)))
  where
    here : now (name k) ≡ was (name k)
    here = h (name k) ∙ ap (λ b. after b clock (was (name k))) off

    go : (b : Bool) → is_at (key_cmp (name k)) q ≡ b → cond b (one_more clock (now (name k))) (now q) ≡ after (is_named ks q || b) clock (was q)
    go false f = h q ∙ ap (λ b. after b clock (was q)) (sym (or_false (is_named ks q)))
      where
        or_false : (b : Bool) → (b || false) ≡ b
        or_false true = refl
        or_false false = refl
    go true f = ap (one_more clock) (here ∙ ap was (name_is (name k) q f)) ∙ ap (λ b. after b clock (was q)) (sym (or_true (is_named ks q)))
      where
        or_true : (b : Bool) → (b || true) ≡ true
        or_true true = refl
        or_true false = refl

pub next_counts : (ks : List Key) (i : ℕ) (d : Key) (q : KeyName) (clock : ℕ) (was now : KeyName → Counted) (new : Counted) → AreDistinct ks → i < length ks → ((q : KeyName) → now q ≡ after (is_named (take i ks) q) clock (was q))
    → new ≡ cond (is_at (key_cmp (name (get_or ks i d))) q) (one_more clock (now (name (get_or ks i d)))) (now q) → new ≡ after (is_named (take (i + 1) ks) q) clock (was q)
next_counts ks i d q clock was now new distinct lt h e =
    counts_more (take i ks) (get_or ks i d) q clock was now new (not_before ks i d distinct lt) h e ∙ ap (λ l. after (is_named l q) clock (was q)) (sym (take_more ks i d lt))

-- a key that comes later is as it was
pub not_yet : (ks : List Key) (i : ℕ) (d : Key) (clock : ℕ) (was now : KeyName → Counted) → AreDistinct ks → i < length ks → ((q : KeyName) → now q ≡ after (is_named (take i ks) q) clock (was q)) → now (name (get_or ks i d)) ≡ was (name (get_or ks i d))
not_yet ks i d clock was now distinct lt h = h (name (get_or ks i d)) ∙ ap (λ b. after b clock (was (name (get_or ks i d)))) (not_before ks i d distinct lt)
