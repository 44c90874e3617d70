-- Steps of the passes that fill and read the table of clocks.
use Rattle.std.proofs.Common.{suc, ◌≡◌, ◌++◌, ◌∷◌, [], ℕ, ◌+◌, List, map, Option, Some, None, Bool, true, false, refl, ap, ◌∙◌, sym, cond, arith, ◌<◌, length, take, drop, get_or, append_assoc, append-nil}
use Rattle.std.specs.Prelude.{◌||◌, eqb, max, is_some}
use Rattle.std.specs.Option.{option_or}
use Rattle.std.proofs.lemmas.List.{take_more, drop_more, length-take}
use Rattle.std.proofs.lemmas.List.Folds.{list_any-append}
use Rattle.std.proofs.lemmas.Bool.Decides.{nat_tests}
use Rattle.run_events.specs.declared.key.Class.TheVariants.{Mutex}
use Rattle.run_events.specs.declared.key.KeyMark.{KeyMark}
use Rattle.run_events.specs.declared.event.Record.{Record}
use Rattle.log_closure.specs.declared.tie.Tie.{Tie}
use Rattle.log_closure.specs.Events.{LogEvent, event_of, events_after, events_of}
use Rattle.log_closure.specs.FirstWrong.{both, clock_at, first_twice, greatest, or_else, repeats}
use Rattle.log_closure.specs.Tables.{Owns}
use Rattle.log_closure.specs.Ties.{earlier, key_tie, keys, keys_of, listed, needs, same, thread_tie, ties}
use Rattle.log_closure.proofs.Numbers.{events_after-append, seen_records}
use Rattle.log_closure.proofs.Steps.{clock_at-append, listed_more, or_false, same_is}

-- two greatest clocks joined
pub both_more : (a b : ℕ) (r : Option ℕ) → both (Some a) (both (Some b) r) ≡ both (Some (max a b)) r
both_more a b None = refl
both_more a b (Some c) = ap (λ (n : ℕ). Some n) (grind arith)

pub both_none : (a : ℕ) (r : Option ℕ) → both (Some a) (both None r) ≡ None
both_none a r = refl

pub both_end : (a : ℕ) → both (Some a) (Some 0) ≡ Some a
both_end a = ap (λ (n : ℕ). Some n) (grind arith)

pub both_assoc : (a b c : Option ℕ) → both (both a b) c ≡ both a (both b c)
both_assoc None b c = refl
both_assoc (Some a) None c = refl
both_assoc (Some a) (Some b) None = refl
both_assoc (Some a) (Some b) (Some c) = ap (λ (n : ℕ). Some n) (grind arith)

map-snoc : {A B : Type 0} (f : A → B) (xs : List A) (x : A) → map f (xs ++ x ∷ []) ≡ map f xs ++ f x ∷ []
map-snoc f [] x = refl
map-snoc f (y ∷ xs) x = ap (λ (l : List _). f y ∷ l) (map-snoc f xs x)

pub keys_taken : (ms : List KeyMark) (i : ℕ) (d : KeyMark) → i < length ms → map key_tie (take (i + 1) ms) ≡ map key_tie (take i ms) ++ key_tie (get_or ms i d) ∷ []
keys_taken ms i d lt = ap (map key_tie) (take_more ms i d lt) ∙ map-snoc key_tie (take i ms) (get_or ms i d)

-- the clocks with one more key
pub own_more : (new mid old : Option ℕ) (ts : List Tie) (k q : Tie) (clock : ℕ) → mid ≡ or_else old (cond (listed ts q) (Some clock) None) → new ≡ cond (same k q) (or_else mid (Some clock)) mid → new ≡ or_else old (cond (listed (ts ++ k ∷ []) q) (Some clock) None)
own_more new mid old ts k q clock h up = up ∙ by (listed ts q) (same k q) old mid h ∙ ap (λ (b : Bool). or_else old (cond b (Some clock) None)) (sym (listed_more ts k q))
  where
    by : (a b : Bool) (old mid : Option ℕ) → mid ≡ or_else old (cond a (Some clock) None) → cond b (or_else mid (Some clock)) mid ≡ or_else old (cond (a || b) (Some clock) None)
    by true true (Some o) mid h = rw h refl
    by true true None mid h = rw h refl
    by true false (Some o) mid h = rw h refl
    by true false None mid h = rw h refl
    by false true (Some o) mid h = rw h refl
    by false true None mid h = rw h refl
    by false false (Some o) mid h = rw h refl
    by false false None mid h = rw h refl

-- repeats, one key further
pub repeats_more : (before ks : List Tie) (k : Tie) → repeats before (ks ++ k ∷ []) ≡ (repeats before ks || listed (before ++ ks) k)
repeats_more before [] k = or_false (listed before k) ∙ ap (λ (l : List Tie). listed l k) (sym (append-nil before))
repeats_more before (j ∷ ks) k =
    ap (λ (b : Bool). listed before j || b) (repeats_more (before ++ j ∷ []) ks k)
    ∙ or_assoc (listed before j) (repeats (before ++ j ∷ []) ks) (listed ((before ++ j ∷ []) ++ ks) k)
    ∙ ap (λ (l : List Tie). (listed before j || repeats (before ++ j ∷ []) ks) || listed l k) (append_assoc before (j ∷ []) ks)
  where
    or_assoc : (a b c : Bool) → (a || (b || c)) ≡ ((a || b) || c)
    or_assoc true b c = refl
    or_assoc false b c = refl

-- a key is there where it stood before the event, or in it so far
pub there_is : (mid old : Option ℕ) (before ts : List Tie) (k : Tie) (clock : ℕ) → mid ≡ or_else old (cond (listed ts k) (Some clock) None) → is_some old ≡ listed before k → is_some mid ≡ listed (before ++ ts) k
there_is mid old before ts k clock h o = by old (listed ts k) mid h ∙ ap (λ (b : Bool). b || listed ts k) o ∙ sym (list_any-append (λ s. same s k) before ts)
  where
    by : (o : Option ℕ) (b : Bool) (m : Option ℕ) → m ≡ or_else o (cond b (Some clock) None) → is_some m ≡ (is_some o || b)
    by (Some c) b m h = ap is_some h
    by None true m h = ap is_some h
    by None false m h = ap is_some h

pub repeats_step : (next now there : Bool) (before ts : List Tie) (k : Tie) → now ≡ repeats before ts → there ≡ listed (before ++ ts) k → next ≡ cond there true now → next ≡ repeats before (ts ++ k ∷ [])
repeats_step next now there before ts k h t up = up ∙ by there now ∙ (λ i. h i || t i) ∙ sym (repeats_more before ts k)
  where
    by : (a b : Bool) → cond a true b ≡ (b || a)
    by true true = refl
    by true false = refl
    by false true = refl
    by false false = refl

-- events

pub seen_events : (rs : List Record) (i : ℕ) (r : Record) → i < length rs → r ≡ get_or rs i r → events_of (take (i + 1) rs) ≡ events_of (take i rs) ++ event_of (take i rs) r ∷ []
seen_events rs i r lt is = ap events_of (seen_records rs i r lt is) ∙ events_after-append [] (take i rs) r

pub listed_keys : (e : LogEvent) (t : Tie) → 0 < t.class → listed (ties e) t ≡ listed (keys e) t
listed_keys e t pos = go (same (thread_tie e) t) refl
  where
    go : (b : Bool) → same (thread_tie e) t ≡ b → (b || listed (keys e) t) ≡ listed (keys e) t
    go false is = refl
    go true is = let z = ap (λ (x : Tie). x.class) (same_is (thread_tie e) t is) in absurd (omega (arith, z, pos))

pub owns_more : (old new : Tie → Option ℕ) (rs : List Record) (i : ℕ) (r : Record) (ms : List KeyMark) → i < length rs → r ≡ get_or rs i r → ms ≡ r.keys → Owns old (events_of (take i rs))
    → ((t : Tie) → new t ≡ or_else (old t) (cond (listed (map key_tie ms) t) (Some r.clock) None))
    → Owns new (events_of (take (i + 1) rs))
owns_more old new rs i r ms lt is keys_is h up t pos =
    let e = event_of (take i rs) r in
    up t ∙ (λ j. or_else (h t pos j) (cond (listed (map key_tie (keys_is j)) t) (Some r.clock) None))
    ∙ ap (λ (b : Bool). or_else (clock_at (events_of (take i rs)) t) (cond b (Some r.clock) None)) (sym (listed_keys e t pos))
    ∙ sym (clock_at-append (events_of (take i rs)) (e ∷ []) t) ∙ ap (λ (l : List LogEvent). clock_at l t) (sym (seen_events rs i r lt is))

listed_all : (es : List LogEvent) (t : Tie) → 0 < t.class → is_some (clock_at es t) ≡ listed (keys_of es) t
listed_all [] t pos = refl
listed_all (e ∷ es) t pos = go (listed (ties e) t) (listed_keys e t pos) (listed_all es t pos) ∙ sym (list_any-append (λ s. same s t) (keys e) (keys_of es))
  where
    go : (b : Bool) → b ≡ listed (keys e) t → is_some (clock_at es t) ≡ listed (keys_of es) t → is_some (cond b (Some e.entry.clock) (clock_at es t)) ≡ (listed (keys e) t || listed (keys_of es) t)
    go true is h = ap (λ (b : Bool). b || listed (keys_of es) t) is
    go false is h = h ∙ ap (λ (b : Bool). b || listed (keys_of es) t) is

pub owns_listed : (at : Tie → Option ℕ) (es : List LogEvent) → Owns at es → (t : Tie) → 0 < t.class → is_some (at t) ≡ listed (keys_of es) t
owns_listed at es h t pos = ap is_some (h t pos) ∙ listed_all es t pos

twice_more : (n : ℕ) (before es : List LogEvent) (e : LogEvent) → first_twice n before (es ++ e ∷ []) ≡ or_else (first_twice n before es) (cond (repeats (keys_of (before ++ es)) (keys e)) (Some (n + length es)) None)
twice_more n before [] e = (λ i. cond (repeats (keys_of (sym (append-nil before) i)) (keys e)) (Some (sym (plus_zero n) i)) None)
  where
    plus_zero : (k : ℕ) → k + 0 ≡ k
    plus_zero k = omega arith
twice_more n before (f ∷ es) e = go (repeats (keys_of before) (keys f)) (twice_more (n + 1) (before ++ f ∷ []) es e)
  where
    shifted : (n + 1) + length es ≡ n + length (f ∷ es)
    shifted = omega arith

    go : (b : Bool) → first_twice (n + 1) (before ++ f ∷ []) (es ++ e ∷ []) ≡ or_else (first_twice (n + 1) (before ++ f ∷ []) es) (cond (repeats (keys_of ((before ++ f ∷ []) ++ es)) (keys e)) (Some ((n + 1) + length es)) None)
        → cond b (Some n) (first_twice (n + 1) (before ++ f ∷ []) (es ++ e ∷ [])) ≡ or_else (cond b (Some n) (first_twice (n + 1) (before ++ f ∷ []) es)) (cond (repeats (keys_of (before ++ f ∷ es)) (keys e)) (Some (n + length (f ∷ es))) None)
    go true h = refl
    go false h = h ∙ (λ i. or_else (first_twice (n + 1) (before ++ f ∷ []) es) (cond (repeats (keys_of (append_assoc before (f ∷ []) es i)) (keys e)) (Some (shifted i)) None))

pub length-events : (acc rs : List Record) → length (events_after acc rs) ≡ length rs
length-events acc [] = refl
length-events acc (r ∷ rs) = ap (λ (n : ℕ). suc n) (length-events (acc ++ r ∷ []) rs)

pub twice_step : (rs : List Record) (i : ℕ) (r : Record) (ms : List KeyMark) (old new : Option ℕ) (again : Bool) → i < length rs → r ≡ get_or rs i r → ms ≡ r.keys → old ≡ first_twice 0 [] (events_of (take i rs)) → again ≡ repeats (keys_of (events_of (take i rs))) (map key_tie ms)
    → new ≡ or_else old (cond again (Some i) None) → new ≡ first_twice 0 [] (events_of (take (i + 1) rs))
twice_step rs i r ms old new again lt is keys_is h a up =
    let size : i ≡ 0 + length (events_of (take i rs)) = omega (arith, length-events [] (take i rs), length-take i rs, lt) in
    up ∙ (λ j. or_else (h j) (cond (a j) (Some (size j)) None))
    ∙ (λ j. or_else (first_twice 0 [] (events_of (take i rs))) (cond (repeats (keys_of (events_of (take i rs))) (map key_tie (keys_is j))) (Some (0 + length (events_of (take i rs)))) None))
    ∙ sym (twice_more 0 [] (events_of (take i rs)) (event_of (take i rs) r)) ∙ ap (first_twice 0 []) (sym (seen_events rs i r lt is))

-- clocks at the keys before

pub greatest_lost_at : (at : Tie → Option ℕ) (ms : List KeyMark) (i : ℕ) (d : KeyMark) (least most : ℕ) → i < length ms → 0 < (get_or ms i d).ticket → at (earlier (key_tie (get_or ms i d))) ≡ None
    → both (Some least) (greatest at (needs (map key_tie ms))) ≡ both (Some most) (greatest at (needs (map key_tie (drop i ms)))) → both (Some least) (greatest at (needs (map key_tie ms))) ≡ None
greatest_lost_at at ms i d least most lt pos none inv =
    let ne : eqb (get_or ms i d).ticket 0 ≡ false = grind (arith, nat_tests) in
    inv ∙ rw (drop_more ms i d lt) (rw ne (rw none refl))

abbrev pub no_mark : KeyMark
no_mark = record { key = record { class = Mutex; value = 0 }; ticket = 0 }

pub greatest_at_zero : (at : Tie → Option ℕ) (ms : List KeyMark) (i : ℕ) (d : KeyMark) (w : Option ℕ) (most : ℕ) → i < length ms → (get_or ms i d).ticket ≡ 0 → w ≡ both (Some most) (greatest at (needs (map key_tie (drop i ms)))) → w ≡ both (Some most) (greatest at (needs (map key_tie (drop (i + 1) ms))))
greatest_at_zero at ms i d w most lt z inv =
    let is : eqb (get_or ms i d).ticket 0 ≡ true = grind (arith, nat_tests) in
    inv ∙ rw (drop_more ms i d lt) (rw is refl)

pub greatest_at_more : (at : Tie → Option ℕ) (ms : List KeyMark) (i : ℕ) (d : KeyMark) (w : Option ℕ) (most found : ℕ) → i < length ms → 0 < (get_or ms i d).ticket → at (earlier (key_tie (get_or ms i d))) ≡ Some found
    → w ≡ both (Some most) (greatest at (needs (map key_tie (drop i ms)))) → w ≡ both (Some (max most found)) (greatest at (needs (map key_tie (drop (i + 1) ms))))
greatest_at_more at ms i d w most found lt pos some inv =
    let ne : eqb (get_or ms i d).ticket 0 ≡ false = grind (arith, nat_tests) in
    inv ∙ rw (drop_more ms i d lt) (rw ne (rw some (both_more most found (greatest at (needs (map key_tie (drop (i + 1) ms)))))))

pub or_is : (a b : Option ℕ) → option_or a b ≡ or_else a b
or_is None b = refl
or_is (Some x) b = refl
