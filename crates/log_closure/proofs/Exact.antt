-- What is computed of the first wrong event is what the definitions say.
use Rattle.std.proofs.Common.{◌≡◌, ℕ, ◌+◌, ◌-◌, ◌<◌, ◌≤◌, Bool, true, false, cond, List, [], ◌∷◌, ◌++◌, map, Option, Some, None, inl, inr, ⊎_elim, refl, sym, ap, ◌∙◌, subst, arith, append_assoc}
use Rattle.std.specs.Prelude.{◌||◌, eqb, ◌⊎◌}
use Rattle.std.proofs.lemmas.Bool.{cases_lt, eqb-true, eq-eqb}
use Rattle.std.proofs.lemmas.List.Folds.{list_any-append}
use Rattle.run_events.specs.Class.{number_of}
use Rattle.run_events.specs.declared.key.KeyMark.{KeyMark}
use Rattle.run_events.specs.declared.event.Record.{Record}
use Rattle.log_closure.specs.declared.tie.Tie.{Tie}
use Rattle.log_closure.specs.declared.error.OrderError.{OrderError}
use Rattle.log_closure.specs.declared.error.OrderError.TheVariants.{Twice, Missing, Clock}
use Rattle.log_closure.specs.Events.{HasMark, In, LogEvent, events_of, marks}
use Rattle.log_closure.specs.FirstWrong.{both, clock_at, clock_wrong, greatest, or_else, repeats, wrong}
use Rattle.log_closure.specs.Predecessors.{HoldsPredecessors, next}
use Rattle.log_closure.specs.Ties.{earlier, key_tie, keys, keys_of, listed, needs, same, thread_tie, ties, ties_of}
use Rattle.log_closure.specs.Wrong.{IsGreatestBefore, IsMissing, IsPredecessor, IsRight, IsTwice, IsWrong, StandsTwice, as_clock, as_missing, as_twice, greatest_is, none_before}
use Rattle.log_closure.proofs.Chains.{reached}
use Rattle.log_closure.proofs.Kept.{thread_kept}
use Rattle.log_closure.proofs.Meaning.{has_holds, holds_key, key_listed, key_tie-injective, listed_key, listed_thread, mark_owned, needed_of, owned_mark, thread_listed, tie_of_thread}
use Rattle.log_closure.proofs.Needs.{needs_in}
use Rattle.log_closure.proofs.Numbered.{Numbered}
use Rattle.log_closure.proofs.Numbers.{numbered}
use Rattle.log_closure.proofs.Order.{in-map}
use Rattle.log_closure.proofs.Passed.{clock_none, clock_owned, greatest_each, in_listed, key_among, listed_in, no_repeat, or_none, thread_among}
use Rattle.log_closure.proofs.Steps.{clock_at-append, listed_more, same_is}
use Rattle.log_closure.proofs.Union.{In-cases, In-right, all_from, greatest_over, or_cases, owned, owner}

-- Twice

pub In-split : {A : Type 0} (x : A) (xs : List A) → In x xs → (prefix back : List A) × (xs ≡ prefix ++ x ∷ back)
In-split x [] i = absurd i
In-split x (y ∷ ys) (inl e) = ([], ys, ap (λ (z : _). z ∷ ys) (sym e))
In-split x (y ∷ ys) (inr i) = let (prefix, back, e) = In-split x ys i in (y ∷ prefix, back, ap (λ (l : List _). y ∷ l) e)

keys_owner : (es : List LogEvent) (t : Tie) → In t (keys_of es) → (e : LogEvent) × In e es × In t (keys e)
keys_owner [] t i = absurd i
keys_owner (e ∷ es) t i = ⊎_elim (λ j. (e, inl refl, j)) (λ j. let (f, k, l) = keys_owner es t j in (f, inr k, l)) (In-cases t (keys e) (keys_of es) i)

has_keys : (es : List LogEvent) (m : KeyMark) → listed (keys_of es) (key_tie m) ≡ true → HasMark es m
has_keys es m h = let (e, i, j) = keys_owner es (key_tie m) (listed_in (keys_of es) (key_tie m) h) in (e, i, listed_key e m (in_listed (ties e) (key_tie m) (inr j)))

keys_have : (es : List LogEvent) (m : KeyMark) → HasMark es m → listed (keys_of es) (key_tie m) ≡ true
keys_have es m (e, i, j) = in_listed (keys_of es) (key_tie m) (key_among es e (key_tie m) i (in-map key_tie (marks e) m j))

abbrev Again : List Tie → List KeyMark → Type 0
Again ts ms = (m : KeyMark) × ((In m ms × (listed ts (key_tie m) ≡ true)) ⊎ StandsTwice m ms)

again_more : (ts : List Tie) (m : KeyMark) (ms : List KeyMark) → Again (ts ++ key_tie m ∷ []) ms → Again ts (m ∷ ms)
again_more ts m ms (n, inl (i, h)) =
    ⊎_elim
    (λ a. (n, inl (inr i, a)))
    (λ b. let is : m ≡ n = key_tie-injective m n (same_is (key_tie m) (key_tie n) b) in
    let (prefix, back, e) = In-split n ms i in
    (n, inr ([], prefix, back, (λ j. is j ∷ e j))))
    (or_cases (listed ts (key_tie n)) (same (key_tie m) (key_tie n)) (sym (listed_more ts (key_tie m) (key_tie n)) ∙ h))
again_more ts m ms (n, inr (prefix, middle, back, e)) = (n, inr (m ∷ prefix, middle, back, ap (λ (l : List KeyMark). m ∷ l) e))

again : (ts : List Tie) (ms : List KeyMark) → repeats ts (map key_tie ms) ≡ true → Again ts ms
again ts [] h = absurd cc
again ts (m ∷ ms) h =
    ⊎_elim
    (λ a. (m, inl (inl refl, a)))
    (λ b. again_more ts m ms (again (ts ++ key_tie m ∷ []) ms b))
    (or_cases (listed ts (key_tie m)) (repeats (ts ++ key_tie m ∷ []) (map key_tie ms)) h)

not_again : (ts : List Tie) (m : KeyMark) (prefix middle back : List KeyMark) → repeats ts (map key_tie (prefix ++ m ∷ middle ++ m ∷ back)) ≡ false → ⊥
not_again ts m [] middle back h =
    let tail = (or_none (listed ts (key_tie m)) _ h).1 in
    let off = no_repeat (ts ++ key_tie m ∷ []) (map key_tie (middle ++ m ∷ back)) tail (key_tie m) (in-map key_tie (middle ++ m ∷ back) m (In-right m middle (m ∷ back) (inl refl))) in
    let on = in_listed (ts ++ key_tie m ∷ []) (key_tie m) (In-right (key_tie m) ts (key_tie m ∷ []) (inl refl)) in
    absurd cc
not_again ts m (n ∷ prefix) middle back h = not_again (ts ++ key_tie n ∷ []) m prefix middle back (or_none (listed ts (key_tie n)) _ h).1

pub is_twice : (before : List LogEvent) (e : LogEvent) → repeats (keys_of before) (keys e) ≡ true → IsTwice before e
is_twice before e h = let (m, c) = again (keys_of before) (marks e) h in (m, ⊎_elim (λ (i, l). inl (i, has_keys before m l)) (λ s. inr s) c)

pub not_twice : (before : List LogEvent) (e : LogEvent) → repeats (keys_of before) (keys e) ≡ false → IsTwice before e → ⊥
not_twice before e h (m, inl (i, j)) =
    let off = no_repeat (keys_of before) (keys e) h (key_tie m) (in-map key_tie (marks e) m i) in
    let on = keys_have before m j in absurd cc
not_twice before e h (m, inr (prefix, middle, back, is)) = not_again (keys_of before) m prefix middle back (subst (λ (l : List KeyMark). repeats (keys_of before) (map key_tie l) ≡ false) is h)

-- clocks at ties

some_is : (a b : ℕ) → Some a ≡ Some b → a ≡ b
some_is a b e = cc

record First (all : List LogEvent) (t : Tie) (c : ℕ) : Type 0 where
  before : List LogEvent
  event : LogEvent
  after : List LogEvent
  split : all ≡ before ++ event ∷ after
  new : listed (ties_of before) t ≡ false
  has : listed (ties event) t ≡ true
  at : event.entry.clock ≡ c

clock_first : (all : List LogEvent) (t : Tie) (c : ℕ) → clock_at all t ≡ Some c → First all t c
clock_first [] t c h = absurd cc
clock_first (e ∷ es) t c h = go (listed (ties e) t) refl h (λ k. clock_first es t c k)
  where
    go : (b : Bool) → listed (ties e) t ≡ b → cond b (Some e.entry.clock) (clock_at es t) ≡ Some c → (clock_at es t ≡ Some c → First es t c) → First (e ∷ es) t c
    go true is k rec = record { before = []; event = e; after = es; split = refl; new = refl; has = is; at = some_is e.entry.clock c k }
    go false is k rec =
        let w = rec k in
        record {
          before = e ∷ w.before;
          event = w.event;
          after = w.after;
          split = ap (λ (l : List LogEvent). e ∷ l) w.split;
          new = list_any-append (λ s. same s t) (ties e) (ties_of w.before) ∙ ap (λ (b : Bool). b || listed (ties_of w.before) t) is ∙ w.new;
          has = w.has;
          at = w.at;
        }

clock_there : (before : List LogEvent) (e : LogEvent) (after : List LogEvent) (t : Tie) → listed (ties_of before) t ≡ false → listed (ties e) t ≡ true → clock_at (before ++ e ∷ after) t ≡ Some e.entry.clock
clock_there before e after t off on =
    clock_at-append before (e ∷ after) t ∙ ap (λ (o : Option ℕ). or_else o (clock_at (e ∷ after) t)) (clock_none before t off) ∙ ap (λ (b : Bool). cond b (Some e.entry.clock) (clock_at after t)) on

not_true : (b : Bool) → (b ≡ true → ⊥) → b ≡ false
not_true true f = absurd (f refl)
not_true false f = refl

clock_off : (es : List LogEvent) (t : Tie) → listed (ties_of es) t ≡ true → clock_at es t ≡ None → ⊥
clock_off [] t i j = absurd cc
clock_off (e ∷ es) t i j = by (listed (ties e) t) (list_any-append (λ s. same s t) (ties e) (ties_of es)) j (λ a b. clock_off es t a b)
  where
    by : (b : Bool) → listed (ties_of (e ∷ es)) t ≡ (b || listed (ties_of es) t) → cond b (Some e.entry.clock) (clock_at es t) ≡ None → (listed (ties_of es) t ≡ true → clock_at es t ≡ None → ⊥) → ⊥
    by true is k rec = absurd cc
    by false is k rec = rec (sym is ∙ i) k

-- the thread's own events

thread_new : (before : List LogEvent) (e : LogEvent) → listed (map thread_tie before) (thread_tie e) ≡ false → listed (ties_of before) (thread_tie e) ≡ false
thread_new before e h = not_true (listed (ties_of before) (thread_tie e)) (λ l.
    let w = owner before (thread_tie e) l in
    let (t, n) = listed_thread w.event e.name.thread e.name.index w.has in
    let is : thread_tie e ≡ thread_tie w.event = λ i. tie_of_thread (sym t i) (sym n i) in
    let on : listed (map thread_tie before) (thread_tie e) ≡ true = in_listed _ _ (subst (λ (x : Tie). In x (map thread_tie before)) (sym is) (thread_among before w.event w.among)) in
    absurd cc)

pub own_at : (before es : List LogEvent) → Numbered before es → (e : LogEvent) → In e es → clock_at (before ++ es) (thread_tie e) ≡ Some e.entry.clock
own_at before [] n e i = absurd i
own_at before (f ∷ es) n e (inl is) = subst (λ (x : LogEvent). clock_at (before ++ f ∷ es) (thread_tie x) ≡ Some x.entry.clock) (sym is) (clock_there before f es (thread_tie f) (thread_new before f n.0) (thread_listed f))
own_at before (f ∷ es) n e (inr i) = ap (λ (l : List LogEvent). clock_at l (thread_tie e)) (sym (append_assoc before (f ∷ []) es)) ∙ own_at (before ++ f ∷ []) es n.2 e i

-- direct predecessors in the file and the clocks at needed ties

pub pred_clock : (all : List LogEvent) → Numbered [] all → (d f : LogEvent) → IsPredecessor all d f → (t : Tie) × In t (needs (ties f)) × (clock_at all t ≡ Some d.entry.clock)
pred_clock all num d f (inl (i, th, n)) =
    let k : d.name.index ≡ f.name.index - 1 = omega (arith, n) in
    let is : thread_tie d ≡ earlier (thread_tie f) = λ j. tie_of_thread (th j) (k j) in
    (earlier (thread_tie f), needs_in (ties f) (thread_tie f) (inl refl) (omega (arith, n)), subst (λ (x : Tie). clock_at all x ≡ Some d.entry.clock) is (own_at [] all num d i))
pred_clock all num d f (inr (m, j, (before, after, split, off, on))) =
    let back : m.ticket + 1 - 1 ≡ m.ticket = omega arith in
    let is : earlier (key_tie (next m)) ≡ key_tie m = λ k. record { class = number_of m.key.class; value = m.key.value; number = back k } in (
      key_tie m,
      subst (λ (x : Tie). In x (needs (ties f))) is (needs_in (ties f) (key_tie (next m)) (inr (in-map key_tie (marks f) (next m) j)) (omega arith)),
      ap (λ (l : List LogEvent). clock_at l (key_tie m)) split ∙ clock_there before d after (key_tie m) (not_true (listed (ties_of before) (key_tie m)) (λ l. off (owned_mark before m l))) (key_listed d m on),
    )

pub clock_pred : (all : List LogEvent) (f : LogEvent) (t : Tie) → In t (needs (ties f)) → (c : ℕ) → clock_at all t ≡ Some c → (d : LogEvent) × IsPredecessor all d f × (d.entry.clock ≡ c)
clock_pred all f t i c h =
    let w = clock_first all t c h in
    let there : In w.event all = subst (In w.event) (sym w.split) (In-right w.event w.before (w.event ∷ w.after) (inl refl)) in (
      w.event,
      ⊎_elim
          (λ (n, is, eq). let (a, b) = listed_thread w.event f.name.thread n (subst (λ (x : Tie). listed (ties w.event) x ≡ true) eq w.has) in inl (there, a, is ∙ ap (λ (k : ℕ). k + 1) (sym b)))
          (λ (m, j, eq). inr (m, j, (w.before, w.after, w.split, (λ h. let on = mark_owned w.before m h in let off : listed (ties_of w.before) (key_tie m) ≡ false = subst (λ (x : Tie). listed (ties_of w.before) x ≡ false) eq w.new in absurd cc), listed_key w.event m (subst (λ (x : Tie). listed (ties w.event) x ≡ true) eq w.has))))
          (needed_of f t i),
      w.at,
    )

-- the greatest clock

record Found (all : List LogEvent) (f : LogEvent) (c : ℕ) : Type 0 where
  event : LogEvent
  before : IsPredecessor all event f
  at : event.entry.clock ≡ c

found : (all : List LogEvent) (f : LogEvent) (c : ℕ) → greatest (clock_at all) (needs (ties f)) ≡ Some c → 0 < c → Found all f c
found all f c h pos =
    let (t, i, is) = reached (clock_at all) (needs (ties f)) c h pos in
    let (d, p, eq) = clock_pred all f t i c is in
    record { event = d; before = p; at = eq }

below : (all : List LogEvent) → Numbered [] all → (f : LogEvent) (c : ℕ) → greatest (clock_at all) (needs (ties f)) ≡ Some c → (d : LogEvent) → IsPredecessor all d f → d.entry.clock ≤ c
below all num f c h d p = let (t, i, is) = pred_clock all num d f p in greatest_over (clock_at all) (needs (ties f)) c h t i d.entry.clock is

greatest_at : (all : List LogEvent) → Numbered [] all → (f : LogEvent) (c : ℕ) → greatest (clock_at all) (needs (ties f)) ≡ Some c → Found all f c → IsGreatestBefore all f c
greatest_at all num f c h w =
    subst (IsGreatestBefore all f) w.at (greatest_is w.event w.before (λ d p. let le = below all num f c h d p in let is = w.at in omega (arith, le, is)))

pub is_greatest : (all : List LogEvent) → Numbered [] all → (f : LogEvent) (c : ℕ) → greatest (clock_at all) (needs (ties f)) ≡ Some c → IsGreatestBefore all f c
is_greatest all num f c h =
    ⊎_elim (λ pos. greatest_at all num f c h (found all f c h pos))
    (λ zero_is. none_or (needs (ties f)) refl (omega (arith, zero_is)))
    (cases_lt 0 c)
  where
    none_or : (ts : List Tie) → needs (ties f) ≡ ts → c ≡ 0 → IsGreatestBefore all f c
    none_or [] is z = subst (IsGreatestBefore all f) (sym z) (none_before (λ d p. let (t, i, k) = pred_clock all num d f p in absurd (subst (λ (l : List Tie). In t l) is i)))
    none_or (t ∷ ts) is z =
        let there : In t (needs (ties f)) = subst (In t) (sym is) (inl refl) in
        let (k, eq) = greatest_each (clock_at all) (needs (ties f)) c h t there in
        let le = greatest_over (clock_at all) (needs (ties f)) c h t there k eq in
        let (d, p, at_k) = clock_pred all f t there k eq in
        greatest_at all num f c h (record { event = d; before = p; at = omega (arith, le, z, at_k) })

pub greatest_one : (all : List LogEvent) → Numbered [] all → (f : LogEvent) (c g : ℕ) → greatest (clock_at all) (needs (ties f)) ≡ Some c → IsGreatestBefore all f g → g ≡ c
greatest_one all num f c g h (none_before off) = ⊎_elim (λ pos. let w = found all f c h pos in absurd (off w.event w.before)) (λ z. omega (arith, z)) (cases_lt 0 c)
greatest_one all num f c g h (greatest_is e p most) =
    let le = below all num f c h e p in
    ⊎_elim (λ pos. let w = found all f c h pos in let ge = most w.event w.before in let is = w.at in omega (arith, le, ge, is)) (λ z. omega (arith, z, le)) (cases_lt 0 c)

-- whether all direct predecessors are there

some_there : (all : List LogEvent) (f : LogEvent) (c : ℕ) → greatest (clock_at all) (needs (ties f)) ≡ Some c → HoldsPredecessors all f
some_there all f c h = has_holds all f (all_from (listed (ties_of all)) (needs (ties f)) (λ t i. let (d, e) = greatest_each (clock_at all) (needs (ties f)) c h t i in clock_owned all t d e))

greatest_lost : (at : Tie → Option ℕ) (ts : List Tie) → greatest at ts ≡ None → (t : Tie) × In t ts × (at t ≡ None)
greatest_lost at [] h = absurd cc
greatest_lost at (t ∷ ts) h = go (at t) refl (greatest at ts) refl h (λ k. greatest_lost at ts k)
  where
    go : (o : Option ℕ) → at t ≡ o → (r : Option ℕ) → greatest at ts ≡ r → both o r ≡ None → (greatest at ts ≡ None → (u : Tie) × In u ts × (at u ≡ None)) → (u : Tie) × In u (t ∷ ts) × (at u ≡ None)
    go None e r k both_is rec = (t, inl refl, e)
    go (Some x) e None k both_is rec = let (u, i, is) = rec k in (u, inr i, is)
    go (Some x) e (Some y) k both_is rec = absurd cc

lost_key : (rs : List Record) (f : LogEvent) → In f (events_of rs) → greatest (clock_at (events_of rs)) (needs (ties f)) ≡ None → (m : KeyMark) × In (next m) (marks f) × (HasMark (events_of rs) m → ⊥)
lost_key rs f i h =
    let all = events_of rs in
    let (t, j, none) = greatest_lost (clock_at all) (needs (ties f)) h in
    ⊎_elim
    (λ (n, is, eq). absurd (let (e, k, th) = thread_kept rs f i (omega (arith, is)) in
    let back : f.name.index - 1 ≡ n = omega (arith, is) in
    let same_is : thread_tie e ≡ t = th ∙ (λ l. tie_of_thread f.name.thread (back l)) ∙ sym eq in
    clock_off all t (subst (λ (x : Tie). listed (ties_of all) x ≡ true) same_is (owned all (thread_tie e) e k (thread_listed e))) none))
    (λ (m, l, eq). (m, l, λ has. clock_off all t (subst (λ (x : Tie). listed (ties_of all) x ≡ true) (sym eq) (mark_owned all m has)) none))
    (needed_of f t j)

-- what is wrong with one event

abbrev pub right_or_wrong : Bool → List LogEvent → List LogEvent → LogEvent → Option OrderError → Type 0
right_or_wrong whole all before e None = IsRight whole all before e
right_or_wrong whole all before e (Some w) = IsWrong whole all before e w

clock_meant : (rs : List Record) (whole : Bool) (before : List LogEvent) (e : LogEvent) → In e (events_of rs) → (IsTwice before e → ⊥) → (o : Option ℕ) → greatest (clock_at (events_of rs)) (needs (ties e)) ≡ o
    → right_or_wrong whole (events_of rs) before e (clock_wrong whole e.name e.entry.clock o)
clock_meant rs whole before e i not_again None h = go whole refl
  where
    lost : (m : KeyMark) × In (next m) (marks e) × (HasMark (events_of rs) m → ⊥)
    lost = lost_key rs e i h

    go : (w : Bool) → whole ≡ w → right_or_wrong whole (events_of rs) before e (cond w (Some (Missing e.name)) None)
    go true is = as_missing not_again (is, lost)
    go false is = (not_again, λ (w, m). absurd cc, λ (holds, g). let (m, j, off) = lost in off (holds_key (events_of rs) e holds m j))
clock_meant rs whole before e i not_again (Some c) h = go (eqb e.entry.clock (c + 1)) refl
  where
    there : HoldsPredecessors (events_of rs) e
    there = some_there (events_of rs) e c h

    not_missing : IsMissing whole (events_of rs) e → ⊥
    not_missing (w, (m, j, off)) = off (holds_key (events_of rs) e there m j)

    go : (b : Bool) → eqb e.entry.clock (c + 1) ≡ b → right_or_wrong whole (events_of rs) before e (cond b None (Some (Clock e.name)))
    go true is = (not_again, not_missing, λ (holds, (g, gr, ne)). ne (eqb-true _ _ is ∙ ap (λ (k : ℕ). k + 1) (sym (greatest_one (events_of rs) (numbered [] rs) e c g h gr))))
    go false is = as_clock not_again not_missing (there, (c, is_greatest (events_of rs) (numbered [] rs) e c h, λ eq. let yes_is = eq-eqb e.entry.clock (c + 1) eq in absurd cc))

pub meant : (rs : List Record) (whole : Bool) (before : List LogEvent) (e : LogEvent) → In e (events_of rs) → right_or_wrong whole (events_of rs) before e (wrong whole (events_of rs) before e)
meant rs whole before e i = go (repeats (keys_of before) (keys e)) refl
  where
    go : (b : Bool) → repeats (keys_of before) (keys e) ≡ b → right_or_wrong whole (events_of rs) before e (cond b (Some (Twice e.name)) (clock_wrong whole e.name e.entry.clock (greatest (clock_at (events_of rs)) (needs (ties e)))))
    go true is = as_twice (is_twice before e is)
    go false is = clock_meant rs whole before e i (not_twice before e is) (greatest (clock_at (events_of rs)) (needs (ties e))) refl
