-- What holds of a file whose check passes.
use Rattle.std.proofs.Common.{◌≡◌, ℕ, ◌+◌, ◌<◌, Bool, true, false, cond, List, [], ◌∷◌, ◌++◌, map, Option, Some, None, inl, inr, ⊎_elim, refl, sym, ap, ◌∙◌, subst, arith, append_assoc}
use Rattle.std.specs.Prelude.{◌||◌, eqb}
use Rattle.std.proofs.lemmas.List.Folds.{list_any-append}
use Rattle.std.proofs.lemmas.Bool.{eq-eqb, eqb-true}
use Rattle.log_closure.specs.declared.tie.Tie.{Tie}
use Rattle.log_closure.specs.declared.error.OrderError.{OrderError}
use Rattle.log_closure.specs.declared.error.OrderError.TheVariants.{Twice, Clock}
use Rattle.log_closure.specs.Events.{In, LogEvent}
use Rattle.log_closure.specs.FirstWrong.{both, clock_at, clock_wrong, first_wrong, greatest, or_else, repeats, wrong}
use Rattle.log_closure.specs.Growing.{HoldsBefore, IsHeld}
use Rattle.log_closure.specs.Ties.{keys, keys_of, listed, needs, same, thread_tie, ties, ties_of}
use Rattle.log_closure.proofs.Numbered.{Numbered}
use Rattle.log_closure.proofs.Steps.{clock_at-append, listed_more, same_is}
use Rattle.log_closure.proofs.Union.{Fits, In-cases, In-left, In-right, Owner, all_from, and_both, or_cases, or_right, owner}

eqb_same : (n : ℕ) → eqb n n ≡ true
eqb_same n = eq-eqb n n refl

pub same_refl : (t : Tie) → same t t ≡ true
same_refl t = and_both _ _ (eqb_same t.class) (and_both _ _ (eqb_same t.value) (eqb_same t.number))

pub listed_in : (ts : List Tie) (t : Tie) → listed ts t ≡ true → In t ts
listed_in [] t h = absurd cc
listed_in (s ∷ ts) t h = ⊎_elim (λ e. inl (sym (same_is s t e))) (λ e. inr (listed_in ts t e)) (or_cases (same s t) (listed ts t) h)

pub in_listed : (ts : List Tie) (t : Tie) → In t ts → listed ts t ≡ true
in_listed [] t i = absurd i
in_listed (s ∷ ts) t (inl e) = ap (λ (b : Bool). b || listed ts t) (subst (λ (u : Tie). same u t ≡ true) e (same_refl t))
in_listed (s ∷ ts) t (inr i) = or_right (same s t) _ (in_listed ts t i)

pub or_none : (a b : Bool) → (a || b) ≡ false → (a ≡ false) × (b ≡ false)
or_none true b e = absurd cc
or_none false b e = (refl, e)

pub no_repeat : (before ks : List Tie) → repeats before ks ≡ false → (k : Tie) → In k ks → listed before k ≡ false
no_repeat before [] h k i = absurd i
no_repeat before (s ∷ ks) h k (inl e) = subst (λ (u : Tie). listed before u ≡ false) (sym e) (or_none (listed before s) _ h).0
no_repeat before (s ∷ ks) h k (inr i) = (or_none (listed before k) (same s k) (sym (listed_more before s k) ∙ no_repeat (before ++ s ∷ []) ks (or_none (listed before s) _ h).1 k i)).0

pub key_among : (es : List LogEvent) (e : LogEvent) (k : Tie) → In e es → In k (keys e) → In k (keys_of es)
key_among [] e k i j = absurd i
key_among (f ∷ es) e k (inl is) j = In-left k (keys f) (keys_of es) (subst (λ (g : LogEvent). In k (keys g)) is j)
key_among (f ∷ es) e k (inr i) j = In-right k (keys f) (keys_of es) (key_among es e k i j)

pub thread_among : (es : List LogEvent) (e : LogEvent) → In e es → In (thread_tie e) (map thread_tie es)
thread_among [] e i = absurd i
thread_among (f ∷ es) e (inl is) = inl (ap thread_tie is)
thread_among (f ∷ es) e (inr i) = inr (thread_among es e i)

-- the keys of these events are no threads
abbrev pub Keyed : List LogEvent → Type 0
Keyed es = (e : LogEvent) → In e es → (k : Tie) → In k (keys e) → 0 < k.class

-- a tie of the event stands at none before it
pub is_new : (before : List LogEvent) (e : LogEvent) → listed (map thread_tie before) (thread_tie e) ≡ false → Keyed before → ((k : Tie) → In k (keys e) → 0 < k.class) → repeats (keys_of before) (keys e) ≡ false
    → (t : Tie) → listed (ties e) t ≡ true → listed (ties_of before) t ≡ false
is_new before e alone keyed mine new t h = go (listed (ties_of before) t) refl
  where
    clash : Owner before t → ⊥
    clash w =
        ⊎_elim
        (λ te. ⊎_elim
        (λ tg. absurd (let i : listed (map thread_tie before) (thread_tie e) ≡ true = in_listed _ _ (subst (λ (u : Tie). In u (map thread_tie before)) (sym tg ∙ te) (thread_among before w.event w.among)) in cc))
        (λ kg. let z = keyed w.event w.among t kg in let q = ap (λ (u : Tie). u.class) te in absurd (omega (arith, z, q)))
        (listed_in (ties w.event) t w.has))
        (λ ke. ⊎_elim
        (λ tg. let z = mine t ke in let q = ap (λ (u : Tie). u.class) tg in absurd (omega (arith, z, q)))
        (λ kg. absurd (let i : listed (keys_of before) t ≡ true = in_listed _ _ (key_among before w.event t w.among kg) in let n = no_repeat (keys_of before) (keys e) new t ke in cc))
        (listed_in (ties w.event) t w.has))
        (listed_in (ties e) t h)

    go : (b : Bool) → listed (ties_of before) t ≡ b → b ≡ false
    go true eq = absurd (clash (owner before t eq))
    go false eq = refl

pub clock_none : (es : List LogEvent) (t : Tie) → listed (ties_of es) t ≡ false → clock_at es t ≡ None
clock_none [] t h = refl
clock_none (e ∷ es) t h =
    let (a, b) = or_none (listed (ties e) t) (listed (ties_of es) t) (sym (list_any-append (λ s. same s t) (ties e) (ties_of es)) ∙ h) in
    rw a (clock_none es t b)

-- parts of the check

pub wrong_none : (whole : Bool) (all before : List LogEvent) (e : LogEvent) → wrong whole all before e ≡ None → (repeats (keys_of before) (keys e) ≡ false) × (clock_wrong whole e.name e.entry.clock (greatest (clock_at all) (needs (ties e))) ≡ None)
wrong_none whole all before e h = go (repeats (keys_of before) (keys e)) refl h
  where
    go : (b : Bool) → repeats (keys_of before) (keys e) ≡ b → cond b (Some (Twice (e.name))) (clock_wrong whole e.name e.entry.clock (greatest (clock_at all) (needs (ties e)))) ≡ None → (b ≡ false) × (clock_wrong whole e.name e.entry.clock (greatest (clock_at all) (needs (ties e))) ≡ None)
    go true eq z = absurd cc
    go false eq z = (refl, z)

pub else_none : (a b : Option OrderError) → or_else a b ≡ None → (a ≡ None) × (b ≡ None)
else_none None b h = (refl, h)
else_none (Some x) b h = absurd cc

clock_right : (whole : Bool) (e : LogEvent) (c : ℕ) → clock_wrong whole e.name e.entry.clock (Some c) ≡ None → e.entry.clock ≡ c + 1
clock_right whole e c h = go (eqb e.entry.clock (c + 1)) refl h
  where
    go : (b : Bool) → eqb e.entry.clock (c + 1) ≡ b → cond b None (Some (Clock (e.name))) ≡ None → e.entry.clock ≡ c + 1
    go true eq z = eqb-true _ _ eq
    go false eq z = absurd cc

pub passed_clocks : (whole : Bool) (all before es : List LogEvent) → first_wrong whole all before es ≡ None → (e : LogEvent) → In e es → clock_wrong whole e.name e.entry.clock (greatest (clock_at all) (needs (ties e))) ≡ None
passed_clocks whole all before [] h e i = absurd i
passed_clocks whole all before (f ∷ es) h e (inl is) = subst (λ (x : LogEvent). clock_wrong whole x.name x.entry.clock (greatest (clock_at all) (needs (ties x))) ≡ None) (sym is) (wrong_none whole all before f (else_none _ _ h).0).1
passed_clocks whole all before (f ∷ es) h e (inr i) = passed_clocks whole all (before ++ f ∷ []) es (else_none _ _ h).1 e i

pub passed_first : (whole : Bool) (all before es : List LogEvent) → Keyed before → Numbered before es → first_wrong whole all before es ≡ None → (f : LogEvent) → In f es → (t : Tie) → listed (ties f) t ≡ true → clock_at (before ++ es) t ≡ Some f.entry.clock
passed_first whole all before [] keyed n h f i t l = absurd i
passed_first whole all before (e ∷ es) keyed n h f (inl is) t l =
    let l' : listed (ties e) t ≡ true = subst (λ (x : LogEvent). listed (ties x) t ≡ true) is l in
    let none = clock_none before t (is_new before e n.0 keyed n.1 (wrong_none whole all before e (else_none _ _ h).0).0 t l') in
    clock_at-append before (e ∷ es) t ∙ ap (λ (o : Option ℕ). or_else o (clock_at (e ∷ es) t)) none ∙ ap (λ (b : Bool). cond b (Some e.entry.clock) (clock_at es t)) l' ∙ ap (λ (x : LogEvent). Some x.entry.clock) (sym is)
passed_first whole all before (e ∷ es) keyed n h f (inr i) t l =
    ap (λ (x : List LogEvent). clock_at x t) (sym (append_assoc before (e ∷ []) es))
    ∙ passed_first whole all (before ++ e ∷ []) es
    (λ g j k m. ⊎_elim (λ y. keyed g y k m) (λ y. ⊎_elim (λ eq. n.1 k (subst (λ (x : LogEvent). In k (keys x)) eq m)) (λ z. absurd z) y) (In-cases g before (e ∷ []) j))
    n.2 (else_none _ _ h).1 f i t l

-- a file whose check passes fits
pub fits : (whole : Bool) (all : List LogEvent) → Numbered [] all → first_wrong whole all [] all ≡ None → Fits all
fits whole all n h = record {
  first = λ f i t l. passed_first whole all [] all (λ e j k m. absurd j) n h f i t l;
  clocks = λ e i c g. clock_right whole e c (subst (λ (o : Option ℕ). clock_wrong whole e.name e.entry.clock o ≡ None) g (passed_clocks whole all [] all h e i));
}

-- in a whole log that passes, each event is in the closed part

both_some : (a b : Option ℕ) (c : ℕ) → both a b ≡ Some c → ((d : ℕ) × (a ≡ Some d)) × ((d : ℕ) × (b ≡ Some d))
both_some None b c e = absurd cc
both_some (Some x) None c e = absurd cc
both_some (Some x) (Some y) c e = ((x, refl), (y, refl))

pub greatest_each : (at : Tie → Option ℕ) (ts : List Tie) (c : ℕ) → greatest at ts ≡ Some c → (t : Tie) → In t ts → (d : ℕ) × (at t ≡ Some d)
greatest_each at [] c e t i = absurd i
greatest_each at (s ∷ ts) c e t (inl is) = let w = (both_some (at s) (greatest at ts) c e).0 in (w.0, ap at is ∙ w.1)
greatest_each at (s ∷ ts) c e t (inr i) = let w = (both_some (at s) (greatest at ts) c e).1 in greatest_each at ts w.0 w.1 t i

pub clock_owned : (es : List LogEvent) (t : Tie) (d : ℕ) → clock_at es t ≡ Some d → listed (ties_of es) t ≡ true
clock_owned es t d h = go (listed (ties_of es) t) refl
  where
    go : (b : Bool) → listed (ties_of es) t ≡ b → b ≡ true
    go true e = refl
    go false e = absurd (let z = clock_none es t e in cc)

whole_some : (e : LogEvent) (o : Option ℕ) → clock_wrong true e.name e.entry.clock o ≡ None → (c : ℕ) × (o ≡ Some c)
whole_some e None h = absurd cc
whole_some e (Some c) h = (c, refl)

pub whole_closed : (all : List LogEvent) → first_wrong true all [] all ≡ None → HoldsBefore all all
whole_closed all h e i =
    let (c, g) = whole_some e _ (passed_clocks true all [] all h e i) in
    (i, all_from (listed (ties_of all)) (needs (ties e)) (λ t n. let (d, f) = greatest_each (clock_at all) (needs (ties e)) c g t n in clock_owned all t d f))

pub whole_union : (all : List LogEvent) → first_wrong true all [] all ≡ None → (e : LogEvent) → In e all → IsHeld all e
whole_union all h e i = (all, whole_closed all h, i)
