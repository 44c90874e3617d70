-- Growing along the clocks gives the union of all closed sets.
use Rattle.std.proofs.Common.{◌≡◌, ℕ, ◌+◌, ◌<◌, ◌≤◌, Bool, true, false, cond, List, [], ◌∷◌, ◌++◌, Option, Some, None, inl, inr, ⊎_elim, refl, sym, ap, ◌∙◌, subst, arith, append_assoc, append-nil}
use Rattle.std.specs.Prelude.{◌&&◌, ◌||◌, max, ◌↔◌, ◌⊎◌}
use Rattle.std.specs.List.{list_all}
use Rattle.std.proofs.lemmas.List.Folds.{list_any-append}
use Rattle.log_closure.specs.declared.tie.Tie.{Tie}
use Rattle.log_closure.specs.Events.{In, LogEvent}
use Rattle.log_closure.specs.FirstWrong.{both, clock_at, greatest}
use Rattle.log_closure.specs.Growing.{HoldsBefore, IsHeld, grow, grown, has_before}
use Rattle.log_closure.specs.Ties.{listed, needs, same, ties, ties_of}
use Rattle.log_closure.proofs.Steps.{and_first, and_second}

-- members

pub In-left : {A : Type 0} (x : A) (xs ys : List A) → In x xs → In x (xs ++ ys)
In-left x [] ys i = absurd i
In-left x (z ∷ xs) ys (inl e) = inl e
In-left x (z ∷ xs) ys (inr i) = inr (In-left x xs ys i)

pub In-right : {A : Type 0} (x : A) (xs ys : List A) → In x ys → In x (xs ++ ys)
In-right x [] ys i = i
In-right x (z ∷ xs) ys i = inr (In-right x xs ys i)

pub In-cases : {A : Type 0} (x : A) (xs ys : List A) → In x (xs ++ ys) → In x xs ⊎ In x ys
In-cases x [] ys i = inr i
In-cases x (z ∷ xs) ys (inl e) = inl (inl e)
In-cases x (z ∷ xs) ys (inr i) = ⊎_elim (λ j. inl (inr j)) (λ j. inr j) (In-cases x xs ys i)

-- tests

pub or_cases : (a b : Bool) → (a || b) ≡ true → (a ≡ true) ⊎ (b ≡ true)
or_cases true b e = inl refl
or_cases false b e = inr e

pub or_right : (a b : Bool) → b ≡ true → (a || b) ≡ true
or_right true b e = refl
or_right false b e = e

pub and_both : (a b : Bool) → a ≡ true → b ≡ true → (a && b) ≡ true
and_both true b e f = f
and_both false b e f = absurd cc

-- an event of these has the tie
pub record Owner (es : List LogEvent) (t : Tie) : Type 0 where
  pub event : LogEvent
  pub among : In event es
  pub has : listed (ties event) t ≡ true

pub owner : (es : List LogEvent) (t : Tie) → listed (ties_of es) t ≡ true → Owner es t
owner [] t h = absurd cc
owner (e ∷ es) t h =
    ⊎_elim (λ i. record { event = e; among = inl refl; has = i })
    (λ i. let w = owner es t i in record { event = w.event; among = inr w.among; has = w.has })
    (or_cases (listed (ties e) t) (listed (ties_of es) t) (sym (list_any-append (λ s. same s t) (ties e) (ties_of es)) ∙ h))

pub owned : (es : List LogEvent) (t : Tie) (e : LogEvent) → In e es → listed (ties e) t ≡ true → listed (ties_of es) t ≡ true
owned [] t e i h = absurd i
owned (f ∷ es) t e (inl is) h = list_any-append (λ s. same s t) (ties f) (ties_of es) ∙ ap (λ (b : Bool). b || listed (ties_of es) t) (subst (λ (g : LogEvent). listed (ties g) t ≡ true) is h)
owned (f ∷ es) t e (inr i) h = list_any-append (λ s. same s t) (ties f) (ties_of es) ∙ or_right (listed (ties f) t) _ (owned es t e i h)

pub all_in : {A : Type 0} (p : A → Bool) (ts : List A) → list_all p ts ≡ true → (t : A) → In t ts → p t ≡ true
all_in p [] h t i = absurd i
all_in p (s ∷ ts) h t (inl e) = ap p e ∙ and_first (p s) (list_all p ts) h
all_in p (s ∷ ts) h t (inr i) = all_in p ts (and_second (p s) (list_all p ts) h) t i

pub all_from : {A : Type 0} (p : A → Bool) (ts : List A) → ((t : A) → In t ts → p t ≡ true) → list_all p ts ≡ true
all_from p [] h = refl
all_from p (s ∷ ts) h = and_both (p s) (list_all p ts) (h s (inl refl)) (all_from p ts (λ t i. h t (inr i)))

-- more events hold no fewer predecessors
pub before_kept : (es fs : List LogEvent) → ((f : LogEvent) → In f es → In f fs) → (e : LogEvent) → has_before es e ≡ true → has_before fs e ≡ true
before_kept es fs sub e h = all_from (listed (ties_of fs)) (needs (ties e)) (λ t i.
    let w = owner es t (all_in (listed (ties_of es)) (needs (ties e)) h t i) in
    owned fs t w.event (sub w.event w.among) w.has)

-- what grows is closed

pub grown_keeps : (part : List LogEvent) (f e : LogEvent) → In e part → In e (grown part f)
grown_keeps part f e i = go (has_before part f)
  where
    go : (b : Bool) → In e (cond b (part ++ f ∷ []) part)
    go true = In-left e part (f ∷ []) i
    go false = i

pub grow_keeps : (part rest : List LogEvent) (e : LogEvent) → In e part → In e (grow part rest)
grow_keeps part [] e i = i
grow_keeps part (f ∷ rest) e i = grow_keeps (grown part f) rest e (grown_keeps part f e i)

pub grown_closed : (all part : List LogEvent) (f : LogEvent) → HoldsBefore all part → In f all → HoldsBefore all (grown part f)
grown_closed all part f h within = go (has_before part f) refl
  where
    kept : (e : LogEvent) → has_before part e ≡ true → has_before (part ++ f ∷ []) e ≡ true
    kept e = before_kept part (part ++ f ∷ []) (λ g k. In-left g part (f ∷ []) k) e

    go : (b : Bool) → has_before part f ≡ b → HoldsBefore all (cond b (part ++ f ∷ []) part)
    go true is = λ e i. ⊎_elim
        (λ j. ((h e j).0, kept e (h e j).1))
        (λ j. ⊎_elim (λ eq. subst (λ (x : LogEvent). In x all × (has_before (part ++ f ∷ []) x ≡ true)) (sym eq) (within, kept f is)) (λ k. absurd k) j)
        (In-cases e part (f ∷ []) i)
    go false is = h

pub grow_closed : (all part rest : List LogEvent) → HoldsBefore all part → ((e : LogEvent) → In e rest → In e all) → HoldsBefore all (grow part rest)
grow_closed all part [] h within = h
grow_closed all part (f ∷ rest) h within = grow_closed all (grown part f) rest (grown_closed all part f h (within f (inl refl))) (λ e i. within e (inr i))

-- each closed set is in what grows along the clocks

-- what the check of tickets and clocks gives
pub record Fits (all : List LogEvent) : Type 0 where
  pub first : (f : LogEvent) → In f all → (t : Tie) → listed (ties f) t ≡ true → clock_at all t ≡ Some f.entry.clock
  pub clocks : (e : LogEvent) → In e all → (c : ℕ) → greatest (clock_at all) (needs (ties e)) ≡ Some c → e.entry.clock ≡ c + 1

-- the greatest of clocks that are all there is there, and none is greater
pub greatest_some : (at : Tie → Option ℕ) (ts : List Tie) → ((t : Tie) → In t ts → (c : ℕ) × (at t ≡ Some c)) → (c : ℕ) × (greatest at ts ≡ Some c)
greatest_some at [] h = (0, refl)
greatest_some at (t ∷ ts) h =
    let (c, e) = h t (inl refl) in
    let (d, f) = greatest_some at ts (λ s i. h s (inr i)) in
    (max c d, rw (e, f) refl)

some_is : (a b : ℕ) → Some a ≡ Some b → a ≡ b
some_is a b e = cc

over_step : (m n : Option ℕ) (c d : ℕ) → both m n ≡ Some c → (m ≡ Some d) ⊎ ((y : ℕ) → n ≡ Some y → d ≤ y) → d ≤ c
over_step None n c d r h = absurd cc
over_step (Some x) None c d r h = absurd cc
over_step (Some x) (Some y) c d r (inl e) = let a = some_is _ _ r in let z = some_is _ _ e in omega (arith, a, z)
over_step (Some x) (Some y) c d r (inr g) = let a = some_is _ _ r in let z = g y refl in omega (arith, a, z)

pub greatest_over : (at : Tie → Option ℕ) (ts : List Tie) (c : ℕ) → greatest at ts ≡ Some c → (t : Tie) → In t ts → (d : ℕ) → at t ≡ Some d → d ≤ c
greatest_over at [] c e t i d f = absurd i
greatest_over at (s ∷ ts) c e t i d f = over_step (at s) (greatest at ts) c d e
    (⊎_elim (λ eq. inl (sym (ap at eq) ∙ f)) (λ j. inr (λ y q. greatest_over at ts y q t j d f)) i)

-- a direct predecessor in a closed set has a lower clock
pub rises : (all set : List LogEvent) → Fits all → HoldsBefore all set → (e : LogEvent) → In e set → (t : Tie) → In t (needs (ties e)) → (w : Owner set t) → w.event.entry.clock < e.entry.clock
rises all set fits h e i t n w =
    let have : (s : Tie) → In s (needs (ties e)) → (c : ℕ) × (clock_at all s ≡ Some c) =
    λ s j. let v = owner set s (all_in (listed (ties_of set)) (needs (ties e)) (h e i).1 s j) in (v.event.entry.clock, fits.first v.event (h v.event v.among).0 s v.has) in
    let (c, g) = greatest_some (clock_at all) (needs (ties e)) have in
    let is : e.entry.clock ≡ c + 1 = fits.clocks e (h e i).0 c g in
    let le : w.event.entry.clock ≤ c = greatest_over (clock_at all) (needs (ties e)) c g t n w.event.entry.clock (fits.first w.event (h w.event w.among).0 t w.has) in
    omega arith

-- clocks do not fall
abbrev pub Climbs : List LogEvent → Type 0
Climbs [] = Unit {0}
Climbs (e ∷ es) = ((f : LogEvent) → In f es → e.entry.clock ≤ f.entry.clock) × Climbs es

pub grow_all : (all set part done rest : List LogEvent) → Fits all → HoldsBefore all set → ((e : LogEvent) → In e all → In e (done ++ rest)) → Climbs rest → ((e : LogEvent) → In e set → In e done → In e part) → (e : LogEvent) → In e set → In e (grow part rest)
grow_all all set part done [] fits h covers climbs inv e i = inv e i (subst (In e) (append-nil done) (covers e (h e i).0))
grow_all all set part done (f ∷ rest) fits h covers climbs inv e i =
    grow_all all set (grown part f) (done ++ f ∷ []) rest fits h (λ g j. subst (In g) (sym (append_assoc done (f ∷ []) rest)) (covers g j)) climbs.1
    (λ g j k. ⊎_elim (λ m. grown_keeps part f g (inv g j m)) (λ m. ⊎_elim (λ eq. subst (λ (x : LogEvent). In x (grown part f)) (sym eq) (joins (subst (λ (x : LogEvent). In x set) eq j))) (λ z. absurd z) m) (In-cases g done (f ∷ []) k))
    e i
  where
    -- an earlier member stands before f
    old : (g : LogEvent) → In g set → g.entry.clock < f.entry.clock → In g done
    old g j lt = ⊎_elim (λ k. k) (λ k. ⊎_elim (λ eq. let z = ap (λ (x : LogEvent). x.entry.clock) eq in absurd (omega (arith, z, lt))) (λ m. let z = climbs.0 g m in absurd (omega (arith, z, lt))) k) (In-cases g done (f ∷ rest) (covers g (h g j).0))

    before : In f set → has_before part f ≡ true
    before j = all_from (listed (ties_of part)) (needs (ties f)) (λ t n.
        let w = owner set t (all_in (listed (ties_of set)) (needs (ties f)) (h f j).1 t n) in
        owned part t w.event (inv w.event w.among (old w.event w.among (rises all set fits h f j t n w))) w.has)

    go : (b : Bool) → b ≡ true → In f (cond b (part ++ f ∷ []) part)
    go true eq = In-right f part (f ∷ []) (inl refl)
    go false eq = absurd cc

    joins : In f set → In f (grown part f)
    joins j = go (has_before part f) (before j)

-- so it is the union
pub grow_union : (all order : List LogEvent) → Fits all → ((e : LogEvent) → In e all ↔ In e order) → Climbs order → (e : LogEvent) → In e (grow [] order) ↔ IsHeld all e
grow_union all order fits same climbs e = (
  λ i. (grow [] order, grow_closed all [] order (λ f j. absurd j) (λ f j. (same f).1 j), i),
  λ (set, h, i). grow_all all set [] [] order fits h (λ f j. (same f).0 j) climbs (λ f j k. absurd k) e i,
)
