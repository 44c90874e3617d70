-- What tests say of keys with tickets and of names.
use Rattle.std.proofs.Common.{◌≡◌, ℕ, ◌+◌, Bool, true, false, refl, sym, ap, arith, rules}
use Rattle.std.specs.Prelude.{eqb, ◌&&◌}
use Rattle.std.specs.Bool.{OnTrue, OnFalse}
use Rattle.std.proofs.Math.Bool.{not}
use Rattle.std.proofs.lemmas.Bool.{eq-eqb, eqb-true}
use denote.Enum.Bare.{sameb, same_true, true_same}
use Rattle.run_events.specs.contracts.key.Class.{the_type}
use Rattle.run_events.specs.declared.key.Class.TheVariants.{Mutex}
use Rattle.run_events.specs.declared.key.KeyMark.{KeyMark}
use Rattle.run_events.specs.declared.event.EventName.{EventName}
use Rattle.log_closure.specs.Predecessors.{next}

-- answers of tests

pub if_true : (b : Bool) {P Q : Type 0} → (P → Q) → OnTrue b P → OnTrue b Q
if_true true f h = f h
if_true false f h = tt

pub if_false : (b : Bool) {P Q : Type 0} → (P → Q) → OnFalse b P → OnFalse b Q
if_false true f h = tt
if_false false f h = f h

pub if_not : (b : Bool) {P Q : Type 0} → (P → Q) → OnTrue b P → OnFalse (not b) Q
if_not true f h = f h
if_not false f h = tt

pub unless : (b : Bool) {P Q : Type 0} → (P → Q) → OnFalse b P → OnTrue (not b) Q
unless true f h = tt
unless false f h = f h

pub anyway : (b : Bool) {Q : Type 0} → Q → OnFalse b Q
anyway true h = tt
anyway false h = h

pub both_true : (a b : Bool) → true ≡ (a && b) → (a ≡ true) × (b ≡ true)
both_true true b e = (refl, sym e)
both_true false b e = absurd cc

-- keys with tickets

-- what stands past the end of a list
abbrev pub no_mark : KeyMark
no_mark = record { key = record { class = Mutex; value = 0 }; ticket = 0 }

abbrev same_mark : KeyMark → KeyMark → Bool
same_mark a b = (sameb the_type a.key.class b.key.class && eqb a.key.value b.key.value) && eqb a.ticket b.ticket

pub same_marks : (a b : KeyMark) → true ≡ same_mark a b → a ≡ b
same_marks a b h =
    let (cv, t) = both_true _ _ h in
    let (c, v) = both_true _ _ (sym cv) in
    let class : a.key.class ≡ b.key.class = same_true the_type (search rules) a.key.class b.key.class c in
    let value : a.key.value ≡ b.key.value = eqb-true a.key.value b.key.value v in
    let ticket : a.ticket ≡ b.ticket = eqb-true a.ticket b.ticket t in
    λ i. record { key = record { class = class i; value = value i }; ticket = ticket i }

mark_same : (a b : KeyMark) → a ≡ b → same_mark a b ≡ true
mark_same a b e =
    let c : sameb the_type a.key.class b.key.class ≡ true = true_same the_type a.key.class b.key.class (ap (λ (m : KeyMark). m.key.class) e) in
    let v : eqb a.key.value b.key.value ≡ true = eq-eqb a.key.value b.key.value (ap (λ (m : KeyMark). m.key.value) e) in
    let t : eqb a.ticket b.ticket ≡ true = eq-eqb a.ticket b.ticket (ap (λ (m : KeyMark). m.ticket) e) in
    λ i. (c i && v i) && t i

pub other_marks : (a b : KeyMark) → false ≡ same_mark a b → a ≡ b → ⊥
other_marks a b h e = let t = mark_same a b e in absurd cc

-- one key with its ticket alone comes before another
pub next_one : (m n : KeyMark) → next m ≡ next n → m ≡ n
next_one m n e =
    let k = ap (λ (x : KeyMark). x.key) e in
    let s : m.ticket + 1 ≡ n.ticket + 1 = ap (λ (x : KeyMark). x.ticket) e in
    let t : m.ticket ≡ n.ticket = omega (arith, s) in
    λ i. record { key = k i; ticket = t i }

-- names

abbrev same_name : EventName → EventName → Bool
same_name a b = eqb a.thread b.thread && eqb a.index b.index

pub same_names : (a b : EventName) → true ≡ same_name a b → a ≡ b
same_names a b h =
    let (t, n) = both_true _ _ h in
    let thread : a.thread ≡ b.thread = eqb-true a.thread b.thread t in
    let index : a.index ≡ b.index = eqb-true a.index b.index n in
    λ i. record { thread = thread i; index = index i }

pub other_names : (a b : EventName) → false ≡ same_name a b → a ≡ b → ⊥
other_names a b h e =
    let t : eqb a.thread b.thread ≡ true = eq-eqb a.thread b.thread (ap (λ (n : EventName). n.thread) e) in
    let n : eqb a.index b.index ≡ true = eq-eqb a.index b.index (ap (λ (n : EventName). n.index) e) in
    let s : same_name a b ≡ true = λ i. t i && n i in
    absurd cc

-- numbers

pub not_other : (m n : ℕ) {Q : Type 0} → (m ≡ n → Q) → OnFalse (not (eqb m n)) Q
not_other m n f = if_not (eqb m n) f (yes (eqb m n) (eqb-true m n))
  where
    yes : (b : Bool) {P : Type 0} → (b ≡ true → P) → OnTrue b P
    yes true h = h refl
    yes false h = tt
