-- The races of a watch are those of the run.
use Rattle.std.proofs.Common.{◌≡◌, ℕ, suc, ◌+◌, ◌<◌, ◌≤◌, ◌^◌, Bool, true, false, ◌&&◌, ◌||◌, cond, eqb, List, [], ◌∷◌, length, ◌⊎◌, inl, inr, ⊎_elim, Some, refl, sym, ap, ◌∙◌, subst, arith, eq-eqb, eqb-true}
use Rattle.std.specs.Prelude.{not, unwrap_or, leb, ltb, ◌↔◌}
use Rattle.std.proofs.lemmas.Bool.{and_parts, and_from}
use Rattle.std.proofs.lemmas.Bool.Decides.{nat_tests}
use Rattle.causal_order.specs.Order.{OfThread, In}
use Rattle.marks.specs.declared.breach.BreachKind.TheVariants.{Race}
use Rattle.marks.specs.Places.{is_constant}
use Rattle.marks.specs.declared.range.Range.{Range}
use Rattle.marks.specs.Ranges.{range, covers, IsInRange}
use Rattle.marks.specs.Marks.{Mark}
use Rattle.marks.specs.Bytes.{Byte, reads, writes, touches, place}
use Rattle.replay_runs.specs.Runs.{events_with, Run, Start, Rules}
use Rattle.replay_runs.specs.Interface.{Program}
use Rattle.replay_runs.specs.Rules.{replay_rules}
use Rattle.replay_runs.specs.Laws.{fresh}
use Rattle.replay_runs.specs.Checks.{Races, Finding, FaultFound, BreachFound, Finds, Passes, Least, Done, race_check}
use Rattle.replay_runs.proofs.Causes.{le-place}
use Rattle.replay_runs.proofs.Facts.{place_in}
use Rattle.race_watch.specs.Told.{touched, wrote, IsRaced, IsRace}
use Rattle.race_watch.specs.Stands.{NoRace}
use Rattle.race_watch_laws.specs.Told.{told}
use Rattle.race_watch_laws.specs.Laws.{IsRunOf, KnowsTheRun, AnswersAsTheRun}
use Rattle.race_watch_laws.proofs.Told.{meets, run_last, run_step, Tells, tells}

-- no earlier access has a later place than the last
last_most : (r : Rules) (s : Start) (w : Bool) (x : ℕ) (past : List Mark) → Run r s past → (a : Mark) → In a past → meets w a.act x ≡ true → suc (place a) ≤ run_last w past a.thread x
last_most r s w x [] h a i e = absurd i
last_most r s w x (m ∷ past) h a (inl is) e =
    let hit : (eqb m.thread a.thread && meets w m.act x) ≡ true = and_from _ _ (eq-eqb m.thread a.thread (ap (λ y. y.thread) (sym is))) (ap (λ y. meets w y.act x) (sym is) ∙ e) in
    let z = run_step w m past a.thread x ∙ ap (λ b. cond b (suc (place m)) (run_last w past a.thread x)) hit in
    omega (arith, z, ap place is)
last_most r s w x (m ∷ past) h a (inr i) e = go (eqb m.thread a.thread && meets w m.act x) refl (run_step w m past a.thread x) (last_most r s w x past h.1 a i e)
  where
    go : (b : Bool) → (eqb m.thread a.thread && meets w m.act x) ≡ b → run_last w (m ∷ past) a.thread x ≡ cond b (suc (place m)) (run_last w past a.thread x) → suc (place a) ≤ run_last w past a.thread x → suc (place a) ≤ run_last w (m ∷ past) a.thread x
    go false f z k = omega (arith, z, k)
    go true f z k =
        let mt = eqb-true m.thread a.thread (and_parts (eqb m.thread a.thread) (meets w m.act x) f).0 in
        let n : m.index ≡ length (events_with s (OfThread a.thread) past) = h.0.index ∙ ap (λ u. length (events_with s (OfThread u) past)) mt in
        omega (arith, z, place_in r s past h.1 a i, n, le-place m)

-- and the last one is an access
record LastMark (w : Bool) (past : List Mark) (u x : ℕ) : Type 0 where
  mark : Mark
  mark_in : In mark past
  of : mark.thread ≡ u
  meets_it : meets w mark.act x ≡ true
  is : run_last w past u x ≡ suc (place mark)

last_mark : (w : Bool) (past : List Mark) (u x : ℕ) → LastMark w past u x ⊎ (run_last w past u x ≡ 0)
last_mark w [] u x = inr (nothing w)
  where
    nothing : (w : Bool) → run_last w [] u x ≡ 0
    nothing true = refl
    nothing false = refl
last_mark w (m ∷ past) u x = go (eqb m.thread u && meets w m.act x) refl (run_step w m past u x) (last_mark w past u x)
  where
    go : (b : Bool) → (eqb m.thread u && meets w m.act x) ≡ b → run_last w (m ∷ past) u x ≡ cond b (suc (place m)) (run_last w past u x) → LastMark w past u x ⊎ (run_last w past u x ≡ 0) → LastMark w (m ∷ past) u x ⊎ (run_last w (m ∷ past) u x ≡ 0)
    go true e z k =
        let p = and_parts (eqb m.thread u) (meets w m.act x) e in
        inl (record { mark = m; mark_in = inl refl; of = eqb-true m.thread u p.0; meets_it = p.1; is = z })
    go false e z (inl k) = inl (record { mark = k.mark; mark_in = inr k.mark_in; of = k.of; meets_it = k.meets_it; is = z ∙ k.is })
    go false e z (inr k) = inr (z ∙ k)

-- no mark of a run writes a constant
written : (program : Program) (s : Start) (past : List Mark) → Run (replay_rules program s) s past → (a : Mark) → In a past → (x : ℕ) → writes a.act x ≡ true → is_constant x ≡ false
written program s [] h a i x e = absurd i
written program s (m ∷ past) h a (inl is) x e = h.0.own.read_only x (ap (λ y. writes y.act x) (sym is) ∙ e)
written program s (m ∷ past) h a (inr i) x e = written program s past h.1 a i x e

-- what races with an access of a byte that is no constant
no_constant : (w v k t : Bool) → (w ≡ true → k ≡ false) → (w || (v && (not k && t))) ≡ true → k ≡ false
no_constant true v k t f e = f refl
no_constant false true true t f e = absurd cc
no_constant false true false t f e = refl
no_constant false false k t f e = absurd cc

it_meets : (v r w k : Bool) → (w || (v && (not k && (r || w)))) ≡ true → cond v (r || w) w ≡ true
it_meets true true w k e = refl
it_meets true false true k e = refl
it_meets true false false true e = absurd cc
it_meets true false false false e = absurd cc
it_meets false r true k e = refl
it_meets false r false k e = absurd cc

it_races : (v r w k : Bool) → k ≡ false → cond v (r || w) w ≡ true → (w || (v && (not k && (r || w)))) ≡ true
it_races v r true k free e = refl
it_races true true false true free e = absurd cc
it_races true true false false free e = refl
it_races true false false k free e = absurd cc
it_races false r false k free e = absurd cc

raced : (program : Program) (memory : ℕ → Byte) (past : List Mark) → IsRunOf program memory past → (t : ℕ) (write : Bool) (x u : ℕ) → Races past t write x u → IsRaced t write (told past) x u
raced program memory past h t write x u b =
    let k = tells program memory past h in
    let a : Mark = b.0 in
    let free : is_constant x ≡ false = no_constant (writes a.act x) write (is_constant x) (touches a.act x) (written program (fresh memory) past h a b.1 x) b.4 in
    let most = last_most (replay_rules program (fresh memory)) (fresh memory) write x past h a b.1 (it_meets write (reads a.act x) (writes a.act x) (is_constant x) b.4) in
    let here : run_last write past a.thread x ≡ run_last write past u x = ap (λ v. run_last write past v x) b.2 in
    let is : cond write (touched u x (told past)) (wrote u x (told past)) ≡ run_last write past u x = k.last write u x free in
    record { other = b.3; no_constant = free; unknown = omega (arith, most, here, is, k.known (OfThread t) u, b.5) }

racer : (program : Program) (memory : ℕ → Byte) (past : List Mark) → IsRunOf program memory past → (t : ℕ) (write : Bool) (x u : ℕ) → IsRaced t write (told past) x u → Races past t write x u
racer program memory past h t write x u r = ⊎_elim found (λ z. absurd (omega (arith, z, is, r.unknown))) (last_mark write past u x)
  where
    k : Tells memory past
    k = tells program memory past h

    is : cond write (touched u x (told past)) (wrote u x (told past)) ≡ run_last write past u x
    is = k.last write u x r.no_constant

    found : LastMark write past u x → Races past t write x u
    found w = (w.mark, w.mark_in, w.of, r.other, it_races write (reads w.mark.act x) (writes w.mark.act x) (is_constant x) r.no_constant w.meets_it, omega (arith, r.unknown, is, w.is, k.known (OfThread t) u))

pub races_same : (program : Program) (memory : ℕ → Byte) (past : List Mark) → IsRunOf program memory past → (t : ℕ) (write : Bool) (x u : ℕ) → IsRaced t write (told past) x u ↔ Races past t write x u
races_same program memory past h t write x u = (racer program memory past h t write x u, raced program memory past h t write x u)

pub knows_the_run : (program : Program) (memory : ℕ → Byte) (past : List Mark) → IsRunOf program memory past → KnowsTheRun memory past
knows_the_run program memory past h =
    let k = tells program memory past h in
    record {
      places = k.places;
      known = k.known;
      wrote = λ u x free. k.last false u x free;
      touched = λ u x free. k.last true u x free;
      races = races_same program memory past h;
    }

-- the check finds it

in_it : (r : Range) (x : ℕ) → r.addr + r.len ≤ 2 ^ 64 → covers (range r.addr r.len) x ≡ true → IsInRange r x
in_it r x fits e =
    let p = and_parts (leb r.addr x) (ltb x (r.addr + r.len)) e in
    let low : r.addr ≤ x = grind (arith, nat_tests) in
    let high : x < r.addr + r.len = grind (arith, nat_tests) in
    (low, high, omega (arith, high, fits))

is_in : (r : Range) (x : ℕ) → IsInRange r x → covers (range r.addr r.len) x ≡ true
is_in r x h = grind (arith, nat_tests, h.0, h.1)

abbrev address_of : Finding → ℕ
address_of (FaultFound kind) = 0
address_of (BreachFound kind address other) = address

abbrev other_of : Finding → ℕ
other_of (FaultFound kind) = 0
other_of (BreachFound kind address other) = unwrap_or other 0

pub answers : (program : Program) (memory : ℕ → Byte) (past : List Mark) → IsRunOf program memory past → (t : ℕ) (r : Range) (write : Bool) → r.addr + r.len ≤ 2 ^ 64 → AnswersAsTheRun past t r write
answers program memory past h t r write fits = record { races = λ other addr. (finds other addr, found other addr); none = (passes, passed) }
  where
    to : (x u : ℕ) → IsRaced t write (told past) x u → Races past t write x u
    to x u b = racer program memory past h t write x u b

    back : (x u : ℕ) → Races past t write x u → IsRaced t write (told past) x u
    back x u b = raced program memory past h t write x u b

    Bad : ℕ → Type 0
    Bad x = (covers (range r.addr r.len) x ≡ true) × ((u : ℕ) × Races past t write x u)

    finds : (other addr : ℕ) → IsRace t r write (told past) other addr → Finds (race_check past t write (range r.addr r.len) Done) (BreachFound Race addr (Some other))
    finds other addr b =
        inl (
          addr,
          ((is_in r addr b.first.in_range, (other, to addr other b.raced)), λ y c. b.first.least y (in_it r y fits c.0) (c.1.0, back y c.1.0 c.1.1)),
          (other, (to addr other b.raced, λ u c. b.least u (back addr u c)), refl),
        )

    at_least : (other addr x u : ℕ) → addr ≡ x → other ≡ u → Least Bad x → Least (Races past t write x) u → IsRace t r write (told past) other addr
    at_least other addr x u is of low one =
        subst (λ a. IsRace t r write (told past) other a) (sym is)
        (subst (λ o. IsRace t r write (told past) o x) (sym of)
        (record {
          first = record { in_range = in_it r x fits low.0.0; holds = (u, back x u one.0); least = λ y i c. low.1 y (is_in r y i, (c.0, to y c.0 c.1)) };
          raced = back x u one.0;
          least = λ v c. one.1 v (to x v c);
        }))

    found : (other addr : ℕ) → Finds (race_check past t write (range r.addr r.len) Done) (BreachFound Race addr (Some other)) → IsRace t r write (told past) other addr
    found other addr (inl b) = at_least other addr b.0 b.2.0 (ap address_of b.2.2) (ap other_of b.2.2) b.1 b.2.1
    found other addr (inr b) = absurd b.1

    passes : NoRace (told past) t r write → Passes (race_check past t write (range r.addr r.len) Done)
    passes n = (λ x b. n x b.1.0 (in_it r x fits b.0) (back x b.1.0 b.1.1), tt)

    passed : Passes (race_check past t write (range r.addr r.len) Done) → NoRace (told past) t r write
    passed p x u i b = p.0 x (is_in r x i, (u, to x u b))
