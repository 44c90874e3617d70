-- The bytes that a mark touches, where its accesses come before its event: what the rules of a run and the test for
-- races say of them, and the checks too.
use Rattle.std.proofs.Common.{◌≡◌, ⊎_elim, ℕ, ◌≤◌, Bool, true, false, ◌&&◌, ◌||◌, not, cond, List, ◌∷◌, refl, sym, ap, ◌∙◌, arith}
use Rattle.std.proofs.lemmas.Bool.{and_parts, and_from, or_cases, cases_Bool, true≢false, cases_lt}
use Rattle.marks.specs.declared.fault.FaultKind.{FaultKind}
use Rattle.marks.specs.Places.{is_constant, is_system}
use Rattle.marks.specs.declared.range.Range.{Range}
use Rattle.marks.specs.Ranges.{covers, any_range}
use Rattle.marks.specs.Marks.{Access, Reading, Writing, Act, Fault, Mark}
use Rattle.marks.specs.Bytes.{access_reads, access_writes, reads, writes, touches, late, place, conflict}
use Rattle.marks.proofs.Touched.{or_true_left, or_true_right}
use Rattle.replay_runs.specs.Runs.{OfThread, Start}
use Rattle.replay_runs.specs.Known.{known, known_at, NoRace}
use Rattle.replay_runs.specs.Interface.{Program}
use Rattle.replay_runs.specs.Rules.{OwnRules}
use Rattle.replay_runs.specs.Checks.{Races}
use Rattle.replay_runs.proofs.Checked.{races_more, races_less}
use Rattle.replay_runs.specs.Passing.{Unraced, InOwnSpace}

-- what thread t touches is of replay memory and raced by nothing, and no constant where it is written
pub record IsFree (past : List Mark) (t : ℕ) (a : Act) : Type 0 where
  pub space : (x : ℕ) → touches a x ≡ true → is_system x ≡ false
  pub constant : (x : ℕ) → writes a x ≡ true → is_constant x ≡ false
  pub reading : (x u : ℕ) → touches a x ≡ true → Races past t false x u → ⊥
  pub writing : (x u : ℕ) → writes a x ≡ true → Races past t true x u → ⊥

-- an access that comes before the event knows what the thread knows
knows : (past : List Mark) (m : Mark) (u : ℕ) → late m.act ≡ false → known_at past m u ≡ known past (OfThread m.thread) u
knows past m u e = ap (λ b. cond b (known (m ∷ past) (OfThread m.thread) u) (known past (OfThread m.thread) u)) e

first : (w t : Bool) → (w || (false && t)) ≡ true → w ≡ true
first true t e = refl
first false t e = e

-- a mark that may come is free
module _ (past : List Mark) (m : Mark) (free : NoRace past m) (early : late m.act ≡ false) where
  met : (x u : ℕ) (w : Bool) → Races past m.thread w x u → ((a : Mark) → (writes a.act x || (w && (not (is_constant x) && touches a.act x))) ≡ true → conflict a.act m.act x ≡ true) → ⊥
  met x u w r conflicts =
      let a = r.0 in
      let lt = free a r.1 (λ z. r.3 (sym r.2 ∙ z)) x (conflicts a r.4) in
      let k : known_at past m a.thread ≡ known past (OfThread m.thread) u = knows past m a.thread early ∙ ap (known past (OfThread m.thread)) r.2 in
      absurd (omega (arith, lt, k, r.5))

  pub comes_free : (program : Program) (s : Start) (mine : List Mark) → OwnRules program s mine m → IsFree past m.thread m.act
  comes_free program s mine own =
      record {
        space = own.other_space;
        constant = own.read_only;
        reading = λ x u e r. met x u false r (λ a w. or_true_left (writes a.act x && touches m.act x) (touches a.act x && writes m.act x) (and_from (writes a.act x) (touches m.act x) (first (writes a.act x) (not (is_constant x) && touches a.act x) w) e));
        writing = λ x u e r. met x u true r (λ a w. ⊎_elim
            (λ z. or_true_left (writes a.act x && touches m.act x) (touches a.act x && writes m.act x) (and_from (writes a.act x) (touches m.act x) z (or_true_right (reads m.act x) (writes m.act x) e)))
            (λ z. or_true_right (writes a.act x && touches m.act x) (touches a.act x && writes m.act x) (and_from (touches a.act x) (writes m.act x) z e))
            (or_cases (writes a.act x) (true && touches a.act x) (races_less (writes a.act x) (touches a.act x) true (is_constant x) w)));
      }

-- and what is free races with nothing
pub races_with_none : (past : List Mark) (m : Mark) → late m.act ≡ false → IsFree past m.thread m.act → NoRace past m
races_with_none past m early free a i ne x c =
    ⊎_elim
    (λ lt. lt)
    (λ le.
    let k : known past (OfThread m.thread) a.thread ≤ place a = omega (arith, le, knows past m a.thread early) in
    absurd (⊎_elim
    (λ z. let p = and_parts (writes a.act x) (touches m.act x) z in
    free.reading x a.thread p.1 (a, i, refl, ne, or_true_left (writes a.act x) (false && (not (is_constant x) && touches a.act x)) p.0, k))
    (λ z. let p = and_parts (touches a.act x) (writes m.act x) z in
    free.writing x a.thread p.1 (a, i, refl, ne, races_more (writes a.act x) (touches a.act x) true (is_constant x) (λ w y. true≢false (sym y ∙ free.constant x p.1)) (or_true_right (writes a.act x) (touches a.act x) p.0), k))
    (or_cases (writes a.act x && touches m.act x) (touches a.act x && writes m.act x) c)))
    (cases_lt (place a) (known_at past m a.thread))

-- the ranges of a fault, and its access

both : (i c a b : Bool) → i ≡ true → ((a || (i && c)) || (b || (i && not c))) ≡ true
both true true true b e = refl
both true true false b e = refl
both true false true b e = refl
both true false false true e = refl
both true false false false e = refl
both false c a b e = absurd (true≢false (sym e))

unconstant : (i c b : Bool) → i ≡ true → c ≡ false → (b || (i && not c)) ≡ true
unconstant true false true e f = refl
unconstant true false false e f = refl
unconstant true true b e f = absurd (true≢false f)
unconstant false c b e f = absurd (true≢false (sym e))

module _ (past : List Mark) (t : ℕ) (k : FaultKind) (cr : Bool) (ins outs : List Range) where
  pub in_ins : (a : Access) (x : ℕ) → any_range ins x ≡ true → touches (Fault k cr ins outs a) x ≡ true
  in_ins a x e = or_true_left (any_range ins x || access_reads a x) (any_range outs x || access_writes a x) (or_true_left (any_range ins x) (access_reads a x) e)

  pub in_outs : (a : Access) (x : ℕ) → any_range outs x ≡ true → writes (Fault k cr ins outs a) x ≡ true
  in_outs a x e = or_true_left (any_range outs x) (access_writes a x) e

  read_in : (r : Range) (x : ℕ) → covers r x ≡ true → touches (Fault k cr ins outs (Reading r)) x ≡ true
  read_in r x e = or_true_left (any_range ins x || covers r x) (any_range outs x || false) (or_true_right (any_range ins x) (covers r x) e)

  write_in : (r : Range) (x : ℕ) → covers r x ≡ true → touches (Fault k cr ins outs (Writing r)) x ≡ true
  write_in r x e = both (covers r x) (is_constant x) (any_range ins x) (any_range outs x) e

  -- of a race at a written byte, which is no constant
  raced : (r : Range) → IsFree past t (Fault k cr ins outs (Writing r)) → (x u : ℕ) → covers r x ≡ true → Races past t true x u → ⊥
  raced r free x u e w = ⊎_elim
      (λ c. free.reading x u (write_in r x e) (w.0, w.1, w.2, w.3, only (writes w.0.act x) (touches w.0.act x) (is_constant x) c w.4, w.5))
      (λ c. free.writing x u (unconstant (covers r x) (is_constant x) (any_range outs x) e c) w)
      (cases_Bool (is_constant x))
    where
      only : (w t c : Bool) → c ≡ true → (w || (true && (not c && t))) ≡ true → (w || (false && (not c && t))) ≡ true
      only true t c e f = refl
      only false t true e f = f
      only false t false e f = absurd (true≢false (sym e))

  pub reading_free : (r : Range) → IsFree past t (Fault k cr ins outs (Reading r)) → InOwnSpace r × Unraced past t false r
  reading_free r free = ((λ x e. free.space x (read_in r x e)), λ x u e w. free.reading x u (read_in r x e) w)

  pub writing_free : (r : Range) → IsFree past t (Fault k cr ins outs (Writing r)) → InOwnSpace r × Unraced past t true r
  writing_free r free = ((λ x e. free.space x (write_in r x e)), λ x u e w. raced r free x u e w)
