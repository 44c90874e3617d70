-- The first race with the threads below one, and with all of them.
use Rattle.std.proofs.Common.{◌≡◌, ℕ, ◌+◌, ◌<◌, ◌≤◌, Bool, true, false, ◌&&◌, ◌||◌, not, leb, eqb, ◌∙◌, Option, Some, None, List, [], ◌∷◌, length, get_or, take, inl, inr, ◌⊎◌, ⊎_elim, refl, sym, ap, subst, arith}
use Rattle.std.proofs.lemmas.Bool.{true≢false, or_cases, or_left, or_right, and_parts, and_from, not-true, not_from_false, eqb-true, eq-eqb, ne_eqb, leb-true, le-leb, cases_lt}
use Rattle.marks.specs.declared.side.Side.TheVariants.{Replay}
use Rattle.marks.specs.Places.{is_constant}
use Rattle.marks.specs.Ranges.{covers}
use Rattle.marks.specs.Marks.{Act, Mark}
use Rattle.marks.specs.Bytes.{place, reads, touches, writes}
use Rattle.c_code.specs.MarkLists.{same_side}
use Rattle.replay_runs.specs.Runs.{OfThread, In}
use Rattle.replay_runs.specs.Known.{known}
use Rattle.replay_runs.specs.Checks.{Races}
use Rattle.whole_runs.specs.Sides.{seen}
use Rattle.reference_recorder_marks.specs.declared.mark.Mark as coded
use Rattle.reference_recorder_marks.specs.Marks.{mark_of, past}
use Rattle.reference_recorder_stamps.proofs.Counted.{seen_yes, seen_no}
use Rattle.reference_recorder_races.specs.declared.tested.Tested.{Tested}
use Rattle.reference_recorder_races.specs.declared.race.Race.{Race}
use Rattle.reference_recorder_races.specs.Least.{IsLeastAt}
use Rattle.reference_recorder_races.specs.Hits.{meets_act, meets_any, meets_mark}
use Rattle.reference_recorder_races.specs.Races.{IsFirstBelow, IsFirstRace, races_with}
use Rattle.reference_recorder_races.proofs.Bits.{meets_parts}
use Rattle.reference_recorder_races.proofs.Leasts.{no_least, same_least}

-- ---- what a test of marks says

-- an access of the byte by the act and a tested one, of the two a write
abbrev hit : (write : Bool) → Act → ℕ → Bool
hit write act x = writes act x || (write && (not (is_constant x) && touches act x))

module _ (a : Tested) where
  parts_of : (act : Act) (x : ℕ) → meets_act a act x ≡ (covers a.range x && hit a.write act x)
  parts_of act x = meets_parts (covers a.range x) a.write (is_constant x) (reads act x) (writes act x)

  -- a mark of the thread with such an access
  record IsMet (u k : ℕ) (ms : List Mark) (x : ℕ) : Type 0 where
    mark : Mark
    among : In mark ms
    own : mark.thread ≡ u
    late : k ≤ place mark
    covered : covers a.range x ≡ true
    met : hit a.write mark.act x ≡ true

  is_met : (u k : ℕ) (ms : List Mark) (x : ℕ) → meets_any a u k ms x ≡ true → IsMet u k ms x
  is_met u k [] x h = absurd (true≢false (sym h))
  is_met u k (m ∷ ms) x h = ⊎_elim here (λ z. there (is_met u k ms x z)) (or_cases (meets_mark a u k m x) (meets_any a u k ms x) h)
    where
      here : meets_mark a u k m x ≡ true → IsMet u k (m ∷ ms) x
      here z =
          let p = and_parts (eqb m.thread u && leb k (place m)) (meets_act a m.act x) z in
          let q = and_parts (eqb m.thread u) (leb k (place m)) p.0 in
          let r = and_parts (covers a.range x) (hit a.write m.act x) (sym (parts_of m.act x) ∙ p.1) in
          record { mark = m; among = inl refl; own = eqb-true m.thread u q.0; late = leb-true k (place m) q.1; covered = r.0; met = r.1 }

      there : IsMet u k ms x → IsMet u k (m ∷ ms) x
      there w = record { mark = w.mark; among = inr w.among; own = w.own; late = w.late; covered = w.covered; met = w.met }

  mark_meets : (u k : ℕ) (b : Mark) (x : ℕ) → b.thread ≡ u → k ≤ place b → covers a.range x ≡ true → hit a.write b.act x ≡ true → meets_mark a u k b x ≡ true
  mark_meets u k b x own late cover met =
      and_from (eqb b.thread u && leb k (place b)) (meets_act a b.act x)
      (and_from (eqb b.thread u) (leb k (place b)) (eq-eqb b.thread u own) (le-leb k (place b) late))
      (parts_of b.act x ∙ and_from (covers a.range x) (hit a.write b.act x) cover met)

  meets : (u k : ℕ) (ms : List Mark) (x : ℕ) (b : Mark) → In b ms → b.thread ≡ u → k ≤ place b → covers a.range x ≡ true → hit a.write b.act x ≡ true → meets_any a u k ms x ≡ true
  meets u k [] x b i own late cover met = absurd i
  meets u k (m ∷ ms) x b (inl e) own late cover met = or_left (meets_mark a u k m x) (meets_any a u k ms x) (subst (λ c. meets_mark a u k c x ≡ true) e (mark_meets u k b x own late cover met))
  meets u k (m ∷ ms) x b (inr i) own late cover met = or_right (meets_mark a u k m x) (meets_any a u k ms x) (meets u k ms x b i own late cover met)

  -- who meets nothing of a thread meets nothing of it that isn't known
  pub less_met : (u k : ℕ) (ms : List Mark) → IsLeastAt (meets_any a u 0 ms) None → IsLeastAt (meets_any a u k ms) None
  less_met u k ms h x z = let w = is_met u k ms x z in h x (meets u 0 ms x w.mark w.among w.own (omega arith) w.covered w.met)

-- ---- races

module _ (now : List Mark) (t : ℕ) (a : Tested) where
  race_of : (u x : ℕ) → races_with now t a u x ≡ true → (covers a.range x ≡ true) × Races now t a.write x u
  race_of u x h =
      let p = and_parts (not (eqb u t)) (meets_any a u (known now (OfThread t) u) now x) h in
      let w = is_met a u (known now (OfThread t) u) now x p.1 in
      (w.covered, (w.mark, w.among, w.own, λ e. true≢false (sym (eq-eqb u t e) ∙ not-true (eqb u t) p.0), w.met, w.late))

  race_is : (u x : ℕ) → covers a.range x ≡ true → Races now t a.write x u → races_with now t a u x ≡ true
  race_is u x cover b =
      and_from (not (eqb u t)) (meets_any a u (known now (OfThread t) u) now x) (not_from_false (eqb u t) (ne_eqb u t b.3))
      (meets a u (known now (OfThread t) u) now x b.0 b.1 b.2 b.5 cover b.4)

  below : (n : ℕ) → ((c : Mark) → In c now → c.thread < n) → (u x : ℕ) → Races now t a.write x u → u < n
  below n all u x b = subst (λ v. v < n) b.2 (all b.0 b.1)

  pub first_of_all : (n : ℕ) (best : Option Race) → ((c : Mark) → In c now → c.thread < n) → IsFirstBelow (races_with now t a) n best → IsFirstRace now t a best
  first_of_all n None all h = (λ x b. h b.1.0 x (below n all b.1.0 x b.1.1) (race_is b.1.0 x b.0 b.1.1), tt)
  first_of_all n (Some r) all h =
      let w = race_of r.other r.address h.1 in
      inl (
        r.address,
        ((w.0, (r.other, w.1)), λ y b. (h.2 b.1.0 y (below n all b.1.0 y b.1.1) (race_is b.1.0 y b.0 b.1.1)).0),
        (r.other, (w.1, λ v b. (h.2 v r.address (below n all v r.address b) (race_is v r.address w.0 b)).1 refl), refl),
      )

  pub own_thread : (u : ℕ) → u ≡ t → IsLeastAt (races_with now t a u) None
  own_thread u e = no_least (races_with now t a u) (λ x. ap (λ b. not b && meets_any a u (known now (OfThread t) u) now x) (eq-eqb u t e))

  pub other_thread : (u : ℕ) (o : Option ℕ) → (u ≡ t → ⊥) → IsLeastAt (meets_any a u (known now (OfThread t) u) now) o → IsLeastAt (races_with now t a u) o
  other_thread u o ne = same_least (meets_any a u (known now (OfThread t) u) now) (races_with now t a u) (λ x. ap (λ b. not b && meets_any a u (known now (OfThread t) u) now x) (sym (ne_eqb u t ne))) o

-- ---- one thread more

module _ (at : ℕ → ℕ → Bool) (n : ℕ) where
  which : (u : ℕ) → u < n + 1 → (u < n) ⊎ (u ≡ n)
  which u lt = ⊎_elim (λ (e : u < n). inl e) (λ (e : n ≤ u). inr (omega (arith, e, lt))) (cases_lt u n)

  pub none_more : (best : Option Race) → IsFirstBelow at n best → IsLeastAt (at n) None → IsFirstBelow at (n + 1) best
  none_more None h k = λ u x lt e. ⊎_elim (λ b. h u x b e) (λ b. k x (ap (λ v. at v x) (sym b) ∙ e)) (which u lt)
  none_more (Some r) h k = (omega (arith, h.0), h.1, λ u x lt e. ⊎_elim (λ b. h.2 u x b e) (λ b. absurd (k x (ap (λ v. at v x) (sym b) ∙ e))) (which u lt))

  pub first_more : (x : ℕ) → IsFirstBelow at n None → IsLeastAt (at n) (Some x) → IsFirstBelow at (n + 1) (Some (record { address = x; other = n }))
  first_more x h k = (omega arith, k.0, λ u y lt e. ⊎_elim (λ b. absurd (h u y b e)) (λ b. (k.1 y (ap (λ v. at v y) (sym b) ∙ e), λ same. omega (arith, b))) (which u lt))

  pub less_more : (x : ℕ) (r : Race) → IsFirstBelow at n (Some r) → IsLeastAt (at n) (Some x) → x < r.address → IsFirstBelow at (n + 1) (Some (record { address = x; other = n }))
  less_more x r h k less = (omega arith, k.0, λ u y lt e. ⊎_elim (λ b. later y (h.2 u y b e).0 u) (λ b. (k.1 y (ap (λ v. at v y) (sym b) ∙ e), λ same. omega (arith, b))) (which u lt))
    where
      later : (y : ℕ) → r.address ≤ y → (u : ℕ) → (x ≤ y) × (x ≡ y → n ≤ u)
      later y le u = (omega (arith, le, less), λ same. absurd (omega (arith, same, le, less)))

  pub same_more : (x : ℕ) (r : Race) → IsFirstBelow at n (Some r) → IsLeastAt (at n) (Some x) → r.address ≤ x → IsFirstBelow at (n + 1) (Some r)
  same_more x r h k le = (omega (arith, h.0), h.1, λ u y lt e. ⊎_elim (λ b. h.2 u y b e) (λ b. later u y b (k.1 y (ap (λ v. at v y) (sym b) ∙ e))) (which u lt))
    where
      later : (u y : ℕ) → u ≡ n → x ≤ y → (r.address ≤ y) × (r.address ≡ y → r.other ≤ u)
      later u y is above = (omega (arith, le, above), λ same. omega (arith, is, h.0))

-- ---- how many threads there are

pub threads_more : (ms : List coded.Mark) (i : ℕ) (m : coded.Mark) (n k : ℕ) → i < length ms → m ≡ get_or ms i m → ((c : Mark) → In c (seen (past (take i ms))) → c.thread < n) → m.thread < k → n ≤ k → (c : Mark) → In c (seen (past (take (i + 1) ms))) → c.thread < k
threads_more ms i m n k lt is h own le c j = go (same_side m.side Replay) refl
  where
    one : (now : List Mark) → seen (past (take (i + 1) ms)) ≡ mark_of m ∷ now → ((d : Mark) → In d now → d.thread < n) → c.thread < k
    one now e all = ⊎_elim (λ (same : c ≡ mark_of m). let z : c.thread ≡ m.thread = ap (λ (d : Mark). d.thread) same in omega (arith, z, own)) (λ (d : In c now). let z : c.thread < n = all c d in omega (arith, z, le)) (subst (In c) e j)

    go : (b : Bool) → same_side m.side Replay ≡ b → c.thread < k
    go true above = one (seen (past (take i ms))) (seen_yes ms i m lt is above) h
    go false under = let z : c.thread < n = h c (subst (In c) (seen_no ms i m lt is under) j) in omega (arith, z, le)
