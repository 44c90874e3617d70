-- What each event of a list of marks tells, one mark after the other.
use Rattle.std.proofs.Common.{◌≡◌, ℕ, suc, ◌+◌, ◌<◌, ◌≤◌, Bool, true, false, ◌&&◌, cond, eqb, max, ◌∙◌, List, [], ◌∷◌, ◌++◌, length, get_or, take, drop, ◌⊎◌, inl, inr, ⊎_elim, refl, sym, ap, subst, arith}
use Rattle.std.proofs.lemmas.Bool.{true≢false, and_parts, cases_lt}
use Rattle.std.proofs.lemmas.List.{get_or_default, get_or-take, get_or_append_left, get_or_push, length_push, length-take-le, take-take, drop_more, drop_all}
use Rattle.run_events.specs.declared.key.KeyMark.{KeyMark}
use Rattle.marks.specs.declared.side.Side.TheVariants.{Replay}
use Rattle.marks.specs.Marks.{Act, Turn, Load, Store, Enter, Leave, Step, Fault, Made, Mark, is_event}
use Rattle.c_code.specs.MarkLists.{same_side}
use Rattle.replay_runs.specs.Runs.{Link, OfThread, OfKey, has, keys_of}
use Rattle.replay_runs.specs.Known.{known, learned, learned_keys}
use Rattle.whole_runs.specs.Sides.{seen}
use Rattle.reference_recorder_marks.specs.declared.mark.Mark as coded
use Rattle.reference_recorder_marks.specs.Marks.{act_of, mark_of, past}
use Rattle.reference_recorder_stamps.proofs.Counted.{seen_yes, seen_no}
use Rattle.reference_recorder_races.specs.Told.{AreTold}

listed_event : (a : Act) (l : Link) → (t : ℕ) → has (record { thread = t; side = Replay; index = 0; act = a }) l ≡ true → is_event a ≡ true
listed_event Turn (OfThread u) t h = absurd (true≢false (sym h))
listed_event Turn (OfKey k) t h = absurd (true≢false (sym h))
listed_event (Load origin at bytes) (OfThread u) t h = absurd (true≢false (sym h))
listed_event (Load origin at bytes) (OfKey k) t h = absurd (true≢false (sym h))
listed_event (Store origin at bytes) (OfThread u) t h = absurd (true≢false (sym h))
listed_event (Store origin at bytes) (OfKey k) t h = absurd (true≢false (sym h))
listed_event (Enter f args at bytes) (OfThread u) t h = absurd (true≢false (sym h))
listed_event (Enter f args at bytes) (OfKey k) t h = absurd (true≢false (sym h))
listed_event (Leave at size) (OfThread u) t h = absurd (true≢false (sym h))
listed_event (Leave at size) (OfKey k) t h = absurd (true≢false (sym h))
listed_event (Step f args v ins pieces freed) (OfThread u) t h = absurd (true≢false (sym h))
listed_event (Step f args v ins pieces freed) (OfKey k) t h = absurd (true≢false (sym h))
listed_event (Fault kind crosses ins outs access) (OfThread u) t h = absurd (true≢false (sym h))
listed_event (Fault kind crosses ins outs access) (OfKey k) t h = absurd (true≢false (sym h))
listed_event (Made e) l t h = refl

linked_event : (m : Mark) (l : Link) → has m l ≡ true → is_event m.act ≡ true
linked_event m (OfThread u) h = (and_parts (is_event m.act) (eqb m.thread u) h).0
linked_event m (OfKey k) h = listed_event m.act (OfKey k) m.thread h

-- ---- the last event with a link

module _ (ms : List coded.Mark) (i : ℕ) (m : coded.Mark) (lt : i < length ms) (is : m ≡ get_or ms i m) where
  pub known_yes : (told : List ℕ) (l : Link) (t n : ℕ) → AreTold t ms told → same_side m.side Replay ≡ true → has (mark_of m) l ≡ true → n ≡ get_or told i 0 → n ≡ known (seen (past (take (i + 1) ms))) l t
  known_yes told l t n h above linked at =
      at ∙ h.each i m lt is above (linked_event (mark_of m) l linked)
      ∙ sym (ap (λ p. known p l t) (seen_yes ms i m lt is above) ∙ ap (λ b. cond b (learned (known (seen (past (take i ms)))) (mark_of m) t) (known (seen (past (take i ms))) l t)) linked)

  pub known_no : (l : Link) (t n : ℕ) → (same_side m.side Replay && has (mark_of m) l) ≡ false → n ≡ known (seen (past (take i ms))) l t → n ≡ known (seen (past (take (i + 1) ms))) l t
  known_no l t n absent e = e ∙ sym (go (same_side m.side Replay) refl absent)
    where
      go : (b : Bool) → same_side m.side Replay ≡ b → (b && has (mark_of m) l) ≡ false → known (seen (past (take (i + 1) ms))) l t ≡ known (seen (past (take i ms))) l t
      go true above z = ap (λ p. known p l t) (seen_yes ms i m lt is above) ∙ ap (λ b. cond b (learned (known (seen (past (take i ms)))) (mark_of m) t) (known (seen (past (take i ms))) l t)) z
      go false below z = ap (λ p. known p l t) (seen_no ms i m lt is below)

  pub known_more : (told : List ℕ) (l : Link) (t n k : ℕ) → AreTold t ms told → k ≡ cond (same_side m.side Replay && has (mark_of m) l) (get_or told i 0) n → n ≡ known (seen (past (take i ms))) l t → k ≡ known (seen (past (take (i + 1) ms))) l t
  known_more told l t n k h e before = go (same_side m.side Replay && has (mark_of m) l) refl e
    where
      go : (b : Bool) → (same_side m.side Replay && has (mark_of m) l) ≡ b → k ≡ cond b (get_or told i 0) n → k ≡ known (seen (past (take (i + 1) ms))) l t
      go true there z = let p = and_parts (same_side m.side Replay) (has (mark_of m) l) there in known_yes told l t k h p.0 p.1 z
      go false absent z = known_no l t k absent (z ∙ before)

-- ---- what an event tells

-- the greatest so far of what the last events with its keys tell, and of a first number
pub learned_more : (k : Link → ℕ → ℕ) (qs : List KeyMark) (t i n first more : ℕ) (q : KeyMark) → i < length qs → q ≡ get_or qs i q → max (learned_keys k (drop i qs) t) n ≡ max (learned_keys k qs t) first → more ≡ k (OfKey q.key) t
    → max (learned_keys k (drop (i + 1) qs) t) (max more n) ≡ max (learned_keys k qs t) first
learned_more k qs t i n first more q lt is h e =
    let z : learned_keys k (drop i qs) t ≡ max (k (OfKey q.key) t) (learned_keys k (drop (i + 1) qs) t) = ap (λ rs. learned_keys k rs t) (drop_more qs i q lt) ∙ ap (λ (r : KeyMark). max (k (OfKey r.key) t) (learned_keys k (drop (i + 1) qs) t)) (sym is) in
    omega (arith, z, h, e)

pub learned_all : (k : Link → ℕ → ℕ) (qs : List KeyMark) (t i n first : ℕ) → length qs ≤ i → max (learned_keys k (drop i qs) t) n ≡ max (learned_keys k qs t) first → n ≡ max first (learned_keys k qs t)
learned_all k qs t i n first le h =
    let z : learned_keys k (drop i qs) t ≡ 0 = ap (λ rs. learned_keys k rs t) (drop_all i qs le) in
    omega (arith, z, h)

pub learned_own : (k : Link → ℕ → ℕ) (m : Mark) (t n all : ℕ) → eqb m.thread t ≡ true → n ≡ max (k (OfThread m.thread) t) (learned_keys k (keys_of m.act) t) → all ≡ max n (m.index + 1) → all ≡ learned k m t
learned_own k m t n all own e is =
    let z : all ≡ max (suc m.index) (max (k (OfThread m.thread) t) (learned_keys k (keys_of m.act) t)) = omega (arith, is, e) in
    z ∙ ap (λ b. max (cond b (suc m.index) 0) (max (k (OfThread m.thread) t) (learned_keys k (keys_of m.act) t))) (sym own)

pub learned_other : (k : Link → ℕ → ℕ) (m : Mark) (t n : ℕ) → eqb m.thread t ≡ false → n ≡ max (k (OfThread m.thread) t) (learned_keys k (keys_of m.act) t) → n ≡ learned k m t
learned_other k m t n other e =
    let z : n ≡ max 0 (max (k (OfThread m.thread) t) (learned_keys k (keys_of m.act) t)) = omega (arith, e) in
    z ∙ ap (λ b. max (cond b (suc m.index) 0) (max (k (OfThread m.thread) t) (learned_keys k (keys_of m.act) t))) (sym other)

-- ---- one mark more

pub none_told : (t : ℕ) (ms : List coded.Mark) → AreTold t (take 0 ms) []
none_told t ms = record { count = refl; each = λ i m lt is above made. absurd (omega (arith, lt)) }

pub told_more : (t : ℕ) (ms : List coded.Mark) (n : ℕ) (told : List ℕ) (more : ℕ) (m : coded.Mark) → n < length ms → m ≡ get_or ms n m → AreTold t (take n ms) told
    → (is_event (act_of m.act) ≡ true → more ≡ learned (known (seen (past (take n ms)))) (mark_of m) t) → AreTold t (take (n + 1) ms) (told ++ more ∷ [])
told_more t ms n told more m lt is h e = record {
  count = omega (arith, length_push told more, length-take-le (n + 1) ms (omega (arith, lt)), h.count, length-take-le n ms (omega (arith, lt)));
  each = λ i o below at above made. ⊎_elim (earlier i o at above made) (here i o at made) (cases i below);
}
  where
    many : length told ≡ n
    many = h.count ∙ length-take-le n ms (omega (arith, lt))

    cases : (i : ℕ) → i < length (take (n + 1) ms) → (i < n) ⊎ (i ≡ n)
    cases i below =
        let all : length (take (n + 1) ms) ≡ n + 1 = length-take-le (n + 1) ms (omega (arith, lt)) in
        let le : i < n + 1 = omega (arith, below, all) in
        ⊎_elim (λ (a : i < n). inl a) (λ (b : n ≤ i). inr (omega (arith, le, b))) (cases_lt i n)

    earlier : (i : ℕ) (o : coded.Mark) → o ≡ get_or (take (n + 1) ms) i o → same_side o.side Replay ≡ true → is_event (act_of o.act) ≡ true → i < n → get_or (told ++ more ∷ []) i 0 ≡ learned (known (seen (past (take i (take (n + 1) ms))))) (mark_of o) t
    earlier i o at above made less =
        get_or_append_left told (more ∷ []) 0 i (omega (arith, less, many))
        ∙ h.each i o (omega (arith, less, length-take-le n ms (omega (arith, lt)))) (at ∙ get_or-take (n + 1) ms i o (omega (arith, less)) ∙ sym (get_or-take n ms i o less)) above made
        ∙ ap (λ p. learned (known (seen (past p))) (mark_of o) t) (take-take i n ms (omega (arith, less)) ∙ sym (take-take i (n + 1) ms (omega (arith, less))))

    here : (i : ℕ) (o : coded.Mark) → o ≡ get_or (take (n + 1) ms) i o → is_event (act_of o.act) ≡ true → i ≡ n → get_or (told ++ more ∷ []) i 0 ≡ learned (known (seen (past (take i (take (n + 1) ms))))) (mark_of o) t
    here i o at made same =
        let one : o ≡ m = at ∙ get_or-take (n + 1) ms i o (omega (arith, same, lt)) ∙ ap (λ k. get_or ms k o) same ∙ get_or_default ms n o m lt ∙ sym is in
        get_or_push told more 0 i (many ∙ sym same)
        ∙ e (sym (ap (λ (x : coded.Mark). is_event (act_of x.act)) one) ∙ made)
        ∙ ap (λ (x : coded.Mark). learned (known (seen (past (take n ms)))) (mark_of x) t) (sym one)
        ∙ ap (λ p. learned (known (seen (past p))) (mark_of o) t) (ap (λ k. take k ms) (sym same) ∙ sym (take-take i (n + 1) ms (omega (arith, same))))

pub told_next : (t : ℕ) (ms : List coded.Mark) (n : ℕ) (told next seen_told : List ℕ) (before : List coded.Mark) (more : ℕ) (m : coded.Mark) → n < length ms → m ≡ get_or ms n m → seen_told ≡ told → before ≡ take n ms → AreTold t (take n ms) told
    → (is_event (act_of m.act) ≡ true → AreTold t before seen_told → more ≡ learned (known (seen (past before))) (mark_of m) t) → next ≡ told ++ more ∷ [] → AreTold t (take (n + 1) ms) next
told_next t ms n told next seen_told before more m lt is same front h e pushed =
    subst (AreTold t (take (n + 1) ms)) (sym pushed)
    (told_more t ms n told more m lt is h (λ made. e made (subst (λ xs. AreTold t before xs) (sym same) (subst (λ xs. AreTold t xs told) (sym front) h)) ∙ ap (λ xs. learned (known (seen (past xs))) (mark_of m) t) front))
