-- A byte's block is the one of the pool's list.
use Rattle.std.proofs.Common.{◌≡◌, ◌⊎◌, inl, inr, ⊎_elim, ℕ, ◌+◌, ◌<◌, ◌≤◌, Bool, true, false, cond, eqb, leb, ltb, List, [], ◌∷◌, refl, sym, ap, ◌∙◌, subst, arith, eq-eqb, eqb-true}
use Rattle.std.proofs.lemmas.Bool.{leb-true, ltb-true, le-leb, lt-ltb, and_parts, and_from, ne_eqb, true≢false, cases_eq, cases_lt, cases_Bool}
use Rattle.run_events.specs.declared.key.Class.TheVariants.{Pool}
use Rattle.marks.specs.Places.{replay_pool}
use Rattle.marks.specs.declared.range.Range.{Range}
use Rattle.marks.specs.Ranges.{range, within}
use Rattle.marks.specs.Marks.{EventKind, Call, Ret, Up, UpRet, Alloc, Free, Stop, Event, Act, Turn, Load, Store, Enter, Leave, Step, Fault, Made, Mark}
use Rattle.marks.specs.Bytes.{granted, event_block, block_after, EventAsks, Asks}
use Rattle.replay_runs.specs.Runs.{Link, OfKey, Start, keys_of, is_listed, Run, Allowed, marks_of, new_events, byte}
use Rattle.replay_runs.specs.Interface.{Program}
use Rattle.replay_runs.specs.Pool.{without, blocks_after, act_blocks, blocks_from, blocks, MeetsNone, IsPlace}
use Rattle.replay_runs.specs.Keys.{key, sorted_keys, keys_for}
use Rattle.replay_runs.specs.Rules.{SharedAct, SharedEvent, HasKeys, Carries, EventCarries, replay_rules}
use Rattle.replay_runs.proofs.Keys.{listed_last}
use Rattle.replay_runs.specs.Blocks.{LieApart, ListsBlocks, size_at}

pub cond_true : {A : Type 0} (b : Bool) (u v : A) → b ≡ true → cond b u v ≡ u
cond_true true u v e = refl
cond_true false u v e = absurd (true≢false (sym e))

pub cond_false : {A : Type 0} (b : Bool) (u v : A) → b ≡ false → cond b u v ≡ v
cond_false true u v e = absurd (true≢false e)
cond_false false u v e = refl

pub bounds : (at n x : ℕ) → within at n x ≡ true → (at ≤ x) × (x < at + n)
bounds at n x e = let p = and_parts (leb at x) (ltb x (at + n)) e in (leb-true at x p.0, ltb-true x (at + n) p.1)

-- no block begins in a range that meets none
none_begins : (bs : List Range) (at n x : ℕ) → LieApart bs → MeetsNone bs at n → within at n x ≡ true → size_at x bs ≡ 0
none_begins [] at n x s m e = refl
none_begins (b ∷ bs) at n x s m e =
    cond_false (eqb b.addr x) b.len (size_at x bs) (ne_eqb b.addr x (λ z. let w = bounds at n x e in ⊎_elim (λ l. absurd (omega (arith, z, l, w.0, s.1))) (λ l. absurd (omega (arith, z, l, w.1))) m.0))
    ∙ none_begins bs at n x s.3 m.1 e

-- a block of the list lies apart from what meets none of it
lies_apart : (bs : List Range) (a n at size : ℕ) → MeetsNone bs a n → size_at at bs ≡ size → 1 ≤ size → (at + size ≤ a) ⊎ (a + n ≤ at)
lies_apart [] a n at size m e h = absurd (omega (arith, e, h))
lies_apart (b ∷ bs) a n at size m e h = go (eqb b.addr at) refl e (λ g. lies_apart bs a n at size m.1 g h)
  where
    go : (c : Bool) → eqb b.addr at ≡ c → cond c b.len (size_at at bs) ≡ size → (size_at at bs ≡ size → (at + size ≤ a) ⊎ (a + n ≤ at)) → (at + size ≤ a) ⊎ (a + n ≤ at)
    go true f g again = let z : b.addr ≡ at = eqb-true b.addr at f in ⊎_elim (λ l. inl (omega (arith, l, z, g))) (λ l. inr (omega (arith, l, z))) m.0
    go false f g again = again g

-- no other block begins inside a block
none_inside : (bs : List Range) (at size x : ℕ) → LieApart bs → size_at at bs ≡ size → 1 ≤ size → within at size x ≡ true → (x ≡ at → ⊥) → size_at x bs ≡ 0
none_inside [] at size x s e h w ne = refl
none_inside (b ∷ bs) at size x s e h w ne = go (eqb b.addr at) refl e (λ g. none_inside bs at size x s.3 g h w ne)
  where
    k : (at ≤ x) × (x < at + size)
    k = bounds at size x w

    rest : size_at at bs ≡ size → (b.addr ≡ x → ⊥)
    rest g z = ⊎_elim (λ l. absurd (omega (arith, l, z, k.1))) (λ l. absurd (omega (arith, l, z, k.0, s.1))) (lies_apart bs b.addr b.len at size s.2 g h)

    go : (c : Bool) → eqb b.addr at ≡ c → cond c b.len (size_at at bs) ≡ size → (size_at at bs ≡ size → size_at x bs ≡ 0) → cond (eqb b.addr x) b.len (size_at x bs) ≡ 0
    go true f g again =
        let z : b.addr ≡ at = eqb-true b.addr at f in
        cond_false (eqb b.addr x) b.len (size_at x bs) (ne_eqb b.addr x (λ y. ne (sym y ∙ z)))
        ∙ none_begins bs at size x s.3 (subst (λ u. MeetsNone bs u size) z (subst (MeetsNone bs b.addr) g s.2)) w
    go false f g again =
        cond_false (eqb b.addr x) b.len (size_at x bs) (ne_eqb b.addr x (rest g))
        ∙ again g

without_other : (bs : List Range) (at x : ℕ) → (x ≡ at → ⊥) → size_at x (without at bs) ≡ size_at x bs
without_other [] at x ne = refl
without_other (b ∷ bs) at x ne = go (eqb b.addr at) refl (without_other bs at x ne)
  where
    go : (c : Bool) → eqb b.addr at ≡ c → size_at x (without at bs) ≡ size_at x bs → size_at x (cond c bs (b ∷ without at bs)) ≡ cond (eqb b.addr x) b.len (size_at x bs)
    go true f g = sym (cond_false (eqb b.addr x) b.len (size_at x bs) (ne_eqb b.addr x (λ y. ne (sym y ∙ eqb-true b.addr at f))))
    go false f g = ap (cond (eqb b.addr x) b.len) g

-- a block that meets the others nowhere is the only one at its place
only_one : (bs : List Range) (a n : ℕ) → LieApart bs → MeetsNone bs a n → 1 ≤ n → size_at a bs ≡ 0
only_one bs a n s m h = none_begins bs a n a s m (and_from _ _ (le-leb a a (omega arith)) (lt-ltb a (a + n) (omega (arith, h))))

without_it : (bs : List Range) (at : ℕ) → LieApart bs → size_at at (without at bs) ≡ 0
without_it [] at s = refl
without_it (b ∷ bs) at s = go (eqb b.addr at) refl (without_it bs at s.3)
  where
    go : (c : Bool) → eqb b.addr at ≡ c → size_at at (without at bs) ≡ 0 → size_at at (cond c bs (b ∷ without at bs)) ≡ 0
    go true f g = subst (λ u. size_at u bs ≡ 0) (eqb-true b.addr at f) (only_one bs b.addr b.len s.3 s.2 s.1)
    go false f g = cond_false (eqb b.addr at) b.len (size_at at (without at bs)) f ∙ g

without_meets : (bs : List Range) (at a n : ℕ) → MeetsNone bs a n → MeetsNone (without at bs) a n
without_meets [] at a n m = m
without_meets (b ∷ bs) at a n m = go (eqb b.addr at) (without_meets bs at a n m.1)
  where
    go : (c : Bool) → MeetsNone (without at bs) a n → MeetsNone (cond c bs (b ∷ without at bs)) a n
    go true k = m.1
    go false k = (m.0, k)

without_sound : (bs : List Range) (at : ℕ) → LieApart bs → LieApart (without at bs)
without_sound [] at s = tt
without_sound (b ∷ bs) at s = go (eqb b.addr at) (without_sound bs at s.3)
  where
    go : (c : Bool) → LieApart (without at bs) → LieApart (cond c bs (b ∷ without at bs))
    go true k = s.3
    go false k = (s.0, s.1, without_meets bs at b.addr b.len s.2, k)

allocs : (bs : List Range) (block : ℕ → ℕ) (at size : ℕ) → ListsBlocks bs block → IsPlace replay_pool bs size at → ListsBlocks (blocks_after (Alloc at size) bs) (λ x. event_block (Alloc at size) x (block x))
allocs bs block at size h (inr n) =
    let z : granted at size ≡ 0 = cond_true (eqb at 0) 0 size (eq-eqb at 0 n.0) in
    subst (λ l. ListsBlocks l (λ x. event_block (Alloc at size) x (block x))) (sym (cond_true (eqb (granted at size) 0) bs (range at size ∷ bs) (eq-eqb (granted at size) 0 z)))
    (record { apart = h.apart; same = λ x. cond_false (within at (granted at size) x) (cond (eqb x at) size 0) (block x) (ap (λ g. within at g x) z ∙ empty at x) ∙ h.same x })
  where
    empty : (at x : ℕ) → within at 0 x ≡ false
    empty at x = ⊎_elim (λ e. let w = bounds at 0 x e in absurd (omega (arith, w.0, w.1))) (λ e. e) (cases_Bool (within at 0 x))
allocs bs block at size h (inl f) =
    let place : (at ≡ 0 → ⊥) = λ z. absurd (omega (arith, z, f.0.low)) in
    let g : granted at size ≡ size = cond_false (eqb at 0) 0 size (ne_eqb at 0 place) in
    let some : (granted at size ≡ 0 → ⊥) = λ z. absurd (omega (arith, z, g, f.0.some)) in
    subst (λ l. ListsBlocks l (λ x. event_block (Alloc at size) x (block x))) (sym (cond_false (eqb (granted at size) 0) bs (range at size ∷ bs) (ne_eqb (granted at size) 0 some)))
    (record {
      apart = (omega (arith, f.0.low), f.0.some, f.0.free, h.apart);
      same = λ x. ap (λ n. cond (within at n x) (cond (eqb x at) size 0) (block x)) g ∙ at_byte x;
    })
  where
    at_byte : (x : ℕ) → cond (within at size x) (cond (eqb x at) size 0) (block x) ≡ cond (eqb at x) size (size_at x bs)
    at_byte x = ⊎_elim
        (λ e. ⊎_elim
        (λ z. cond_true (within at size x) (cond (eqb x at) size 0) (block x) e ∙ cond_true (eqb x at) size 0 (eq-eqb x at z) ∙ sym (cond_true (eqb at x) size (size_at x bs) (eq-eqb at x (sym z))))
        (λ z. cond_true (within at size x) (cond (eqb x at) size 0) (block x) e ∙ cond_false (eqb x at) size 0 (ne_eqb x at z) ∙ sym (none_begins bs at size x h.apart f.0.free e) ∙ sym (cond_false (eqb at x) size (size_at x bs) (ne_eqb at x (λ y. z (sym y)))))
        (cases_eq x at))
        (λ e. cond_false (within at size x) (cond (eqb x at) size 0) (block x) e ∙ h.same x ∙ sym (cond_false (eqb at x) size (size_at x bs) (ne_eqb at x (λ y. true≢false (sym (here x (sym y)) ∙ e)))))
        (cases_Bool (within at size x))
      where
        here : (x : ℕ) → x ≡ at → within at size x ≡ true
        here x y = subst (λ u. within at size u ≡ true) (sym y) (and_from _ _ (le-leb at at (omega arith)) (lt-ltb at (at + size) (omega (arith, f.0.some))))

frees : (bs : List Range) (block : ℕ → ℕ) (at size : ℕ) → ListsBlocks bs block → eqb at 0 ≡ eqb size 0 → (1 ≤ size → block at ≡ size) → ListsBlocks (blocks_after (Free at size) bs) (λ x. event_block (Free at size) x (block x))
frees bs block at size h z k = record { apart = without_sound bs at h.apart; same = λ x. ⊎_elim (λ e. nothing x e) (λ ne. freed x ne) (cases_eq size 0) }
  where
    no_zero : (bs : List Range) → LieApart bs → size_at 0 bs ≡ 0
    no_zero [] s = refl
    no_zero (b ∷ bs) s = cond_false (eqb b.addr 0) b.len (size_at 0 bs) (ne_eqb b.addr 0 (λ e. absurd (omega (arith, e, s.0)))) ∙ no_zero bs s.3

    empty : (x : ℕ) → size ≡ 0 → within at size x ≡ false
    empty x e = ⊎_elim (λ y. let w = bounds at size x y in absurd (omega (arith, w.0, w.1, e))) (λ y. y) (cases_Bool (within at size x))

    nothing : (x : ℕ) → size ≡ 0 → cond (within at size x) 0 (block x) ≡ size_at x (without at bs)
    nothing x e =
        let at0 : at ≡ 0 = eqb-true at 0 (z ∙ eq-eqb size 0 e) in
        cond_false (within at size x) 0 (block x) (empty x e) ∙ h.same x
        ∙ ⊎_elim
        (λ y. ap (λ u. size_at u bs) (y ∙ at0) ∙ no_zero bs h.apart ∙ sym (without_it bs at h.apart) ∙ ap (λ u. size_at u (without at bs)) (sym y))
        (λ y. sym (without_other bs at x y))
        (cases_eq x at)

    pos : (size ≡ 0 → ⊥) → 1 ≤ size
    pos ne = ⊎_elim (λ l. absurd (ne (omega (arith, l)))) (λ l. l) (cases_lt size 1)

    freed : (x : ℕ) → (size ≡ 0 → ⊥) → cond (within at size x) 0 (block x) ≡ size_at x (without at bs)
    freed x ne =
        let is : size_at at bs ≡ size = sym (h.same at) ∙ k (pos ne) in
        ⊎_elim
        (λ y. cond_true (within at size x) 0 (block x) (subst (λ u. within at size u ≡ true) (sym y) (and_from _ _ (le-leb at at (omega arith)) (lt-ltb at (at + size) (omega (arith, pos ne))))) ∙ sym (without_it bs at h.apart) ∙ ap (λ u. size_at u (without at bs)) (sym y))
        (λ y. ⊎_elim
        (λ e. cond_true (within at size x) 0 (block x) e ∙ sym (none_inside bs at size x h.apart is (pos ne) e y) ∙ sym (without_other bs at x y))
        (λ e. cond_false (within at size x) 0 (block x) e ∙ h.same x ∙ sym (without_other bs at x y))
        (cases_Bool (within at size x)))
        (cases_eq x at)

module _ (program : Program) (s : Start) where
  abbrev pool : Link
  pool = OfKey (key Pool 0)

  -- an event that is none of the pool's changes neither
  quiet : (m : Mark) (ev : List Mark) (c : Bool) (block : ℕ → ℕ) → act_blocks m.act (blocks_from s.blocks ev) ≡ blocks_from s.blocks ev → ListsBlocks (blocks_from s.blocks ev) block → ListsBlocks (blocks_from s.blocks (cond c (m ∷ ev) ev)) block
  quiet m ev true block e h = subst (λ l. ListsBlocks l block) (sym e) h
  quiet m ev false block e h = h

  -- an event of the pool
  loud : (m : Mark) (ev : List Mark) (c : Bool) (k : EventKind) (block : ℕ → ℕ) → c ≡ true → act_blocks m.act (blocks_from s.blocks ev) ≡ blocks_after k (blocks_from s.blocks ev) → ListsBlocks (blocks_after k (blocks_from s.blocks ev)) block → ListsBlocks (blocks_from s.blocks (cond c (m ∷ ev) ev)) block
  loud m ev true k block e f h = subst (λ l. ListsBlocks l block) (sym f) h
  loud m ev false k block e f h = absurd (true≢false (sym e))

  made : (past : List Mark) (m : Mark) (e : Event) → Allowed (replay_rules program s) s past m → m.act ≡ Made e → ListsBlocks (blocks s past) (λ x. (byte s x past).block) → ListsBlocks (blocks_from s.blocks (cond (is_listed e.keys (key Pool 0)) (m ∷ new_events pool past) (new_events pool past))) (λ x. event_block e.kind x (byte s x past).block)
  made past m e a is h = go e.kind refl
    where
      same : act_blocks m.act (blocks s past) ≡ blocks_after e.kind (blocks s past)
      same = ap (λ z. act_blocks z (blocks s past)) is

      keyed : HasKeys program.interface m.thread (marks_of s m.thread past) (Made e)
      keyed = subst (HasKeys program.interface m.thread (marks_of s m.thread past)) is a.own.keys

      shared : is_listed e.keys (key Pool 0) ≡ true → SharedAct program.interface s (key Pool 0) (new_events pool past) (Made e)
      shared l = subst (SharedAct program.interface s (key Pool 0) (new_events pool past)) is (a.shared pool (ap (λ z. is_listed (keys_of z) (key Pool 0)) is ∙ l))

      carried : EventCarries program.interface s m.thread (marks_of s m.thread past) e.kind
      carried = subst (Carries program.interface s m.thread (marks_of s m.thread past) (program.want m.thread (marks_of s m.thread past))) is a.own.carries

      asked : (x : ℕ) → EventAsks e.kind x (byte s x past)
      asked = subst (λ z. Asks z (λ x. byte s x past)) is a.bytes

      calm : (k : EventKind) → e.kind ≡ k → ((bs : List Range) → blocks_after k bs ≡ bs) → ((x n : ℕ) → event_block k x n ≡ n) → ListsBlocks (blocks_from s.blocks (cond (is_listed e.keys (key Pool 0)) (m ∷ new_events pool past) (new_events pool past))) (λ x. event_block e.kind x (byte s x past).block)
      calm k q still stays = quiet m (new_events pool past) (is_listed e.keys (key Pool 0)) (λ x. event_block e.kind x (byte s x past).block) (same ∙ ap (λ z. blocks_after z (blocks s past)) q ∙ still (blocks s past))
          (record { apart = h.apart; same = λ x. ap (λ z. event_block z x (byte s x past).block) q ∙ stays x (byte s x past).block ∙ h.same x })

      go : (k : EventKind) → e.kind ≡ k → ListsBlocks (blocks_from s.blocks (cond (is_listed e.keys (key Pool 0)) (m ∷ new_events pool past) (new_events pool past))) (λ x. event_block e.kind x (byte s x past).block)
      go (Alloc at size) q =
          let l : is_listed e.keys (key Pool 0) ≡ true = listed_last e.keys [] (key Pool 0) (keyed ∙ ap (λ k. sorted_keys (keys_for program.interface m.thread (marks_of s m.thread past) k)) q) in
          let p : IsPlace replay_pool (blocks s past) size at = subst (SharedEvent program.interface s Pool 0 (new_events pool past)) q (shared l) in
          loud m (new_events pool past) (is_listed e.keys (key Pool 0)) e.kind (λ x. event_block e.kind x (byte s x past).block) l same
          (subst (λ k. ListsBlocks (blocks_after k (blocks s past)) (λ x. event_block k x (byte s x past).block)) (sym q) (allocs (blocks s past) (λ x. (byte s x past).block) at size h p))
      go (Free at size) q =
          let l : is_listed e.keys (key Pool 0) ≡ true = listed_last e.keys [] (key Pool 0) (keyed ∙ ap (λ k. sorted_keys (keys_for program.interface m.thread (marks_of s m.thread past) k)) q) in
          let z : eqb at 0 ≡ eqb size 0 = subst (EventCarries program.interface s m.thread (marks_of s m.thread past)) q carried in
          let b : (x : ℕ) → EventAsks (Free at size) x (byte s x past) = subst (λ k. (x : ℕ) → EventAsks k x (byte s x past)) q asked in
          loud m (new_events pool past) (is_listed e.keys (key Pool 0)) e.kind (λ x. event_block e.kind x (byte s x past).block) l same
          (subst (λ k. ListsBlocks (blocks_after k (blocks s past)) (λ x. event_block k x (byte s x past).block)) (sym q) (frees (blocks s past) (λ x. (byte s x past).block) at size h z (λ n. (b at (and_from _ _ (le-leb at at (omega arith)) (lt-ltb at (at + size) (omega (arith, n))))).1 refl)))
      go (Call f args ins outs prepared) q = calm (Call f args ins outs prepared) q (λ bs. refl) (λ x n. refl)
      go (Ret f args v same' outs commit) q = calm (Ret f args v same' outs commit) q (λ bs. refl) (λ x n. refl)
      go (Up f args) q = calm (Up f args) q (λ bs. refl) (λ x n. refl)
      go (UpRet f v) q = calm (UpRet f v) q (λ bs. refl) (λ x n. refl)
      go (Stop f) q = calm (Stop f) q (λ bs. refl) (λ x n. refl)

  pub more : (past : List Mark) (m : Mark) → Allowed (replay_rules program s) s past m → ListsBlocks (blocks s past) (λ x. (byte s x past).block) → ListsBlocks (blocks s (m ∷ past)) (λ x. (byte s x (m ∷ past)).block)
  more past m a h = go m.act refl
    where
      whole : (a : Act) → m.act ≡ a → ListsBlocks (blocks_from s.blocks (cond (is_listed (keys_of a) (key Pool 0)) (m ∷ new_events pool past) (new_events pool past))) (λ x. block_after a x (byte s x past).block) → ListsBlocks (blocks s (m ∷ past)) (λ x. (byte s x (m ∷ past)).block)
      whole a is h = subst (λ z. ListsBlocks (blocks_from s.blocks (cond (is_listed (keys_of z) (key Pool 0)) (m ∷ new_events pool past) (new_events pool past))) (λ x. block_after z x (byte s x past).block)) (sym is) h

      go : (b : Act) → m.act ≡ b → ListsBlocks (blocks s (m ∷ past)) (λ x. (byte s x (m ∷ past)).block)
      go (Made e) is = whole (Made e) is (made past m e a is h)
      go Turn is = whole Turn is h
      go (Load o at bytes) is = whole (Load o at bytes) is h
      go (Store o at bytes) is = whole (Store o at bytes) is h
      go (Enter f args at bytes) is = whole (Enter f args at bytes) is h
      go (Leave at size) is = whole (Leave at size) is h
      go (Step f args v ins pieces freed) is = whole (Step f args v ins pieces freed) is h
      go (Fault k cr ins outs at) is = whole (Fault k cr ins outs at) is h

pub agree : (program : Program) (s : Start) → ListsBlocks s.blocks (λ x. (s.memory x).block) → (run : List Mark) → Run (replay_rules program s) s run → ListsBlocks (blocks s run) (λ x. (byte s x run).block)
agree program s begins [] h = begins
agree program s begins (m ∷ past) h = more program s past m h.0 (agree program s begins past h.1)

pub one_place : (pool : ℕ) (bs : List Range) (size at x : ℕ) → IsPlace pool bs size at → IsPlace pool bs size x → at ≡ x
one_place pool bs size at x (inl p) (inl q) = let a = p.1 x q.0 in let b = q.1 at p.0 in omega (arith, a, b)
one_place pool bs size at x (inl p) (inr q) = absurd (q.1 at p.0)
one_place pool bs size at x (inr p) (inl q) = absurd (p.1 x q.0)
one_place pool bs size at x (inr p) (inr q) = p.0 ∙ sym q.0
