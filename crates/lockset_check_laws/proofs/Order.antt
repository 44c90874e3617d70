-- A guarded access is known from where its mutex is handed on.
use Rattle.std.proofs.Common.{◌≡◌, ◌≢◌, ℕ, suc, ◌<◌, ◌≤◌, Bool, true, false, cond, eqb, List, [], ◌∷◌, length, Option, Some, None, ◌⊎◌, inl, inr, ⊎_elim, refl, sym, ap, ◌∙◌, subst, arith, eq-eqb, eqb-true}
use Rattle.run_events.specs.declared.key.Class.TheVariants.{Mutex}
use Rattle.marks.specs.declared.side.Side.{Side}
use Rattle.marks.specs.declared.side.Side.TheVariants.{Replay, System}
use Rattle.marks.specs.Marks.{Act, Turn, Load, Store, Enter, Leave, Step, Fault, Made, Mark}
use Rattle.marks.specs.Bytes.{Byte, late, place}
use Rattle.replay_runs.specs.Runs.{OfThread, OfKey, In, has, events_with}
use Rattle.replay_runs.specs.Known.{known}
use Rattle.replay_runs.specs.Keys.{key}
use Rattle.replay_runs.specs.Laws.{fresh}
use Rattle.replay_runs.proofs.Causes.{own_link}
use Rattle.replay_runs.proofs.Canon.{has_made}
use Rattle.lockset_check_laws.specs.Locks.{LockCalls, Deed, Takes, GivesBack, Frees, Drops, Other, deed, own, taken_after, taken}
use Rattle.lockset_check_laws.specs.Order.{AtEach, KeyedFor, DropsOwn, GuardsKept, Touches, global_of, IsCounted, Rises}
use Rattle.lockset_check_laws.proofs.Told.{known_grows, known_passes, known_itself}
use Rattle.lockset_check_laws.proofs.Held.{taken_more, free_of, taken_is_held}

-- an access does nothing to a mutex, and comes before the events after it
access_deed : (l : LockCalls) (a : Act) (o : ℕ) → global_of a ≡ Some o → deed l a ≡ Other
access_deed l (Load origin at bytes) o e = refl
access_deed l (Store origin at bytes) o e = refl
access_deed l Turn o e = absurd cc
access_deed l (Enter func args at bytes) o e = absurd cc
access_deed l (Leave at size) o e = absurd cc
access_deed l (Step func args result ins pieces freed) o e = absurd cc
access_deed l (Fault kind crosses ins outs access) o e = absurd cc
access_deed l (Made event) o e = absurd cc

access_place : (a : Mark) (o : ℕ) → global_of a.act ≡ Some o → place a ≡ a.index
access_place a o e = go a.act refl
  where
    go : (x : Act) → a.act ≡ x → place a ≡ a.index
    go (Load origin at bytes) is = ap (λ y. cond (late y) (suc a.index) a.index) is
    go (Store origin at bytes) is = ap (λ y. cond (late y) (suc a.index) a.index) is
    go Turn is = absurd (let z = ap global_of is in cc)
    go (Enter func args at bytes) is = absurd (let z = ap global_of is in cc)
    go (Leave at size) is = absurd (let z = ap global_of is in cc)
    go (Step func args result ins pieces freed) is = absurd (let z = ap global_of is in cc)
    go (Fault kind crosses ins outs access) is = absurd (let z = ap global_of is in cc)
    go (Made event) is = absurd (let z = ap global_of is in cc)

-- a mutex that was taken above the cut stays so, or its thread gives it back there
stays : (k : ℕ) (d : Deed) (s : Option Side) (b : Bool) → ((side : Side) → d ≡ Takes side k → ⊥) → (d ≡ Drops k → b ≡ true → ⊥) → s ≡ Some Replay → (cond b (taken_after k d s) s ≡ Some Replay) ⊎ ((b ≡ true) × (d ≡ GivesBack k))
stays k d s false x y e = inl e
stays k (Takes side j) s true x y e = go (eqb j k) refl
  where
    go : (c : Bool) → eqb j k ≡ c → (cond c (Some side) s ≡ Some Replay) ⊎ ((true ≡ true) × (Takes side j ≡ GivesBack k))
    go true f = absurd (x side (ap (Takes side) (eqb-true j k f)))
    go false f = inl e
stays k (GivesBack j) s true x y e = go (eqb j k) refl
  where
    go : (c : Bool) → eqb j k ≡ c → (cond c None s ≡ Some Replay) ⊎ ((true ≡ true) × (GivesBack j ≡ GivesBack k))
    go true f = inr (refl, ap GivesBack (eqb-true j k f))
    go false f = inl e
stays k (Frees j) s true x y e = inl e
stays k (Drops j) s true x y e = go (eqb j k) refl
  where
    go : (c : Bool) → eqb j k ≡ c → (cond c None s ≡ Some Replay) ⊎ ((true ≡ true) × (Drops j ≡ GivesBack k))
    go true f = absurd (y (ap Drops (eqb-true j k f)) refl)
    go false f = inl e
stays k Other s true x y e = inl e

-- a mutex that is taken above the cut was so before, or its thread takes it there
comes : (k : ℕ) (d : Deed) (s : Option Side) (b : Bool) → cond b (taken_after k d s) s ≡ Some Replay → (s ≡ Some Replay) ⊎ ((b ≡ true) × (d ≡ Takes Replay k))
comes k d s false e = inl e
comes k (Takes side j) s true e = go (eqb j k) refl e
  where
    go : (c : Bool) → eqb j k ≡ c → cond c (Some side) s ≡ Some Replay → (s ≡ Some Replay) ⊎ ((true ≡ true) × (Takes side j ≡ Takes Replay k))
    go true f e = inr (refl, let z = eqb-true j k f in cc)
    go false f e = inl e
comes k (GivesBack j) s true e = go (eqb j k) e
  where
    go : (c : Bool) → cond c None s ≡ Some Replay → (s ≡ Some Replay) ⊎ ((true ≡ true) × (GivesBack j ≡ Takes Replay k))
    go true e = absurd cc
    go false e = inl e
comes k (Frees j) s true e = inl e
comes k (Drops j) s true e = go (eqb j k) e
  where
    go : (c : Bool) → cond c None s ≡ Some Replay → (s ≡ Some Replay) ⊎ ((true ≡ true) × (Drops j ≡ Takes Replay k))
    go true e = absurd cc
    go false e = inl e
comes k Other s true e = inl e

keyed_takes : (l : LockCalls) (past : List Mark) (m : Mark) (d : Deed) (k : ℕ) → KeyedFor l past m d → d ≡ Takes Replay k → has m (OfKey (key Mutex k)) ≡ true
keyed_takes l past m d k x e = let P : Deed → Type 0 = λ y. KeyedFor l past m y in let z : P (Takes Replay k) = subst P e x in z

keyed_gives : (l : LockCalls) (past : List Mark) (m : Mark) (d : Deed) (k : ℕ) → KeyedFor l past m d → d ≡ GivesBack k → has m (OfKey (key Mutex k)) ≡ true
keyed_gives l past m d k x e = let P : Deed → Type 0 = λ y. KeyedFor l past m y in let z : P (GivesBack k) = subst P e x in z

drops_own : (l : LockCalls) (mine : List Mark) (d : Deed) (k : ℕ) → DropsOwn l mine d → d ≡ Drops k → taken l k mine ≡ Some System
drops_own l mine d k x e = let P : Deed → Type 0 = λ y. DropsOwn l mine y in let z : P (Drops k) = subst P e x in z

-- the thread of an access has kept the mutex, or whoever learns of the mutex learns of the access; and whoever else has
-- taken the mutex knows it
record Passed (l : LockCalls) (past : List Mark) (a : Mark) (k : ℕ) : Type 0 where
  kept : (taken l k (own a.thread past) ≡ Some Replay) ⊎ (a.index < known past (OfKey (key Mutex k)) a.thread)
  known_by : (t : ℕ) → t ≢ a.thread → taken l k (own t past) ≡ Some Replay → a.index < known past (OfThread t) a.thread

not_eqb : (a b : ℕ) → (a ≡ b → ⊥) → eqb a b ≡ false
not_eqb a b ne = go (eqb a b) refl
  where
    go : (c : Bool) → eqb a b ≡ c → eqb a b ≡ false
    go true e = absurd (ne (eqb-true a b e))
    go false e = e

-- at the access itself
at_access : (l : LockCalls) (guard : ℕ → Option ℕ) (past : List Mark) (a : Mark) (o k : ℕ) → GuardsKept l guard (a ∷ past) → Touches a o → guard o ≡ Some k → Passed l (a ∷ past) a k
at_access l guard past a o k g u e =
    let held : taken l k (own a.thread past) ≡ Some Replay = g.held.0.guarded o k u.global e ∙ ap Some u.above in
    record {
      kept = inl (taken_more l k a.thread a past ∙ (ap (λ b. cond b (taken_after k (deed l a.act) (taken l k (own a.thread past))) (taken l k (own a.thread past))) (eq-eqb a.thread a.thread refl) ∙ (ap (λ d. taken_after k d (taken l k (own a.thread past))) (access_deed l a.act o u.global) ∙ held)));
      known_by = λ t ne h.
          let was : taken l k (own t past) ≡ Some Replay = ap (λ b. cond b (taken_after k (deed l a.act) (taken l k (own t past))) (taken l k (own t past))) (sym (not_eqb a.thread t (λ z. ne (sym z)))) ∙ (sym (taken_more l k t a past) ∙ h) in
          let x = taken_is_held l past g.exclusive.1 g.keyed.1 k t Replay was in
          let y = taken_is_held l past g.exclusive.1 g.keyed.1 k a.thread Replay held in
          let z : Some t ≡ Some a.thread = sym x ∙ y in
          absurd (ne cc);
    }

-- one mark later
one_more : (l : LockCalls) (guard : ℕ → Option ℕ) (m : Mark) (past : List Mark) (a : Mark) (k : ℕ) → GuardsKept l guard (m ∷ past) → In a past → Passed l past a k → Passed l (m ∷ past) a k
one_more l guard m past a k g i w =
    record {
      kept = ⊎_elim
          (λ s. ⊎_elim (λ e. inl (taken_more l k u m past ∙ e)) (λ p. inr (gives (eqb-true m.thread u p.0) p.1)) (stays k d (taken l k (own u past)) (eqb m.thread u) (not_taken s) (not_dropped s) s))
          (λ lt. inr (omega (arith, lt, known_grows m past (OfKey (key Mutex k)) u)))
          w.kept;
      known_by = λ t ne h. ⊎_elim
          (λ s. omega (arith, w.known_by t ne s, known_grows m past (OfThread t) u))
          (λ p. learns t (eqb-true m.thread t p.0) p.1)
          (comes k d (taken l k (own t past)) (eqb m.thread t) (sym (taken_more l k t m past) ∙ h));
    }
  where
    u : ℕ
    u = a.thread

    d : Deed
    d = deed l m.act

    not_taken : taken l k (own a.thread past) ≡ Some Replay → (side : Side) → deed l m.act ≡ Takes side k → ⊥
    not_taken s side e =
        let x = free_of l past (deed l m.act) k side g.exclusive.0 e in
        let y = taken_is_held l past g.exclusive.1 g.keyed.1 k a.thread Replay s in
        cc

    not_dropped : taken l k (own a.thread past) ≡ Some Replay → deed l m.act ≡ Drops k → eqb m.thread a.thread ≡ true → ⊥
    not_dropped s e b =
        let x = drops_own l (own m.thread past) (deed l m.act) k g.held.0.drops e in
        let y : taken l k (own m.thread past) ≡ taken l k (own a.thread past) = ap (λ t. taken l k (own t past)) (eqb-true m.thread a.thread b) in
        cc

    gives : m.thread ≡ a.thread → deed l m.act ≡ GivesBack k → a.index < known (m ∷ past) (OfKey (key Mutex k)) a.thread
    gives is e =
        let x = known_itself m past (OfKey (key Mutex k)) a.thread (keyed_gives l past m (deed l m.act) k g.keyed.0 e) is in
        omega (arith, x, g.rising.0 a i (sym is))

    learns : (t : ℕ) → m.thread ≡ t → deed l m.act ≡ Takes Replay k → a.index < known (m ∷ past) (OfThread t) a.thread
    learns t is e =
        let has_key = keyed_takes l past m (deed l m.act) k g.keyed.0 e in
        let has_thread = own_link m t is (has_made m (OfKey (key Mutex k)) has_key) in
        ⊎_elim
        (λ s. absurd (not_taken s Replay e))
        (λ lt. omega (arith, lt, known_passes m past (OfKey (key Mutex k)) (OfThread t) a.thread has_key has_thread))
        w.kept

fewer : (l : LockCalls) (guard : ℕ → Option ℕ) (m : Mark) (past : List Mark) → GuardsKept l guard (m ∷ past) → GuardsKept l guard past
fewer l guard m past g = record { exclusive = g.exclusive.1; keyed = g.keyed.1; held = g.held.1; rising = g.rising.1 }

passed : (l : LockCalls) (guard : ℕ → Option ℕ) (past : List Mark) → GuardsKept l guard past → (a : Mark) → In a past → (o k : ℕ) → Touches a o → guard o ≡ Some k → Passed l past a k
passed l guard [] g a i o k u e = absurd i
passed l guard (m ∷ past) g a (inl is) o k u e =
    let v : Touches m o = subst (λ x. Touches x o) is u in
    let here : Passed l (m ∷ past) m k = at_access l guard past m o k g v e in
    subst (λ x. Passed l (m ∷ past) x k) (sym is) here
passed l guard (m ∷ past) g a (inr i) o k u e =
    one_more l guard m past a k g i (passed l guard past (fewer l guard m past g) a i o k u e)

pub guard_tells : (l : LockCalls) (guard : ℕ → Option ℕ) (past : List Mark) → GuardsKept l guard past → (a : Mark) → In a past → (o k : ℕ) → Touches a o → guard o ≡ Some k → (t : ℕ) → t ≢ a.thread → taken l k (own t past) ≡ Some Replay → place a < known past (OfThread t) a.thread
guard_tells l guard past g a i o k u e t ne h =
    let w = passed l guard past g a i o k u e in
    omega (arith, w.known_by t ne h, access_place a o u.global)

pub ordered : (l : LockCalls) (guard : ℕ → Option ℕ) (past : List Mark) (m : Mark) → GuardsKept l guard (m ∷ past) → (a : Mark) → In a past → (o k : ℕ) → Touches a o → Touches m o → guard o ≡ Some k → m.thread ≢ a.thread → place a < known past (OfThread m.thread) a.thread
ordered l guard past m g a i o k u v e ne =
    guard_tells l guard past (fewer l guard m past g) a i o k u e m.thread ne (g.held.0.guarded o k v.global e ∙ ap Some v.above)

-- marks that are counted

kept : (b : Bool) (m : Mark) (xs : List Mark) → length xs ≤ length (cond b (m ∷ xs) xs)
kept true m xs = omega arith
kept false m xs = omega arith

counted_in : (memory : ℕ → Byte) (past : List Mark) → AtEach (IsCounted (fresh memory)) past → (x : Mark) → In x past → (t : ℕ) → x.thread ≡ t → x.index ≤ length (events_with (fresh memory) (OfThread t) past)
counted_in memory [] h x i t e = absurd i
counted_in memory (m ∷ past) h x (inl is) t e =
    let same : m.thread ≡ t = sym (ap (λ y. y.thread) is) ∙ e in
    let n : m.index ≡ length (events_with (fresh memory) (OfThread t) past) = h.0 ∙ ap (λ u. length (events_with (fresh memory) (OfThread u) past)) same in
    omega (arith, n, ap (λ y. y.index) is, kept (has m (OfThread t)) m (events_with (fresh memory) (OfThread t) past))
counted_in memory (m ∷ past) h x (inr i) t e =
    omega (arith, counted_in memory past h.1 x i t e, kept (has m (OfThread t)) m (events_with (fresh memory) (OfThread t) past))

pub counted_rise : (memory : ℕ → Byte) (past : List Mark) → AtEach (IsCounted (fresh memory)) past → AtEach Rises past
counted_rise memory [] h = tt
counted_rise memory (m ∷ past) h = (λ x i e. omega (arith, counted_in memory past h.1 x i m.thread e, h.0), counted_rise memory past h.1)
