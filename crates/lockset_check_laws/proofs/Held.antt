-- What a thread has taken it holds.
use Rattle.std.proofs.Common.{◌≡◌, ℕ, Bool, true, false, ◌&&◌, cond, eqb, List, [], ◌∷◌, Option, Some, None, refl, sym, ap, ◌∙◌, subst, eq-eqb, eqb-true}
use Rattle.marks.specs.declared.side.Side.{Side}
use Rattle.marks.specs.Marks.{Mark}
use Rattle.lockset_check_laws.specs.Locks.{LockCalls, Deed, Takes, GivesBack, Frees, Drops, Other, deed, own, taken_after, taken, is_that, holder_after, holder}
use Rattle.lockset_check_laws.specs.Order.{AtEach, FreeFor, IsExclusive, JustGaveBack, KeyedFor, IsKeyed, IsFree, TakesFree}

-- what is known of a deed by the thread u, for the thread t that has taken the mutex k on this side, or hasn't
record Before (k t u : ℕ) (d : Deed) (s : Option Side) (h : Option ℕ) : Type 0 where
  free : (side : Side) → d ≡ Takes side k → h ≡ None
  frees : d ≡ Frees k → u ≡ t → s ≡ None
  was : (side : Side) → s ≡ Some side → h ≡ Some t

-- another thread frees nothing of t's
not_freed : (c : Bool) (t u : ℕ) (h : Option ℕ) → eqb u t ≡ false → h ≡ Some t → cond (c && is_that h u) None h ≡ Some t
not_freed c t u h ne is = go c (eqb t u) refl
  where
    away : (b : Bool) → eqb t u ≡ b → b ≡ false
    away false e = refl
    away true e = absurd (let z = eq-eqb u t (sym (eqb-true t u e)) in cc)

    go : (c b : Bool) → eqb t u ≡ b → cond (c && is_that h u) None h ≡ Some t
    go false b e = is
    go true b e = ap (λ x. cond (is_that x u) None x) is ∙ ap (λ x. cond x None (Some t)) (e ∙ away b e)

step : (k t u : ℕ) (d : Deed) (s : Option Side) (h : Option ℕ) (side : Side) (b : Bool) → eqb u t ≡ b → Before k t u d s h → cond b (taken_after k d s) s ≡ Some side → holder_after k u d h ≡ Some t
step k t u (Takes sd j) s h side b e w x = go b (eqb j k) e refl x
  where
    go : (b c : Bool) → eqb u t ≡ b → eqb j k ≡ c → cond b (cond c (Some sd) s) s ≡ Some side → cond c (Some u) h ≡ Some t
    go true true e f x = ap Some (eqb-true u t e)
    go true false e f x = w.was side x
    go false true e f x = absurd (let z = w.free sd (ap (Takes sd) (eqb-true j k f)) in let y = w.was side x in cc)
    go false false e f x = w.was side x
step k t u (GivesBack j) s h side b e w x = go b (eqb j k) x
  where
    go : (b c : Bool) → cond b (cond c None s) s ≡ Some side → h ≡ Some t
    go true true x = absurd cc
    go true false x = w.was side x
    go false c x = w.was side x
step k t u (Frees j) s h side b e w x = go b (eqb j k) e refl x
  where
    go : (b c : Bool) → eqb u t ≡ b → eqb j k ≡ c → cond b s s ≡ Some side → cond (c && is_that h u) None h ≡ Some t
    go true true e f x = absurd (let z = w.frees (ap Frees (eqb-true j k f)) (eqb-true u t e) in cc)
    go true false e f x = w.was side x
    go false c e f x = not_freed c t u h e (w.was side x)
step k t u (Drops j) s h side b e w x = go b (eqb j k) e x
  where
    go : (b c : Bool) → eqb u t ≡ b → cond b (cond c None s) s ≡ Some side → cond (c && is_that h u) None h ≡ Some t
    go true true e x = absurd cc
    go true false e x = w.was side x
    go false c e x = not_freed c t u h e (w.was side x)
step k t u Other s h side b e w x = go b x
  where
    go : (b : Bool) → cond b s s ≡ Some side → h ≡ Some t
    go true x = w.was side x
    go false x = w.was side x

-- after it was given back nothing is taken
gave_back : (l : LockCalls) (k : ℕ) (mine : List Mark) → JustGaveBack l k mine → taken l k mine ≡ None
gave_back l k [] h = absurd h
gave_back l k (c ∷ mine) h =
    ap (λ d. taken_after k d (taken l k mine)) h ∙ ap (λ b. cond b None (taken l k mine)) (eq-eqb k k refl)

-- a thread's part with one mark more
pub taken_more : (l : LockCalls) (k t : ℕ) (m : Mark) (past : List Mark) → taken l k (own t (m ∷ past)) ≡ cond (eqb m.thread t) (taken_after k (deed l m.act) (taken l k (own t past))) (taken l k (own t past))
taken_more l k t m past = go (eqb m.thread t)
  where
    go : (b : Bool) → taken l k (cond b (m ∷ own t past) (own t past)) ≡ cond b (taken_after k (deed l m.act) (taken l k (own t past))) (taken l k (own t past))
    go true = refl
    go false = refl

pub free_of : (l : LockCalls) (past : List Mark) (d : Deed) (k : ℕ) (side : Side) → FreeFor l past d → d ≡ Takes side k → holder l k past ≡ None
free_of l past d k side x e = let P : Deed → Type 0 = λ y. FreeFor l past y in let z : P (Takes side k) = subst P e x in z

keyed_free : (l : LockCalls) (past : List Mark) (m : Mark) (d : Deed) (k : ℕ) → KeyedFor l past m d → d ≡ Frees k → JustGaveBack l k (own m.thread past)
keyed_free l past m d k x e = let P : Deed → Type 0 = λ y. KeyedFor l past m y in let z : P (Frees k) = subst P e x in z

pub taken_is_held : (l : LockCalls) (past : List Mark) → AtEach (IsExclusive l) past → AtEach (IsKeyed l) past → (k t : ℕ) (side : Side) → taken l k (own t past) ≡ Some side → holder l k past ≡ Some t
taken_is_held l [] x q k t side h = absurd cc
taken_is_held l (m ∷ past) x q k t side h =
    step k t m.thread (deed l m.act) (taken l k (own t past)) (holder l k past) side (eqb m.thread t) refl
    (record {
      free = λ sd e. free_of l past (deed l m.act) k sd x.0 e;
      frees = λ e is. ap (λ y. taken l k (own y past)) (sym is) ∙ gave_back l k (own m.thread past) (keyed_free l past m (deed l m.act) k q.0 e);
      was = taken_is_held l past x.1 q.1 k t;
    })
    (sym (taken_more l k t m past) ∙ h)

free_one : (l : LockCalls) (past mine : List Mark) (t : ℕ) (d : Deed) → ((k : ℕ) (side : Side) → taken l k mine ≡ Some side → holder l k past ≡ Some t) → FreeFor l past d → IsFree l mine d
free_one l past mine t (Takes side k) h x = go (taken l k mine) refl
  where
    go : (s : Option Side) → taken l k mine ≡ s → taken l k mine ≡ None
    go None e = e
    go (Some sd) e = absurd (let z = h k sd e in cc)
free_one l past mine t (GivesBack k) h x = tt
free_one l past mine t (Frees k) h x = tt
free_one l past mine t (Drops k) h x = tt
free_one l past mine t Other h x = tt

pub takes_free : (l : LockCalls) (past : List Mark) → AtEach (IsExclusive l) past → AtEach (IsKeyed l) past → (t : ℕ) → TakesFree l (own t past)
takes_free l [] x q t = tt
takes_free l (m ∷ past) x q t = go (eqb m.thread t) (takes_free l past x.1 q.1 t)
  where
    go : (b : Bool) → TakesFree l (own t past) → TakesFree l (cond b (m ∷ own t past) (own t past))
    go true w = (free_one l past (own t past) t (deed l m.act) (λ k side. taken_is_held l past x.1 q.1 k t side) x.0, w)
    go false w = w
