-- A mark that answers a held want keeps the guards.
use Rattle.std.proofs.Common.{◌≡◌, ◌≢◌, ℕ, Bool, true, false, ◌&&◌, cond, eqb, List, [], ◌∷◌, length, Option, Some, None, refl, sym, ap, ◌∙◌, eq-eqb, eqb-true}
use Rattle.std.specs.Prelude.{is_some, not}
use Rattle.std.proofs.lemmas.Bool.{and_parts}
use Rattle.marks.specs.declared.range.Range.{Range}
use Rattle.marks.specs.Ranges.{Piece, are_bytes}
use Rattle.marks.specs.declared.side.Side.{Side}
use Rattle.marks.specs.declared.side.Side.TheVariants.{Replay, System}
use Rattle.marks.specs.Marks.{EventKind, Call, Ret, Act, Turn, Load, Store, Enter, Leave, Step, Fault, Made, Mark}
use Rattle.marks.specs.Wants.{Want, Loads, Stores, Frees, Steps, Answer, same_numbers, same_origin, answer_if, stopped_if, answer_to}
use Rattle.replay_runs.proofs.Replies.{same_numbers_true}
use Rattle.lockset_check_laws.specs.Locks as locks
use Rattle.lockset_check_laws.specs.Locks.{LockCalls, Deed, Takes, GivesBack, Drops, Other, event_deed, deed, own, taken}
use Rattle.lockset_check_laws.specs.Order.{AtEach, IsHeld, DropsOwn, global_of}
use Rattle.lockset_check_laws.specs.Held.{HeldWant, AnswersHeld}

answered : (b : Bool) (a : Answer) → is_some (answer_if b a) ≡ true → b ≡ true
answered true a e = refl
answered false a e = absurd cc

-- what isn't stopped
not_stopped : (b : Bool) → is_some (stopped_if (b && false)) ≡ true → ⊥
not_stopped true e = absurd cc
not_stopped false e = absurd cc

same_global : (o : ℕ) (q : Option ℕ) → same_origin (Some o) q ≡ true → q ≡ Some o
same_global o None e = absurd cc
same_global o (Some p) e = ap Some (sym (eqb-true o p e))

held_load : (l : LockCalls) (guard : ℕ → Option ℕ) (side : Side) (mine : List Mark) (q : Option ℕ) (at width o k : ℕ) → q ≡ Some o → HeldWant l guard side mine (Loads q at width) → guard o ≡ Some k → taken l k mine ≡ Some side
held_load l guard side mine None at width o k e h g = absurd cc
held_load l guard side mine (Some p) at width o k e h g = h k (ap guard (let z : p ≡ o = cc in z) ∙ g)

held_store : (l : LockCalls) (guard : ℕ → Option ℕ) (side : Side) (mine : List Mark) (q : Option ℕ) (at : ℕ) (bytes : List ℕ) (o k : ℕ) → q ≡ Some o → HeldWant l guard side mine (Stores q at bytes) → guard o ≡ Some k → taken l k mine ≡ Some side
held_store l guard side mine None at bytes o k e h g = absurd cc
held_store l guard side mine (Some p) at bytes o k e h g = h k (ap guard (let z : p ≡ o = cc in z) ∙ g)

by_load : (l : LockCalls) (guard : ℕ → Option ℕ) (side : Side) (mine : List Mark) (want : Want) (o x k : ℕ) (bytes : List ℕ) → is_some (answer_to want (Load (Some o) x bytes)) ≡ true → HeldWant l guard side mine want → guard o ≡ Some k → taken l k mine ≡ Some side
unfolding answer_to
by_load l guard side mine (Loads q at n) o x k bytes e h g =
    let p = and_parts (same_origin (Some o) q && eqb x at) (eqb (length bytes) n && are_bytes bytes) (answered _ _ e) in
    held_load l guard side mine q at n o k (same_global o q (and_parts (same_origin (Some o) q) (eqb x at) p.0).0) h g
by_load l guard side mine (Frees at) o x k bytes e h g = absurd (not_stopped (not (eqb at 0)) e)
by_load l guard side mine want o x k bytes e h g = absurd cc

by_store : (l : LockCalls) (guard : ℕ → Option ℕ) (side : Side) (mine : List Mark) (want : Want) (o x k : ℕ) (bytes : List ℕ) → is_some (answer_to want (Store (Some o) x bytes)) ≡ true → HeldWant l guard side mine want → guard o ≡ Some k → taken l k mine ≡ Some side
unfolding answer_to
by_store l guard side mine (Stores q at bs) o x k bytes e h g =
    let p = and_parts (same_origin (Some o) q) (eqb x at && same_numbers bytes bs) (answered _ _ e) in
    held_store l guard side mine q at bs o k (same_global o q p.0) h g
by_store l guard side mine (Frees at) o x k bytes e h g = absurd (not_stopped (not (eqb at 0)) e)
by_store l guard side mine want o x k bytes e h g = absurd cc

held_step : (l : LockCalls) (guard : ℕ → Option ℕ) (side : Side) (mine : List Mark) (i : Bool) (f g k : ℕ) (bs : List ℕ) → g ≡ f → (k ∷ []) ≡ bs → HeldWant l guard side mine (Steps i f bs) → g ≡ l.unlock → g ≢ l.lock → taken l k mine ≡ Some System
held_step l guard side mine i f g k [] e z h u n = absurd cc
held_step l guard side mine i f g k (j ∷ []) e z h u n =
    let same : k ≡ j = cc in
    ap (λ y. taken l y mine) same ∙ h (sym e ∙ u) (λ w. n (e ∙ w))
held_step l guard side mine i f g k (j ∷ x ∷ bs) e z h u n = absurd cc

by_step : (l : LockCalls) (guard : ℕ → Option ℕ) (side : Side) (mine : List Mark) (want : Want) (g k v : ℕ) (ins pieces : List Piece) (freed : List Range) → is_some (answer_to want (Step g (k ∷ []) v ins pieces freed)) ≡ true → HeldWant l guard side mine want → g ≡ l.unlock → g ≢ l.lock → taken l k mine ≡ Some System
unfolding answer_to
by_step l guard side mine (Steps i f bs) g k v ins pieces freed e h u n =
    let p = and_parts (eqb g f) (same_numbers (k ∷ []) bs) (answered _ _ e) in
    held_step l guard side mine i f g k bs (eqb-true g f p.0) (same_numbers_true (k ∷ []) bs p.1) h u n
by_step l guard side mine (Frees at) g k v ins pieces freed e h u n = absurd (not_stopped (not (eqb at 0)) e)
by_step l guard side mine want g k v ins pieces freed e h u n = absurd cc

dropped : (l : LockCalls) (guard : ℕ → Option ℕ) (side : Side) (mine : List Mark) (want : Want) (act : Act) → is_some (answer_to want act) ≡ true → HeldWant l guard side mine want → DropsOwn l mine (deed l act)
dropped l guard side mine want (Step g (k ∷ []) v ins pieces freed) e h = go (eqb g l.lock) (eqb g l.unlock) refl refl
  where
    go : (a b : Bool) → eqb g l.lock ≡ a → eqb g l.unlock ≡ b → DropsOwn l mine (cond a (Takes System k) (cond b (Drops k) Other))
    go true b p q = tt
    go false false p q = tt
    go false true p q = by_step l guard side mine want g k v ins pieces freed e h (eqb-true g l.unlock q) (λ z. let w = eq-eqb g l.lock z in absurd cc)
dropped l guard side mine want (Step g [] v ins pieces freed) e h = tt
dropped l guard side mine want (Step g (k ∷ j ∷ ks) v ins pieces freed) e h = tt
dropped l guard side mine want Turn e h = tt
dropped l guard side mine want (Load origin at bytes) e h = tt
dropped l guard side mine want (Store origin at bytes) e h = tt
dropped l guard side mine want (Enter func args at bytes) e h = tt
dropped l guard side mine want (Leave at size) e h = tt
dropped l guard side mine want (Fault kind crosses ins outs access) e h = tt
dropped l guard side mine want (Made event) e h = no_drop (event_deed l event.kind) refl
  where
    by_kind : (k : EventKind) → DropsOwn l mine (event_deed l k)
    by_kind (Call func (k ∷ []) ins outs prepared) = go (eqb func l.unlock)
      where
        go : (b : Bool) → DropsOwn l mine (cond b (GivesBack k) Other)
        go true = tt
        go false = tt
    by_kind (Ret func (k ∷ []) result same outs commit) = go (eqb func l.lock) (eqb func l.unlock)
      where
        go : (a b : Bool) → DropsOwn l mine (cond a (Takes Replay k) (cond b (locks.Frees k) Other))
        go true b = tt
        go false true = tt
        go false false = tt
    by_kind kind = tt

    no_drop : (d : Deed) → event_deed l event.kind ≡ d → DropsOwn l mine (event_deed l event.kind)
    no_drop d is = by_kind event.kind

guarded : (l : LockCalls) (guard : ℕ → Option ℕ) (side : Side) (mine : List Mark) (want : Want) (act : Act) (o k : ℕ) → is_some (answer_to want act) ≡ true → HeldWant l guard side mine want → global_of act ≡ Some o → guard o ≡ Some k → taken l k mine ≡ Some side
guarded l guard side mine want (Load (Some p) x bytes) o k e h is g = by_load l guard side mine want p x k bytes e h (ap guard (let z : p ≡ o = cc in z) ∙ g)
guarded l guard side mine want (Store (Some p) x bytes) o k e h is g = by_store l guard side mine want p x k bytes e h (ap guard (let z : p ≡ o = cc in z) ∙ g)
guarded l guard side mine want act o k e h is g = absurd cc

pub held_wants : (l : LockCalls) (guard : ℕ → Option ℕ) (past : List Mark) → AtEach (AnswersHeld l guard) past → AtEach (IsHeld l guard) past
held_wants l guard [] h = tt
held_wants l guard (m ∷ past) h = (
  record {
    guarded = λ o k is g. guarded l guard m.side (own m.thread past) h.0.want m.act o k h.0.answers h.0.held is g;
    drops = dropped l guard m.side (own m.thread past) h.0.want m.act h.0.answers h.0.held;
  },
  held_wants l guard past h.1,
)
