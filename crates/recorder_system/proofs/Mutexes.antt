-- Who holds a mutex, after a mark and after a call of the system.
use Rattle.std.proofs.Common.{◌≡◌, ◌≢◌, ℕ, ℤ, Bool, true, false, cond, ◌&&◌, eqb, List, [], ◌∷◌, Option, Some, None, refl, sym, ap, ◌∙◌, subst}
use Rattle.std.specs.declared.cmp.Ordering.{Ordering}
use Rattle.std.specs.declared.cmp.Ordering.TheVariants.{Less, Equal, Greater}
use Rattle.std.specs.Ordering.{int_cmp, is_eq, match_ordering}
use Rattle.std.specs.BTreeMap.{insert_entry, is_at}
use Rattle.std.specs.Map.{lookup, remove_entry}
use Rattle.std.proofs.lemmas.Map.Lookups.{exact_signed}
use Rattle.marks.specs.declared.side.Side.TheVariants.{Replay, System}
use Rattle.marks.specs.Marks.{EventKind, Call, Ret, Up, UpRet, Alloc, Free, Stop, Act, Turn, Load, Store, Enter, Leave, Step, Fault, Made, Mark}
use Rattle.lockset_check_laws.specs.Locks.{Deed, Takes, GivesBack, Frees, Drops, Other, deed, event_deed, holder_after, is_that}
use Rattle.whole_runs.specs.Outcomes.{Outcome, act_outcome, event_outcome, holder, mutex_calls}
use Rattle.recorder_system.proofs.IntPatterns.{equal_ints, other_ints, same_ints}

-- ---- in a run

abbrev pub lock_number : ℕ
lock_number = mutex_calls.lock

abbrev pub unlock_number : ℕ
unlock_number = mutex_calls.unlock

-- what a call of the function that comes to its result makes of the holder of a mutex
abbrev pub after_call : (k t f : ℕ) → List ℕ → Option ℕ → Option ℕ
after_call k t f [] h = h
after_call k t f (j ∷ []) h = cond (eqb f lock_number) (cond (eqb j k) (Some t) h) (cond (eqb f unlock_number) (cond (eqb j k && is_that h t) None h) h)
after_call k t f (i ∷ j ∷ js) h = h

module _ (k t : ℕ) (h : Option ℕ) where
  by_step : (f j : ℕ) (b c : Bool) → holder_after k t (cond b (Takes System j) (cond c (Drops j) Other)) h ≡ cond b (cond (eqb j k) (Some t) h) (cond c (cond (eqb j k && is_that h t) None h) h)
  by_step f j true c = refl
  by_step f j false true = refl
  by_step f j false false = refl

  by_ret : (f j : ℕ) (b c : Bool) → holder_after k t (cond b (Takes Replay j) (cond c (Frees j) Other)) h ≡ cond b (cond (eqb j k) (Some t) h) (cond c (cond (eqb j k && is_that h t) None h) h)
  by_ret f j true c = refl
  by_ret f j false true = refl
  by_ret f j false false = refl

  abbrev IsAfter : Deed → Outcome → Type 0
  IsAfter d o = holder_after k t d h ≡ after_call k t o.func o.args h

  abbrev or_this : Outcome → Option Outcome → Outcome
  or_this o None = o
  or_this o (Some x) = x

  of_ret : (o : Outcome) (e : EventKind) → event_outcome t e ≡ Some o → IsAfter (event_deed mutex_calls e) o
  of_ret o (Ret f [] v same outs commit) e = subst (IsAfter Other) (ap (or_this o) e) refl
  of_ret o (Ret f (j ∷ []) v same outs commit) e = subst (IsAfter (event_deed mutex_calls (Ret f (j ∷ []) v same outs commit))) (ap (or_this o) e) (by_ret f j (eqb f lock_number) (eqb f unlock_number))
  of_ret o (Ret f (i ∷ (j ∷ js)) v same outs commit) e = subst (IsAfter Other) (ap (or_this o) e) refl
  of_ret o (Call f args ins outs prepared) e = absurd cc
  of_ret o (Up f args) e = absurd cc
  of_ret o (UpRet f v) e = absurd cc
  of_ret o (Alloc at size) e = absurd cc
  of_ret o (Free at size) e = absurd cc
  of_ret o (Stop fault) e = absurd cc

  of_act : (o : Outcome) (a : Act) → act_outcome t a ≡ Some o → IsAfter (deed mutex_calls a) o
  of_act o (Step f [] v ins pieces freed) e = subst (IsAfter Other) (ap (or_this o) e) refl
  of_act o (Step f (j ∷ []) v ins pieces freed) e = subst (IsAfter (deed mutex_calls (Step f (j ∷ []) v ins pieces freed))) (ap (or_this o) e) (by_step f j (eqb f lock_number) (eqb f unlock_number))
  of_act o (Step f (i ∷ (j ∷ js)) v ins pieces freed) e = subst (IsAfter Other) (ap (or_this o) e) refl
  of_act o (Made ev) e = of_ret o ev.kind e
  of_act o Turn e = absurd cc
  of_act o (Load p at bytes) e = absurd cc
  of_act o (Store p at bytes) e = absurd cc
  of_act o (Enter f args at bytes) e = absurd cc
  of_act o (Leave at size) e = absurd cc
  of_act o (Fault kind c ins outs at) e = absurd cc

  by_call : (j : ℕ) (c : Bool) → holder_after k t (cond c (GivesBack j) Other) h ≡ h
  by_call j true = refl
  by_call j false = refl

  no_ret : (e : EventKind) → event_outcome t e ≡ None → holder_after k t (event_deed mutex_calls e) h ≡ h
  no_ret (Call f [] ins outs prepared) e = refl
  no_ret (Call f (j ∷ []) ins outs prepared) e = by_call j (eqb f unlock_number)
  no_ret (Call f (i ∷ (j ∷ js)) ins outs prepared) e = refl
  no_ret (Ret f args v same outs commit) e = absurd cc
  no_ret (Up f args) e = refl
  no_ret (UpRet f v) e = refl
  no_ret (Alloc at size) e = refl
  no_ret (Free at size) e = refl
  no_ret (Stop fault) e = refl

  no_act : (a : Act) → act_outcome t a ≡ None → holder_after k t (deed mutex_calls a) h ≡ h
  no_act (Step f args v ins pieces freed) e = absurd cc
  no_act (Made ev) e = no_ret ev.kind e
  no_act Turn e = refl
  no_act (Load p at bytes) e = refl
  no_act (Store p at bytes) e = refl
  no_act (Enter f args at bytes) e = refl
  no_act (Leave at size) e = refl
  no_act (Fault kind c ins outs at) e = refl

-- by a mark with an outcome, and by another one
pub holder_by : (k : ℕ) (past : List Mark) (m : Mark) (o : Outcome) → act_outcome m.thread m.act ≡ Some o → holder k (m ∷ past) ≡ after_call k m.thread o.func o.args (holder k past)
holder_by k past m o e = of_act k m.thread (holder k past) o m.act e

pub holder_same : (k : ℕ) (past : List Mark) (m : Mark) → act_outcome m.thread m.act ≡ None → holder k (m ∷ past) ≡ holder k past
holder_same k past m e = no_act k m.thread (holder k past) m.act e

-- functions that neither lock nor unlock leave it
pub others_leave : (k t f : ℕ) (args : List ℕ) (h : Option ℕ) → eqb f lock_number ≡ false → eqb f unlock_number ≡ false → after_call k t f args h ≡ h
others_leave k t f [] h a b = refl
others_leave k t f (j ∷ []) h a b = ap (λ x. cond x (cond (eqb j k) (Some t) h) (cond (eqb f unlock_number) (cond (eqb j k && is_that h t) None h) h)) a ∙ ap (λ x. cond x (cond (eqb j k && is_that h t) None h) h) b
others_leave k t f (i ∷ (j ∷ js)) h a b = refl

-- ---- in a system

module _ (q m : ℤ) where
  not_at : q ≢ m → is_at (int_cmp q) m ≡ false
  not_at ne = other_ints q m ne

  -- a key that is equal to m is no q
  skips : (k : ℤ) → q ≢ m → int_cmp m k ≡ Equal → is_at (int_cmp q) k ≡ false
  skips k ne e = other_ints q k (λ z. ne (z ∙ sym (exact_signed m k e)))

  pub insert_other : (es : List (ℤ × ℕ)) (v : ℕ) → q ≢ m → lookup (is_at (int_cmp q)) (insert_entry int_cmp es m v) ≡ lookup (is_at (int_cmp q)) es
  insert_other [] v ne = ap (λ b. cond b (Some v) None) (not_at ne)
  insert_other (e ∷ es) v ne = go (int_cmp m e.0) refl (insert_other es v ne)
    where
      go : (r : Ordering) → int_cmp m e.0 ≡ r → lookup (is_at (int_cmp q)) (insert_entry int_cmp es m v) ≡ lookup (is_at (int_cmp q)) es → lookup (is_at (int_cmp q)) (match_ordering r ((m, v) ∷ e ∷ es) ((e.0, v) ∷ es) (e ∷ insert_entry int_cmp es m v)) ≡ lookup (is_at (int_cmp q)) (e ∷ es)
      go Less r on = ap (λ b. cond b (Some v) (lookup (is_at (int_cmp q)) (e ∷ es))) (not_at ne)
      go Equal r on = ap (λ b. cond b (Some v) (lookup (is_at (int_cmp q)) es)) (skips e.0 ne r) ∙ sym (ap (λ b. cond b (Some e.1) (lookup (is_at (int_cmp q)) es)) (skips e.0 ne r))
      go Greater r on = ap (λ x. cond (is_at (int_cmp q) e.0) (Some e.1) x) on

  pub remove_other : (es : List (ℤ × ℕ)) → q ≢ m → lookup (is_at (int_cmp q)) (remove_entry (is_at (int_cmp m)) es) ≡ lookup (is_at (int_cmp q)) es
  remove_other [] ne = refl
  remove_other (e ∷ es) ne = go (is_at (int_cmp m) e.0) refl (remove_other es ne)
    where
      go : (b : Bool) → is_at (int_cmp m) e.0 ≡ b → lookup (is_at (int_cmp q)) (remove_entry (is_at (int_cmp m)) es) ≡ lookup (is_at (int_cmp q)) es → lookup (is_at (int_cmp q)) (cond b es (e ∷ remove_entry (is_at (int_cmp m)) es)) ≡ lookup (is_at (int_cmp q)) (e ∷ es)
      go true r on = sym (ap (λ b. cond b (Some e.1) (lookup (is_at (int_cmp q)) es)) (other_ints q e.0 (λ z. ne (z ∙ sym (equal_ints m e.0 r)))))
      go false r on = ap (λ x. cond (is_at (int_cmp q) e.0) (Some e.1) x) on

pub insert_same : (m : ℤ) (es : List (ℤ × ℕ)) (v : ℕ) → lookup (is_at (int_cmp m)) (insert_entry int_cmp es m v) ≡ Some v
insert_same m [] v = ap (λ b. cond b (Some v) None) (same_ints m m refl)
insert_same m (e ∷ es) v = go (int_cmp m e.0) refl (insert_same m es v)
  where
    go : (r : Ordering) → int_cmp m e.0 ≡ r → lookup (is_at (int_cmp m)) (insert_entry int_cmp es m v) ≡ Some v → lookup (is_at (int_cmp m)) (match_ordering r ((m, v) ∷ e ∷ es) ((e.0, v) ∷ es) (e ∷ insert_entry int_cmp es m v)) ≡ Some v
    go Less r on = ap (λ b. cond b (Some v) (lookup (is_at (int_cmp m)) (e ∷ es))) (same_ints m m refl)
    go Equal r on = ap (λ o. cond (is_eq o) (Some v) (lookup (is_at (int_cmp m)) es)) r
    go Greater r on = ap (λ o. cond (is_eq o) (Some e.1) (lookup (is_at (int_cmp m)) (insert_entry int_cmp es m v))) r ∙ on
