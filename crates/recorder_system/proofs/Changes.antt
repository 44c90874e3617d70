-- What is noted by each call.
use Rattle.std.proofs.Common.{◌≡◌, ◌≢◌, ◌⊎◌, inl, inr, ℕ, ◌+◌, ◌<◌, ◌≤◌, ℤ, Bool, true, false, cond, ◌&&◌, not, eqb, leb, List, [], ◌∷◌, ◌++◌, length, get_or, map, set, drop, Option, Some, None, refl, sym, ap, ◌∙◌, subst, arith}
use Rattle.std.specs.Prelude.{is_some, option_map}
use Rattle.std.specs.Ordering.{int_cmp}
use Rattle.std.specs.BTreeMap.{insert_entry, is_at}
use Rattle.std.specs.Map.{remove_entry}
use Rattle.std.proofs.lemmas.Bool.{true≢false, le-leb, lt-leb}
use Rattle.std.proofs.lemmas.Option.{slice_get-map}
use Rattle.marks.specs.Marks.{Mark}
use Rattle.c_builtins.specs.declared.builtin.Builtin.{Builtin}
use Rattle.c_builtins.specs.declared.builtin.Builtin.TheVariants.{Malloc, Free, Spawn, Join, Lock, Unlock, Print}
use Rattle.c_builtins.specs.Table.{number_of}
use Rattle.system_side.specs.declared.threads.Standing.{Standing}
use Rattle.system_side.specs.declared.threads.Standing.TheVariants.{Ready, Waits}
use Rattle.system_side.specs.declared.threads.Wait.{Wait}
use Rattle.system_side.specs.declared.threads.Wait.TheVariants.{Mutex}
use Rattle.system_side.specs.Threads.{has_not_ended, holds_of, is_running, woken}
use Rattle.system_side.specs.Answers.{left_of}
use Rattle.system_side.specs.System.{SystemState}
use Rattle.system_side.specs.System as system
use Rattle.whole_runs.specs.World.{World}
use Rattle.whole_runs.specs.Outcomes.{act_outcome, builtin_of, holder, is_start, minus_one, outcome, started}
use Rattle.whole_runs.specs.Picks.{can_step}
use Rattle.whole_runs.specs.Below.{Given, ByPool, Says, NoMore}
use Rattle.recorder_system.specs.Stands.{IsInt, IsSound, IsSystemBut, IsSystemOf, int_of, running_in}
use Rattle.recorder_system.specs.Calls.{IsOutcome, Notes}
use Rattle.recorder_system.proofs.Lists.{count_few, count_map, count_more, get_older, get_set_same, length_map, length_more}
use Rattle.recorder_system.proofs.Standing.{running_there, within}
use Rattle.recorder_system.proofs.Told.{woken_runs}
use Rattle.recorder_system.proofs.Waiting.{still_sound}
use Rattle.recorder_system.proofs.Mutexes.{after_call, lock_number, others_leave, unlock_number}
use Rattle.recorder_system.proofs.Noted.{frees, grows, holder_now, keeps_mutexes, leaves, left_by_builtin, left_by_external, none_apart, spawn_number, takes}

-- the thread of the mark is the one that is named
module _ (w : World) (past : List Mark) (t f : ℕ) (args : List ℕ) (m : Mark) (x : IsOutcome w past t f args m) where
  pub can_here : can_step w past m.thread ≡ true
  can_here = ap (can_step w past) x.of_thread ∙ x.can

  pub outcome_here : act_outcome m.thread m.act ≡ Some (outcome m.thread f args x.result)
  outcome_here = x.outcome_is ∙ ap (λ u. Some (outcome u f args x.result)) (sym x.of_thread)

  pub there : (s : SystemState) → IsSystemBut m.thread w (m ∷ past) s → IsSystemBut t w (m ∷ past) s
  there s h = subst (λ u. IsSystemBut u w (m ∷ past) s) x.of_thread h

  no_start : eqb f spawn_number ≡ false → is_start (outcome m.thread f args x.result) ≡ false
  no_start e = ap (λ b. b && not (eqb x.result minus_one)) e

-- a builtin that neither starts threads nor locks
pub notes_nothing : (s : SystemState) (t f : ℕ) (args : List ℕ) (b : Builtin) → builtin_of f ≡ Some b → eqb f spawn_number ≡ false → eqb f lock_number ≡ false → eqb f unlock_number ≡ false → Notes t f args s s
notes_nothing s t f args b is no_spawn no_lock no_unlock w past m x h =
    let o = outcome_here w past t f args m x in
    let can = can_here w past t f args m x in
    there w past t f args m x s (leaves w past m s h can f args x.result o (no_start w past t f args m x no_spawn)
    (λ k. holder_now w past m s h can f args x.result o k ∙ others_leave k m.thread f args (holder k past) no_lock no_unlock) s.left
    (left_by_builtin w past m s h can f args x.result o b is))

pub notes_other : (s : SystemState) (t : ℕ) (args : List ℕ) (b : Builtin) → (b ≡ Malloc) ⊎ ((b ≡ Free) ⊎ ((b ≡ Join) ⊎ (b ≡ Print))) → Notes t (number_of b) args s s
notes_other s t args b (inl e) = subst (λ x. Notes t (number_of x) args s s) (sym e) (notes_nothing s t (number_of Malloc) args Malloc refl refl refl refl)
notes_other s t args b (inr (inl e)) = subst (λ x. Notes t (number_of x) args s s) (sym e) (notes_nothing s t (number_of Free) args Free refl refl refl refl)
notes_other s t args b (inr (inr (inl e))) = subst (λ x. Notes t (number_of x) args s s) (sym e) (notes_nothing s t (number_of Join) args Join refl refl refl refl)
notes_other s t args b (inr (inr (inr e))) = subst (λ x. Notes t (number_of x) args s s) (sym e) (notes_nothing s t (number_of Print) args Print refl refl refl refl)

-- any other function
pub notes_answer : (s : SystemState) (t f : ℕ) (args : List ℕ) → builtin_of f ≡ None → Notes t f args s (record s { left = set s.left f (drop 1 (left_of s.left f)) })
notes_answer s t f args none w past m x h =
    let o = outcome_here w past t f args m x in
    let can = can_here w past t f args m x in
    there w past t f args m x (record s { left = set s.left f (drop 1 (left_of s.left f)) })
    (leaves w past m s h can f args x.result o (no_start w past t f args m x (none_apart f spawn_number Spawn none refl))
    (λ k. holder_now w past m s h can f args x.result o k ∙ others_leave k m.thread f args (holder k past) (none_apart f lock_number Lock none refl) (none_apart f unlock_number Unlock none refl))
    (set s.left f (drop 1 (left_of s.left f))) (left_by_external w past m s h can f args x.result o))

-- a call that isn't of one argument leaves mutexes
odd : (k t f : ℕ) (args : List ℕ) (h : Option ℕ) → length args ≢ 1 → after_call k t f args h ≡ h
odd k t f [] h ne = refl
odd k t f (j ∷ []) h ne = absurd (ne refl)
odd k t f (i ∷ (j ∷ js)) h ne = refl

notes_odd : (s : SystemState) (t f : ℕ) (args : List ℕ) (b : Builtin) → builtin_of f ≡ Some b → eqb f spawn_number ≡ false → length args ≢ 1 → Notes t f args s s
notes_odd s t f args b is no_spawn ne w past m x h =
    let o = outcome_here w past t f args m x in
    let can = can_here w past t f args m x in
    there w past t f args m x s (leaves w past m s h can f args x.result o (no_start w past t f args m x no_spawn)
    (λ k. holder_now w past m s h can f args x.result o k ∙ odd k m.thread f args (holder k past) ne) s.left
    (left_by_builtin w past m s h can f args x.result o b is))

-- ---- locks

pub notes_odd_lock : (s : SystemState) (t : ℕ) (args : List ℕ) → length args ≢ 1 → Notes t lock_number args s s
notes_odd_lock s t args ne = notes_odd s t lock_number args Lock refl refl ne

-- it was free
lock_free : (w : World) (past : List Mark) (t k : ℕ) (m : Mark) (s : SystemState) → IsInt k → IsOutcome w past t lock_number (k ∷ []) m → IsSystemOf w past s → is_some (system.holder s.held (int_of k)) ≡ false
lock_free w past t k m s int x h = ap is_some (h.mutexes k int) ∙ not_true (is_some (holder k past)) x.free
  where
    not_true : (b : Bool) → not b ≡ true → b ≡ false
    not_true true e = sym e
    not_true false e = refl

pub notes_lock : (s : SystemState) (t k : ℕ) → IsInt k → Notes t lock_number (k ∷ []) s (record s { held = insert_entry int_cmp s.held (int_of k) t })
notes_lock s t k int w past m x h =
    let o = outcome_here w past t lock_number (k ∷ []) m x in
    let can = can_here w past t lock_number (k ∷ []) m x in
    there w past t lock_number (k ∷ []) m x (record s { held = insert_entry int_cmp s.held (int_of k) t })
    (subst (λ u. IsSystemBut m.thread w (m ∷ past) (record s { held = insert_entry int_cmp s.held (int_of k) u })) x.of_thread
    (takes w past m s h can lock_number (k ∷ []) x.result o refl k int refl refl))

-- one that was held isn't taken in a run
pub notes_held_lock : (s new : SystemState) (t k : ℕ) → IsInt k → is_some (system.holder s.held (int_of k)) ≡ true → Notes t lock_number (k ∷ []) s new
notes_held_lock s new t k int held w past m x h = absurd (true≢false (sym held ∙ lock_free w past t k m s int x h))

-- whatever the system answers
pub notes_locked : (s new : SystemState) (t k : ℕ) (z : ℤ) (taken : Bool) → IsInt k → z ≡ int_of k → taken ≡ not (is_some (system.holder s.held z)) →
    (taken ≡ true → new ≡ record s { held = insert_entry int_cmp s.held z t }) → Notes t lock_number (k ∷ []) s new
notes_locked s new t k z true int e is new_is =
    subst (Notes t lock_number (k ∷ []) s) (sym (new_is refl ∙ ap (λ (y : ℤ). record s { held = insert_entry int_cmp s.held y t }) e)) (notes_lock s t k int)
notes_locked s new t k z false int e is new_is = notes_held_lock s new t k int (ap (λ y. is_some (system.holder s.held y)) (sym e) ∙ held (is_some (system.holder s.held z)) is)
  where
    held : (b : Bool) → false ≡ not b → b ≡ true
    held true h = refl
    held false h = h

pub locked_threads : (s new : SystemState) (t : ℕ) (z : ℤ) (taken : Bool) (P : List Standing → Type 0) → P s.threads → P (set s.threads t (Waits (Mutex z))) →
    (taken ≡ true → new ≡ record s { held = insert_entry int_cmp s.held z t }) → (taken ≡ false → new ≡ record s { threads = set s.threads t (Waits (Mutex z)) }) → P new.threads
locked_threads s new t z true P same set_so is_taken blocked = subst (λ (x : SystemState). P x.threads) (sym (is_taken refl)) same
locked_threads s new t z false P same set_so is_taken blocked = subst (λ (x : SystemState). P x.threads) (sym (blocked refl)) set_so

pub waits_runs : (threads : List Standing) (t : ℕ) (wait : Wait) → has_not_ended threads t ≡ true → has_not_ended (set threads t (Waits wait)) t ≡ true
waits_runs threads t wait is = ap (holds_of is_running) (get_set_same threads t (Waits wait) (within threads t is))

module _ (s new : SystemState) (t : ℕ) (z : ℤ) (taken : Bool) (is : has_not_ended s.threads t ≡ true) (got : taken ≡ true → new ≡ record s { held = insert_entry int_cmp s.held z t }) (blocked : taken ≡ false → new ≡ record s { threads = set s.threads t (Waits (Mutex z)) }) where
  pub locked_runs : has_not_ended new.threads t ≡ true
  locked_runs = locked_threads s new t z taken (λ (ts : List Standing). has_not_ended ts t ≡ true) is (waits_runs s.threads t (Mutex z) is) got blocked

  pub locked_sound : (running : ℕ) → IsSound running s → IsSound running new
  locked_sound running h =
      let still = still_sound running s t (Mutex z) is h in
      let both = locked_threads s new t z taken (λ (ts : List Standing). (length ts ≤ 32) × (running ≡ running_in ts)) (h.few, h.running_is) (still.few, still.running_is) got blocked in
      record { few = both.0; running_is = both.1 }

-- ---- unlocks

pub notes_odd_unlock : (s : SystemState) (t : ℕ) (args : List ℕ) → length args ≢ 1 → Notes t unlock_number args s s
notes_odd_unlock s t args ne = notes_odd s t unlock_number args Unlock refl refl ne

pub notes_unlock : (s new : SystemState) (t k : ℕ) → IsInt k → system.holds s.held t (int_of k) ≡ true → new ≡ record s { held = remove_entry (is_at (int_cmp (int_of k))) s.held; threads = map (woken (Mutex (int_of k))) s.threads } →
    system.holder new.held (int_of k) ≡ None → Notes t unlock_number (k ∷ []) s new
notes_unlock s new t k int held new_is free w past m x h =
    let o = outcome_here w past t unlock_number (k ∷ []) m x in
    let can = can_here w past t unlock_number (k ∷ []) m x in
    there w past t unlock_number (k ∷ []) m x new
    (frees w past m s h can unlock_number (k ∷ []) x.result o refl k int refl refl (ap (λ u. system.holds s.held u (int_of k)) x.of_thread ∙ held) new new_is free)

pub notes_vain_unlock : (s : SystemState) (t k : ℕ) → IsInt k → system.holds s.held t (int_of k) ≡ false → Notes t unlock_number (k ∷ []) s s
notes_vain_unlock s t k int held w past m x h =
    let o = outcome_here w past t unlock_number (k ∷ []) m x in
    let can = can_here w past t unlock_number (k ∷ []) m x in
    there w past t unlock_number (k ∷ []) m x s
    (leaves w past m s h can unlock_number (k ∷ []) x.result o refl
    (keeps_mutexes w past m s h can unlock_number (k ∷ []) x.result o refl k int refl refl (ap (λ u. system.holds s.held u (int_of k)) x.of_thread ∙ held))
    s.left (left_by_builtin w past m s h can unlock_number (k ∷ []) x.result o Unlock refl))

pub notes_unlocked : (s new : SystemState) (t k : ℕ) (z : ℤ) → IsInt k → z ≡ int_of k →
    (system.holds s.held t z ≡ true → new ≡ record s { held = remove_entry (is_at (int_cmp z)) s.held; threads = map (woken (Mutex z)) s.threads }) →
    (system.holds s.held t z ≡ true → system.holder new.held z ≡ None) → (system.holds s.held t z ≡ false → new ≡ s) → Notes t unlock_number (k ∷ []) s new
notes_unlocked s new t k z int e freed free vain = go (system.holds s.held t z) refl
  where
    go : (b : Bool) → system.holds s.held t z ≡ b → Notes t unlock_number (k ∷ []) s new
    go true held = notes_unlock s new t k int (ap (system.holds s.held t) (sym e) ∙ held)
        (freed held ∙ ap (λ (y : ℤ). record s { held = remove_entry (is_at (int_cmp y)) s.held; threads = map (woken (Mutex y)) s.threads }) e)
        (ap (system.holder new.held) (sym e) ∙ free held)
    go false held = subst (Notes t unlock_number (k ∷ []) s) (sym (vain held)) (notes_vain_unlock s t k int (ap (system.holds s.held t) (sym e) ∙ held))

pub unlocked_threads : (s new : SystemState) (t : ℕ) (z : ℤ) (P : List Standing → Type 0) → P s.threads → P (map (woken (Mutex z)) s.threads) →
    (system.holds s.held t z ≡ true → new ≡ record s { held = remove_entry (is_at (int_cmp z)) s.held; threads = map (woken (Mutex z)) s.threads }) → (system.holds s.held t z ≡ false → new ≡ s) → P new.threads
unlocked_threads s new t z P same woken_so freed vain = go (system.holds s.held t z) refl
  where
    go : (b : Bool) → system.holds s.held t z ≡ b → P new.threads
    go true held = subst (λ (x : SystemState). P x.threads) (sym (freed held)) woken_so
    go false held = subst (λ (x : SystemState). P x.threads) (sym (vain held)) same

pub woken_run : (threads : List Standing) (t : ℕ) (wait : Wait) → has_not_ended threads t ≡ true → has_not_ended (map (woken wait) threads) t ≡ true
woken_run threads t wait is =
    let x = running_there threads t is in
    ap (holds_of is_running) (slice_get-map (woken wait) threads t ∙ ap (option_map (woken wait)) x.1) ∙ (woken_runs wait x.0 ∙ x.2)

pub woken_sound : (running : ℕ) (threads : List Standing) (wait : Wait) → (length threads ≤ 32) × (running ≡ running_in threads) → (length (map (woken wait) threads) ≤ 32) × (running ≡ running_in (map (woken wait) threads))
woken_sound running threads wait h =
    let k = length_map (woken wait) threads in
    let few = h.0 in
    (omega (arith, k, few), h.1 ∙ sym (count_map is_running (woken wait) threads (woken_runs wait)))

-- a list of one argument
pub only : (args : List ℕ) → length args ≡ 1 → args ≡ get_or args 0 0 ∷ []
only [] e = absurd (omega (arith, e))
only (k ∷ []) e = refl
only (i ∷ (j ∷ js)) e = absurd (omega (arith, e))

module _ (s new : SystemState) (t : ℕ) (z : ℤ) (freed : system.holds s.held t z ≡ true → new ≡ record s { held = remove_entry (is_at (int_cmp z)) s.held; threads = map (woken (Mutex z)) s.threads }) (vain : system.holds s.held t z ≡ false → new ≡ s) where
  pub unlocked_runs : has_not_ended s.threads t ≡ true → has_not_ended new.threads t ≡ true
  unlocked_runs is = unlocked_threads s new t z (λ (ts : List Standing). has_not_ended ts t ≡ true) is (woken_run s.threads t (Mutex z) is) freed vain

  pub unlocked_sound : (running : ℕ) → IsSound running s → IsSound running new
  unlocked_sound running h =
      let both = unlocked_threads s new t z (λ (ts : List Standing). (length ts ≤ 32) × (running ≡ running_in ts)) (h.few, h.running_is) (woken_sound running s.threads (Mutex z) (h.few, h.running_is)) freed vain in
      record { few = both.0; running_is = both.1 }

-- ---- threads that are started

pub few_run : (running : ℕ) (s : SystemState) → IsSound running s → running ≤ 32
few_run running s h = let k = count_few is_running s.threads in let few = h.few in let r = h.running_is in omega (arith, k, few, r)

pub spawn_sound : (running : ℕ) (s : SystemState) → IsSound running s → length s.threads < 32 → IsSound (running + 1) (record s { threads = s.threads ++ Ready ∷ [] })
spawn_sound running s h lt =
    let k = length_more s.threads Ready in
    let n = count_more is_running s.threads Ready refl in
    let r = h.running_is in
    record { few = omega (arith, k, lt); running_is = omega (arith, n, r) }

pub spawn_runs : (threads : List Standing) (t : ℕ) → has_not_ended threads t ≡ true → has_not_ended (threads ++ Ready ∷ []) t ≡ true
spawn_runs threads t is = let x = running_there threads t is in ap (holds_of is_running) (get_older threads Ready t x.0 x.1) ∙ x.2

abbrev number_said : Given → ℕ
number_said ByPool = 0
number_said (Says v pieces) = v
number_said NoMore = 0

said : (w : World) (past : List Mark) (t : ℕ) (args : List ℕ) (m : Mark) (x : IsOutcome w past t spawn_number args m) → cond (leb 32 (started past)) minus_one (started past) ≡ x.result
said w past t args m x = ap number_said (x.starts refl)

pub notes_spawn : (s : SystemState) (t : ℕ) (args : List ℕ) → length s.threads < 32 → Notes t spawn_number args s (record s { threads = s.threads ++ Ready ∷ [] })
notes_spawn s t args room w past m x h =
    let o = outcome_here w past t spawn_number args m x in
    let can = can_here w past t spawn_number args m x in
    let count = h.count in
    let lt : started past < 32 = omega (arith, room, count) in
    there w past t spawn_number args m x (record s { threads = s.threads ++ Ready ∷ [] })
    (grows w past m s h can spawn_number args x.result o refl lt
    (sym (sym (ap (λ b. cond b minus_one (started past)) (lt-leb 32 (started past) lt)) ∙ said w past t args m x)))

pub notes_no_spawn : (s : SystemState) (t : ℕ) (args : List ℕ) → 32 ≤ length s.threads → Notes t spawn_number args s s
notes_no_spawn s t args full w past m x h =
    let o = outcome_here w past t spawn_number args m x in
    let can = can_here w past t spawn_number args m x in
    let count = h.count in
    let le : 32 ≤ started past = omega (arith, full, count) in
    let r : x.result ≡ minus_one = sym (said w past t args m x) ∙ ap (λ b. cond b minus_one (started past)) (le-leb 32 (started past) le) in
    there w past t spawn_number args m x s
    (leaves w past m s h can spawn_number args x.result o (ap (λ v. not (eqb v minus_one)) r)
    (λ k. holder_now w past m s h can spawn_number args x.result o k ∙ others_leave k m.thread spawn_number args (holder k past) refl refl)
    s.left (left_by_builtin w past m s h can spawn_number args x.result o Spawn refl))
