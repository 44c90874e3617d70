-- A system after a mark, but for the end of the mark's thread.
use Rattle.std.proofs.Common.{◌≡◌, ◌≢◌, inl, inr, ℕ, suc, ◌<◌, Bool, true, false, cond, ◌&&◌, not, eqb, List, [], ◌∷◌, ◌++◌, length, map, set, drop, Option, Some, None, refl, sym, ap, ◌∙◌, subst, arith, eqb-true, eq-eqb}
use Rattle.std.specs.Prelude.{filter, is_some, slice_get, option_map}
use Rattle.std.specs.Ordering.{int_cmp}
use Rattle.std.specs.BTreeMap.{insert_entry, is_at}
use Rattle.std.specs.Map.{remove_entry}
use Rattle.std.proofs.lemmas.Bool.{true≢false, cases_eq}
use Rattle.std.proofs.lemmas.Option.{slice_get-map}
use Rattle.marks.specs.Marks.{Mark}
use Rattle.c_builtins.specs.declared.builtin.Builtin.{Builtin}
use Rattle.c_builtins.specs.declared.builtin.Builtin.TheVariants.{Spawn, Lock, Unlock}
use Rattle.c_builtins.specs.Table.{number_of}
use Rattle.system_side.specs.declared.threads.Standing.{Standing}
use Rattle.system_side.specs.declared.threads.Standing.TheVariants.{Ready}
use Rattle.system_side.specs.Answers.{left_of, places_of}
use Rattle.system_side.specs.declared.threads.Wait.TheVariants.{Mutex}
use Rattle.system_side.specs.Threads.{woken}
use Rattle.system_side.specs.System.{SystemState, is_thread}
use Rattle.system_side.specs.System as system
use Rattle.lockset_check_laws.specs.Locks.{is_that}
use Rattle.whole_runs.specs.World.{World}
use Rattle.whole_runs.specs.Outcomes.{Outcome, act_outcome, builtin_of, holder, is_start, minus_one, outcome, outcomes, started, used}
use Rattle.whole_runs.specs.Picks.{can_step}
use Rattle.recorder_system.specs.Stands.{IsInt, IsSystemBut, IsSystemOf, StandsAs, int_of, result_but}
use Rattle.recorder_system.proofs.IntPatterns.{same_int}
use Rattle.recorder_system.proofs.Lists.{get_more, get_newest, length_map, length_more}
use Rattle.recorder_system.proofs.Runs.{StartsNext, outcomes_now, started_by, started_same}
use Rattle.recorder_system.proofs.Mutexes.{after_call, holder_by, holder_same, insert_other, insert_same, lock_number, others_leave, remove_other, unlock_number}
use Rattle.recorder_system.proofs.Scripts.{drop_one, left_other, left_same}
use Rattle.recorder_system.proofs.Stays.{silent_now, stays, told_new, wakes}

-- ---- how many answers are used

pub used_same : (past : List Mark) (m : Mark) (g : ℕ) → act_outcome m.thread m.act ≡ None → used g (m ∷ past) ≡ used g past
used_same past m g e = ap (λ os. length (filter (λ (o : Outcome). eqb o.func g) os)) (outcomes_now past m None e)

pub used_by : (past : List Mark) (m : Mark) (g : ℕ) (o : Outcome) (b : Bool) → act_outcome m.thread m.act ≡ Some o → eqb o.func g ≡ b → used g (m ∷ past) ≡ cond b (suc (used g past)) (used g past)
used_by past m g o b e is =
    ap (λ os. length (filter (λ (o : Outcome). eqb o.func g) os)) (outcomes_now past m (Some o) e)
    ∙ (ap (λ c. length (cond c (o ∷ rest) rest)) is ∙ by b)
  where
    rest : List Outcome
    rest = filter (λ (o : Outcome). eqb o.func g) (outcomes past)

    by : (b : Bool) → length (cond b (o ∷ rest) rest) ≡ cond b (suc (length rest)) (length rest)
    by true = refl
    by false = refl

-- ---- a mark without an outcome

pub plain : (w : World) (past : List Mark) (m : Mark) (s : SystemState) → can_step w past m.thread ≡ true → act_outcome m.thread m.act ≡ None → IsSystemOf w past s → IsSystemBut m.thread w (m ∷ past) s
plain w past m s can none h = record {
  schedule = h.schedule;
  count = h.count ∙ sym (started_same past m none);
  threads = λ u at e. stays w past m s h can next u at e (λ k i f is. ap is_some (holder_same k past m none) ∙ is);
  mutexes = λ k i. h.mutexes k i ∙ sym (holder_same k past m none);
  answers = λ g b. h.answers g b ∙ ap (λ n. drop n (places_of g 0 w.file.answers)) (sym (used_same past m g none));
  silent = silent_now w past m s h can next;
}
  where
    next : StartsNext past (act_outcome m.thread m.act)
    next = subst (StartsNext past) (sym none) tt

-- ---- a mark with an outcome

abbrev pub spawn_number : ℕ
spawn_number = number_of Spawn

builtin_apart : (f g : ℕ) (b : Builtin) → builtin_of f ≡ Some b → builtin_of g ≡ None → eqb f g ≡ false
builtin_apart f g b is none = go (eqb f g) refl
  where
    go : (c : Bool) → eqb f g ≡ c → c ≡ false
    go true e = let k : Some b ≡ None = sym is ∙ (ap builtin_of (eqb-true f g e) ∙ none) in absurd cc
    go false e = refl

pub none_apart : (f g : ℕ) (b : Builtin) → builtin_of f ≡ None → builtin_of g ≡ Some b → eqb f g ≡ false
none_apart f g b none is = go (eqb f g) refl
  where
    go : (c : Bool) → eqb f g ≡ c → c ≡ false
    go true e = let k : Some b ≡ None = sym is ∙ (ap builtin_of (sym (eqb-true f g e)) ∙ none) in absurd cc
    go false e = refl

pub ne-eqb : (a b : ℕ) → a ≢ b → eqb a b ≡ false
ne-eqb a b ne = go (eqb a b) refl
  where
    go : (c : Bool) → eqb a b ≡ c → c ≡ false
    go true e = absurd (ne (eqb-true a b e))
    go false e = refl

same_holder : (o : Option ℕ) (t : ℕ) → is_thread t o ≡ is_that o t
same_holder None t = refl
same_holder (Some u) t = refl

module _ (w : World) (past : List Mark) (m : Mark) (s : SystemState) (h : IsSystemOf w past s) (can : can_step w past m.thread ≡ true) (f : ℕ) (args : List ℕ) (r : ℕ) (is : act_outcome m.thread m.act ≡ Some (outcome m.thread f args r)) where
  abbrev o : Outcome
  o = outcome m.thread f args r

  abbrev now : List Mark
  now = m ∷ past

  pub holder_now : (k : ℕ) → holder k now ≡ after_call k m.thread f args (holder k past)
  holder_now k = holder_by k past m o is

  -- the answers that are left
  abbrev AreLeft : List (List ℕ) → Type 0
  AreLeft left = (g : ℕ) → builtin_of g ≡ None → left_of left g ≡ drop (used g now) (places_of g 0 w.file.answers)

  pub left_by_builtin : (b : Builtin) → builtin_of f ≡ Some b → AreLeft s.left
  left_by_builtin b e g none = h.answers g none ∙ ap (λ n. drop n (places_of g 0 w.file.answers)) (sym (used_by past m g o false is (builtin_apart f g b e none)))

  pub left_by_external : AreLeft (set s.left f (drop 1 (left_of s.left f)))
  left_by_external g none = elim (cases_eq g f) [
    | inl same ↦ subst (λ k. left_of (set s.left f (drop 1 (left_of s.left f))) k ≡ drop (used k now) (places_of k 0 w.file.answers)) (sym same) (here (subst (λ k. builtin_of k ≡ None) same none))
    | inr ne ↦ left_other s.left f g (drop 1 (left_of s.left f)) ne ∙ (h.answers g none ∙ ap (λ n. drop n (places_of g 0 w.file.answers)) (sym (used_by past m g o false is (ne-eqb f g (λ e. ne (sym e))))))
  ]
    where
      here : builtin_of f ≡ None → left_of (set s.left f (drop 1 (left_of s.left f))) f ≡ drop (used f now) (places_of f 0 w.file.answers)
      here none =
          left_same s.left f
          ∙ (ap (drop 1) (h.answers f none)
          ∙ (drop_one (places_of f 0 w.file.answers) (used f past)
          ∙ ap (λ n. drop n (places_of f 0 w.file.answers)) (sym (used_by past m f o true is (eq-eqb f f refl)))))

  -- ---- where no thread is started

  module _ (starts_none : is_start o ≡ false) where
    next : StartsNext past (act_outcome m.thread m.act)
    next = subst (StartsNext past) (sym is) (λ z. absurd (true≢false (sym z ∙ starts_none)))

    count_now : length s.threads ≡ started now
    count_now = h.count ∙ sym (started_by past m o false is starts_none)

    -- mutexes and threads stay
    pub leaves : ((k : ℕ) → holder k now ≡ holder k past) → (left : List (List ℕ)) → AreLeft left → IsSystemBut m.thread w now (record s { left = left })
    leaves same left answers = record {
      schedule = h.schedule;
      count = count_now;
      threads = λ u at e. stays w past m s h can next u at e (λ k i x held. ap is_some (same k) ∙ held);
      mutexes = λ k i. h.mutexes k i ∙ sym (same k);
      answers = answers;
      silent = silent_now w past m s h can next;
    }

    -- a mutex is taken that was free
    pub takes : (k : ℕ) → IsInt k → f ≡ lock_number → args ≡ k ∷ [] → IsSystemBut m.thread w now (record s { held = insert_entry int_cmp s.held (int_of k) m.thread })
    takes k int lock one = record {
      schedule = h.schedule;
      count = count_now;
      threads = λ u at e. stays w past m s h can next u at e (λ j i x held. subst (λ z. is_some z ≡ true) (sym (so j)) (still (eqb k j) (holder j past) held));
      mutexes = holders;
      answers = left_by_builtin Lock (ap builtin_of lock);
      silent = silent_now w past m s h can next;
    }
      where
        so : (j : ℕ) → holder j now ≡ cond (eqb k j) (Some m.thread) (holder j past)
        so j = holder_now j ∙ (ap (λ g. after_call j m.thread g args (holder j past)) lock ∙ ap (λ xs. after_call j m.thread lock_number xs (holder j past)) one)

        still : (b : Bool) (x : Option ℕ) → is_some x ≡ true → is_some (cond b (Some m.thread) x) ≡ true
        still true x e = refl
        still false x e = e

        holders : (j : ℕ) → IsInt j → system.holder (insert_entry int_cmp s.held (int_of k) m.thread) (int_of j) ≡ holder j now
        holders j i = elim (cases_eq k j) [
          | inl same ↦ ap (λ z. system.holder (insert_entry int_cmp s.held (int_of k) m.thread) (int_of z)) (sym same) ∙ (insert_same (int_of k) s.held m.thread ∙ sym (so j ∙ ap (λ b. cond b (Some m.thread) (holder j past)) (eq-eqb k j same)))
          | inr ne ↦ insert_other (int_of j) (int_of k) s.held m.thread (λ e. ne (same_int k j int i (sym e))) ∙ (h.mutexes j i ∙ sym (so j ∙ ap (λ b. cond b (Some m.thread) (holder j past)) (ne-eqb k j ne)))
        ]

    -- ---- a mutex is given back

    module _ (k : ℕ) (int : IsInt k) (unlock : f ≡ unlock_number) (one : args ≡ k ∷ []) where
      given_back : (j : ℕ) → holder j now ≡ cond (eqb k j && is_that (holder j past) m.thread) None (holder j past)
      given_back j = holder_now j ∙ (ap (λ g. after_call j m.thread g args (holder j past)) unlock ∙ ap (λ xs. after_call j m.thread unlock_number xs (holder j past)) one)

      others_held : (j : ℕ) → k ≢ j → holder j now ≡ holder j past
      others_held j ne = given_back j ∙ ap (λ b. cond (b && is_that (holder j past) m.thread) None (holder j past)) (ne-eqb k j ne)

      holds_it : system.holds s.held m.thread (int_of k) ≡ is_that (holder k past) m.thread
      holds_it = ap (is_thread m.thread) (h.mutexes k int) ∙ same_holder (holder k past) m.thread

      pub frees : system.holds s.held m.thread (int_of k) ≡ true → (new : SystemState) → new ≡ record s { held = remove_entry (is_at (int_cmp (int_of k))) s.held; threads = map (woken (Mutex (int_of k))) s.threads } →
          system.holder new.held (int_of k) ≡ None → IsSystemBut m.thread w now new
      frees held new new_is free = subst (IsSystemBut m.thread w now) (sym new_is) (record {
        schedule = h.schedule;
        count = length_map (woken (Mutex (int_of k))) s.threads ∙ count_now;
        threads = each;
        mutexes = holders;
        answers = left_by_builtin Unlock (ap builtin_of unlock);
        silent = silent_now w past m s h can next;
      })
        where
          kept : (j : ℕ) → IsInt j → int_of j ≢ int_of k → is_some (holder j past) ≡ true → is_some (holder j now) ≡ true
          kept j i ne is_held = ap is_some (others_held j (λ e. ne (ap int_of (sym e)))) ∙ is_held

          by : (x : Option Standing) (u : ℕ) (at : Standing) → slice_get s.threads u ≡ x → option_map (woken (Mutex (int_of k))) x ≡ Some at → StandsAs w now (λ v. result_but m.thread w now v) u at
          by None u at e z = absurd cc
          by (Some before) u at e z = subst (StandsAs w now (λ v. result_but m.thread w now v) u) (ap or_at z) (wakes w past m s h can next (int_of k) kept u before e)
            where
              or_at : Option Standing → Standing
              or_at None = at
              or_at (Some y) = y

          each : (u : ℕ) (at : Standing) → slice_get (map (woken (Mutex (int_of k))) s.threads) u ≡ Some at → StandsAs w now (λ v. result_but m.thread w now v) u at
          each u at e = by (slice_get s.threads u) u at refl (sym (slice_get-map (woken (Mutex (int_of k))) s.threads u) ∙ e)

          gone : system.holder (remove_entry (is_at (int_cmp (int_of k))) s.held) (int_of k) ≡ None
          gone = ap (λ (x : SystemState). system.holder x.held (int_of k)) (sym new_is) ∙ free

          holders : (j : ℕ) → IsInt j → system.holder (remove_entry (is_at (int_cmp (int_of k))) s.held) (int_of j) ≡ holder j now
          holders j i = elim (cases_eq k j) [
            | inl same ↦ ap (λ z. system.holder (remove_entry (is_at (int_cmp (int_of k))) s.held) (int_of z)) (sym same) ∙ (gone ∙ sym (given_back j ∙ (ap (λ b. cond (b && is_that (holder j past) m.thread) None (holder j past)) (eq-eqb k j same) ∙ ap (λ b. cond b None (holder j past)) (ap (λ z. is_that (holder z past) m.thread) (sym same) ∙ (sym holds_it ∙ held)))))
            | inr ne ↦ remove_other (int_of j) (int_of k) s.held (λ e. ne (same_int k j int i (sym e))) ∙ (h.mutexes j i ∙ sym (others_held j ne))
          ]

      -- by a thread that doesn't hold it
      pub keeps_mutexes : system.holds s.held m.thread (int_of k) ≡ false → (j : ℕ) → holder j now ≡ holder j past
      keeps_mutexes held j = elim (cases_eq k j) [
        | inl same ↦ given_back j ∙ (ap (λ b. cond (b && is_that (holder j past) m.thread) None (holder j past)) (eq-eqb k j same) ∙ ap (λ b. cond b None (holder j past)) (ap (λ z. is_that (holder z past) m.thread) (sym same) ∙ (sym holds_it ∙ held)))
        | inr ne ↦ others_held j ne
      ]

  -- ---- where one is

  module _ (spawn : f ≡ spawn_number) (room : started past < 32) (number : r ≡ started past) where
    starts_one : is_start o ≡ true
    starts_one = ap (λ b. b && not (eqb r minus_one)) (eq-eqb f spawn_number spawn) ∙ ap not (ne-eqb r minus_one (λ e. omega (arith, e, room, number)))

    next_one : StartsNext past (act_outcome m.thread m.act)
    next_one = subst (StartsNext past) (sym is) (λ z. number)

    pub grows : IsSystemBut m.thread w now (record s { threads = s.threads ++ Ready ∷ [] })
    grows = record {
      schedule = h.schedule;
      count = length_more s.threads Ready ∙ (ap suc h.count ∙ sym (started_by past m o true is starts_one));
      threads = λ u at e. elim (cases_eq u (length s.threads)) [
        | inl same ↦ newest u at same e
        | inr ne ↦ stays w past m s h can next_one u at (get_more s.threads Ready u at e ne) (λ k i x held. ap is_some (same k) ∙ held)
      ];
      mutexes = λ k i. h.mutexes k i ∙ sym (same k);
      answers = left_by_builtin Spawn (ap builtin_of spawn);
      silent = silent_now w past m s h can next_one;
    }
      where
        same : (k : ℕ) → holder k now ≡ holder k past
        same k = holder_now k ∙ others_leave k m.thread f args (holder k past) (ap (λ g. eqb g lock_number) spawn) (ap (λ g. eqb g unlock_number) spawn)

        fresh : (u : ℕ) → u ≡ length s.threads → result_but m.thread w now u ≡ None
        fresh u e = let count = h.count in told_new w past m s h can next_one u (omega (arith, e, count))

        newest : (u : ℕ) (at : Standing) → u ≡ length s.threads → slice_get (s.threads ++ Ready ∷ []) u ≡ Some at → StandsAs w now (λ v. result_but m.thread w now v) u at
        newest u at e k = subst (StandsAs w now (λ v. result_but m.thread w now v) u) (ap or_at (sym (get_newest s.threads Ready) ∙ (ap (slice_get (s.threads ++ Ready ∷ [])) (sym e) ∙ k))) (fresh u e)
          where
            or_at : Option Standing → Standing
            or_at None = at
            or_at (Some y) = y
