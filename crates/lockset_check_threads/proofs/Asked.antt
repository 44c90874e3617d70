-- What is kept where marks are asked for, one at a time: after some marks of a thread, the newest first, whatever follows.
use Rattle.std.proofs.Common.{◌≡◌, ℕ, zero, suc, ◌<◌, ◌≤◌, Bool, true, false, cond, List, [], ◌∷◌, length, Option, Some, None, Result, Ok, Err, refl, sym, ap, ◌∙◌, subst, arith}
use mathlib.Core.List.{reverse_aux}
use Rattle.std.proofs.lemmas.List.{length-append}
use Rattle.marks.specs.declared.side.Side.{Side}
use Rattle.marks.specs.declared.fault.FaultKind.{FaultKind}
use Rattle.marks.specs.Marks.{Mark}
use Rattle.marks.specs.Wants.{Want, Answer, Go, Value, Frame, CalledBack, Stopped, Fails}
use Rattle.c_code.specs.declared.shape.Shape.{Shape}
use Rattle.c_code.specs.declared.shape.Shape.TheVariants.{Pointer}
use Rattle.c_code.specs.Values.{at_zero, is_value}
use Rattle.c_code.specs.MarkLists.{Expects, Wrong, closed, reply}
use Rattle.c_semantics.specs.Reading.{Marks, wrong, ended, heard, ask, fails, or_fault, with_value, with_any, with_frame}
use Rattle.cut_graph_reached.specs.Reached.{Reach, by_pointer, reached}
use Rattle.cut_graph_reached.specs.Answers.{IsAnswered}
use Rattle.lockset_check_rules.specs.Guards.{Guarded}
use Rattle.lockset_check_laws.specs.Locks.{deed}
use Rattle.lockset_check_laws.specs.Order.{IsFree, TakesFree}
use Rattle.lockset_check_threads.specs.Wants.{KeepsLocks, calls}

-- something follows the answer
abbrev pub IsHeard : Answer → Type 0
IsHeard Go = Unit {0}
IsHeard (Value v) = Unit {0}
IsHeard (Frame at) = Unit {0}
IsHeard (CalledBack g args) = Unit {0}
IsHeard Stopped = ⊥

closed_ends : (ms : List Mark) (side : Side) (want : Want) → closed ms ≡ Expects side want → ⊥
closed_ends [] side want e = cc
closed_ends (m ∷ ms) side want e = cc

-- the marks before some others had locked only what was free
earlier : (ms mine : List Mark) → TakesFree calls (reverse_aux ms mine) → TakesFree calls mine
earlier [] mine t = t
earlier (m ∷ ms) mine t = (earlier ms (m ∷ mine) t).1

module _ (r : Guarded) (runs : ℕ → Bool) where
  -- the answer reaches no function that may not run, and by a pointer none whose callers hold a mutex
  pub record Allowed (side : Side) (want : Want) (x : Answer) : Type 0 where
    pub runs_there : (q : Reach) → reached side want x ≡ Some q → runs q.func ≡ true
    pub holds_none : (q : Reach) → reached side want x ≡ Some q → by_pointer want ≡ true → r.holds q.func ≡ []

  abbrev pub AllAllowed : Marks → List Mark → Type 0
  AllAllowed p ms = (side : Side) (want : Want) (x : Answer) → IsAnswered p ms side want x → Allowed side want x

  -- of at most so many more marks, after these
  abbrev pub Kept : ℕ → List Mark → Marks → Type 0
  Kept k mine p = (ms : List Mark) → length ms ≤ k → AllAllowed p ms → TakesFree calls (reverse_aux ms mine) → (side : Side) (want : Want) → p ms ≡ Expects side want → KeepsLocks r side (reverse_aux ms mine) want

  pub fewer_kept : (j k : ℕ) (mine : List Mark) (p : Marks) → j ≤ k → Kept k mine p → Kept j mine p
  fewer_kept j k mine p le h ms few = h ms (omega arith)

  pub wrong_kept : (k : ℕ) (mine : List Mark) → Kept k mine wrong
  wrong_kept k mine ms few all free side want e = absurd cc

  pub ended_kept : (k : ℕ) (mine : List Mark) (v : ℕ) → Kept k mine (ended v)
  ended_kept k mine v [] few all free side want e = absurd cc
  ended_kept k mine v (m ∷ ms) few all free side want e = absurd cc

  -- what follows an answer
  on : (x : Answer) (go : Answer → Marks) (ms : List Mark) → IsHeard x → heard (Some x) go ms ≡ go x ms
  on Go go ms h = refl
  on (Value v) go ms h = refl
  on (Frame at) go ms h = refl
  on (CalledBack g args) go ms h = refl
  on Stopped go ms h = absurd h

  -- what a mark that is wanted may do: the thread's marks then keep what follows
  abbrev pub Follows : ℕ → List Mark → Side → Want → (Answer → Marks) → Type 0
  Follows k mine side want go =
      (m : Mark) (x : Answer) → reply side want m ≡ Some x → IsHeard x → Allowed side want x → IsFree calls mine (deed calls m.act) → (j : ℕ) → j < k → Kept j (m ∷ mine) (go x)

  all_on : (side : Side) (want : Want) (go : Answer → Marks) (m : Mark) (ms : List Mark) (x : Answer) → reply side want m ≡ Some x → IsHeard x → AllAllowed (ask side want go) (m ∷ ms) → AllAllowed (go x) ms
  all_on side want go m ms x e h all s w y a =
      all s w y (record {
        before = m ∷ a.before;
        mark = a.mark;
        after = a.after;
        there = ap (λ l. m ∷ l) a.there;
        wanted = ap (λ o. heard o go a.before) e ∙ on x go a.before h ∙ a.wanted;
        answers = a.answers;
      })

  pub ask_kept : (k : ℕ) (mine : List Mark) (side : Side) (want : Want) (go : Answer → Marks) → KeepsLocks r side mine want → Follows k mine side want go → Kept k mine (ask side want go)
  ask_kept k mine side want go now next [] few all free s w e =
      let same_side : side ≡ s = cc in
      let same_want : want ≡ w = cc in
      subst (λ q. KeepsLocks r q mine w) same_side (subst (λ q. KeepsLocks r side mine q) same_want now)
  ask_kept k mine side want go now next (m ∷ ms) few all free s w e = by (reply side want m) refl
    where
      answered : (x : Answer) → reply side want m ≡ Some x → IsHeard x → KeepsLocks r s (reverse_aux ms (m ∷ mine)) w
      answered x er h =
          next m x er h (all side want x (record { before = []; mark = m; after = ms; there = refl; wanted = refl; answers = er })) (earlier ms (m ∷ mine) free).0
          (length ms) (omega arith) ms (omega arith) (all_on side want go m ms x er h all) free s w (sym (on x go ms h) ∙ sym (ap (λ o. heard o go ms) er) ∙ e)

      by : (o : Option Answer) → reply side want m ≡ o → KeepsLocks r s (reverse_aux ms (m ∷ mine)) w
      by None er = let no : Wrong ≡ Expects s w = sym (ap (λ o. heard o go ms) er) ∙ e in absurd cc
      by (Some Stopped) er = absurd (closed_ends ms s w (sym (ap (λ o. heard o go ms) er) ∙ e))
      by (Some Go) er = answered Go er tt
      by (Some (Value v)) er = answered (Value v) er tt
      by (Some (Frame at)) er = answered (Frame at) er tt
      by (Some (CalledBack g args)) er = answered (CalledBack g args) er tt

  -- of marks that expect the same before each of these
  pub allowed_alike : (p q : Marks) (ms : List Mark) → ((before : List Mark) → length before ≤ length ms → p before ≡ q before) → AllAllowed p ms → AllAllowed q ms
  allowed_alike p q ms same all s w y a =
      let long : length a.before ≤ length ms = let n = ap length a.there in let m = length-append a.before (a.mark ∷ a.after) in omega (arith, n, m) in
      all s w y (record { before = a.before; mark = a.mark; after = a.after; there = a.there; wanted = same a.before long ∙ a.wanted; answers = a.answers })

  -- ---- tests

  pub cond_kept : (k : ℕ) (mine : List Mark) (b : Bool) (p q : Marks) → (b ≡ true → Kept k mine p) → (b ≡ false → Kept k mine q) → Kept k mine (cond b p q)
  cond_kept k mine true p q h g = h refl
  cond_kept k mine false p q h g = g refl

  pub at_zero_kept : (k : ℕ) (mine : List Mark) (v : ℕ) (p q : Marks) → Kept k mine p → Kept k mine q → Kept k mine (at_zero v p q)
  at_zero_kept k mine zero p q h g = h
  at_zero_kept k mine (suc v) p q h g = g

  pub with_value_kept : (k : ℕ) (mine : List Mark) (shape : Shape) (go : ℕ → Marks) (x : Answer) → ((v : ℕ) → Kept k mine (go v)) → Kept k mine (with_value shape go x)
  with_value_kept k mine shape go (Value v) h = cond_kept k mine (is_value shape v) (go v) wrong (λ e. h v) (λ e. wrong_kept k mine)
  with_value_kept k mine shape go Go h = wrong_kept k mine
  with_value_kept k mine shape go (Frame at) h = wrong_kept k mine
  with_value_kept k mine shape go (CalledBack g args) h = wrong_kept k mine
  with_value_kept k mine shape go Stopped h = wrong_kept k mine

  pub with_any_kept : (k : ℕ) (mine : List Mark) (go : ℕ → Marks) (x : Answer) → ((v : ℕ) → Kept k mine (go v)) → Kept k mine (with_any go x)
  with_any_kept k mine go (Value v) h = h v
  with_any_kept k mine go Go h = wrong_kept k mine
  with_any_kept k mine go (Frame at) h = wrong_kept k mine
  with_any_kept k mine go (CalledBack g args) h = wrong_kept k mine
  with_any_kept k mine go Stopped h = wrong_kept k mine

  pub with_frame_kept : (k : ℕ) (mine : List Mark) (go : ℕ → Marks) (x : Answer) → ((at : ℕ) → x ≡ Frame at → Kept k mine (go at)) → Kept k mine (with_frame go x)
  with_frame_kept k mine go (Frame at) h = cond_kept k mine (is_value Pointer at) (go at) wrong (λ e. h at refl) (λ e. wrong_kept k mine)
  with_frame_kept k mine go Go h = wrong_kept k mine
  with_frame_kept k mine go (Value v) h = wrong_kept k mine
  with_frame_kept k mine go (CalledBack g args) h = wrong_kept k mine
  with_frame_kept k mine go Stopped h = wrong_kept k mine

  pub fails_kept : (k : ℕ) (mine : List Mark) (side : Side) (kind : FaultKind) → Kept k mine (fails side kind)
  fails_kept k mine side kind = ask_kept k mine side (Fails kind) (λ a. wrong) (record { touches = tt; unlocks = tt }) (λ m x e h a f j lt. wrong_kept j (m ∷ mine))

  pub or_fault_kept : (k : ℕ) (mine : List Mark) (side : Side) (v : Result ℕ FaultKind) (go : ℕ → Marks) → ((n : ℕ) → Kept k mine (go n)) → Kept k mine (or_fault side v go)
  or_fault_kept k mine side (Ok n) go h = h n
  or_fault_kept k mine side (Err kind) go h = fails_kept k mine side kind
