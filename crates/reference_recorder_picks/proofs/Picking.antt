-- What the threads of a run say of who steps.
use Rattle.std.proofs.Common.{◌≡◌, ℕ, zero, suc, ◌+◌, ◌-◌, ◌<◌, ◌≤◌, Bool, true, false, cond, ◌&&◌, not, eqb, ltb, List, length, Option, Some, None, refl, sym, ap, ◌∙◌, arith, eq-eqb}
use Rattle.std.specs.Prelude.{find, is_some}
use Rattle.std.specs.List.{list_all, range_with_len}
use Rattle.std.specs.Option.{option_or}
use Rattle.std.proofs.lemmas.Bool.{le-ltb, lt-ltb, ne_eqb}
use Rattle.std.proofs.lemmas.List.Folds.{find-append}
use Rattle.marks.specs.declared.side.Side.{Side}
use Rattle.marks.specs.Marks.{Mark}
use Rattle.marks.specs.Wants.{Want}
use Rattle.c_builtins.specs.declared.builtin.Builtin.{Builtin}
use Rattle.c_builtins.specs.declared.builtin.Builtin.TheVariants as builtins
use Rattle.c_code.specs.Machine.{Laid, first}
use Rattle.c_code.specs.MarkLists.{Ends}
use Rattle.c_machine.specs.Moves.{ThreadState}
use Rattle.system_side.specs.Schedule.{wish_at}
use Rattle.system_side.specs.Threads.{order_of}
use Rattle.whole_runs.specs.World.{World}
use Rattle.whole_runs.specs.Outcomes.{builtin_of, holder, started}
use Rattle.whole_runs.specs.Threads.{comes}
use Rattle.whole_runs.specs.Picks.{asked, can_step, is_free, is_other, is_unblocked, may_go_on, stepping}
use Rattle.whole_runs_seen.proofs.Threads.{threads_known}
use Rattle.recorder_system.specs.Stands.{call_of}
use Rattle.recorder_system.proofs.Standing.{can_by}
use Rattle.recorder_threads.specs.declared.wants.Want.{Want as Told}
use Rattle.recorder_threads.specs.declared.wants.Want.TheVariants as told
use Rattle.recorder_threads.specs.Threads.{AreThreadsOf}
use Rattle.recorder_threads.specs.Wants.{IsTold, WantsTold}
use Rattle.recorder_threads.proofs.Places.{count_is}
use Rattle.recorder_state.specs.Turns.{asked_func}
use Rattle.reference_recorder_marks.specs.declared.mark.Mark.{Mark as Marked}
use Rattle.reference_recorder_marks.specs.Marks.{past}
use Rattle.reference_recorder_outcomes.proofs.Origins.{same_holder}
use Rattle.reference_recorder_threads.specs.Telling.{IsPast}
use Rattle.reference_recorder_picks.specs.Picks.{free_by, other_of}

-- ---- other threads

pub other_past : (run : List Mark) (t k : ℕ) → started run ≤ k → other_of run t k ≡ None
other_past run t k le = ap (λ b. cond (b && not (eqb k t)) (Some k) None) (le-ltb k (started run) le)

pub other_same : (run : List Mark) (t k : ℕ) → k ≡ t → other_of run t k ≡ None
other_same run t k e = ap (λ b. cond (ltb k (started run) && not b) (Some k) None) (eq-eqb k t e) ∙ by (ltb k (started run))
  where
    by : (b : Bool) → cond (b && false) (Some k) None ≡ None
    by true = refl
    by false = refl

pub other_there : (run : List Mark) (t k : ℕ) → k < started run → (k ≡ t → ⊥) → other_of run t k ≡ Some k
other_there run t k lt ne =
    ap (λ b. cond (b && not (eqb k t)) (Some k) None) (lt-ltb k (started run) lt) ∙ ap (λ b. cond (not b) (Some k) None) (ne_eqb k t ne)

-- what it says of a number that it is one of another thread
pub is_other_by : (run : List Mark) (t k : ℕ) (o : Option ℕ) → other_of run t k ≡ o → is_other run t k ≡ is_some o
is_other_by run t k o e = by (is_other run t k) ∙ ap is_some e
  where
    by : (b : Bool) → b ≡ is_some (cond b (Some k) None)
    by true = refl
    by false = refl

-- and which
pub which_other : (run : List Mark) (t k u : ℕ) → other_of run t k ≡ Some u → u ≡ k
which_other run t k u e = by (is_other run t k) e
  where
    by : (b : Bool) → cond b (Some k) None ≡ Some u → u ≡ k
    by true z = cc
    by false z = absurd cc

-- ---- calls

pub free_is : (w : World) (run : List Mark) (t : ℕ) (args : List ℕ) (b : Builtin) → free_by w run t (first args) b ≡ is_free w run t args (Some b)
free_is w run t args builtins.Malloc = refl
free_is w run t args builtins.Free = refl
free_is w run t args builtins.Spawn = refl
free_is w run t args builtins.Join = refl
free_is w run t args builtins.Lock = refl
free_is w run t args builtins.Unlock = refl
free_is w run t args builtins.Print = refl

asked_so : (l : Laid) (args : List ℕ) (x : Told) (want : Want) (f : ℕ) → IsTold l args x want → asked_func x ≡ Some f → asked want ≡ Some (call_of f args)
asked_so l args (told.Give g) want f is e = let same : g ≡ f = cc in ap asked is ∙ ap (λ k. Some (call_of k args)) same
asked_so l args (told.Step i g) want f is e = let same : g ≡ f = cc in ap asked is ∙ ap (λ k. Some (call_of k args)) same
asked_so l args told.Turn want f is e = absurd cc
asked_so l args (told.Load at k) want f is e = absurd cc
asked_so l args (told.Store at k v) want f is e = absurd cc
asked_so l args (told.Enter i g size) want f is e = absurd cc
asked_so l args told.Leave want f is e = absurd cc
asked_so l args (told.Alloc k) want f is e = absurd cc
asked_so l args (told.Free at) want f is e = absurd cc
asked_so l args (told.Call i g) want f is e = absurd cc
asked_so l args (told.Return g v) want f is e = absurd cc
asked_so l args (told.CallBack g size) want f is e = absurd cc
asked_so l args (told.UpReturn v) want f is e = absurd cc
asked_so l args (told.Fault k) want f is e = absurd cc

not_asked : (l : Laid) (args : List ℕ) (x : Told) (want : Want) → IsTold l args x want → asked_func x ≡ None → asked want ≡ None
not_asked l args (told.Give g) want is e = absurd cc
not_asked l args (told.Step i g) want is e = absurd cc
not_asked l args told.Turn want is e = ap asked is
not_asked l args (told.Load at k) want is e = ap asked is.1
not_asked l args (told.Store at k v) want is e = ap asked is.1
not_asked l args (told.Enter i g size) want is e = ap asked is.0
not_asked l args told.Leave want is e = ap asked is.2
not_asked l args (told.Alloc k) want is e = ap asked is
not_asked l args (told.Free at) want is e = ap asked is
not_asked l args (told.Call i g) want is e = ap asked is
not_asked l args (told.Return g v) want is e = ap asked is
not_asked l args (told.CallBack g size) want is e = ap asked is.0
not_asked l args (told.UpReturn v) want is e = ap asked is.1
not_asked l args (told.Fault k) want is e = ap asked is.1

pub held : (w : World) (marks : List Marked) (p : IsPast w marks) (k : ℕ) → holder k (past marks) ≡ holder k p.run
held w marks p k = ap (holder k) (sym p.same) ∙ same_holder k p.run

-- ---- who can step

module _ (w : World) (marks : List Marked) (p : IsPast w marks) (threads : List ThreadState) (h : AreThreadsOf w p.run threads) where
  pub many : length threads ≡ started p.run
  many = count_is w p.run threads h

  pub few : length threads ≤ 32
  few = let le = (threads_known w p.fit.code p.run p.follows).few in let n = many in omega (arith, le, n)

  pub cannot_past : (t : ℕ) → length threads ≤ t → can_step w p.run t ≡ false
  cannot_past t le = let n = many in ap (λ b. b && may_go_on w p.run t (comes w p.run t)) (le-ltb t (started p.run) (omega (arith, le, n)))

  module _ (t : ℕ) (lt : t < length threads) where
    is_started : t < started p.run
    is_started = let n = many in omega (arith, lt, n)

    by_next : can_step w p.run t ≡ may_go_on w p.run t (comes w p.run t)
    by_next = can_by w p.run t is_started

    pub cannot_ended : (v : ℕ) → comes w p.run t ≡ Ends v → can_step w p.run t ≡ false
    cannot_ended v e = by_next ∙ ap (may_go_on w p.run t) e

    module _ (args : List ℕ) (side : Side) (said : Told) (n : WantsTold w.laid args side said (comes w p.run t)) where
      by_want : can_step w p.run t ≡ is_unblocked w p.run t (asked n.want)
      by_want = by_next ∙ ap (may_go_on w p.run t) n.wants

      pub can_plainly : asked_func said ≡ None → can_step w p.run t ≡ true
      can_plainly e = by_want ∙ ap (is_unblocked w p.run t) (not_asked w.laid args said n.want n.is_told e)

      pub can_if : (f : ℕ) → asked_func said ≡ Some f → can_step w p.run t ≡ is_free w p.run t args (builtin_of f)
      can_if f e = by_want ∙ ap (is_unblocked w p.run t) (asked_so w.laid args said n.want f n.is_told e)

-- ---- searches

-- the first of so many numbers, from one on, of which this holds
abbrev pub found : (ℕ → Bool) → (from count : ℕ) → Option ℕ
found q a n = find q (range_with_len a n)

pub found_here : (q : ℕ → Bool) (a n : ℕ) → 0 < n → q a ≡ true → found q a n ≡ Some a
found_here q a zero lt e = absurd (omega (arith, lt))
found_here q a (suc n) lt e = ap (λ b. cond b (Some a) (found q (a + 1) n)) e

pub found_on : (q : ℕ → Bool) (a n k : ℕ) → n ≡ suc k → q a ≡ false → found q a n ≡ found q (a + 1) k
found_on q a zero k z e = absurd (omega (arith, z))
found_on q a (suc n) k z e = let same : n ≡ k = omega (arith, z) in ap (λ b. cond b (Some a) (found q (a + 1) n)) e ∙ ap (found q (a + 1)) same

pub all_here : (q : ℕ → Bool) (a n : ℕ) → 0 < n → q a ≡ false → list_all q (range_with_len a n) ≡ false
all_here q a zero lt e = absurd (omega (arith, lt))
all_here q a (suc n) lt e = ap (λ b. b && list_all q (range_with_len (a + 1) n)) e

pub all_on : (q : ℕ → Bool) (a n k : ℕ) → n ≡ suc k → q a ≡ true → list_all q (range_with_len a n) ≡ list_all q (range_with_len (a + 1) k)
all_on q a zero k z e = absurd (omega (arith, z))
all_on q a (suc n) k z e = let same : n ≡ k = omega (arith, z) in ap (λ b. b && list_all q (range_with_len (a + 1) n)) e ∙ ap (λ j. list_all q (range_with_len (a + 1) j)) same

-- the threads from the one that is wished for on, and then the others
pub stepping_is : (w : World) (run : List Mark) (a : ℕ) → a ≡ wish_at w.file.schedule (length run) → stepping w run ≡ option_or (found (can_step w run) a (32 - a)) (found (can_step w run) 0 a)
stepping_is w run a e = ap (λ k. find (can_step w run) (order_of k)) (sym e) ∙ find-append (can_step w run) (range_with_len a (32 - a)) (range_with_len 0 a)
