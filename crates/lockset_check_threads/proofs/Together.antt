-- Code keeps the locks of its source; and the marks of many threads keep the guards, where each thread's do.
use Rattle.std.proofs.Common.{◌≡◌, ℕ, Bool, List, [], ◌∷◌, Option, Some, None, sym, ap, subst}
use Rattle.std.specs.Prelude.{is_some, reverse}
use Rattle.std.proofs.lemmas.List.{reverse-reverse}
use Rattle.marks.specs.declared.side.Side.{Side}
use Rattle.marks.specs.declared.side.Side.TheVariants.{Replay, System}
use Rattle.marks.specs.Marks.{Mark}
use Rattle.marks.specs.Wants.{Want, Outside, Turns, Loads, Stores, Enters, Leaves, Allocs, Frees, Calls, Below, Gives, Returns, CallsBack, UpReturns, Steps, Fails, Answer}
use Rattle.c_code.specs.Machine.{Flat}
use Rattle.c_code.specs.MarkLists.{reply, thread_lists}
use Rattle.c_code.proofs.Sides.{IsPlain, is_above, is_below, replied}
use Rattle.c_semantics.specs.Calls.{thread_behaviour}
use Rattle.c_semantics.specs.Context.{Source}
use Rattle.c_semantics.specs.Reading.{Marks}
use Rattle.c_lower_placement.specs.Laws.{MakesTheMarks, laid}
use Rattle.lockset_check_rules.specs.Guards.{Guarded}
use Rattle.lockset_check_rules.specs.Sources.{source_found}
use Rattle.lockset_check_laws.specs.Held.{AnswersHeld, HeldWant}
use Rattle.lockset_check_laws.specs.Locks.{own}
use Rattle.lockset_check_laws.specs.Order.{AtEach, IsExclusive, IsKeyed, TakesFree}
use Rattle.lockset_check_laws.proofs.Wants.{held_wants}
use Rattle.lockset_check_laws.proofs.Held.{takes_free}
use Rattle.lockset_check_laws.proofs.Order.{ordered}
use Rattle.lockset_check_threads.specs.Wants.{KeepsLocks, calls, guard_of}
use Rattle.lockset_check_threads.specs.Laws.{AccessesAreOrdered, AreMade, CodeKeepsLocks, GuardsAreHeld, IsGuarded, IsMade, LocksAreKept, RunsWell}
use Rattle.lockset_check_threads.proofs.Threads.{threads_keep_their_locks}

-- a mark that is no event stands on the side of what wants it
same_side : (side : Side) (want : Want) (m : Mark) (x : Answer) → IsPlain want → reply side want m ≡ Some x → side ≡ m.side
same_side Replay want m x is e = sym (is_above want m x e)
same_side System want m x is e = sym (is_below want m x is e)

module _ (guard : ℕ → Option ℕ) (mine : List Mark) where
  held_there : (side : Side) (want : Want) (m : Mark) (x : Answer) → reply side want m ≡ Some x → HeldWant calls guard side mine want → HeldWant calls guard m.side mine want
  held_there side (Loads (Some o) at width) m x e h = subst (λ q. HeldWant calls guard q mine (Loads (Some o) at width)) (same_side side (Loads (Some o) at width) m x tt e) h
  held_there side (Stores (Some o) at bytes) m x e h = subst (λ q. HeldWant calls guard q mine (Stores (Some o) at bytes)) (same_side side (Stores (Some o) at bytes) m x tt e) h
  held_there side (Loads None at width) m x e h = tt
  held_there side (Stores None at bytes) m x e h = tt
  held_there side (Steps i f []) m x e h = tt
  held_there side (Steps i f (k ∷ [])) m x e h = h
  held_there side (Steps i f (j ∷ k ∷ ks)) m x e h = tt
  held_there side Outside m x e h = tt
  held_there side Turns m x e h = tt
  held_there side (Enters i f args bytes) m x e h = tt
  held_there side (Leaves at size) m x e h = tt
  held_there side (Allocs size) m x e h = tt
  held_there side (Frees at) m x e h = tt
  held_there side (Calls i f args) m x e h = tt
  held_there side (Below f args) m x e h = tt
  held_there side (Gives f args) m x e h = tt
  held_there side (Returns f args v) m x e h = tt
  held_there side (CallsBack f args bytes) m x e h = tt
  held_there side (UpReturns f v) m x e h = tt
  held_there side (Fails kind) m x e h = tt

module _ (r : Guarded) (runs : ℕ → Bool) (behaviours : ℕ → Marks) (keeps : (t : ℕ) → LocksAreKept r runs (behaviours t)) where
  answers_held : (before : List Mark) (m : Mark) → IsMade r runs (behaviours m.thread) (own m.thread before) m → TakesFree calls (own m.thread before) → AnswersHeld calls (guard_of r) before m
  answers_held before m h free =
      let p = behaviours m.thread in
      let mine = own m.thread before in
      let same : reverse (reverse mine) ≡ mine = reverse-reverse mine in
      let well : RunsWell r runs p (reverse mine) = record { reaches = h.reaches; pointers = h.pointers; locks = subst (TakesFree calls) (sym same) free } in
      let kept : KeepsLocks r h.side mine h.want = subst (λ l. KeepsLocks r h.side l h.want) same (keeps m.thread (reverse mine) h.side h.want h.wanted well) in
      record {
        want = h.want;
        answers = ap is_some (replied h.side h.want m h.answer h.answers).1;
        held = held_there (guard_of r) mine h.side h.want m h.answer h.answers kept.touches;
      }

  all_answer : (past : List Mark) → AreMade r runs behaviours past → AtEach (IsExclusive calls) past → AtEach (IsKeyed calls) past → AtEach (AnswersHeld calls (guard_of r)) past
  all_answer [] h e k = tt
  all_answer (m ∷ past) h e k = (answers_held past m h.0 (takes_free calls past e.1 k.1 m.thread), all_answer past h.1 e.1 k.1)

  pub guards_are_held : GuardsAreHeld r runs behaviours
  guards_are_held past h e k = held_wants calls (guard_of r) past (all_answer past h e k)

  pub accesses_are_ordered : AccessesAreOrdered r runs behaviours
  accesses_are_ordered past m h e k rising = ordered calls (guard_of r) past m (record { exclusive = e; keyed = k; held = guards_are_held (m ∷ past) h e k; rising = rising })

-- code makes the marks of its source
pub code_keeps_locks : (r : Guarded) (s : Source) (runs : ℕ → Bool) → IsGuarded r s → source_found r runs ≡ [] → (code : Flat) → MakesTheMarks s code → CodeKeepsLocks r runs s code
code_keeps_locks r s runs g found code makes t sig address args is =
    let same : thread_behaviour s t address args ≡ thread_lists (laid s code) sig address args = λ i ms. makes.threads t sig address args ms is i in
    subst (LocksAreKept r runs) same (threads_keep_their_locks r s runs g found t address args)
