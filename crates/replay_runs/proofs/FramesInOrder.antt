-- Where code ends its innermost frame, a run does.
use Rattle.std.proofs.Common.{◌≡◌, ℕ, Bool, true, false, cond, eqb, eqb-true, List, [], ◌∷◌, refl, subst}
use Rattle.marks.specs.Marks.{Act, Turn, Load, Store, Enter, Leave, Step, Fault, Made, Mark}
use Rattle.marks.specs.Wants.{Want, Leaves}
use Rattle.replay_runs.specs.Runs.{Start, Run, marks_of}
use Rattle.replay_runs.specs.Interface.{Program}
use Rattle.replay_runs.specs.Threads.{frames, is_stop}
use Rattle.replay_runs.specs.Rules.{KeepsModes, is_reply, replay_rules}
use Rattle.replay_runs.proofs.Replies.{Plain, turn, load, no_load, store, no_store, no_write, enter, full, leave, no_free, no_call, fail, plain_is}
use Rattle.replay_runs.specs.Unseen.{LeavesFirst, FramesEndInOrder, AreWanted, EndsOwnFrames, BeginsWanted, CodeEndsFramesInOrder}

-- the frame that is left is the one that the code wants to leave
abbrev IsWanted : Want → Act → Type 0
IsWanted want (Leave at size) = want ≡ Leaves at size
IsWanted want _ = Unit {0}

wanted : (want : Want) (a : Act) → Plain want a → IsWanted want a
wanted want a turn = tt
wanted want a (load {o} {at} {n} bytes e) = tt
wanted want a (no_load {o} {at} {n}) = tt
wanted want a (store {o} {at} {bytes}) = tt
wanted want a (no_store {o} {at} {bytes}) = tt
wanted want a (no_write {o} {at} {bytes}) = tt
wanted want a (enter {i} {f} {args} {bytes} at) = tt
wanted want a (full {i} {f} {args} {bytes}) = tt
wanted want a (leave {at} {n}) = refl
wanted want a (no_free {at}) = tt
wanted want a (no_call {i} {f} {args} k ins outs ac) = tt
wanted want a (fail {k}) = tt

module _ (program : Program) where
  -- a run keeps that its marks are wanted
  all_wanted : (s : Start) (run : List Mark) → BeginsWanted program s → Run (replay_rules program s) s run → (t : ℕ) → AreWanted program t (marks_of s t run)
  all_wanted s [] begins h t = begins t
  all_wanted s (m ∷ past) begins h t = by (eqb m.thread t) (eqb-true m.thread t) (all_wanted s past begins h.1 t)
    where
      by : (b : Bool) → (b ≡ true → m.thread ≡ t) → AreWanted program t (marks_of s t past) → AreWanted program t (cond b (m ∷ marks_of s t past) (marks_of s t past))
      by true e before = (h.0.own.side, subst (λ u. is_reply (program.want u (marks_of s u past)) m.act ≡ true) (e refl) h.0.own.replies, before)
      by false e before = before

  module _ (ends : EndsOwnFrames program) where
    first : (t : ℕ) (mine : List Mark) (a : Act) → AreWanted program t mine → (is_stop a ≡ false → KeepsModes program.interface (program.want t mine)) → is_reply (program.want t mine) a ≡ true → LeavesFirst a (frames mine)
    first t mine (Leave at size) before modes replies = ends t mine at size before (wanted (program.want t mine) (Leave at size) (plain_is program.interface (program.want t mine) (Leave at size) refl (modes refl) replies))
    first t mine Turn before modes replies = tt
    first t mine (Load o at bytes) before modes replies = tt
    first t mine (Store o at bytes) before modes replies = tt
    first t mine (Enter f args at bytes) before modes replies = tt
    first t mine (Step f args v ins pieces freed) before modes replies = tt
    first t mine (Fault k cr ins outs at) before modes replies = tt
    first t mine (Made e) before modes replies = tt

    all_first : (s : Start) (run : List Mark) → BeginsWanted program s → Run (replay_rules program s) s run → FramesEndInOrder s run
    all_first s [] begins h = tt
    all_first s (m ∷ past) begins h = (first m.thread (marks_of s m.thread past) m.act (all_wanted s past begins h.1 m.thread) h.0.own.modes h.0.own.replies, all_first s past begins h.1)

pub in_order : (program : Program) → CodeEndsFramesInOrder program
in_order program ends s run begins h = all_first program ends s run begins h
