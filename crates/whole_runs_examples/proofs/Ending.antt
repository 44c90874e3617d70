-- Played runs, by how they end.
use Rattle.std.proofs.Common.{◌≡◌, ℕ, true, false, List, [], ◌∷◌, length, Option, Some, None, refl}
use Rattle.marks.specs.declared.side.Side.{Side}
use Rattle.marks.specs.declared.side.Side.TheVariants.{Replay, System}
use Rattle.marks.specs.declared.fault.FaultKind.{FaultKind}
use Rattle.marks.specs.declared.breach.BreachKind.{BreachKind}
use Rattle.marks.specs.Marks.{Act}
use Rattle.marks.specs.Wants.{Want, Answer}
use Rattle.c_code.specs.Machine.{Config}
use Rattle.c_code.specs.MarkLists.{Wants, same_side, reply}
use Rattle.replay_runs.specs.Checks.{FaultFound, BreachFound}
use Rattle.replay_runs.specs.Threads.{act_fault}
use Rattle.whole_runs.specs.declared.ending.Ending.TheVariants as ending
use Rattle.whole_runs.specs.declared.ending.Halt.TheVariants as halt
use Rattle.whole_runs.specs.World.{World}
use Rattle.whole_runs.specs.Sides.{seen}
use Rattle.whole_runs.specs.Threads.{comes}
use Rattle.whole_runs.specs.Picks.{asked, stepping, all_ended}
use Rattle.whole_runs.specs.Below.{NoMore, given}
use Rattle.whole_runs.specs.Ends.{IsRun, done, budget, blocked, fault_end, breach_end}
use Rattle.whole_runs_laws.proofs.Deciding.{tests_tested}
use Rattle.whole_runs_examples.specs.Play.{play, whole, mark_for, faulted}
use Rattle.whole_runs_examples.proofs.Allowing.{is_allowed}
use Rattle.whole_runs_examples.proofs.Running.{going, goes_on, follows, follows_is, breach_ends, script_ends, fault_ends, system_ends, is_stopped_by, is_steps, writes_no_constant}

module _ (w : World) (n : ℕ) (f : follows w (play w n) ≡ true) where
  pub is_done : all_ended w (play w n) ≡ true → IsRun w (whole w n) ending.Done
  is_done e = record { past = play w n; follows = follows_is w (play w n) f; last = []; ends = done e; run_is = refl }

  pub used_up : all_ended w (play w n) ≡ false → length (play w n) ≡ w.file.budget → IsRun w (whole w n) (ending.Halted halt.Budget)
  used_up e b = record { past = play w n; follows = follows_is w (play w n) f; last = []; ends = budget e b; run_is = refl }

  pub is_blocked : going w (play w n) ≡ true → stepping w (play w n) ≡ None → IsRun w (whole w n) (ending.Halted halt.Blocked)
  is_blocked g s = record { past = play w n; follows = follows_is w (play w n) f; last = []; ends = blocked (goes_on w (play w n) g) s; run_is = refl }

  pub lacks_answer : (t : ℕ) (side : Side) (want : Want) (to : Answer → Config) (func : ℕ) (args : List ℕ) → going w (play w n) ≡ true → stepping w (play w n) ≡ Some t → comes w (play w n) t ≡ Wants side want to → (tests_tested w (play w n) t side want).test ≡ true → asked want ≡ Some (record { func = func; args = args }) → given w (play w n) t func args ≡ NoMore → IsRun w (whole w n) (ending.Halted (halt.Script func))
  lacks_answer t side want to func args g p c h a none = record { past = play w n; follows = follows_is w (play w n) f; last = []; ends = script_ends w (play w n) t side want to func args g p c h a none; run_is = refl }

  pub is_breach : (t : ℕ) (side : Side) (want : Want) (to : Answer → Config) (kind : BreachKind) (x : ℕ) (other : Option ℕ) → going w (play w n) ≡ true → stepping w (play w n) ≡ Some t → comes w (play w n) t ≡ Wants side want to → (tests_tested w (play w n) t side want).found ≡ Some (BreachFound kind x other) → IsRun w (whole w n) (breach_end kind t x other)
  is_breach t side want to kind x other g p c found = record { past = play w n; follows = follows_is w (play w n) f; last = []; ends = breach_ends w (play w n) t side want to kind x other g p c found; run_is = refl }

  module _ (t : ℕ) (act : Act) where
    pub is_fault : (want : Want) (to : Answer → Config) (kind : FaultKind) → going w (play w n) ≡ true → stepping w (play w n) ≡ Some t → comes w (play w n) t ≡ Wants Replay want to → (tests_tested w (play w n) t Replay want).found ≡ Some (FaultFound kind) → same_side (mark_for w (play w n) t Replay act).side Replay ≡ true → is_allowed w (seen (play w n)) want (mark_for w (play w n) t Replay act) ≡ true → is_stopped_by (reply Replay want (mark_for w (play w n) t Replay act)) ≡ true → act_fault act None ≡ Some kind → writes_no_constant act ≡ true → IsRun w (faulted w n t Replay act) (fault_end Replay kind t)
    is_fault want to kind g p c found side above stops is free = record { past = play w n; follows = follows_is w (play w n) f; last = mark_for w (play w n) t Replay act ∷ []; ends = fault_ends w (play w n) (mark_for w (play w n) t Replay act) want to kind g p c found side refl above stops is free; run_is = refl }

    pub is_system_fault : (want : Want) (to : Answer → Config) (kind : FaultKind) → going w (play w n) ≡ true → stepping w (play w n) ≡ Some t → comes w (play w n) t ≡ Wants System want to → (tests_tested w (play w n) t System want).found ≡ Some (FaultFound kind) → same_side (mark_for w (play w n) t System act).side System ≡ true → is_steps want ≡ false → is_stopped_by (reply System want (mark_for w (play w n) t System act)) ≡ true → act_fault act None ≡ Some kind → writes_no_constant act ≡ true → IsRun w (faulted w n t System act) (fault_end System kind t)
    is_system_fault want to kind g p c found side other stops is free = record { past = play w n; follows = follows_is w (play w n) f; last = mark_for w (play w n) t System act ∷ []; ends = system_ends w (play w n) (mark_for w (play w n) t System act) want to kind g p c found side refl other stops is free; run_is = refl }
