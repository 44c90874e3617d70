-- What a replay sees of the fault that ends a run may follow what it saw before, and races with nothing.
use Rattle.std.proofs.Common.{◌≡◌, true, List, [], refl, sym, ap, ◌∙◌, subst}
use Rattle.std.specs.Prelude.{is_some}
use Rattle.marks.specs.declared.side.Side.TheVariants.{Replay}
use Rattle.marks.specs.declared.fault.FaultKind.{FaultKind}
use Rattle.marks.specs.Marks.{Mark, side_of}
use Rattle.marks.specs.Wants.{Want, Outside, Turns, Loads, Stores, Enters, Leaves, Allocs, Frees, Calls, Below, Gives, Returns, CallsBack, UpReturns, Steps, Fails}
use Rattle.c_code.specs.MarkLists.{reply}
use Rattle.c_code.specs.Laws.{seen_above}
use Rattle.replay_runs.specs.Runs.{Start, marks_of, Allowed}
use Rattle.replay_runs.specs.Known.{NoRace}
use Rattle.replay_runs.specs.Interface.{Program}
use Rattle.replay_runs.specs.Rules.{is_reply, KeepsModes, Carries, OwnRules, replay_rules}
use Rattle.replay_runs.specs.Checks.{FaultFound, Finds}
use Rattle.replay_runs.specs.Found.{FaultMayCome}
use Rattle.replay_runs.proofs.Faults.{come}
use Rattle.whole_runs.specs.World.{World, begin, interface, program_of}
use Rattle.whole_runs.specs.Sides.{seen}
use Rattle.whole_runs.specs.Below.{given}
use Rattle.whole_runs.specs.Tests.{checks_above, comes_up, tests}
use Rattle.whole_runs.specs.Steps.{Picked, IsFault}
use Rattle.whole_runs.specs.Ends.{Follows, IsFound}
use Rattle.whole_runs.specs.Fits.{IsFit}
use Rattle.whole_runs_laws.proofs.PlainSteps.{side_is}
use Rattle.whole_runs_laws.proofs.OneStep.{same_side_true, plain_side}
use Rattle.whole_runs_laws.proofs.OneFault.{no_event, faults_determined}
use Rattle.whole_runs_laws.proofs.FaultsAbove.{few_threads, running, this, met_fault, give_none, replayed, return_none}
use Rattle.whole_runs_seen.proofs.Threads.{threads_known}
use Rattle.whole_runs_seen.proofs.Wanted.{wanted_above}
use Rattle.whole_runs_seen.proofs.Ends.{ends_there}

module _ (w : World) (fit : IsFit w) (past : List Mark) (follows : Follows w past) (s : Picked w past) (kind : FaultKind) (found : IsFound w past s (FaultFound kind)) (m : Mark) (h : IsFault w past s kind m) (above : m.side ≡ Replay) where
  abbrev p : Program
  p = program_of w

  abbrev st : Start
  st = begin w

  abbrev rs : List Mark
  rs = seen past

  replied : is_some (reply s.side s.want m) ≡ true
  replied = ap is_some h.stops

  on : s.side ≡ Replay
  on = sym (plain_side s.side m.act (no_event m.act kind h.kind_is)) ∙ (same_side_true (side_of s.side m.act) m.side (side_is s.side s.want m replied) ∙ above)

  found_above : Finds (checks_above w past s.thread s.want) (FaultFound kind)
  found_above = subst (λ d. Finds (tests w past s.thread d s.want) (FaultFound kind)) on found

  -- no fault is found of a return
  same_want : (want : Want) → Finds (checks_above w past s.thread want) (FaultFound kind) → seen_above want ≡ want
  same_want (Gives f args) z = absurd (give_none w past follows s on f args (given w past s.thread f args) kind z)
  same_want (Returns f args v) z = absurd (return_none (interface w) st rs (comes_up w past f args v []) f args v kind z)
  same_want Outside z = refl
  same_want Turns z = refl
  same_want (Loads o at n) z = refl
  same_want (Stores o at bytes) z = refl
  same_want (Enters i f args bytes) z = refl
  same_want (Leaves at n) z = refl
  same_want (Allocs n) z = refl
  same_want (Frees at) z = refl
  same_want (Calls i f args) z = refl
  same_want (Below f args) z = refl
  same_want (CallsBack f args bytes) z = refl
  same_want (UpReturns f v) z = refl
  same_want (Steps i f args) z = refl
  same_want (Fails k) z = refl

  wanted_is : p.want s.thread (marks_of st s.thread rs) ≡ s.want
  wanted_is = wanted_above w fit.code past (threads_known w fit.code past follows) s on ∙ same_want s.want found_above

  comes : FaultMayCome (this w past follows s on) st rs s.thread kind
  comes =
      let r = running w past follows s.thread in
      come (this w past follows s on) st rs s.thread kind (few_threads w fit.file past s) r.0 r.1 (ends_there w fit past follows s on) (replayed w past follows s on s.want kind found_above)

  -- the fault is the one that comes
  it_is : comes.mark ≡ m
  it_is = faults_determined w past comes.mark m kind s s found (met_fault w past follows s on kind comes) h

  own_there : OwnRules p st (marks_of st comes.mark.thread rs) comes.mark
  own_there =
      let own = comes.allowed.own in
      let same : s.want ≡ p.want comes.mark.thread (marks_of st comes.mark.thread rs) = sym wanted_is ∙ ap (λ u. p.want u (marks_of st u rs)) (sym comes.thread) in
      record {
        thread = own.thread;
        side = own.side;
        replies = subst (λ want. is_reply want comes.mark.act ≡ true) same own.replies;
        modes = λ z. subst (KeepsModes (interface w)) same (own.modes z);
        carries = subst (λ want. Carries (interface w) st comes.mark.thread (marks_of st comes.mark.thread rs) want comes.mark.act) same own.carries;
        keys = own.keys;
        other_space = own.other_space;
        read_only = own.read_only;
        running = own.running;
        after_fault = own.after_fault;
      }

  allowed_there : Allowed (replay_rules p st) st rs comes.mark
  allowed_there =
      let a = comes.allowed in
      record { own = own_there; index = a.index; steps = a.steps; tickets = a.tickets; shared = a.shared; rises = a.rises; least = a.least; bytes = a.bytes }

  pub fault_allowed : Allowed (replay_rules p st) st rs m
  fault_allowed = subst (Allowed (replay_rules p st) st rs) it_is allowed_there

  pub fault_unraced : NoRace rs m
  fault_unraced = subst (NoRace rs) it_is comes.no_race
