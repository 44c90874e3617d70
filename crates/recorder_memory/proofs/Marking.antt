-- The mark of a step below the cut, and what memory with its watch stands for after it.
use Rattle.std.proofs.Common.{◌≡◌, ℕ, false, true, List, ◌∷◌, length, is_some, refl, sym, ap, ◌∙◌, subst}
use Rattle.std.proofs.Math.Nat.{ℕ_set}
use Rattle.marks.specs.declared.side.Side.{Side}
use Rattle.marks.specs.declared.side.Side.TheVariants.{Replay, System}
use Rattle.marks.specs.Marks.{Act, Mark, is_event}
use Rattle.marks.specs.Wants.{Want, answer_to}
use Rattle.memory_map.specs.declared.areas.TheConstants.{THREADS}
use Rattle.c_code.specs.MarkLists.{reply}
use Rattle.replay_runs.specs.Checks.{Passes}
use Rattle.race_watch.specs.Stands.{Stands}
use Rattle.race_watch_laws.specs.Told.{told}
use Rattle.space_memory_access.specs.declared.refusal.Refusal.{Refusal}
use Rattle.space_memory_access.specs.declared.refusal.Refusal.TheVariants.{NotLive, Pending, OtherSpace, ReadOnly, StackFull, KeyInUse, NoKey, Size}
use Rattle.space_memory.specs.Spaces.{SpaceState}
use Rattle.space_memory_laws.specs.StandsFor.{StandsFor}
use Rattle.steps_above_memory.specs.Above.{StandsForAbove}
use Rattle.steps_above_memory.specs.Refusals.{refusal_of}
use Rattle.steps_above_memory.specs.Steps.{HasCause}
use Rattle.whole_runs.specs.World.{World, begin, program_of}
use Rattle.whole_runs.specs.Sides.{seen}
use Rattle.whole_runs.specs.Tests.{tests}
use Rattle.whole_runs.specs.Steps.{Agrees}
use Rattle.whole_runs_memory.specs.Stands.{StandsForWhole}
use Rattle.whole_runs_memory.proofs.Seen.{seen_below}
use Rattle.recorder_memory.specs.declared.memory.Memory.{Memory}
use Rattle.recorder_memory.specs.Stands.{placed, StandsForSeen, StandsForRun}
use Rattle.recorder_memory.specs.Steps.{ComesTo, IsMarked, next_mark}
use Rattle.recorder_memory.proofs.Replies.{plain_reply}

-- each refusal of memory has a cause
pub of_cause : (r : Refusal) → HasCause (refusal_of r)
of_cause (NotLive x) = tt
of_cause (Pending x) = tt
of_cause (OtherSpace x) = tt
of_cause (ReadOnly x) = tt
of_cause (StackFull x) = tt
of_cause (KeyInUse k) = tt
of_cause (NoKey k) = tt
of_cause (Size x) = tt

other_side : System ≡ Replay → ⊥
other_side e = absurd cc

-- what isn't told to the watch leaves memory above the cut as a replay sees it
pub still_seen : (w : World) (past : List Mark) (old new : Memory) → StandsForSeen w past old → new.above.watch ≡ old.above.watch →
    StandsFor (begin w) (seen past) new.above.spaces → StandsForSeen w past new
still_seen w past old new h same spaces = record {
  goes_well = h.goes_well;
  spaces = spaces;
  watch = subst (Stands (told (seen past))) (sym same) h.watch;
}

-- and so does a mark below the cut
pub below_stands : (w : World) (past : List Mark) (old new : Memory) (m : Mark) → m.side ≡ System → StandsForRun w past old →
    new.above.watch ≡ old.above.watch → StandsForWhole w (m ∷ past) new.above.spaces → StandsForRun w (m ∷ past) new
below_stands w past old new m below h same whole = record {
  whole = whole;
  above = subst (λ ps. StandsForAbove (program_of w) (placed w) ps new.above) (sym (seen_below w m past below))
      (still_seen w past old new h.above same (subst (λ ps. StandsFor (begin w) ps new.above.spaces) (seen_below w m past below) whole.above));
}

module _ (w : World) (past : List Mark) (memory : Memory) (t : ℕ) (side : Side) (want : Want) (to : ComesTo w past memory t side want) where
  -- what holds of the thread, its side and what it wants holds of the step
  pub along : (P : ℕ → Side → Want → Type 0) → P t side want → P to.step.thread to.step.side to.step.want
  along P p = subst (λ u. P u to.step.side to.step.want) (sym to.thread) (subst (λ d. P t d to.step.want) (sym to.side_is) (subst (λ v. P t side v) (sym to.want_is) p))

-- a mark that answers, agrees with the run and passes its tests is the next one
pub below_marked : (w : World) (past : List Mark) (old new : Memory) (t : ℕ) (want : Want) (to : ComesTo w past old t System want) (act : Act) →
    is_event act ≡ false → is_some (answer_to want act) ≡ true → Agrees w past t System want act → Passes (tests w past t System want) →
    StandsForRun w (next_mark w past t System act ∷ past) new → IsMarked w past to.step act new
below_marked w past old new t want to act plain answers agrees passes stands = record {
  made = record {
    mark = record { of_thread = refl; index = refl; above = λ e. absurd (other_side (sym to.side_is ∙ e)) };
    replies = along w past old t System want to (λ u d v. is_some (reply d v (next_mark w past u d act)) ≡ true) (plain_reply System want (next_mark w past t System act) plain refl answers);
    agrees = along w past old t System want to (λ u d v. Agrees w past u d v act) agrees;
    passes = along w past old t System want to (λ u d v. Passes (tests w past u d v)) passes;
  };
  stands = along w past old t System want to (λ u d v. StandsForRun w (next_mark w past u d act ∷ past) new) stands;
}

-- memory with its own state in place of it, whatever says that its watch is for all threads
pub with_spaces : (old : Memory) (spaces : SpaceState) (threads : length old.above.watch.rows ≡ THREADS) → spaces ≡ old.above.spaces →
    record { above = record { spaces = spaces; watch = old.above.watch; threads = threads } } ≡ old
with_spaces old spaces threads e =
    ap (λ q. let m : Memory = record { above = record { spaces = q; watch = old.above.watch; threads = threads } } in m) e
    ∙ ap (λ k. let m : Memory = record { above = record { spaces = old.above.spaces; watch = old.above.watch; threads = k } } in m) (ℕ_set (length old.above.watch.rows) THREADS threads old.above.threads)
