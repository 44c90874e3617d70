-- The tests of Rets, and what they leave.
use Rattle.std.proofs.Common.{◌≡◌, ℕ, ◌<◌, List, [], ◌∷◌, Option, sym, subst}
use Rattle.run_events.specs.declared.key.Key.{Key}
use Rattle.marks.specs.declared.side.Side.TheVariants.{Replay}
use Rattle.marks.specs.declared.range.Range.{Range}
use Rattle.marks.specs.Places.{thread_count}
use Rattle.marks.specs.Marks.{EventKind, Ret, Mark}
use Rattle.replay_runs.specs.Checks.{Finding, Checks, Finds, return_checks}
use Rattle.replay_runs.specs.Runs.{Allowed, marks_of}
use Rattle.replay_runs.specs.Rules.{Carries, EventCarries, replay_rules}
use Rattle.space_memory_access.specs.declared.refusal.Refusal.{Refusal}
use Rattle.space_memory_access.specs.Held.{innermost}
use Rattle.space_memory.specs.Releases.{AllReturned, HasKey, IsReleaseRefused}
use Rattle.space_memory_laws.specs.Returns.{CommitsAs, IsRet, filled, ShowsRet}
use Rattle.space_memory_laws.proofs.ReturnChecks.{returns_found}
use Rattle.space_memory_laws.proofs.Returns as landed
use Rattle.steps_above_memory.specs.Above.{StandsForAbove}
use Rattle.steps_above_memory.specs.declared.refusal.StepRefusal.{StepRefusal}
use Rattle.steps_above_memory.specs.Refusals.{IsFound, refusal_of}
use Rattle.steps_above_memory.specs.Returns as above
use Rattle.space_memory_laws.specs.Changes.{IsReleased}
use Rattle.steps_above_memory.proofs.Ranges.{as_found}
use Rattle.whole_runs.specs.World.{World, begin, interface, program_of}
use Rattle.whole_runs.specs.Sides.{seen}
use Rattle.whole_runs.specs.Below.{Target, targets, pieces_for}
use Rattle.whole_runs.specs.Tests.{ret_checks}
use Rattle.whole_runs_memory.specs.Stands.{InStep, StandsForWhole}
use Rattle.whole_runs_memory.specs.Refusals.{FindRefusals}
use Rattle.whole_runs_memory.specs.Rets.{AllFit, IsEnding, IsRetAllowed}
use Rattle.whole_runs_memory.proofs.RetChecks.{rets, no_pieces}
use Rattle.whole_runs_memory.proofs.Rets as whole
use Rattle.whole_runs_memory.proofs.Seen.{seen_above}
use Rattle.whole_runs_memory.proofs.Steps.{steps_begin}
use Rattle.recorder_memory.specs.declared.memory.Memory.{Memory}
use Rattle.recorder_memory.specs.Stands.{placed}
use Rattle.recorder_memory.specs.Returns.{IsAnswered, NoPieceIsAnswered, PassesReturn, RefusesReturn, MakesReturn}
use Rattle.recorder_memory.proofs.Events.{stands_above, allowed, mark_is}
use Rattle.recorder_memory.proofs.Pieces.{found_in}

none_fit : (xs : List Target) → AllFit xs []
none_fit [] = tt
none_fit (x ∷ xs) = tt

pub none_answered : NoPieceIsAnswered
none_answered w past memory func args result h = record {
  fits = none_fit (targets w Replay past func args result);
  step = subst (λ ps. InStep w past ps memory.above.spaces) (sym (no_pieces (targets w Replay past func args result))) (steps_begin w past memory.above.spaces h.whole);
  above = h.above;
}

module _ (memory : Memory) (t : ℕ) (used : List ℕ) (committing : Option (ℕ × ℕ)) where
  abbrev Refused : Refusal → Type 0
  Refused = IsReleaseRefused memory.above.spaces.bytes memory.above.spaces.held.regions (innermost memory.above.spaces.held t) used committing

  module _ (w : World) (past : List Mark) (func : ℕ) (args : List ℕ) (result : ℕ) (pieces : List (List ℕ)) (a : IsAnswered w past func args result pieces memory) (e : IsEnding w past t func args result used committing) where
    abbrev pub cs : Checks
    cs = ret_checks w past func args result pieces

    pub finds : FindRefusals Refused (IsRetAllowed memory.above.spaces t used committing) (ret_checks w past func args result pieces)
    finds = rets w past memory.above.spaces t func args result used committing pieces a.step a.fits e

    -- what a replay finds of it
    seen_finds : (g : Finding) → Finds (return_checks (interface w) (begin w) (seen past) (filled memory.above.spaces) func args result) g → Finds (ret_checks w past func args result pieces) g
    seen_finds g p =
        let r = (returns_found (interface w) (begin w) (seen past) memory.above.spaces t func args result used committing a.step.stands.above e.thread e.closes e.sizes e.committed).found g p in
        subst (Finds (ret_checks w past func args result pieces)) (sym r.2) (finds.of_refused r.0 r.1)

    pub seen_found : (refusal : StepRefusal) → above.RefusesReturn memory.above t used committing refusal → IsFound (ret_checks w past func args result pieces) refusal
    seen_found refusal refuses = found_in (return_checks (interface w) (begin w) (seen past) (filled memory.above.spaces) func args result) (ret_checks w past func args result pieces) seen_finds refusal
        (refuses (program_of w) (placed w) (seen past) func args result a.above (record { closes = e.closes; sizes = e.sizes; commits = e.committed }))

  pub allowed_passes : HasKey memory.above.spaces.held.regions committing →
      AllReturned memory.above.spaces.bytes memory.above.spaces.held.regions (innermost memory.above.spaces.held t) used committing →
      PassesReturn memory t used committing
  allowed_passes key all w past func args result pieces a e = (finds w past func args result pieces a e).passes.1 (key, all)

  pub refused_found : (refused : Refusal) (found : StepRefusal) → Refused refused → found ≡ refusal_of refused → RefusesReturn memory t used committing found
  refused_found refused found p is w past func args result pieces a e =
      subst (IsFound (ret_checks w past func args result pieces)) (sym is)
      (as_found (ret_checks w past func args result pieces) refused ((finds w past func args result pieces a e).of_refused refused p))

  pub above_found : (found : StepRefusal) → above.RefusesReturn memory.above t used committing found → RefusesReturn memory t used committing found
  above_found found refuses w past func args result pieces a e = seen_found w past func args result pieces a e found refuses

pub return_made : (old new : Memory) (t : ℕ) (used : List ℕ) (committing : Option (ℕ × ℕ)) (ranges : List Range) (keys : List Key) →
    t < thread_count → above.MakesReturn old.above t used committing ranges keys new.above →
    IsReleased old.above.spaces new.above.spaces t used committing → MakesReturn old t used committing ranges keys new
return_made old new t used committing ranges keys lt makes done w past m r = record { whole = whole'; above = seen' }
  where
    kind : EventKind
    kind = Ret r.func r.args r.result r.same r.up r.commit

    side : m.side ≡ Replay
    side = stands_above w past t keys kind m r.next

    may : Allowed (replay_rules (program_of w) (begin w)) (begin w) (seen past) m
    may = allowed w past t keys kind m r.next

    carried : EventCarries (interface w) (begin w) m.thread (marks_of (begin w) m.thread (seen past)) kind
    carried = subst (EventCarries (interface w) (begin w) m.thread (marks_of (begin w) m.thread (seen past))) r.next.kind_is
        (subst (Carries (interface w) (begin w) m.thread (marks_of (begin w) m.thread (seen past)) ((program_of w).want m.thread (marks_of (begin w) m.thread (seen past)))) r.next.act_is may.own.carries)

    released_by : IsReleased old.above.spaces new.above.spaces m.thread used committing
    released_by = subst (λ u. IsReleased old.above.spaces new.above.spaces u used committing) (sym r.next.thread) done

    small : m.thread < thread_count
    small = subst (λ u. u < thread_count) (sym r.next.thread) lt

    shown : ShowsRet (begin w) (seen past) old.above.spaces m r.func r.args r.up r.commit used committing
    shown = record {
      event = r.next.event;
      act = r.next.act_is;
      result = r.result;
      same = r.same;
      kind = r.next.kind_is;
      closes = carried.closes;
      commits = r.commits;
      shows = r.shows;
    }

    is_ret : IsRet (begin w) (seen past) m r.up committing r.commit new.above.spaces
    is_ret = landed.returns (begin w) (seen past) old.above.spaces new.above.spaces m r.func r.args r.up r.commit used committing r.answered.step.stands.above small released_by shown

    whole' : StandsForWhole w (m ∷ past) new.above.spaces
    whole' = whole.returned w past old.above.spaces new.above.spaces m r.func r.args r.up r.commit used committing (pieces_for (targets w Replay past r.func r.args r.result) r.answer) r.answered.step side small released_by shown
        (whole.lie w past r.func r.args r.result r.up r.commit r.answer r.outs_are carried.committed is_ret.in_use)

    seen' : StandsForAbove (program_of w) (placed w) (seen (m ∷ past)) new.above
    seen' = subst (λ ps. StandsForAbove (program_of w) (placed w) ps new.above) (sym (seen_above w m past side))
        (subst (λ q. StandsForAbove (program_of w) (placed w) (q ∷ seen past) new.above) (sym (mark_is w past t keys kind m r.next))
        (makes (program_of w) (placed w) (seen past) r.next.event.steps r.next.event.clock r.next.event.keys r.func r.args r.result r.same r.up r.commit r.answered.above r.next.keys_are r.ranges_are
        (subst (λ q. CommitsAs q old.above.spaces.held committing r.commit) (mark_is w past t keys kind m r.next) r.commits)
        r.shows
        (subst (Allowed (replay_rules (program_of w) (begin w)) (begin w) (seen past)) (mark_is w past t keys kind m r.next) may)))
