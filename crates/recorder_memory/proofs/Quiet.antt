-- Steps below the cut that leave memory as it is, and what memory has for its threads.
use Rattle.std.proofs.Common.{◌≡◌, ℕ, suc, eqb, eq-eqb, ◌<◌, List, [], ◌∷◌, length, Option, Some, None, refl, sym, ap, ◌∙◌, subst, arith}
use Rattle.std.specs.Prelude.{slice_index}
use Rattle.std.proofs.lemmas.Bool.{cond-true}
use Rattle.marks.specs.declared.side.Side.TheVariants.{Replay, System}
use Rattle.marks.specs.declared.range.Range.{Range}
use Rattle.marks.specs.Ranges.{range}
use Rattle.marks.specs.Marks.{Act, Turn, Step}
use Rattle.marks.specs.Wants.{Turns, Steps}
use Rattle.c_builtins.specs.declared.builtin.Builtin.{Builtin}
use Rattle.c_builtins.specs.declared.builtin.Builtin.TheVariants.{Malloc, Free, Spawn, Join, Lock, Unlock, Print}
use Rattle.replay_runs.specs.Checks.{Passes}
use Rattle.space_memory_laws.specs.Shown.{ranges_at}
use Rattle.space_memory_laws.specs.StandsFor.{HoldsFor}
use Rattle.space_memory_laws.proofs.Stacks.{stacks_count}
use Rattle.replay_runs.specs.Runs.{marks_of}
use Rattle.replay_runs.specs.Threads.{OpenCall, frames, open_calls}
use Rattle.replay_runs.specs.Rules.{Closes}
use Rattle.whole_runs.specs.World.{World, begin}
use Rattle.whole_runs.specs.Sides.{seen, frames_on}
use Rattle.whole_runs.specs.Outcomes.{builtin_of}
use Rattle.whole_runs.specs.Below.{given, targets}
use Rattle.whole_runs.specs.Tests.{step_checks}
use Rattle.whole_runs.specs.Steps.{StepOf, IsStep, GivesStep, read_by}
use Rattle.whole_runs_laws.proofs.FaultsAbove.{few_threads}
use Rattle.whole_runs_memory.specs.Plain.{LeavesPool, HasFrames, first_of}
use Rattle.whole_runs_memory.proofs.Ends as ends
use Rattle.whole_runs_memory.proofs.Plain.{plain, frames_there}
use Rattle.whole_runs_memory.proofs.RetChecks.{no_pieces}
use Rattle.recorder_memory.specs.Steps.{next_mark}
use Rattle.recorder_memory.specs.declared.memory.Memory.{Memory}
use Rattle.recorder_memory.specs.Below.{IsForThreads, StepsOfThreadsLeaveMemory}
use Rattle.recorder_memory.specs.Laws.{CallsAreHeld, HoldsCall, ThreadsThatStepAreFew, ThreadsHaveStacks, FramesThatEndAreThere, TurnsBelowLeaveMemory}
use Rattle.recorder_memory.proofs.Replies.{turn_answers, step_answers}
use Rattle.recorder_memory.proofs.Modes.{step_passes}
use Rattle.recorder_memory.proofs.Marking.{below_stands, below_marked}

pub few : (w : World) → ThreadsThatStepAreFew w
few w fit past s = few_threads w fit.file past s

pub have_stacks : ThreadsHaveStacks
have_stacks w past memory System t h lt = let n = h.whole.above.sound.below.threads in omega (arith, n, lt)
have_stacks w past memory Replay t h lt = stacks_count memory.above.spaces.sides.replay.stacks t (frames (marks_of (begin w) t (seen past))) (h.whole.above.stacks t lt)

some_frame : (fs : List Range) (r : Range) → first_of fs ≡ Some r → 0 < length fs
some_frame [] r e = absurd (none e)
  where
    none : ◌≡◌ {A = Option Range} None (Some r) → ⊥
    none k = absurd cc
some_frame (f ∷ fs) r e = omega arith

pub there : FramesThatEndAreThere
there w past memory fit follows h s at size wants =
    let has : HasFrames w past memory.above.spaces s.side s.thread = frames_there w past memory.above.spaces s.side s.thread h.whole (few_threads w fit.file past s) in
    let first : first_of (frames_on w s.side s.thread past) ≡ Some (range at size) = ends.leaves w fit past follows s at size wants in
    record {
      some = let n = some_frame (frames_on w s.side s.thread past) (range at size) first in omega (arith, n, has.count);
      top = has.top ∙ first;
    }

pub turns : TurnsBelowLeaveMemory
turns memory t w past to =
    below_marked w past memory memory t Turns to Turn refl turn_answers tt tt
    (below_stands w past memory memory (next_mark w past t System Turn) refl to.stands refl (plain w past memory.above.spaces (next_mark w past t System Turn) to.stands.whole tt))

-- ---- builtins for threads

leaves_pool : (o : Option Builtin) (b : Builtin) → o ≡ Some b → IsForThreads b → LeavesPool o
leaves_pool o Malloc e is = absurd is
leaves_pool o Free e is = absurd is
leaves_pool o Spawn e is = subst LeavesPool (sym e) tt
leaves_pool o Join e is = subst LeavesPool (sym e) tt
leaves_pool o Lock e is = subst LeavesPool (sym e) tt
leaves_pool o Unlock e is = subst LeavesPool (sym e) tt
leaves_pool o Print e is = absurd is

pub steps_of_threads : StepsOfThreadsLeaveMemory
steps_of_threads memory w past t indirect func args b result c is says =
    below_marked w past memory memory t (Steps indirect func args) c.to act refl (step_answers indirect func args result [] [] [])
    (agrees b c.builtin is)
    (step_passes w past t func args indirect c.to.modes (passes b c.builtin is))
    (below_stands w past memory memory (next_mark w past t System act) refl c.to.stands refl
    (plain w past memory.above.spaces (next_mark w past t System act) c.to.stands.whole (leaves_pool (builtin_of func) b c.builtin is, refl, refl)))
  where
    act : Act
    act = Step func args result [] [] []

    s : StepOf
    s = record { func = func; args = args; result = result; ins = []; pieces = []; freed = [] }

    given_step : read_by w func args (builtin_of func) ≡ [] → GivesStep w past s (given w past t func args)
    given_step none = subst (GivesStep w past s) (sym says) (record {
      result_is = refl;
      ins = sym none;
      whole = tt;
      read = tt;
      pieces_are = sym (no_pieces (targets w System past func args result));
      freed = refl;
    })

    agrees : (k : Builtin) → builtin_of func ≡ Some k → IsForThreads k → IsStep w past t s (builtin_of func)
    agrees Malloc e q = absurd q
    agrees Free e q = absurd q
    agrees Spawn e q = subst (IsStep w past t s) (sym e) (given_step (ap (read_by w func args) e))
    agrees Join e q = subst (IsStep w past t s) (sym e) (given_step (ap (read_by w func args) e))
    agrees Lock e q = subst (IsStep w past t s) (sym e) (given_step (ap (read_by w func args) e))
    agrees Unlock e q = subst (IsStep w past t s) (sym e) (given_step (ap (read_by w func args) e))
    agrees Print e q = absurd q

    passes : (k : Builtin) → builtin_of func ≡ Some k → IsForThreads k → Passes (step_checks w past t func args (builtin_of func))
    passes Malloc e q = absurd q
    passes Free e q = absurd q
    passes Spawn e q = subst (λ o. Passes (step_checks w past t func args o)) (sym e) tt
    passes Join e q = subst (λ o. Passes (step_checks w past t func args o)) (sym e) tt
    passes Lock e q = subst (λ o. Passes (step_checks w past t func args o)) (sym e) tt
    passes Unlock e q = subst (λ o. Passes (step_checks w past t func args o)) (sym e) tt
    passes Print e q = absurd q

-- ---- calls

held_call : (memory : Memory) (t func : ℕ) (args : List ℕ) (outs : List Range) (calls : List OpenCall) →
    HoldsFor memory.above.spaces.held t calls → Closes calls func args outs → HoldsCall memory t outs
held_call memory t func args outs [] h closes = absurd closes
held_call memory t func args outs (c ∷ cs) h closes = record {
  depth = let d = h.depth in omega (arith, d);
  regions = h.outs (slice_index memory.above.spaces.held.depths t)
      ∙ cond-true (eqb (slice_index memory.above.spaces.held.depths t) (suc (length cs))) c.outs
      (ranges_at (λ q. q.outs) (slice_index memory.above.spaces.held.depths t) cs)
      (eq-eqb (slice_index memory.above.spaces.held.depths t) (suc (length cs)) h.depth)
      ∙ sym closes.2;
}

pub calls_held : CallsAreHeld
calls_held w past memory t func args outs h lt closes = held_call memory t func args outs (open_calls (marks_of (begin w) t (seen past))) (h.spaces.calls t lt) closes
