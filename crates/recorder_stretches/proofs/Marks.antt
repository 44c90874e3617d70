-- An access or a round of the only thread that memory has made leads on.
use Rattle.std.proofs.Common.{◌≡◌, ℕ, ◌+◌, ◌<◌, Bool, List, [], ◌∷◌, length, get_or, Option, None, refl, sym, ap, ◌∙◌, subst, arith}
use Rattle.std.proofs.Math.ListN.{set}
use Rattle.marks.specs.declared.side.Side.{Side}
use Rattle.marks.specs.declared.side.Side.TheVariants.{Replay, System}
use Rattle.marks.specs.Ranges.{bytes_of_number}
use Rattle.marks.specs.Marks.{Mark, Turn, Load, Store}
use Rattle.marks.specs.Wants.{Want, Turns, Loads, Stores, Answer, Go, Value, Frame, CalledBack, Stopped}
use Rattle.c_code.specs.Machine.{Config, Going, Under, Entering, Closing, Starting, Done, Lost}
use Rattle.c_machine.specs.declared.wants.Want.{Want as Shown}
use Rattle.c_machine.specs.declared.wants.Want.TheVariants as shows
use Rattle.c_machine.specs.Follows.{Feeds, report}
use Rattle.c_machine.specs.Moves.{EntersBody, IsInside, MayFeed, ThreadState, after_answer, ready}
use Rattle.c_machine.proofs.Insides.{fed_inside}
use Rattle.steps_above_stamps.specs.State.{StampsState}
use Rattle.steps_above_stamps.specs.Stamps.{AreStampsOf, with_steps}
use Rattle.steps_above_stamps.proofs.Counting.{one_counted}
use Rattle.whole_runs.specs.World.{World}
use Rattle.whole_runs.specs.Sides.{seen}
use Rattle.whole_runs.specs.Threads.{comes, result_of}
use Rattle.whole_runs.specs.Picks.{asked}
use Rattle.recorder_memory.specs.declared.memory.Memory.{Memory}
use Rattle.recorder_memory.specs.Stands.{placed}
use Rattle.recorder_memory.specs.Steps.{MayRun, next_mark}
use Rattle.recorder_system.proofs.Told as system
use Rattle.recorder_threads.specs.declared.wants.Want.TheVariants as told
use Rattle.recorder_threads.specs.Telling.{told_mark}
use Rattle.recorder_threads.specs.Threads.{AreThreadsOf, args_at, place_of}
use Rattle.recorder_threads.specs.Wants.{IsNextTold}
use Rattle.recorder_threads.specs.Answers.{IsNoCall, IsPlain}
use Rattle.recorder_threads.proofs.Answering.{go_feeds, plain_stands}
use Rattle.recorder_threads.proofs.Places.{rests, thread_is}
use Rattle.recorder_state.specs.declared.state.RunState.{RunState}
use Rattle.recorder_state.specs.Stands.{IsReached}
use Rattle.recorder_state.specs.Turns.{IsAtStep}
use Rattle.recorder_state.specs.Plain.{IsPlainStep, IsStepTold}
use Rattle.recorder_state.proofs.Alone.{at_step}
use Rattle.recorder_state.proofs.Going.{GoesOn}
use Rattle.recorder_state.proofs.PlainSteps.{counted, step_told, uncounted}
use Rattle.recorder_state.proofs.Ending as ending
use Rattle.recorder_plain.proofs.Replies.{load_gives, store_gives, turn_gives}
use Rattle.recorder_plain.proofs.Steps.{goes_on, comes as comes_to}
use Rattle.recorder_stretches.specs.Stretches.{IsMadeIn}
use Rattle.recorder_stretches.proofs.Bodies as bodies
use Rattle.recorder_stretches.proofs.Bodies.{IsOn}

-- ---- the mark that memory has made

-- the answer is fed to the thread
pub record IsFed (x : Answer) : Type 0 where
  pub goes : GoesOn x
  pub feeds : (c : Config) (want : Want) → IsNoCall want → report c want x ≡ Feeds x

go_fed : IsFed Go
go_fed = record { goes = λ e. absurd cc; feeds = λ c want h. go_feeds want h }

value_fed : (v : ℕ) → IsFed (Value v)
value_fed v = record { goes = λ e. absurd cc; feeds = λ c want h. refl }

may_turn : (w : World) (past : List Mark) (side : Side) → MayRun w past side Turns
may_turn w past Replay = tt
may_turn w past System = tt

may_load : (w : World) (past : List Mark) (side : Side) (o : Option ℕ) (at n : ℕ) → MayRun w past side (Loads o at n)
may_load w past Replay o at n = tt
may_load w past System o at n = tt

may_store : (w : World) (past : List Mark) (side : Side) (o : Option ℕ) (at : ℕ) (bytes : List ℕ) → MayRun w past side (Stores o at bytes)
may_store w past Replay o at bytes = tt
may_store w past System o at bytes = tt

module _ (w : World) (s : RunState) (r : IsReached w s) (one : length s.threads ≡ 1) (few : s.steps < w.file.budget) (side : Side) (i : Bool) where
  abbrev Leads : Shown → Answer → Memory → Type 0
  Leads v x new = IsMadeIn side s.memory v x new → IsNextTold w.laid (args_at s.threads 0) (told_mark side i v) (comes w r.past 0) → IsPlainStep w (record s { memory = new }) 0 side x × IsFed x

  turn_leads : (new : Memory) → Leads shows.Turn Go new
  turn_leads new made n =
      let at : IsAtStep w s 0 side told.Turn = at_step w s r one side told.Turn n (ap asked n.is_told) few in
      (goes_on w s 0 side told.Turn at Turns at.told Turn Go new refl refl turn_gives (made w at.reached.past (comes_to w s 0 side told.Turn at Turns at.told (may_turn w at.reached.past side))), go_fed)

  load_leads : (x n v : ℕ) (new : Memory) → Leads (shows.Load x n) (Value v) new
  load_leads x n v new made h =
      let at : IsAtStep w s 0 side (told.Load x n) = at_step w s r one side (told.Load x n) h (ap asked h.is_told.1) few in
      let o = at.told.0 in (
        goes_on w s 0 side (told.Load x n) at (Loads o x n) at.told.1 (Load o x (bytes_of_number n v)) (Value v) new refl refl (load_gives o x n v made.0)
            (made.1 o w at.reached.past (comes_to w s 0 side (told.Load x n) at (Loads o x n) at.told.1 (may_load w at.reached.past side o x n))),
        value_fed v,
      )

  store_leads : (x n v : ℕ) (new : Memory) → Leads (shows.Store x n v) Go new
  store_leads x n v new made h =
      let at : IsAtStep w s 0 side (told.Store x n v) = at_step w s r one side (told.Store x n v) h (ap asked h.is_told.1) few in
      let o = at.told.0 in
      let bytes = bytes_of_number n v in (
        goes_on w s 0 side (told.Store x n v) at (Stores o x bytes) at.told.1 (Store o x bytes) Go new refl refl (store_gives o x bytes)
            (made o w at.reached.past (comes_to w s 0 side (told.Store x n v) at (Stores o x bytes) at.told.1 (may_store w at.reached.past side o x bytes))),
        go_fed,
      )

  pub leads : (v : Shown) (x : Answer) (new : Memory) → Leads v x new
  leads shows.Turn Go new made n = turn_leads new made n
  leads shows.Turn (Value v) new made n = absurd made
  leads shows.Turn (Frame at) new made n = absurd made
  leads shows.Turn (CalledBack g bs) new made n = absurd made
  leads shows.Turn Stopped new made n = absurd made
  leads (shows.Load at k) (Value v) new made n = load_leads at k v new made n
  leads (shows.Load at k) Go new made n = absurd made
  leads (shows.Load at k) (Frame a) new made n = absurd made
  leads (shows.Load at k) (CalledBack g bs) new made n = absurd made
  leads (shows.Load at k) Stopped new made n = absurd made
  leads (shows.Store at k v) Go new made n = store_leads at k v new made n
  leads (shows.Store at k v) (Value u) new made n = absurd made
  leads (shows.Store at k v) (Frame a) new made n = absurd made
  leads (shows.Store at k v) (CalledBack g bs) new made n = absurd made
  leads (shows.Store at k v) Stopped new made n = absurd made
  leads (shows.Ended v) x new made n = absurd made
  leads (shows.Enter g size) x new made n = absurd made
  leads shows.Leave x new made n = absurd made
  leads (shows.Ret g v) x new made n = absurd made
  leads (shows.Alloc k) x new made n = absurd made
  leads (shows.Free at) x new made n = absurd made
  leads (shows.Call g) x new made n = absurd made
  leads (shows.UpRet v) x new made n = absurd made
  leads (shows.Fault k) x new made n = absurd made

-- ---- the state that is told of it

-- the stamps after so many steps of the first thread on this side
abbrev pub stamps_after : Side → ℕ → StampsState → StampsState
stamps_after Replay n s = with_steps 0 n s
stamps_after System n s = s

enters : (c : Config) (w : World) → IsOn c → EntersBody w.laid c
enters (Going a vs ws) w h = tt
enters (Under call vs ws) w h = tt
enters (Entering s i f args vs ws) w h = absurd h
enters (Closing v u vs ws) w h = absurd h
enters (Starting f args) w h = absurd h
enters (Done v) w h = absurd h
enters Lost w h = absurd h

module _ (w : World) (s : RunState) (side : Side) (x : Answer) (h : IsPlainStep w s 0 side x) (fed : IsFed x) (counts : side ≡ Replay → 0 < length s.stamps.steps) (u : ThreadState) (es : s.threads ≡ u ∷ []) (inside : IsInside w.laid u.config) (may : MayFeed w.laid u.config x) where
  abbrev z : ThreadState
  z = after_answer w.laid u x

  abbrev past : List Mark
  past = h.is_done.past

  abbrev m : Mark
  m = next_mark w past 0 side h.act

  module _ (on : IsOn z.config) where
    inside_after : IsInside w.laid z.config
    inside_after = fed_inside w.laid u.config z.config x inside may refl (enters z.config w on)

    tells : (a : IsPlain w.laid s.threads 0 IsNoCall x) → AreThreadsOf a.next.world (a.next.mark ∷ a.next.past) (z ∷ [])
    tells a =
        subst (AreThreadsOf a.next.world (a.next.mark ∷ a.next.past)) (ap (λ ts. set ts 0 z) es)
        (plain_stands w.laid s.threads 0 IsNoCall x a u (sym (ap (λ ts. get_or ts 0 u) es)) (Feeds x) (fed.feeds u.config a.next.follows.0.step.want a.next.wanted) z refl inside_after)

    stamps_stand : (d : Side) → side ≡ d → AreStampsOf (placed w) (seen (m ∷ past)) (stamps_after d 1 s.stamps)
    stamps_stand Replay e = counted w s 0 side x h fed.goes (with_steps 0 1 s.stamps) e (λ memory before k of_thread is_step stand. one_counted memory before k s.stamps 0 of_thread is_step (counts e) stand)
    stamps_stand System e = uncounted w s 0 side x h fed.goes e

    abbrev after : RunState
    after = record s { threads = z ∷ []; stamps = stamps_after side 1 s.stamps }

    all_told : IsStepTold w after 0
    all_told = step_told w s 0 side x h fed.goes (z ∷ []) (stamps_after side 1 s.stamps) tells (stamps_stand side refl)

    abbrev now : List Mark
    now = all_told.marked.mark ∷ all_told.marked.past

    goes : result_of w now 0 ≡ None
    goes =
        let place : Config = place_of w now 0 in
        let is : z.config ≡ ready w.laid place = ap (λ (t : ThreadState). t.config) (thread_is w now (z ∷ []) all_told.threads 0 (omega arith)) ∙ (rests w now 0).config in
        bodies.goes_on w.laid place (subst IsOn is on)

    pub one_more : IsReached w (record s { threads = z ∷ []; stamps = stamps_after side 1 s.stamps; known = None; steps = s.steps + 1 })
    one_more = ending.reached w after 0 all_told s.system (system.goes_on w now 0 s.system goes all_told.system)
