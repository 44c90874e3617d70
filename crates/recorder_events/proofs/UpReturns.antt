-- An UpRet.
use Rattle.std.proofs.Common.{◌≡◌, ◌≢◌, ◌<◌, arith, ℕ, zero, suc, Bool, true, false, cond, ◌&&◌, eqb, List, [], ◌∷◌, length, Some, None, refl, sym, ap, ◌∙◌, subst, eq-eqb}
use Rattle.std.specs.Prelude.{is_some}
use Rattle.std.proofs.lemmas.List.Elements.{All-get_or}
use Rattle.run_events.specs.declared.event.Event.TheVariants as logged
use Rattle.run_events.specs.declared.key.Class.{Class}
use Rattle.run_events.specs.declared.key.Class.TheVariants.{Mutex, User, Callback, Thread, Pool, Out, Async}
use Rattle.run_events.specs.declared.key.Key.{Key}
use Rattle.marks.specs.declared.side.Side.TheVariants.{Replay}
use Rattle.marks.specs.declared.range.Range.{Range}
use Rattle.marks.specs.Marks.{UpRet, Mark}
use Rattle.marks.specs.Opens.{tail, open_ups}
use Rattle.marks.specs.Wants.{UpReturns, Go, answer_if, event_answer, no_ranges}
use Rattle.c_code.specs.declared.activation.Waiting.{Waiting}
use Rattle.c_code.specs.Fits.{Held}
use Rattle.c_code.specs.declared.activation.Waiting.TheVariants.{ForValue, ForRet, ForUpRet, ForBelow, ForOutside}
use Rattle.c_code.specs.Machine.{Flat, Laid, Config, Going, Under, Entering, Closing, Starting, Done, Lost}
use Rattle.c_code.specs.MarkLists.{Split, Next, Wants, No, step, state}
use Rattle.c_code.specs.Opens.{Begins, EndsInnermost, IsFirst, Opens, opens_by, opens_in}
use Rattle.c_code.specs.Valid.{IsValid}
use Rattle.c_code.proofs.Open.{marks_are_open}
use Rattle.c_machine.specs.Moves.{IsInside, ThreadState, ready}
use Rattle.replay_runs.specs.Runs.{OfKey, new_events}
use Rattle.replay_runs.specs.Keys.{is_last, key, sorted_keys}
use Rattle.replay_runs.specs.Checks.{Passes}
use Rattle.replay_runs.specs.Rules.{ClosesUp, SharedEvent}
use Rattle.space_memory.specs.Sides.{top_of}
use Rattle.whole_runs.specs.World.{World, begin, interface}
use Rattle.whole_runs.specs.Sides.{seen, own, frames_on}
use Rattle.whole_runs.specs.Threads.{beginning}
use Rattle.whole_runs.specs.Tests.{tests}
use Rattle.whole_runs_laws.proofs.FaultsAbove.{few_threads}
use Rattle.whole_runs_memory.specs.Plain.{HasFrames, first_of}
use Rattle.whole_runs_memory.proofs.Plain.{frames_there}
use Rattle.recorder_system.proofs.Lists.{found_passes}
use Rattle.recorder_system.proofs.Standing.{can_started}
use Rattle.whole_runs.specs.Picks.{can_step}
use Rattle.whole_runs_memory.proofs.Ends as innermost
use Rattle.whole_runs_memory.proofs.Seen.{own_seen}
use Rattle.whole_runs_memory.proofs.Threads.{own_answers}
use Rattle.whole_runs_seen.proofs.Crossed.{HasSides}
use Rattle.whole_runs_seen.proofs.CrossedMarks.{state_sides}
use Rattle.whole_runs_seen.proofs.Threads.{begins_so}
use Rattle.recorder_threads.specs.declared.wants.Want.TheVariants as told
use Rattle.recorder_threads.specs.Threads.{nowhere}
use Rattle.recorder_threads.proofs.Places.{count_is, rests, thread_is}
use Rattle.recorder_state.specs.declared.state.RunState.{RunState}
use Rattle.recorder_state.specs.Turns.{IsAtStep}
use Rattle.recorder_events.specs.Making.{CanBe, IsCallBackNext, next_keys, own_above}
use Rattle.recorder_events.proofs.LastUp.{EndsOuter, is_up, next_up, last_up}

begins : (w : World) (past : List Mark) (t : ℕ) → Begins Split (beginning w past t)
begins w past zero = tt
begins w past (suc t) = tt

outer_last : (code : Flat) (height : ℕ → ℕ) (g : ℕ) (ws : List Waiting) (n : ℕ) → Held code height (ForOutside g ∷ ws) n → ws ≡ []
outer_last code height g ws n (h, m, e, holds, last, rest) = last

ends_outer : (l : Laid) (valid : IsValid l.code) (c : Config) → IsInside l (ready l c) → EndsOuter valid.height c
ends_outer l valid (Going a vs ws) h = tt
ends_outer l valid (Under call vs ws) h = tt
ends_outer l valid (Entering side i f args vs ws) h = tt
ends_outer l valid (Closing v (ForValue a) vs ws) h = tt
ends_outer l valid (Closing v (ForRet call) vs ws) h = tt
ends_outer l valid (Closing v (ForUpRet a g) vs ws) h = tt
ends_outer l valid (Closing v (ForBelow call g) vs ws) h = tt
ends_outer l valid (Closing v (ForOutside g) vs ws) h = outer_last l.code valid.height g ws (length vs) (h.fits valid)
ends_outer l valid (Starting f args) h = tt
ends_outer l valid (Done v) h = tt
ends_outer l valid Lost h = tt

closes_first : (fs : List ℕ) (f : ℕ) → IsFirst f fs → ClosesUp fs f
closes_first [] f h = absurd h
closes_first (g ∷ fs) f h = h

pub none_first : (fs : List Range) (b : Bool) → no_ranges fs ≡ b → first_of fs ≡ None → b ≡ true
none_first [] b e h = sym e
none_first (f ∷ fs) b e h = absurd cc

pub some_first : (fs : List Range) (r : Range) → first_of fs ≡ Some r → no_ranges fs ≡ false
some_first [] r h = absurd cc
some_first (f ∷ fs) r h = refl

module _ (w : World) (s : RunState) (t v : ℕ) (h : IsAtStep w s t Replay (told.UpReturn v)) where
  abbrev pub past : List Mark
  past = h.reached.past

  abbrev pub u : ℕ
  u = h.step.thread

  abbrev pub func : ℕ
  func = h.told.0

  abbrev pub mine : List Mark
  mine = own_above w u past

  pub place : Config
  place = state Split w.laid (beginning w past u) (own w u past)

  -- it is the end of the call back that is open last
  pub ends_up : EndsInnermost Replay (UpReturns func v) (opens_by (own w u past))
  ends_up = subst (λ d. EndsInnermost d (UpReturns func v) (opens_by (own w u past))) h.side_is
      (subst (λ z. EndsInnermost h.step.side z (opens_by (own w u past))) h.told.1 (innermost.ends w h.reached.fit past h.reached.follows h.step))

  pub closes : ClosesUp (open_ups mine) func
  closes = subst (λ ms. ClosesUp (open_ups ms) func) (sym (own_seen w u past)) (closes_first (opens_by (own w u past)).ups func ends_up)

  pub shared_none : (c : Class) (value : ℕ) (ms : List Mark) → SharedEvent (interface w) (begin w) c value ms (UpRet func v)
  shared_none Mutex value ms = tt
  shared_none User value ms = tt
  shared_none Callback value ms = tt
  shared_none Thread value ms = tt
  shared_none Pool value ms = tt
  shared_none Out value ms = tt
  shared_none Async value ms = tt

  pub answer : event_answer h.step.want (UpRet func v) ≡ Some Go
  answer = ap (λ z. event_answer z (UpRet func v)) h.told.1 ∙ (ap (λ b. answer_if (b && eqb v v) Go) (eq-eqb func func refl) ∙ ap (λ b. answer_if b Go) (eq-eqb v v refl))

  pub can_be : CanBe w past h.step (UpRet func v)
  can_be = record {
    answers = ap is_some answer;
    agrees = tt;
    carries = closes;
    shared = λ k among. shared_none k.class k.value (new_events (OfKey k) (seen past));
    bytes = λ x. tt;
    passes = subst (λ d. Passes (tests w past u d h.step.want)) (sym h.side_is) (subst (λ z. Passes (tests w past u Replay z)) (sym h.told.1) tt);
  }

  -- it is the last one that is open just where the thread has no frame above the cut
  abbrev pub next_up_return : (keys : List Key) → next_keys w u past (UpRet func v) ≡ keys → IsCallBackNext w s t keys (logged.UpRet v)
  next_up_return keys are = record {
    reached = h.reached;
    step = h.step;
    thread = h.thread;
    kind = UpRet func v;
    quiet = tt;
    goes_on = tt;
    can_be = can_be;
    keys_are = are;
    event_is = refl;
    answer = Go;
    answers = answer;
  }

  -- ---- which key it has

  pub not_lost : place ≢ Lost
  unfolding place
  not_lost e = absurd (no (sym (ap (step Split w.laid) e) ∙ h.step.comes_is))
    where
      no : ◌≡◌ {A = Next} No (Wants h.step.side h.step.want h.step.to) → ⊥
      no z = absurd cc

  pub opens : opens_in h.reached.fit.code.valid.height place ≡ opens_by (own w u past)
  unfolding place
  opens = marks_are_open Split w.laid h.reached.fit.code.valid (beginning w past u) (own w u past) (begins w past u) (own_answers w h.reached.fit.code past u h.reached.follows) not_lost

  pub has_sides : HasSides place
  unfolding place
  has_sides = state_sides w.laid (beginning w past u) (subst HasSides (sym (begins_so w past u)) tt) (own w u past)

  pub here : u < length s.threads
  here =
      let n = count_is w past s.threads h.reached.around.shown.threads in
      let k = can_started w past u (found_passes (can_step w past) _ u h.step.picked) in
      omega (arith, n, k)

  pub inside : IsInside w.laid (ready w.laid place)
  unfolding place
  inside = subst (IsInside w.laid) (ap (λ (x : ThreadState). x.config) (thread_is w past s.threads h.reached.around.shown.threads u here) ∙ (rests w past u).config)
      (All-get_or (λ (x : ThreadState). IsInside w.laid x.config) s.threads u nowhere here h.reached.around.shown.threads.inside)

  pub last_is : is_last (tail (open_ups mine)) ≡ no_ranges (frames_on w Replay u past)
  unfolding place
  last_is =
      let valid = h.reached.fit.code.valid in
      let law = last_up valid.height w.laid place has_sides (ends_outer w.laid valid place inside) (ap next_up h.step.comes_is ∙ ap is_up h.told.1) in
      ap (λ ms. is_last (tail (open_ups ms))) (own_seen w u past) ∙ (ap (λ (o : Opens). is_last (tail o.ups)) (sym opens) ∙ (law ∙ ap (λ (o : Opens). no_ranges o.above) opens))

  -- the key of the thread where it is the last call back, and none else
  pub keys_by : (b : Bool) → no_ranges (frames_on w Replay u past) ≡ b → next_keys w u past (UpRet func v) ≡ sorted_keys (cond b (key Thread u ∷ []) [])
  keys_by b e = ap (λ c. sorted_keys (cond c (key Thread u ∷ []) [])) (last_is ∙ e)

  pub has_frames : HasFrames w past s.memory.above.spaces Replay u
  has_frames = frames_there w past s.memory.above.spaces Replay u h.reached.memory.whole (few_threads w h.reached.fit.file past h.step)

  pub top_is : top_of s.memory.above.spaces.sides.replay t ≡ first_of (frames_on w Replay u past)
  top_is = ap (top_of s.memory.above.spaces.sides.replay) (sym h.thread) ∙ has_frames.top

  abbrev pub with_frame : (r : Range) → top_of s.memory.above.spaces.sides.replay t ≡ Some r → IsCallBackNext w s t [] (logged.UpRet v)
  with_frame r e = next_up_return [] (keys_by false (some_first (frames_on w Replay u past) r (sym top_is ∙ e)))

  abbrev pub with_none : (n : ℕ) → n ≡ t → top_of s.memory.above.spaces.sides.replay t ≡ None → IsCallBackNext w s t (key Thread n ∷ []) (logged.UpRet v)
  with_none n same e = next_up_return (key Thread n ∷ []) (keys_by true (none_first (frames_on w Replay u past) _ refl (sym top_is ∙ e)) ∙ ap (λ k. key Thread k ∷ []) (h.thread ∙ sym same))
