-- After a mark of code above the cut that makes no event a thread stands in replay mode.
use Rattle.std.proofs.Common.{◌≡◌, ℕ, zero, suc, Bool, true, false, List, [], ◌∷◌, Option, Some, None, refl, sym, ◌∙◌, subst}
use Rattle.std.specs.Prelude.{slice_get}
use Rattle.marks.specs.declared.side.Side.{Side}
use Rattle.marks.specs.declared.side.Side.TheVariants.{Replay, System}
use Rattle.marks.specs.Marks.{Mark}
use Rattle.marks.specs.Wants.{Want, Answer, Go, Value, Frame, CalledBack, Stopped, is_above}
use Rattle.c_code.specs.declared.activation.Waiting.TheVariants.{ForValue, ForRet, ForUpRet, ForBelow, ForOutside}
use Rattle.c_code.specs.Machine.{Laid, Pending, Config, Going, Under, Entering, Closing, Starting, Done, Lost, Action, Silent, Asks, Pends, Awaits, Starts, Over, Stuck, entry, is_face, act, action}
use Rattle.c_code.specs.MarkLists.{Split, Next, Quiet, Wants, Ends, No, called, next_of, step, or_stay, settle, settled, room, moved, move, reply, state}
use Rattle.c_code.proofs.Sides.{IsPlain}
use Rattle.whole_runs.specs.Threads.{is_next_above}
use Rattle.whole_runs_seen.specs.Suits.{IsHere}
use Rattle.whole_runs_seen.proofs.Crossed.{HasSides, StaysAbove, Leads, other_side, Instructs, act_sides, NextHasSides, next_sides}

module _ (l : Laid) where
  -- ---- steps without a mark

  settle_sides : (n : ℕ) (c : Config) → HasSides c → HasSides (settle n l c)
  settle_sides zero c h = h
  settle_sides (suc n) c h = each (action l c) (next_sides l c h) (λ d k. settle_sides n d k)
    where
      each : (a : Action) → NextHasSides l (next_of Split l a) → ((d : Config) → HasSides d → HasSides (settle n l d)) → HasSides (or_stay a (settle n l) c)
      each (Silent d) k go = go d k
      each (Asks side want to) k go = h
      each (Pends p) k go = h
      each (Awaits p) k go = h
      each (Starts f args) k go = h
      each (Over v) k go = h
      each Stuck k go = h

  abbrev QuietAbove : Action → Type 0
  QuietAbove (Silent c) = StaysAbove c
  QuietAbove a = Unit {0}

  quiet_instruction : (side : Side) (a : Action) → side ≡ Replay → Instructs l side a → QuietAbove a
  quiet_instruction side (Silent (Going b vs ws)) e h = h.0 ∙ e
  quiet_instruction side (Silent c) e h = absurd h
  quiet_instruction side a e h = tt

  quiet_above : (c : Config) → HasSides c → StaysAbove c → QuietAbove (action l c)
  quiet_above (Going a vs ws) h e = quiet_instruction a.side (act l (slice_get l.code.instrs a.at) a vs ws) e (act_sides l (slice_get l.code.instrs a.at) a vs ws h)
  quiet_above (Under call vs ws) h e = absurd e
  quiet_above (Entering side i f args vs ws) h e = tt
  quiet_above (Closing v (ForValue a) vs ws) h e = absurd e
  quiet_above (Closing v (ForRet call) vs ws) h e = absurd e
  quiet_above (Closing v (ForUpRet a g) vs ws) h e = tt
  quiet_above (Closing v (ForBelow call g) vs ws) h e = absurd e
  quiet_above (Closing v (ForOutside g) vs ws) h e = tt
  quiet_above (Starting f args) h e = absurd e
  quiet_above (Done v) h e = absurd e
  quiet_above Lost h e = tt

  settle_above : (n : ℕ) (c : Config) → HasSides c → StaysAbove c → StaysAbove (settle n l c)
  settle_above zero c h e = e
  settle_above (suc n) c h e = each (action l c) (next_sides l c h) (quiet_above c h e) (λ d k q. settle_above n d k q)
    where
      each : (a : Action) → NextHasSides l (next_of Split l a) → QuietAbove a → ((d : Config) → HasSides d → StaysAbove d → StaysAbove (settle n l d)) → StaysAbove (or_stay a (settle n l) c)
      each (Silent d) k q go = go d k q
      each (Asks side want to) k q go = e
      each (Pends p) k q go = e
      each (Awaits p) k q go = e
      each (Starts f args) k q go = e
      each (Over v) k q go = e
      each Stuck k q go = e

  -- ---- code above the cut stands in replay mode

  on_side : (d : Side) (want : Want) (to : Answer → Config) → d ≡ Replay → is_above want ≡ true → is_next_above (Wants d want to) ≡ true
  on_side d want to e h = subst (λ z. is_next_above (Wants z want to) ≡ true) (sym e) h

  called_mode : (p : Pending) (side : Side) (face : Bool) (e : Option ℕ) → side ≡ Replay → p.call.then.side ≡ side → is_next_above (called l p side face e) ≡ true
  called_mode p Replay true e r z = refl
  called_mode p Replay false (Some at) r z = on_side p.call.then.side _ _ z refl
  called_mode p Replay false None r z = on_side p.call.then.side _ _ z refl
  called_mode p System face e r z = other_side r

  mode_instruction : (side : Side) (a : Action) → side ≡ Replay → Instructs l side a → IsHere (next_of Split l a) → is_next_above (next_of Split l a) ≡ true
  mode_instruction side (Silent c) e h here = absurd here
  mode_instruction side (Asks d want k) e h here = on_side d want k (h.0 ∙ e) h.1
  mode_instruction side (Pends p) e h here = called_mode p p.call.then.side (is_face l p.call.func) (entry l p.call.func) (h.0 ∙ e) refl
  mode_instruction side (Awaits p) e h here = absurd h
  mode_instruction side (Starts f args) e h here = absurd h
  mode_instruction side (Over v) e h here = absurd h
  mode_instruction side Stuck e h here = absurd here

  mode_above : (c : Config) → HasSides c → StaysAbove c → IsHere (step Split l c) → is_next_above (step Split l c) ≡ true
  mode_above (Going a vs ws) h e here = mode_instruction a.side (act l (slice_get l.code.instrs a.at) a vs ws) e (act_sides l (slice_get l.code.instrs a.at) a vs ws h) here
  mode_above (Under call vs ws) h e here = absurd e
  mode_above (Entering side i f args vs ws) h e here = on_side side _ _ e refl
  mode_above (Closing v (ForValue a) vs ws) h e here = absurd e
  mode_above (Closing v (ForRet call) vs ws) h e here = absurd e
  mode_above (Closing v (ForUpRet a g) vs ws) h e here = refl
  mode_above (Closing v (ForBelow call g) vs ws) h e here = absurd e
  mode_above (Closing v (ForOutside g) vs ws) h e here = refl
  mode_above (Starting f args) h e here = absurd e
  mode_above (Done v) h e here = absurd e
  mode_above Lost h e here = absurd here

  -- ---- marks

  moved_sides : (o : Option Answer) (to : Answer → Config) (c : Config) → HasSides c → ((x : Answer) → HasSides (to x)) → HasSides (moved o to c)
  moved_sides None to c h k = h
  moved_sides (Some Go) to c h k = k Go
  moved_sides (Some (Value v)) to c h k = k (Value v)
  moved_sides (Some (Frame at)) to c h k = k (Frame at)
  moved_sides (Some (CalledBack g args)) to c h k = k (CalledBack g args)
  moved_sides (Some Stopped) to c h k = h

  move_sides : (n : Next) (m : Mark) (c : Config) → HasSides c → NextHasSides l n → HasSides (move n m c)
  move_sides (Quiet d) m c h k = h
  move_sides (Wants side want to) m c h k = moved_sides (reply side want m) to c h k.sides
  move_sides (Ends v) m c h k = h
  move_sides No m c h k = h

  pub state_sides : (c : Config) → HasSides c → (past : List Mark) → HasSides (state Split l c past)
  state_sides c h [] = settle_sides (suc (room l c)) c h
  state_sides c h (m ∷ past) =
      let now : Config = state Split l c past in
      let k = state_sides c h past in
      let d : Config = move (step Split l now) m now in
      settle_sides (suc (room l d)) d (move_sides (step Split l now) m now k (next_sides l now k))

  -- after a mark of code above the cut that makes no event, the thread stands in replay mode, unless it is lost
  pub mode_after : (c : Config) → HasSides c → (past : List Mark) (m : Mark) (want : Want) (to : Answer → Config) (x : Answer) → step Split l (state Split l c past) ≡ Wants Replay want to → IsPlain want →
      move (step Split l (state Split l c past)) m (state Split l c past) ≡ to x → IsHere (step Split l (state Split l c (m ∷ past))) → is_next_above (step Split l (state Split l c (m ∷ past))) ≡ true
  mode_after c h past m want to x e plain goes here =
      let now : Config = state Split l c past in
      let d : Config = move (step Split l now) m now in
      let leads : Leads Replay (IsPlain want) to = subst (NextHasSides l) e (next_sides l now (state_sides c h past)) in
      let sides : HasSides d = subst HasSides (sym goes) (leads.sides x) in
      let above : StaysAbove d = subst StaysAbove (sym goes) (leads.stays refl plain x) in
      mode_above (settled l d) (settle_sides (suc (room l d)) d sides) (settle_above (suc (room l d)) d sides above) here
