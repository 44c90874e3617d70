-- The last open call back of a thread is the one with no frames above the cut.
use Rattle.std.proofs.Common.{◌≡◌, ℕ, zero, suc, Bool, true, false, cond, List, [], ◌∷◌, drop, ◌-◌, ◌+◌, Option, Some, None, Result, Ok, Err, refl, sym, ap, ◌∙◌}
use Rattle.std.specs.Prelude.{slice_get}
use Rattle.std.proofs.lemmas.Bool.{true≢false}
use Rattle.marks.specs.declared.side.Side.{Side}
use Rattle.marks.specs.declared.side.Side.TheVariants.{Replay, System}
use Rattle.marks.specs.declared.fault.FaultKind.{FaultKind}
use Rattle.marks.specs.declared.range.Range.{Range}
use Rattle.marks.specs.Opens.{tail}
use Rattle.marks.specs.Wants.{Want, UpReturns, no_ranges}
use Rattle.c_code.specs.declared.instr.Instr.{Instr}
use Rattle.c_code.specs.declared.instr.Instr.TheVariants as instr
use Rattle.c_code.specs.declared.activation.Activation.{Activation}
use Rattle.c_code.specs.declared.activation.Call.{Call}
use Rattle.c_code.specs.declared.activation.Waiting.{Waiting}
use Rattle.c_code.specs.declared.activation.Waiting.TheVariants.{ForValue, ForRet, ForUpRet, ForBelow, ForOutside}
use Rattle.c_code.specs.Values.{combined}
use Rattle.c_code.specs.Fits.{held_by}
use Rattle.c_code.specs.Machine.{Laid, Pending, Config, Going, Under, Entering, Closing, Starting, Done, Lost, Action, Silent, Asks, Pends, Awaits, Starts, Over, Stuck, entry, is_face, take_args, with_args, combine, is_pool, pool_act, pending, call_act, pointer_act, to_callee, callee, act, returning, awaiting}
use Rattle.c_code.specs.MarkLists.{Split, Next, Wants, called, below, started, next_of, step}
use Rattle.c_code.specs.Opens.{in_function, opens_in, opens_waiting}
use Rattle.replay_runs.specs.Keys.{is_last}
use Rattle.whole_runs_seen.proofs.Crossed.{HasSides, Waits}

-- ---- who asks for the end of a call back

abbrev pub is_up : Want → Bool
is_up (UpReturns f v) = true
is_up want = false

abbrev asks_up : Action → Bool
asks_up (Asks d want k) = is_up want
asks_up n = false

abbrev pub next_up : Next → Bool
next_up (Wants d want to) = is_up want
next_up n = false

module _ (l : Laid) where
  combine_none : (o : Result ℕ FaultKind) (a : Activation) (vs : List ℕ) (ws : List Waiting) → asks_up (combine o a vs ws) ≡ false
  combine_none (Ok v) a vs ws = refl
  combine_none (Err kind) a vs ws = refl

  pool_none : (f : ℕ) (a : Activation) (args rest : List ℕ) (ws : List Waiting) → asks_up (pool_act f a args rest ws) ≡ false
  pool_none zero a args rest ws = refl
  pool_none (suc f) a args rest ws = refl

  call_none : (f : ℕ) (a : Activation) (vs : List ℕ) (ws : List Waiting) (o : Option (List ℕ × List ℕ)) → asks_up (with_args o (call_act f a vs ws)) ≡ false
  call_none f a vs ws None = refl
  call_none f a vs ws (Some (args, rest)) = by (is_pool a.side f)
    where
      by : (t : Bool) → asks_up (cond t (pool_act f a args rest ws) (Pends (pending f false a args vs rest ws))) ≡ false
      by true = pool_none f a args rest ws
      by false = refl

  callee_none : (o : Option ℕ) (a : Activation) (args vs rest : List ℕ) (ws : List Waiting) → asks_up (to_callee o a args vs rest ws) ≡ false
  callee_none None a args vs rest ws = refl
  callee_none (Some f) a args vs rest ws = refl

  pointer_none : (sig : ℕ) (a : Activation) (vs : List ℕ) (ws : List Waiting) (o : Option (List ℕ × List ℕ)) → asks_up (with_args o (pointer_act l sig a vs ws)) ≡ false
  pointer_none sig a vs ws None = refl
  pointer_none sig a vs ws (Some (args, [])) = refl
  pointer_none sig a vs ws (Some (args, address ∷ rest)) = callee_none (callee l sig address) a args vs rest ws

  act_none : (i : Option Instr) (a : Activation) (vs : List ℕ) (ws : List Waiting) → asks_up (act l i a vs ws) ≡ false
  act_none (Some (instr.Push what)) a vs ws = refl
  act_none (Some (instr.Load k o)) a [] ws = refl
  act_none (Some (instr.Load k o)) a (p ∷ vs) ws = refl
  act_none (Some (instr.LoadKeep k o)) a [] ws = refl
  act_none (Some (instr.LoadKeep k o)) a (p ∷ vs) ws = refl
  act_none (Some (instr.Store k o)) a [] ws = refl
  act_none (Some (instr.Store k o)) a (p ∷ []) ws = refl
  act_none (Some (instr.Store k o)) a (v ∷ (p ∷ vs)) ws = refl
  act_none (Some (instr.StoreLocal k offset)) a [] ws = refl
  act_none (Some (instr.StoreLocal k offset)) a (v ∷ vs) ws = refl
  act_none (Some (instr.StoreStep k by old o)) a [] ws = refl
  act_none (Some (instr.StoreStep k by old o)) a (p ∷ []) ws = refl
  act_none (Some (instr.StoreStep k by old o)) a (v ∷ (p ∷ vs)) ws = refl
  act_none (Some (instr.Change how)) a [] ws = refl
  act_none (Some (instr.Change how)) a (v ∷ vs) ws = refl
  act_none (Some (instr.Combine how)) a [] ws = refl
  act_none (Some (instr.Combine how)) a (y ∷ []) ws = refl
  act_none (Some (instr.Combine how)) a (y ∷ (x ∷ vs)) ws = combine_none (combined how x y) a vs ws
  act_none (Some (instr.EndIfZero n)) a [] ws = refl
  act_none (Some (instr.EndIfZero n)) a (zero ∷ vs) ws = refl
  act_none (Some (instr.EndIfZero n)) a (suc v ∷ vs) ws = refl
  act_none (Some (instr.EndUnlessZero n)) a [] ws = refl
  act_none (Some (instr.EndUnlessZero n)) a (zero ∷ vs) ws = refl
  act_none (Some (instr.EndUnlessZero n)) a (suc v ∷ vs) ws = refl
  act_none (Some (instr.SkipIfZero n)) a [] ws = refl
  act_none (Some (instr.SkipIfZero n)) a (zero ∷ vs) ws = refl
  act_none (Some (instr.SkipIfZero n)) a (suc v ∷ vs) ws = refl
  act_none (Some (instr.GoOn n)) a vs ws = refl
  act_none (Some instr.Turn) a vs ws = refl
  act_none (Some (instr.GoBack n)) a vs ws = refl
  act_none (Some (instr.Call f n)) a vs ws = call_none f a vs ws (take_args n [] vs)
  act_none (Some (instr.CallPointer sig n)) a vs ws = pointer_none sig a vs ws (take_args n [] vs)
  act_none (Some instr.Drop) a [] ws = refl
  act_none (Some instr.Drop) a (v ∷ vs) ws = refl
  act_none (Some instr.Finish) a [] ws = refl
  act_none (Some instr.Finish) a (v ∷ vs) ws = refl
  act_none None a vs ws = refl

  called_none : (p : Pending) (side : Side) (face indirect : Bool) (e : Option ℕ) → p.call.indirect ≡ indirect → next_up (called l p side face e) ≡ false
  called_none p Replay true i e z = refl
  called_none p Replay false i (Some at) z = refl
  called_none p Replay false i None z = refl
  called_none p System true true (Some at) z = ap (λ b. next_up (called l (record p { call = record p.call { indirect = b } }) System true (Some at))) z ∙ refl
  called_none p System true false (Some at) z = ap (λ b. next_up (called l (record p { call = record p.call { indirect = b } }) System true (Some at))) z ∙ refl
  called_none p System true i None z = refl
  called_none p System false true (Some at) z = ap (λ b. next_up (called l (record p { call = record p.call { indirect = b } }) System false (Some at))) z ∙ refl
  called_none p System false false (Some at) z = ap (λ b. next_up (called l (record p { call = record p.call { indirect = b } }) System false (Some at))) z ∙ refl
  called_none p System false i None z = refl

  below_none : (p : Pending) (e : Option ℕ) → next_up (below Split l p e) ≡ false
  below_none p (Some at) = refl
  below_none p None = refl

  started_none : (f : ℕ) (args : List ℕ) (e : Option ℕ) → next_up (started l f args e) ≡ false
  started_none f args (Some at) = refl
  started_none f args None = refl

  next_none : (n : Action) → asks_up n ≡ false → next_up (next_of Split l n) ≡ false
  next_none (Silent d) e = refl
  next_none (Asks d want k) e = e
  next_none (Pends p) e = called_none p p.call.then.side (is_face l p.call.func) p.call.indirect (entry l p.call.func) refl
  next_none (Awaits p) e = below_none p (entry l p.call.func)
  next_none (Starts f args) e = started_none f args (entry l f)
  next_none (Over v) e = refl
  next_none Stuck e = refl

  under_none : (call : Call) (ws : List Waiting) (o : Option (List ℕ × List ℕ)) (vs : List ℕ) → asks_up (with_args o (awaiting call vs ws)) ≡ false
  under_none call ws None vs = refl
  under_none call ws (Some taken) vs = refl

  return_none : (v : ℕ) (call : Call) (ws : List Waiting) (o : Option (List ℕ × List ℕ)) → asks_up (with_args o (returning v call ws)) ≡ false
  return_none v call ws None = refl
  return_none v call ws (Some taken) = refl

-- ---- what is open

module _ (height : ℕ → ℕ) where
  abbrev ups : List Waiting → List ℕ → List ℕ
  ups ws vs = (opens_waiting height ws vs).ups

  abbrev above : List Waiting → List ℕ → List Range
  above ws vs = (opens_waiting height ws vs).above

  -- below code above the cut a call back is open
  some_up : (ws : List Waiting) (vs : List ℕ) → Waits Replay ws → is_last (ups ws vs) ≡ false
  some_up [] vs h = absurd h
  some_up (ForValue a ∷ ws) vs h = some_up ws _ h.1
  some_up (ForRet call ∷ ws) vs h = absurd h
  some_up (ForUpRet a g ∷ ws) vs h = refl
  some_up (ForBelow call g ∷ ws) vs h = absurd h
  some_up (ForOutside g ∷ ws) vs h = refl

  -- below code below it one is open where there are frames above it
  up_has_frame : (ws : List Waiting) (vs : List ℕ) → Waits System ws → is_last (ups ws vs) ≡ no_ranges (above ws vs)
  up_has_frame [] vs h = refl
  up_has_frame (ForValue a ∷ ws) vs h = up_has_frame ws _ h.1 ∙ ap (λ d. no_ranges (in_function (record a { side = d }) (opens_waiting height ws (drop (height a.at - 1) vs))).above) (sym h.0)
  up_has_frame (ForRet call ∷ ws) vs h = some_up ws _ h.1 ∙ ap (λ d. no_ranges (in_function (record call.then { side = d }) (opens_waiting height ws (drop (height call.then.at - 1 + held_by call) vs))).above) (sym h.0)
  up_has_frame (ForUpRet a g ∷ ws) vs h = absurd h
  up_has_frame (ForBelow call g ∷ ws) vs h = absurd h
  up_has_frame (ForOutside g ∷ ws) vs h = absurd h

  abbrev pub EndsOuter : Config → Type 0
  EndsOuter (Going a vs ws) = Unit {0}
  EndsOuter (Under call vs ws) = Unit {0}
  EndsOuter (Entering side i f args vs ws) = Unit {0}
  EndsOuter (Closing v (ForValue a) vs ws) = Unit {0}
  EndsOuter (Closing v (ForRet call) vs ws) = Unit {0}
  EndsOuter (Closing v (ForUpRet a g) vs ws) = Unit {0}
  EndsOuter (Closing v (ForBelow call g) vs ws) = Unit {0}
  EndsOuter (Closing v (ForOutside g) vs ws) = ws ≡ []
  EndsOuter (Starting f args) = Unit {0}
  EndsOuter (Done v) = Unit {0}
  EndsOuter Lost = Unit {0}

  pub last_up : (l : Laid) (c : Config) → HasSides c → EndsOuter c → next_up (step Split l c) ≡ true → is_last (tail (opens_in height c).ups) ≡ no_ranges (opens_in height c).above
  last_up l (Going a vs ws) h o e = absurd (true≢false (sym e ∙ next_none l (act l (slice_get l.code.instrs a.at) a vs ws) (act_none l (slice_get l.code.instrs a.at) a vs ws)))
  last_up l (Under call vs ws) h o e = absurd (true≢false (sym e ∙ next_none l _ (under_none l call ws (take_args call.args [] vs) vs)))
  last_up l (Entering side i f args vs ws) h o e = absurd (true≢false (sym e))
  last_up l (Closing v (ForValue a) vs ws) h o e = absurd h
  last_up l (Closing v (ForRet call) vs ws) h o e = absurd (true≢false (sym e ∙ next_none l _ (return_none l v call ws (take_args call.args [] vs))))
  last_up l (Closing v (ForUpRet a g) vs ws) h o e = up_has_frame ws _ h.1 ∙ ap (λ d. no_ranges (in_function (record a { side = d }) (opens_waiting height ws (drop (height a.at - 1) vs))).above) (sym h.0)
  last_up l (Closing v (ForBelow call g) vs ws) h o e = absurd h
  last_up l (Closing v (ForOutside g) vs ws) h o e = ap (λ xs. is_last (opens_waiting height xs vs).ups) o ∙ ap (λ xs. no_ranges (opens_waiting height xs vs).above) (sym o)
  last_up l (Starting (Some f) args) h o e = absurd (true≢false (sym e ∙ next_none l (Starts f args) refl))
  last_up l (Starting None args) h o e = absurd (true≢false (sym e))
  last_up l (Done v) h o e = absurd (true≢false (sym e))
  last_up l Lost h o e = absurd (true≢false (sym e))
