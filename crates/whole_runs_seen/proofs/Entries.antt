-- Below a call of the interface by its own code, what returns is a function with a body.
use Rattle.std.proofs.Common.{◌≡◌, ℕ, zero, suc, Bool, true, false, cond, ◌&&◌, List, [], ◌∷◌, Option, Some, None, Result, Ok, Err, refl, sym, ap, subst}
use Rattle.std.specs.Prelude.{slice_get}
use Rattle.marks.specs.declared.side.Side.{Side}
use Rattle.marks.specs.declared.side.Side.TheVariants.{Replay, System}
use Rattle.marks.specs.declared.fault.FaultKind.{FaultKind}
use Rattle.marks.specs.Marks.{Mark}
use Rattle.marks.specs.Wants.{Want, Outside, Turns, Loads, Stores, Enters, Leaves, Allocs, Frees, Calls, Below, Gives, Returns, CallsBack, UpReturns, Steps, Fails, Answer, Go, Value, Frame, CalledBack, Stopped}
use Rattle.c_code.specs.declared.shape.Shape.{Shape}
use Rattle.c_code.specs.declared.shape.Shape.TheVariants.{Pointer}
use Rattle.c_code.specs.declared.code.FuncInfo.{FuncInfo}
use Rattle.c_code.specs.declared.instr.Instr.{Instr}
use Rattle.c_code.specs.declared.instr.Instr.TheVariants as instr
use Rattle.c_code.specs.declared.activation.Activation.{Activation}
use Rattle.c_code.specs.declared.activation.Call.{Call}
use Rattle.c_code.specs.declared.activation.Waiting.{Waiting}
use Rattle.c_code.specs.declared.activation.Waiting.TheVariants.{ForValue, ForRet, ForUpRet, ForBelow, ForOutside}
use Rattle.c_code.specs.Values.{combined, is_value}
use Rattle.c_code.specs.Machine.{Laid, Pending, Config, Going, Under, Entering, Closing, Starting, Done, Lost, Action, Silent, Asks, Pends, Awaits, Starts, Over, Stuck, func_of, entry, is_face, entry_of, take_args, with_args, combine, is_pool, pool_act, pending, call_act, pointer_act, to_callee, callee, act, returning, awaiting, action, valued, loaded, give, begin, framed, next}
use Rattle.c_code.specs.MarkLists.{Split, Next, Quiet, Wants, Ends, No, has_entry, takes_values, called_back, after_call_back, after_start, stepped, entered, entered_below, called, below, ended, started, next_of, step, or_stay, settle, room, moved, move, reply, state, result_of}
use Rattle.whole_runs_seen.specs.Suits.{Suits, IsNumber, IsOfType, IsFrame, IsFrameOrBack}

module _ (l : Laid) where
  -- each call whose return is waited for is of a function with a body
  abbrev pub HaveBodies : List Waiting → Type 0
  HaveBodies [] = Unit {0}
  HaveBodies (ForValue a ∷ ws) = HaveBodies ws
  HaveBodies (ForRet call ∷ ws) = (has_entry (entry l call.func) ≡ true) × HaveBodies ws
  HaveBodies (ForUpRet a g ∷ ws) = HaveBodies ws
  HaveBodies (ForBelow call g ∷ ws) = HaveBodies ws
  HaveBodies (ForOutside g ∷ ws) = HaveBodies ws

  abbrev pub Stands : Config → Type 0
  Stands (Going a vs ws) = HaveBodies ws
  Stands (Under call vs ws) = HaveBodies ws
  Stands (Entering side i f args vs ws) = (has_entry (entry l f) ≡ true) × HaveBodies ws
  Stands (Closing v w vs ws) = HaveBodies (w ∷ ws)
  Stands (Starting f args) = Unit {0}
  Stands (Done v) = Unit {0}
  Stands Lost = Unit {0}

  -- what the thread's own code wants: what crosses the cut by events stands above it, indirect calls that may call back stand below it,
  -- and what returns has a body
  abbrev pub IsOwn : Side → Want → Type 0
  IsOwn side Outside = ⊥
  IsOwn side Turns = Unit {0}
  IsOwn side (Loads o at n) = Unit {0}
  IsOwn side (Stores o at bytes) = Unit {0}
  IsOwn side (Enters i f args bytes) = Unit {0}
  IsOwn side (Leaves at n) = Unit {0}
  IsOwn side (Allocs n) = side ≡ Replay
  IsOwn side (Frees at) = side ≡ Replay
  IsOwn side (Calls i f args) = side ≡ Replay
  IsOwn side (Below f args) = ⊥
  IsOwn side (Gives f args) = side ≡ Replay
  IsOwn side (Returns f args v) = (side ≡ Replay) × (has_entry (entry l f) ≡ true)
  IsOwn side (CallsBack f args bytes) = side ≡ System
  IsOwn side (UpReturns f v) = side ≡ Replay
  IsOwn side (Steps i f args) = Unit {0}
  IsOwn side (Fails kind) = Unit {0}

  -- it is somewhere
  abbrev pub IsThere : Config → Type 0
  IsThere (Going a vs ws) = Unit {0}
  IsThere (Under call vs ws) = Unit {0}
  IsThere (Entering side i f args vs ws) = Unit {0}
  IsThere (Closing v w vs ws) = Unit {0}
  IsThere (Starting f args) = Unit {0}
  IsThere (Done v) = Unit {0}
  IsThere Lost = ⊥

  abbrev pub Acts : Action → Type 0
  Acts (Silent d) = Stands d
  Acts (Asks side want k) = IsOwn side want × ((x : Answer) → Stands (k x)) × ((x : Answer) → Suits l want x → IsThere (k x))
  Acts (Pends p) = HaveBodies p.waits
  Acts (Awaits p) = HaveBodies p.waits
  Acts (Starts f args) = Unit {0}
  Acts (Over v) = Unit {0}
  Acts Stuck = Unit {0}

  -- ---- where answers lead

  give_stands : (v : ℕ) (ws : List Waiting) (values : List ℕ) → HaveBodies ws → Stands (give v ws values)
  give_stands v [] values h = tt
  give_stands v (ForValue a ∷ ws) values h = h
  give_stands v (ForRet call ∷ ws) values h = h
  give_stands v (ForUpRet a g ∷ ws) values h = h
  give_stands v (ForBelow call g ∷ ws) values h = h
  give_stands v (ForOutside g ∷ ws) values h = h

  if_stands : (b : Bool) (c : Config) → Stands c → Stands (cond b c Lost)
  if_stands true c h = h
  if_stands false c h = tt

  valued_stands : (shape : Shape) (a : Activation) (values : List ℕ) (ws : List Waiting) → HaveBodies ws → (x : Answer) → Stands (valued shape a values ws x)
  valued_stands shape a values ws h Go = tt
  valued_stands shape a values ws h (Value v) = if_stands (is_value shape v) (Going a (v ∷ values) ws) h
  valued_stands shape a values ws h (Frame at) = tt
  valued_stands shape a values ws h (CalledBack g args) = tt
  valued_stands shape a values ws h Stopped = tt

  loaded_stands : (a : Activation) (values : ℕ → List ℕ) (ws : List Waiting) → HaveBodies ws → (x : Answer) → Stands (loaded a values ws x)
  loaded_stands a values ws h Go = tt
  loaded_stands a values ws h (Value v) = h
  loaded_stands a values ws h (Frame at) = tt
  loaded_stands a values ws h (CalledBack g args) = tt
  loaded_stands a values ws h Stopped = tt

  begin_stands : (side : Side) (base : ℕ) (f : Option FuncInfo) (at : Option ℕ) (values : List ℕ) (ws : List Waiting) → HaveBodies ws → Stands (begin side base f at values ws)
  begin_stands side base (Some f) (Some at) values ws h = h
  begin_stands side base (Some f) None values ws h = tt
  begin_stands side base None (Some at) values ws h = tt
  begin_stands side base None None values ws h = tt

  framed_stands : (side : Side) (f : ℕ) (values : List ℕ) (ws : List Waiting) → HaveBodies ws → (x : Answer) → Stands (framed l side f values ws x)
  framed_stands side f values ws h Go = tt
  framed_stands side f values ws h (Value v) = tt
  framed_stands side f values ws h (Frame base) = if_stands (is_value Pointer base) _ (begin_stands side base (func_of l.code f) (entry l f) values ws h)
  framed_stands side f values ws h (CalledBack g args) = tt
  framed_stands side f values ws h Stopped = tt

  back_stands : (g : ℕ) (args values : List ℕ) (ws : List Waiting) → HaveBodies ws → Stands (called_back l g args values ws)
  back_stands g args values ws h = by (has_entry (entry l g)) refl (takes_values (func_of l.code g) args)
    where
      by : (b : Bool) → has_entry (entry l g) ≡ b → (c : Bool) → Stands (cond (b && c) (Entering Replay false g args values ws) Lost)
      by true e true = (e, h)
      by true e false = tt
      by false e c = tt

  ended_stands : (shape : Shape) (x : Answer) → Stands (ended shape x)
  ended_stands shape Go = tt
  ended_stands shape (Value v) = if_stands (is_value shape v) (Done v) tt
  ended_stands shape (Frame at) = tt
  ended_stands shape (CalledBack g args) = tt
  ended_stands shape Stopped = tt

  -- ---- answers that suit lead somewhere

  give_there : (v : ℕ) (ws : List Waiting) (values : List ℕ) → IsThere (give v ws values)
  give_there v [] values = tt
  give_there v (ForValue a ∷ ws) values = tt
  give_there v (ForRet call ∷ ws) values = tt
  give_there v (ForUpRet a g ∷ ws) values = tt
  give_there v (ForBelow call g ∷ ws) values = tt
  give_there v (ForOutside g ∷ ws) values = tt

  valued_there : (shape : Shape) (a : Activation) (values : List ℕ) (ws : List Waiting) (x : Answer) → IsOfType shape x → IsThere (valued shape a values ws x)
  valued_there shape a values ws (Value v) h = subst (λ b. IsThere (cond b (Going a (v ∷ values) ws) Lost)) (sym h) tt
  valued_there shape a values ws Go h = h
  valued_there shape a values ws (Frame at) h = h
  valued_there shape a values ws (CalledBack g args) h = h
  valued_there shape a values ws Stopped h = h

  loaded_there : (a : Activation) (values : ℕ → List ℕ) (ws : List Waiting) (x : Answer) → IsNumber x → IsThere (loaded a values ws x)
  loaded_there a values ws (Value v) h = tt
  loaded_there a values ws Go h = h
  loaded_there a values ws (Frame at) h = h
  loaded_there a values ws (CalledBack g args) h = h
  loaded_there a values ws Stopped h = h

  begin_there : (side : Side) (base : ℕ) (f : Option FuncInfo) (at : Option ℕ) (values : List ℕ) (ws : List Waiting) → entry_of f ≡ at → has_entry at ≡ true → IsThere (begin side base f at values ws)
  begin_there side base (Some f) (Some at) values ws e h = tt
  begin_there side base None (Some at) values ws e h = absurd cc
  begin_there side base (Some f) None values ws e h = absurd cc
  begin_there side base None None values ws e h = absurd cc

  at_there : (side : Side) (f : ℕ) (values : List ℕ) (ws : List Waiting) (base : ℕ) → has_entry (entry l f) ≡ true → is_value Pointer base ≡ true → IsThere (framed l side f values ws (Frame base))
  at_there side f values ws base body h =
      subst (λ b. IsThere (cond b (begin side base (func_of l.code f) (entry l f) values ws) Lost)) (sym h) (begin_there side base (func_of l.code f) (entry l f) values ws refl body)

  framed_there : (side : Side) (f : ℕ) (values : List ℕ) (ws : List Waiting) → has_entry (entry l f) ≡ true → (x : Answer) → IsFrame x → IsThere (framed l side f values ws x)
  framed_there side f values ws body (Frame base) h = at_there side f values ws base body h
  framed_there side f values ws body Go h = h
  framed_there side f values ws body (Value v) h = h
  framed_there side f values ws body (CalledBack g args) h = h
  framed_there side f values ws body Stopped h = h

  back_there : (g : ℕ) (args values : List ℕ) (ws : List Waiting) → has_entry (entry l g) ≡ true → takes_values (func_of l.code g) args ≡ true → IsThere (called_back l g args values ws)
  back_there g args values ws body takes =
      subst (λ b. IsThere (cond (b && takes_values (func_of l.code g) args) (Entering Replay false g args values ws) Lost)) (sym body)
      (subst (λ b. IsThere (cond (true && b) (Entering Replay false g args values ws) Lost)) (sym takes) tt)

  ended_there : (shape : Shape) (x : Answer) → IsOfType shape x → IsThere (ended shape x)
  ended_there shape (Value v) h = subst (λ b. IsThere (cond b (Done v) Lost)) (sym h) tt
  ended_there shape Go h = h
  ended_there shape (Frame at) h = h
  ended_there shape (CalledBack g args) h = h
  ended_there shape Stopped h = h

  -- ---- instructions

  combine_acts : (o : Result ℕ FaultKind) (a : Activation) (values : List ℕ) (ws : List Waiting) → HaveBodies ws → Acts (combine o a values ws)
  combine_acts (Ok v) a values ws h = h
  combine_acts (Err kind) a values ws h = (tt, λ x. tt, λ x s. s)

  pool_acts : (f : ℕ) (a : Activation) (args rest : List ℕ) (ws : List Waiting) → HaveBodies ws → Acts (pool_act f a args rest ws)
  pool_acts zero a args rest ws h = (refl, valued_stands Pointer (next a) rest ws h, valued_there Pointer (next a) rest ws)
  pool_acts (suc f) a args rest ws h = (refl, λ x. h, λ x s. tt)

  call_acts : (f : ℕ) (a : Activation) (values : List ℕ) (ws : List Waiting) (o : Option (List ℕ × List ℕ)) → HaveBodies ws → Acts (with_args o (call_act f a values ws))
  call_acts f a values ws None h = tt
  call_acts f a values ws (Some (args, rest)) h = by (is_pool a.side f)
    where
      by : (t : Bool) → Acts (cond t (pool_act f a args rest ws) (Pends (pending f false a args values rest ws)))
      by true = pool_acts f a args rest ws h
      by false = h

  callee_acts : (o : Option ℕ) (a : Activation) (args values rest : List ℕ) (ws : List Waiting) → HaveBodies ws → Acts (to_callee o a args values rest ws)
  callee_acts None a args values rest ws h = (tt, λ x. tt, λ x s. s)
  callee_acts (Some f) a args values rest ws h = h

  pointer_acts : (sig : ℕ) (a : Activation) (values : List ℕ) (ws : List Waiting) (o : Option (List ℕ × List ℕ)) → HaveBodies ws → Acts (with_args o (pointer_act l sig a values ws))
  pointer_acts sig a values ws None h = tt
  pointer_acts sig a values ws (Some (args, [])) h = tt
  pointer_acts sig a values ws (Some (args, address ∷ rest)) h = callee_acts (callee l sig address) a args values rest ws h

  act_acts : (i : Option Instr) (a : Activation) (values : List ℕ) (ws : List Waiting) → HaveBodies ws → Acts (act l i a values ws)
  act_acts (Some (instr.Push what)) a values ws h = h
  act_acts (Some (instr.Load k o)) a [] ws h = tt
  act_acts (Some (instr.Load k o)) a (p ∷ values) ws h = (tt, loaded_stands (next a) _ ws h, loaded_there (next a) _ ws)
  act_acts (Some (instr.LoadKeep k o)) a [] ws h = tt
  act_acts (Some (instr.LoadKeep k o)) a (p ∷ values) ws h = (tt, loaded_stands (next a) _ ws h, loaded_there (next a) _ ws)
  act_acts (Some (instr.Store k o)) a [] ws h = tt
  act_acts (Some (instr.Store k o)) a (p ∷ []) ws h = tt
  act_acts (Some (instr.Store k o)) a (v ∷ (p ∷ values)) ws h = (tt, λ x. h, λ x s. tt)
  act_acts (Some (instr.StoreLocal k offset)) a [] ws h = tt
  act_acts (Some (instr.StoreLocal k offset)) a (v ∷ values) ws h = (tt, λ x. h, λ x s. tt)
  act_acts (Some (instr.StoreStep k by old o)) a [] ws h = tt
  act_acts (Some (instr.StoreStep k by old o)) a (p ∷ []) ws h = tt
  act_acts (Some (instr.StoreStep k by old o)) a (v ∷ (p ∷ values)) ws h = (tt, λ x. h, λ x s. tt)
  act_acts (Some (instr.Change how)) a [] ws h = tt
  act_acts (Some (instr.Change how)) a (v ∷ values) ws h = h
  act_acts (Some (instr.Combine how)) a [] ws h = tt
  act_acts (Some (instr.Combine how)) a (y ∷ []) ws h = tt
  act_acts (Some (instr.Combine how)) a (y ∷ (x ∷ values)) ws h = combine_acts (combined how x y) a values ws h
  act_acts (Some (instr.EndIfZero n)) a [] ws h = tt
  act_acts (Some (instr.EndIfZero n)) a (zero ∷ values) ws h = h
  act_acts (Some (instr.EndIfZero n)) a (suc v ∷ values) ws h = h
  act_acts (Some (instr.EndUnlessZero n)) a [] ws h = tt
  act_acts (Some (instr.EndUnlessZero n)) a (zero ∷ values) ws h = h
  act_acts (Some (instr.EndUnlessZero n)) a (suc v ∷ values) ws h = h
  act_acts (Some (instr.SkipIfZero n)) a [] ws h = tt
  act_acts (Some (instr.SkipIfZero n)) a (zero ∷ values) ws h = h
  act_acts (Some (instr.SkipIfZero n)) a (suc v ∷ values) ws h = h
  act_acts (Some (instr.GoOn n)) a values ws h = h
  act_acts (Some instr.Turn) a values ws h = (tt, λ x. h, λ x s. tt)
  act_acts (Some (instr.GoBack n)) a values ws h = (tt, λ x. h, λ x s. tt)
  act_acts (Some (instr.Call f n)) a values ws h = call_acts f a values ws (take_args n [] values) h
  act_acts (Some (instr.CallPointer sig n)) a values ws h = pointer_acts sig a values ws (take_args n [] values) h
  act_acts (Some instr.Drop) a [] ws h = tt
  act_acts (Some instr.Drop) a (v ∷ values) ws h = h
  act_acts (Some instr.Finish) a [] ws h = tt
  act_acts (Some instr.Finish) a (v ∷ values) ws h = (tt, λ x. give_stands v ws values h, λ x s. give_there v ws values)
  act_acts None a values ws h = tt

  under_acts : (call : Call) (values : List ℕ) (ws : List Waiting) (o : Option (List ℕ × List ℕ)) → HaveBodies ws → Acts (with_args o (awaiting call values ws))
  under_acts call values ws None h = tt
  under_acts call values ws (Some taken) h = h

  return_acts : (v : ℕ) (call : Call) (ws : List Waiting) (o : Option (List ℕ × List ℕ)) → has_entry (entry l call.func) ≡ true → HaveBodies ws → Acts (with_args o (returning v call ws))
  return_acts v call ws None e h = tt
  return_acts v call ws (Some taken) e h = ((refl, e), λ x. h, λ x s. tt)

  action_acts : (c : Config) → Stands c → Acts (action l c)
  action_acts (Going a values ws) h = act_acts (slice_get l.code.instrs a.at) a values ws h
  action_acts (Under call values ws) h = under_acts call values ws (take_args call.args [] values) h
  action_acts (Entering s i f args values ws) h = (tt, framed_stands s f values ws h.1, framed_there s f values ws h.0)
  action_acts (Closing v (ForValue a) values ws) h = tt
  action_acts (Closing v (ForRet call) values ws) h = return_acts v call ws (take_args call.args [] values) h.0 h.1
  action_acts (Closing v (ForUpRet a g) values ws) h = (refl, λ x. h, λ x s. tt)
  action_acts (Closing v (ForBelow call g) values ws) h = (refl, λ x. h, λ x s. tt)
  action_acts (Closing v (ForOutside g) values ws) h = (refl, λ x. tt, λ x s. tt)
  action_acts (Starting None args) h = (tt, λ x. tt, λ x s. s)
  action_acts (Starting (Some f) args) h = tt
  action_acts (Done v) h = tt
  action_acts Lost h = tt

  -- ---- steps

  abbrev pub StepsOn : Next → Type 0
  StepsOn (Quiet d) = Stands d
  StepsOn (Wants side want k) = IsOwn side want × ((x : Answer) → Stands (k x)) × ((x : Answer) → Suits l want x → IsThere (k x))
  StepsOn (Ends v) = Unit {0}
  StepsOn No = Unit {0}

  after_call_back_stands : (p : Pending) → HaveBodies p.waits → (x : Answer) → Stands (after_call_back l p x)
  after_call_back_stands p h Go = tt
  after_call_back_stands p h (Value v) = tt
  after_call_back_stands p h (Frame at) = framed_stands System p.call.func p.rest (ForValue p.call.then ∷ p.waits) h (Frame at)
  after_call_back_stands p h (CalledBack g args) = back_stands p.call.func p.args p.rest (ForUpRet p.call.then p.call.func ∷ p.waits) h
  after_call_back_stands p h Stopped = tt

  stepped_on : (p : Pending) → HaveBodies p.waits → StepsOn (stepped l p)
  stepped_on p h = (tt, valued_stands (result_of l p.call.func) p.call.then p.rest p.waits h, valued_there (result_of l p.call.func) p.call.then p.rest p.waits)

  entered_on : (p : Pending) → has_entry (entry l p.call.func) ≡ true → HaveBodies p.waits → StepsOn (entered l p)
  entered_on p body h =
      (tt, framed_stands p.call.then.side p.call.func p.rest (ForValue p.call.then ∷ p.waits) h, framed_there p.call.then.side p.call.func p.rest (ForValue p.call.then ∷ p.waits) body)

  after_call_back_there : (p : Pending) → has_entry (entry l p.call.func) ≡ true → (x : Answer) → IsFrameOrBack l p.call.func p.args x → IsThere (after_call_back l p x)
  after_call_back_there p body (Frame at) h = at_there System p.call.func p.rest (ForValue p.call.then ∷ p.waits) at body h
  after_call_back_there p body (CalledBack g args) h = back_there p.call.func p.args p.rest (ForUpRet p.call.then p.call.func ∷ p.waits) body h
  after_call_back_there p body Go h = h
  after_call_back_there p body (Value v) h = h
  after_call_back_there p body Stopped h = h

  entered_below_on : (p : Pending) (i : Bool) → has_entry (entry l p.call.func) ≡ true → HaveBodies p.waits → StepsOn (entered_below l p i)
  entered_below_on p false body h = entered_on p body h
  entered_below_on p true body h = (refl, after_call_back_stands p h, after_call_back_there p body)

  called_on : (p : Pending) (side : Side) (face : Bool) (e : Option ℕ) → entry l p.call.func ≡ e → HaveBodies p.waits → StepsOn (called l p side face e)
  called_on p Replay true e z h = (refl, λ x. h, λ x s. tt)
  called_on p Replay false (Some at) z h = entered_on p (ap has_entry z) h
  called_on p Replay false None z h = stepped_on p h
  called_on p System face (Some at) z h = entered_below_on p p.call.indirect (ap has_entry z) h
  called_on p System face None z h = stepped_on p h

  below_on : (p : Pending) (e : Option ℕ) → entry l p.call.func ≡ e → HaveBodies p.waits → StepsOn (below Split l p e)
  below_on p (Some at) z h =
      (tt, framed_stands System p.call.func p.values (ForRet p.call ∷ p.waits) (ap has_entry z, h), framed_there System p.call.func p.values (ForRet p.call ∷ p.waits) (ap has_entry z))
  below_on p None z h = (refl, valued_stands (result_of l p.call.func) p.call.then p.rest p.waits h, valued_there (result_of l p.call.func) p.call.then p.rest p.waits)

  after_start_stands : (f : ℕ) (args : List ℕ) (x : Answer) → Stands (after_start l f args x)
  after_start_stands f args Go = tt
  after_start_stands f args (Value v) = tt
  after_start_stands f args (Frame at) = framed_stands System f [] [] tt (Frame at)
  after_start_stands f args (CalledBack g bs) = back_stands f args [] (ForOutside f ∷ []) tt
  after_start_stands f args Stopped = tt

  after_start_there : (f : ℕ) (args : List ℕ) → has_entry (entry l f) ≡ true → (x : Answer) → IsFrameOrBack l f args x → IsThere (after_start l f args x)
  after_start_there f args body (Frame at) h = at_there System f [] [] at body h
  after_start_there f args body (CalledBack g bs) h = back_there f args [] (ForOutside f ∷ []) body h
  after_start_there f args body Go h = h
  after_start_there f args body (Value v) h = h
  after_start_there f args body Stopped h = h

  started_on : (f : ℕ) (args : List ℕ) (e : Option ℕ) → entry l f ≡ e → StepsOn (started l f args e)
  started_on f args (Some at) z = (refl, after_start_stands f args, after_start_there f args (ap has_entry z))
  started_on f args None z = (tt, ended_stands (result_of l f), ended_there (result_of l f))

  next_on : (a : Action) → Acts a → StepsOn (next_of Split l a)
  next_on (Silent d) h = h
  next_on (Asks side want k) h = h
  next_on (Pends p) h = called_on p p.call.then.side (is_face l p.call.func) (entry l p.call.func) refl h
  next_on (Awaits p) h = below_on p (entry l p.call.func) refl h
  next_on (Starts f args) h = started_on f args (entry l f) refl
  next_on (Over v) h = tt
  next_on Stuck h = tt

  pub step_on : (c : Config) → Stands c → StepsOn (step Split l c)
  step_on c h = next_on (action l c) (action_acts c h)

  -- ---- marks

  settle_stands : (n : ℕ) (c : Config) → Stands c → Stands (settle n l c)
  settle_stands zero c h = h
  settle_stands (suc n) c h = each (action l c) (action_acts c h) (λ d k. settle_stands n d k)
    where
      each : (a : Action) → Acts a → ((d : Config) → Stands d → Stands (settle n l d)) → Stands (or_stay a (settle n l) c)
      each (Silent d) k go = go d k
      each (Asks side want to) k go = h
      each (Pends p) k go = h
      each (Awaits p) k go = h
      each (Starts f args) k go = h
      each (Over v) k go = h
      each Stuck k go = h

  moved_stands : (o : Option Answer) (to : Answer → Config) (c : Config) → Stands c → ((x : Answer) → Stands (to x)) → Stands (moved o to c)
  moved_stands None to c h k = h
  moved_stands (Some Go) to c h k = k Go
  moved_stands (Some (Value v)) to c h k = k (Value v)
  moved_stands (Some (Frame at)) to c h k = k (Frame at)
  moved_stands (Some (CalledBack g args)) to c h k = k (CalledBack g args)
  moved_stands (Some Stopped) to c h k = h

  move_stands : (n : Next) (m : Mark) (c : Config) → Stands c → StepsOn n → Stands (move n m c)
  move_stands (Quiet d) m c h k = h
  move_stands (Wants side want to) m c h k = moved_stands (reply side want m) to c h k.1
  move_stands (Ends v) m c h k = h
  move_stands No m c h k = h

  pub state_stands : (c : Config) → Stands c → (past : List Mark) → Stands (state Split l c past)
  state_stands c h [] = settle_stands (suc (room l c)) c h
  state_stands c h (m ∷ past) =
      let now : Config = state Split l c past in
      let k = state_stands c h past in
      let d : Config = move (step Split l now) m now in
      settle_stands (suc (room l d)) d (move_stands (step Split l now) m now k (step_on now k))

  pub wants_are_own : (c : Config) → Stands c → (past : List Mark) (side : Side) (want : Want) (to : Answer → Config) → step Split l (state Split l c past) ≡ Wants side want to → IsOwn side want
  wants_are_own c h past side want to e = (subst StepsOn e (step_on (state Split l c past) (state_stands c h past))).0
