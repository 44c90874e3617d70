-- On which side of the cut the code of a thread stands, and what waits below it.
use Rattle.std.proofs.Common.{◌≡◌, ℕ, zero, suc, Bool, true, false, cond, List, [], ◌∷◌, Option, Some, None, Result, Ok, Err, refl, sym, subst}
use Rattle.std.specs.Prelude.{slice_get}
use Rattle.marks.specs.declared.side.Side.{Side}
use Rattle.marks.specs.declared.side.Side.TheVariants.{Replay, System}
use Rattle.marks.specs.declared.fault.FaultKind.{FaultKind}
use Rattle.marks.specs.declared.fault.FaultKind.TheVariants.{BadCall}
use Rattle.marks.specs.Wants.{Answer, Go, Value, Frame, CalledBack, Stopped, Fails, is_above}
use Rattle.c_code.specs.declared.shape.Shape.{Shape}
use Rattle.c_code.specs.declared.shape.Shape.TheVariants.{Pointer}
use Rattle.c_code.specs.declared.code.FuncInfo.{FuncInfo}
use Rattle.c_code.specs.declared.instr.Instr.{Instr}
use Rattle.c_code.specs.declared.instr.Instr.TheVariants as instr
use Rattle.c_code.specs.declared.activation.Activation.{Activation}
use Rattle.c_code.specs.declared.activation.Call.{Call}
use Rattle.c_code.specs.declared.activation.Waiting.{Waiting}
use Rattle.c_code.specs.declared.activation.Waiting.TheVariants.{ForValue, ForRet, ForUpRet, ForBelow, ForOutside}
use Rattle.c_code.specs.Values.{combined, is_value}
use Rattle.c_code.specs.Machine.{Laid, Pending, Config, Going, Under, Entering, Closing, Starting, Done, Lost, Action, Silent, Asks, Pends, Awaits, Starts, Over, Stuck, func_of, entry, is_face, take_args, with_args, combine, is_pool, pool_act, pending, call_act, pointer_act, to_callee, callee, act, returning, awaiting, valued, loaded, give, begin, framed, next}
use Rattle.c_code.specs.MarkLists.{Split, Next, Quiet, Wants, Ends, No, called_back, after_call_back, after_start, stepped, entered, entered_below, called, below, ended, started, next_of, step, result_of}
use Rattle.c_code.proofs.Sides.{IsPlain}

-- what waits below code of a side: code of the same side for a value, and code of the other side where the cut was crossed; nothing waits
-- below a thread's first code, which stands below the cut
abbrev pub Waits : Side → List Waiting → Type 0
Waits Replay [] = ⊥
Waits System [] = Unit {0}
Waits Replay (ForValue a ∷ ws) = (a.side ≡ Replay) × Waits Replay ws
Waits System (ForValue a ∷ ws) = (a.side ≡ System) × Waits System ws
Waits Replay (ForRet call ∷ ws) = ⊥
Waits System (ForRet call ∷ ws) = (call.then.side ≡ Replay) × Waits Replay ws
Waits Replay (ForUpRet a g ∷ ws) = (a.side ≡ System) × Waits System ws
Waits System (ForUpRet a g ∷ ws) = ⊥
Waits Replay (ForBelow call g ∷ ws) = ⊥
Waits System (ForBelow call g ∷ ws) = ⊥
Waits Replay (ForOutside g ∷ ws) = Unit {0}
Waits System (ForOutside g ∷ ws) = ⊥

-- what waits for the code that has ended
abbrev pub Closes : Waiting → List Waiting → Type 0
Closes (ForValue a) ws = ⊥
Closes (ForRet call) ws = Waits System (ForRet call ∷ ws)
Closes (ForUpRet a g) ws = Waits Replay (ForUpRet a g ∷ ws)
Closes (ForBelow call g) ws = ⊥
Closes (ForOutside g) ws = Unit {0}

abbrev pub HasSides : Config → Type 0
HasSides (Going a vs ws) = Waits a.side ws
HasSides (Under call vs ws) = (call.then.side ≡ Replay) × Waits Replay ws
HasSides (Entering side i f args vs ws) = (side ≡ Replay) × Waits Replay ws
HasSides (Closing v w vs ws) = Closes w ws
HasSides (Starting f args) = Unit {0}
HasSides (Done v) = Unit {0}
HasSides Lost = Unit {0}

-- code above the cut goes on, or its end is the next event; or the thread is lost
abbrev pub StaysAbove : Config → Type 0
StaysAbove (Going a vs ws) = a.side ≡ Replay
StaysAbove (Under call vs ws) = ⊥
StaysAbove (Entering side i f args vs ws) = side ≡ Replay
StaysAbove (Closing v (ForValue a) vs ws) = ⊥
StaysAbove (Closing v (ForRet call) vs ws) = ⊥
StaysAbove (Closing v (ForUpRet a g) vs ws) = Unit {0}
StaysAbove (Closing v (ForBelow call g) vs ws) = ⊥
StaysAbove (Closing v (ForOutside g) vs ws) = Unit {0}
StaysAbove (Starting f args) = ⊥
StaysAbove (Done v) = ⊥
StaysAbove Lost = Unit {0}

-- where a step leads
pub record Leads (side : Side) (plain : Type 0) (to : Answer → Config) : Type 0 where
  pub sides : (x : Answer) → HasSides (to x)
  pub stays : side ≡ Replay → plain → (x : Answer) → StaysAbove (to x)

pub other_side : {A : Type 0} → System ≡ Replay → A
other_side e = absurd cc

waits_value : (a : Activation) (ws : List Waiting) → Waits a.side ws → Waits a.side (ForValue a ∷ ws)
waits_value a ws h = by a.side refl h
  where
    by : (d : Side) → a.side ≡ d → Waits d ws → Waits d (ForValue a ∷ ws)
    by Replay e h = (e, h)
    by System e h = (e, h)

-- ---- where answers lead

leads_going : (plain : Type 0) (a : Activation) (vs : List ℕ) (ws : List Waiting) → Waits a.side ws → Leads a.side plain (λ x. Going a vs ws)
leads_going plain a vs ws h = record { sides = λ x. h; stays = λ e p x. e }

if_sides : (b : Bool) (c : Config) → HasSides c → HasSides (cond b c Lost)
if_sides true c h = h
if_sides false c h = tt

if_above : (b : Bool) (c : Config) → StaysAbove c → StaysAbove (cond b c Lost)
if_above true c h = h
if_above false c h = tt

valued_sides : (shape : Shape) (a : Activation) (vs : List ℕ) (ws : List Waiting) → Waits a.side ws → (x : Answer) → HasSides (valued shape a vs ws x)
valued_sides shape a vs ws h (Value v) = if_sides (is_value shape v) (Going a (v ∷ vs) ws) h
valued_sides shape a vs ws h Go = tt
valued_sides shape a vs ws h (Frame at) = tt
valued_sides shape a vs ws h (CalledBack g args) = tt
valued_sides shape a vs ws h Stopped = tt

valued_above : (shape : Shape) (a : Activation) (vs : List ℕ) (ws : List Waiting) → a.side ≡ Replay → (x : Answer) → StaysAbove (valued shape a vs ws x)
valued_above shape a vs ws e (Value v) = if_above (is_value shape v) (Going a (v ∷ vs) ws) e
valued_above shape a vs ws e Go = tt
valued_above shape a vs ws e (Frame at) = tt
valued_above shape a vs ws e (CalledBack g args) = tt
valued_above shape a vs ws e Stopped = tt

leads_valued : (plain : Type 0) (shape : Shape) (a : Activation) (vs : List ℕ) (ws : List Waiting) → Waits a.side ws → Leads a.side plain (valued shape a vs ws)
leads_valued plain shape a vs ws h = record { sides = valued_sides shape a vs ws h; stays = λ e p. valued_above shape a vs ws e }

loaded_sides : (a : Activation) (values : ℕ → List ℕ) (ws : List Waiting) → Waits a.side ws → (x : Answer) → HasSides (loaded a values ws x)
loaded_sides a values ws h (Value v) = h
loaded_sides a values ws h Go = tt
loaded_sides a values ws h (Frame at) = tt
loaded_sides a values ws h (CalledBack g args) = tt
loaded_sides a values ws h Stopped = tt

loaded_above : (a : Activation) (values : ℕ → List ℕ) (ws : List Waiting) → a.side ≡ Replay → (x : Answer) → StaysAbove (loaded a values ws x)
loaded_above a values ws e (Value v) = e
loaded_above a values ws e Go = tt
loaded_above a values ws e (Frame at) = tt
loaded_above a values ws e (CalledBack g args) = tt
loaded_above a values ws e Stopped = tt

leads_loaded : (plain : Type 0) (a : Activation) (values : ℕ → List ℕ) (ws : List Waiting) → Waits a.side ws → Leads a.side plain (loaded a values ws)
leads_loaded plain a values ws h = record { sides = loaded_sides a values ws h; stays = λ e p. loaded_above a values ws e }

give_sides : (d : Side) (v : ℕ) (ws : List Waiting) (vs : List ℕ) → Waits d ws → HasSides (give v ws vs)
give_sides d v [] vs h = tt
give_sides Replay v (ForValue a ∷ ws) vs h = subst (λ s. Waits s ws) (sym h.0) h.1
give_sides System v (ForValue a ∷ ws) vs h = subst (λ s. Waits s ws) (sym h.0) h.1
give_sides Replay v (ForRet call ∷ ws) vs h = absurd h
give_sides System v (ForRet call ∷ ws) vs h = h
give_sides Replay v (ForUpRet a g ∷ ws) vs h = h
give_sides System v (ForUpRet a g ∷ ws) vs h = absurd h
give_sides Replay v (ForBelow call g ∷ ws) vs h = absurd h
give_sides System v (ForBelow call g ∷ ws) vs h = absurd h
give_sides Replay v (ForOutside g ∷ ws) vs h = tt
give_sides System v (ForOutside g ∷ ws) vs h = absurd h

give_above : (v : ℕ) (ws : List Waiting) (vs : List ℕ) → Waits Replay ws → StaysAbove (give v ws vs)
give_above v [] vs h = absurd h
give_above v (ForValue a ∷ ws) vs h = h.0
give_above v (ForRet call ∷ ws) vs h = absurd h
give_above v (ForUpRet a g ∷ ws) vs h = tt
give_above v (ForBelow call g ∷ ws) vs h = absurd h
give_above v (ForOutside g ∷ ws) vs h = tt

leads_lost : (side : Side) (plain : Type 0) → Leads side plain (λ x. Lost)
leads_lost side plain = record { sides = λ x. tt; stays = λ e p x. tt }

module _ (l : Laid) where
  begin_sides : (side : Side) (base : ℕ) (f : Option FuncInfo) (at : Option ℕ) (vs : List ℕ) (ws : List Waiting) → Waits side ws → HasSides (begin side base f at vs ws)
  begin_sides side base (Some f) (Some at) vs ws h = h
  begin_sides side base (Some f) None vs ws h = tt
  begin_sides side base None (Some at) vs ws h = tt
  begin_sides side base None None vs ws h = tt

  begin_above : (side : Side) (base : ℕ) (f : Option FuncInfo) (at : Option ℕ) (vs : List ℕ) (ws : List Waiting) → side ≡ Replay → StaysAbove (begin side base f at vs ws)
  begin_above side base (Some f) (Some at) vs ws h = h
  begin_above side base (Some f) None vs ws h = tt
  begin_above side base None (Some at) vs ws h = tt
  begin_above side base None None vs ws h = tt

  framed_sides : (side : Side) (f : ℕ) (vs : List ℕ) (ws : List Waiting) → Waits side ws → (x : Answer) → HasSides (framed l side f vs ws x)
  framed_sides side f vs ws h (Frame base) = if_sides (is_value Pointer base) _ (begin_sides side base (func_of l.code f) (entry l f) vs ws h)
  framed_sides side f vs ws h Go = tt
  framed_sides side f vs ws h (Value v) = tt
  framed_sides side f vs ws h (CalledBack g args) = tt
  framed_sides side f vs ws h Stopped = tt

  framed_above : (side : Side) (f : ℕ) (vs : List ℕ) (ws : List Waiting) → side ≡ Replay → (x : Answer) → StaysAbove (framed l side f vs ws x)
  framed_above side f vs ws h (Frame base) = if_above (is_value Pointer base) _ (begin_above side base (func_of l.code f) (entry l f) vs ws h)
  framed_above side f vs ws h Go = tt
  framed_above side f vs ws h (Value v) = tt
  framed_above side f vs ws h (CalledBack g args) = tt
  framed_above side f vs ws h Stopped = tt

  leads_framed : (side : Side) (plain : Type 0) (f : ℕ) (vs : List ℕ) (ws : List Waiting) → Waits side ws → Leads side plain (framed l side f vs ws)
  leads_framed side plain f vs ws h = record { sides = framed_sides side f vs ws h; stays = λ e p. framed_above side f vs ws e }

  back_sides : (g : ℕ) (args vs : List ℕ) (ws : List Waiting) → Waits Replay ws → HasSides (called_back l g args vs ws)
  back_sides g args vs ws h = if_sides _ (Entering Replay false g args vs ws) (refl, h)

  ended_sides : (shape : Shape) (x : Answer) → HasSides (ended shape x)
  ended_sides shape (Value v) = if_sides (is_value shape v) (Done v) tt
  ended_sides shape Go = tt
  ended_sides shape (Frame at) = tt
  ended_sides shape (CalledBack g args) = tt
  ended_sides shape Stopped = tt

  -- ---- instructions

  -- an instruction asks for what is wanted above the cut, where it stands there
  abbrev pub Instructs : Side → Action → Type 0
  Instructs side (Silent (Going b vs ws)) = (b.side ≡ side) × Waits b.side ws
  Instructs side (Silent c) = ⊥
  Instructs side (Asks d want k) = (d ≡ side) × (is_above want ≡ true) × Leads d (Unit {0}) k
  Instructs side (Pends p) = (p.call.then.side ≡ side) × Waits p.call.then.side p.waits
  Instructs side (Awaits p) = ⊥
  Instructs side (Starts f args) = ⊥
  Instructs side (Over v) = ⊥
  Instructs side Stuck = Unit {0}

  combine_sides : (o : Result ℕ FaultKind) (a : Activation) (vs : List ℕ) (ws : List Waiting) → Waits a.side ws → Instructs a.side (combine o a vs ws)
  combine_sides (Ok v) a vs ws h = (refl, h)
  combine_sides (Err kind) a vs ws h = (refl, refl, leads_lost a.side (Unit {0}))

  pool_sides : (f : ℕ) (a : Activation) (args rest : List ℕ) (ws : List Waiting) → a.side ≡ Replay → Waits a.side ws → Instructs a.side (pool_act f a args rest ws)
  pool_sides zero a args rest ws e h = (sym e, refl, subst (λ d. Leads d (Unit {0}) (valued Pointer (next a) rest ws)) e (leads_valued (Unit {0}) Pointer (next a) rest ws h))
  pool_sides (suc f) a args rest ws e h = (sym e, refl, subst (λ d. Leads d (Unit {0}) (λ x. Going (next a) (0 ∷ rest) ws)) e (leads_going (Unit {0}) (next a) (0 ∷ rest) ws h))

  pool_is_above : (a : Activation) (f : ℕ) → is_pool a.side f ≡ true → a.side ≡ Replay
  pool_is_above a f e = by a.side refl e
    where
      by : (d : Side) → a.side ≡ d → is_pool d f ≡ true → a.side ≡ Replay
      by Replay z y = z
      by System z y = absurd cc

  call_sides : (f : ℕ) (a : Activation) (vs : List ℕ) (ws : List Waiting) (o : Option (List ℕ × List ℕ)) → Waits a.side ws → Instructs a.side (with_args o (call_act f a vs ws))
  call_sides f a vs ws None h = tt
  call_sides f a vs ws (Some (args, rest)) h = by (is_pool a.side f) refl
    where
      by : (t : Bool) → is_pool a.side f ≡ t → Instructs a.side (cond t (pool_act f a args rest ws) (Pends (pending f false a args vs rest ws)))
      by true e = pool_sides f a args rest ws (pool_is_above a f e) h
      by false e = (refl, h)

  callee_sides : (o : Option ℕ) (a : Activation) (args vs rest : List ℕ) (ws : List Waiting) → Waits a.side ws → Instructs a.side (to_callee o a args vs rest ws)
  callee_sides None a args vs rest ws h = (refl, refl, leads_lost a.side (Unit {0}))
  callee_sides (Some f) a args vs rest ws h = (refl, h)

  pointer_sides : (sig : ℕ) (a : Activation) (vs : List ℕ) (ws : List Waiting) (o : Option (List ℕ × List ℕ)) → Waits a.side ws → Instructs a.side (with_args o (pointer_act l sig a vs ws))
  pointer_sides sig a vs ws None h = tt
  pointer_sides sig a vs ws (Some (args, [])) h = tt
  pointer_sides sig a vs ws (Some (args, address ∷ rest)) h = callee_sides (callee l sig address) a args vs rest ws h

  pub act_sides : (i : Option Instr) (a : Activation) (vs : List ℕ) (ws : List Waiting) → Waits a.side ws → Instructs a.side (act l i a vs ws)
  act_sides (Some (instr.Push what)) a vs ws h = (refl, h)
  act_sides (Some (instr.Load k o)) a [] ws h = tt
  act_sides (Some (instr.Load k o)) a (p ∷ vs) ws h = (refl, refl, leads_loaded (Unit {0}) (next a) _ ws h)
  act_sides (Some (instr.LoadKeep k o)) a [] ws h = tt
  act_sides (Some (instr.LoadKeep k o)) a (p ∷ vs) ws h = (refl, refl, leads_loaded (Unit {0}) (next a) _ ws h)
  act_sides (Some (instr.Store k o)) a [] ws h = tt
  act_sides (Some (instr.Store k o)) a (p ∷ []) ws h = tt
  act_sides (Some (instr.Store k o)) a (v ∷ (p ∷ vs)) ws h = (refl, refl, record { sides = λ x. h; stays = λ e p x. e })
  act_sides (Some (instr.StoreLocal k offset)) a [] ws h = tt
  act_sides (Some (instr.StoreLocal k offset)) a (v ∷ vs) ws h = (refl, refl, record { sides = λ x. h; stays = λ e p x. e })
  act_sides (Some (instr.StoreStep k by old o)) a [] ws h = tt
  act_sides (Some (instr.StoreStep k by old o)) a (p ∷ []) ws h = tt
  act_sides (Some (instr.StoreStep k by old o)) a (v ∷ (p ∷ vs)) ws h = (refl, refl, record { sides = λ x. h; stays = λ e p x. e })
  act_sides (Some (instr.Change how)) a [] ws h = tt
  act_sides (Some (instr.Change how)) a (v ∷ vs) ws h = (refl, h)
  act_sides (Some (instr.Combine how)) a [] ws h = tt
  act_sides (Some (instr.Combine how)) a (y ∷ []) ws h = tt
  act_sides (Some (instr.Combine how)) a (y ∷ (x ∷ vs)) ws h = combine_sides (combined how x y) a vs ws h
  act_sides (Some (instr.EndIfZero n)) a [] ws h = tt
  act_sides (Some (instr.EndIfZero n)) a (zero ∷ vs) ws h = (refl, h)
  act_sides (Some (instr.EndIfZero n)) a (suc v ∷ vs) ws h = (refl, h)
  act_sides (Some (instr.EndUnlessZero n)) a [] ws h = tt
  act_sides (Some (instr.EndUnlessZero n)) a (zero ∷ vs) ws h = (refl, h)
  act_sides (Some (instr.EndUnlessZero n)) a (suc v ∷ vs) ws h = (refl, h)
  act_sides (Some (instr.SkipIfZero n)) a [] ws h = tt
  act_sides (Some (instr.SkipIfZero n)) a (zero ∷ vs) ws h = (refl, h)
  act_sides (Some (instr.SkipIfZero n)) a (suc v ∷ vs) ws h = (refl, h)
  act_sides (Some (instr.GoOn n)) a vs ws h = (refl, h)
  act_sides (Some instr.Turn) a vs ws h = (refl, refl, record { sides = λ x. h; stays = λ e p x. e })
  act_sides (Some (instr.GoBack n)) a vs ws h = (refl, refl, record { sides = λ x. h; stays = λ e p x. e })
  act_sides (Some (instr.Call f n)) a vs ws h = call_sides f a vs ws (take_args n [] vs) h
  act_sides (Some (instr.CallPointer sig n)) a vs ws h = pointer_sides sig a vs ws (take_args n [] vs) h
  act_sides (Some instr.Drop) a [] ws h = tt
  act_sides (Some instr.Drop) a (v ∷ vs) ws h = (refl, h)
  act_sides (Some instr.Finish) a [] ws h = tt
  act_sides (Some instr.Finish) a (v ∷ vs) ws h = (refl, refl, record { sides = λ x. give_sides a.side v ws vs h; stays = λ e p x. give_above v ws vs (subst (λ d. Waits d ws) e h) })
  act_sides None a vs ws h = tt

  -- ---- steps

  abbrev pub NextHasSides : Next → Type 0
  NextHasSides (Quiet c) = HasSides c
  NextHasSides (Wants side want to) = Leads side (IsPlain want) to
  NextHasSides (Ends v) = Unit {0}
  NextHasSides No = Unit {0}

  any_plain : (side : Side) (plain : Type 0) (to : Answer → Config) → Leads side (Unit {0}) to → Leads side plain to
  any_plain side plain to h = record { sides = h.sides; stays = λ e p. h.stays e tt }

  stepped_sides : (p : Pending) → Waits p.call.then.side p.waits → NextHasSides (stepped l p)
  stepped_sides p h = leads_valued (Unit {0}) (result_of l p.call.func) p.call.then p.rest p.waits h

  entered_sides : (p : Pending) → Waits p.call.then.side p.waits → NextHasSides (entered l p)
  entered_sides p h = leads_framed p.call.then.side (Unit {0}) p.call.func p.rest (ForValue p.call.then ∷ p.waits) (waits_value p.call.then p.waits h)

  after_call_back_sides : (p : Pending) → p.call.then.side ≡ System → Waits System p.waits → (x : Answer) → HasSides (after_call_back l p x)
  after_call_back_sides p e h Go = tt
  after_call_back_sides p e h (Value v) = tt
  after_call_back_sides p e h (Frame at) = framed_sides System p.call.func p.rest (ForValue p.call.then ∷ p.waits) (e, h) (Frame at)
  after_call_back_sides p e h (CalledBack g args) = back_sides p.call.func p.args p.rest (ForUpRet p.call.then p.call.func ∷ p.waits) (e, h)
  after_call_back_sides p e h Stopped = tt

  entered_below_sides : (p : Pending) (i : Bool) → p.call.then.side ≡ System → Waits p.call.then.side p.waits → NextHasSides (entered_below l p i)
  entered_below_sides p false e h = entered_sides p h
  entered_below_sides p true e h = record { sides = after_call_back_sides p e (subst (λ d. Waits d p.waits) e h); stays = λ z q. other_side z }

  called_sides : (p : Pending) (side : Side) (face : Bool) (e : Option ℕ) → p.call.then.side ≡ side → Waits p.call.then.side p.waits → NextHasSides (called l p side face e)
  called_sides p Replay true e z h = record { sides = λ x. (z, subst (λ d. Waits d p.waits) z h); stays = λ y q. absurd q }
  called_sides p Replay false (Some at) z h = entered_sides p h
  called_sides p Replay false None z h = stepped_sides p h
  called_sides p System face (Some at) z h = entered_below_sides p p.call.indirect z h
  called_sides p System face None z h = stepped_sides p h

  below_sides : (p : Pending) (e : Option ℕ) → p.call.then.side ≡ Replay → Waits Replay p.waits → NextHasSides (below Split l p e)
  below_sides p (Some at) z h = record { sides = framed_sides System p.call.func p.values (ForRet p.call ∷ p.waits) (z, h); stays = λ y q. other_side y }
  below_sides p None z h = record { sides = valued_sides (result_of l p.call.func) p.call.then p.rest p.waits (subst (λ d. Waits d p.waits) (sym z) h); stays = λ y q. absurd q }

  after_start_sides : (f : ℕ) (args : List ℕ) (x : Answer) → HasSides (after_start l f args x)
  after_start_sides f args Go = tt
  after_start_sides f args (Value v) = tt
  after_start_sides f args (Frame at) = framed_sides System f [] [] tt (Frame at)
  after_start_sides f args (CalledBack g bs) = back_sides f args [] (ForOutside f ∷ []) tt
  after_start_sides f args Stopped = tt

  started_sides : (f : ℕ) (args : List ℕ) (e : Option ℕ) → NextHasSides (started l f args e)
  started_sides f args (Some at) = record { sides = after_start_sides f args; stays = λ y q. other_side y }
  started_sides f args None = record { sides = ended_sides (result_of l f); stays = λ y q. other_side y }

  of_instruction : (side : Side) (a : Action) → Instructs side a → NextHasSides (next_of Split l a)
  of_instruction side (Silent (Going b vs ws)) h = h.1
  of_instruction side (Silent c) h = absurd h
  of_instruction side (Asks d want k) h = any_plain d (IsPlain want) k h.2
  of_instruction side (Pends p) h = called_sides p p.call.then.side (is_face l p.call.func) (entry l p.call.func) refl h.1
  of_instruction side (Awaits p) h = absurd h
  of_instruction side (Starts f args) h = absurd h
  of_instruction side (Over v) h = absurd h
  of_instruction side Stuck h = tt

  of_under : (call : Call) (vs : List ℕ) (ws : List Waiting) (o : Option (List ℕ × List ℕ)) → call.then.side ≡ Replay → Waits Replay ws → NextHasSides (next_of Split l (with_args o (awaiting call vs ws)))
  of_under call vs ws None z h = tt
  of_under call vs ws (Some taken) z h = below_sides _ (entry l call.func) z h

  of_return : (v : ℕ) (call : Call) (ws : List Waiting) (o : Option (List ℕ × List ℕ)) → call.then.side ≡ Replay → Waits Replay ws → NextHasSides (next_of Split l (with_args o (returning v call ws)))
  of_return v call ws None z h = tt
  of_return v call ws (Some taken) z h = record { sides = λ x. subst (λ d. Waits d ws) (sym z) h; stays = λ y q. absurd q }

  pub next_sides : (c : Config) → HasSides c → NextHasSides (step Split l c)
  next_sides (Going a vs ws) h = of_instruction a.side (act l (slice_get l.code.instrs a.at) a vs ws) (act_sides (slice_get l.code.instrs a.at) a vs ws h)
  next_sides (Under call vs ws) h = of_under call vs ws (take_args call.args [] vs) h.0 h.1
  next_sides (Entering side i f args vs ws) h = leads_framed side (Unit {0}) f vs ws (subst (λ d. Waits d ws) (sym h.0) h.1)
  next_sides (Closing v (ForValue a) vs ws) h = absurd h
  next_sides (Closing v (ForRet call) vs ws) h = of_return v call ws (take_args call.args [] vs) h.0 h.1
  next_sides (Closing v (ForUpRet a g) vs ws) h = record { sides = λ x. subst (λ d. Waits d ws) (sym h.0) h.1; stays = λ y q. absurd q }
  next_sides (Closing v (ForBelow call g) vs ws) h = absurd h
  next_sides (Closing v (ForOutside g) vs ws) h = record { sides = λ x. tt; stays = λ y q. absurd q }
  next_sides (Starting None args) h = leads_lost System (IsPlain (Fails BadCall))
  next_sides (Starting (Some f) args) h = started_sides f args (entry l f)
  next_sides (Done v) h = tt
  next_sides Lost h = tt
