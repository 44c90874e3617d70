-- Code that goes on in a body and makes accesses and rounds alone stays in that body, or comes to a call.
use Rattle.std.proofs.Common.{◌≡◌, ℕ, zero, suc, Bool, true, false, cond, List, [], ◌∷◌, Option, Some, None, Result, Ok, Err, refl, subst}
use Rattle.std.specs.Prelude.{slice_get}
use Rattle.marks.specs.declared.side.Side.{Side}
use Rattle.marks.specs.declared.side.Side.TheVariants.{Replay, System}
use Rattle.marks.specs.declared.fault.FaultKind.{FaultKind}
use Rattle.marks.specs.Wants.{Want, Turns, Loads, Stores, Answer, Go, Value, Frame, CalledBack, Stopped}
use Rattle.c_code.specs.declared.instr.Instr.{Instr}
use Rattle.c_code.specs.declared.instr.Instr.TheVariants as instr
use Rattle.c_code.specs.declared.activation.Activation.{Activation}
use Rattle.c_code.specs.declared.activation.Call.{Call}
use Rattle.c_code.specs.declared.activation.Waiting.{Waiting}
use Rattle.c_code.specs.declared.activation.Waiting.TheVariants.{ForValue, ForRet, ForUpRet, ForBelow, ForOutside}
use Rattle.c_code.specs.Values.{combined}
use Rattle.c_code.specs.Machine.{Laid, Config, Going, Under, Entering, Closing, Starting, Done, Lost, Action, Silent, Asks, Pends, Awaits, Starts, Over, Stuck, Pending, act, action, awaiting, call_act, callee, close, combine, entry, is_face, is_pool, loaded, next, pending, pointer_act, pool_act, returning, take_args, to_callee, with_args}
use Rattle.c_code.specs.MarkLists.{Split, below, called, entered_below, next_of, or_stay, room, settle, settled, started, step}
use Rattle.c_machine.specs.Moves.{at_call, ready, rested}
use Rattle.c_machine.specs.Wants.{Takes}
use Rattle.whole_runs.specs.Threads.{ended_with}

-- an access or a round is wanted
abbrev pub IsAccess : Want → Type 0
IsAccess Turns = Unit {0}
IsAccess (Loads o at n) = Unit {0}
IsAccess (Stores o at bytes) = Unit {0}
IsAccess w = ⊥

-- the thread goes on in a body
abbrev pub IsGoing : Config → Type 0
IsGoing (Going a vs ws) = Unit {0}
IsGoing c = ⊥

-- or is at a call
abbrev pub IsOn : Config → Type 0
IsOn (Going a vs ws) = Unit {0}
IsOn (Under call vs ws) = Unit {0}
IsOn c = ⊥

-- in a body it stays, after an access or a round too, and no action of it is an end
abbrev Stays : Action → Type 0
Stays (Silent d) = IsGoing d
Stays (Asks s w k) = IsAccess w → (x : Answer) → Takes w x → IsGoing (k x)
Stays (Over v) = ⊥
Stays s = Unit {0}

module _ (l : Laid) where
  combine_stays : (r : Result ℕ FaultKind) (a : Activation) (vs : List ℕ) (ws : List Waiting) → Stays (combine r a vs ws)
  combine_stays (Ok v) a vs ws = tt
  combine_stays (Err kind) a vs ws = λ h. absurd h

  pool_stays : (f : ℕ) (a : Activation) (args rest : List ℕ) (ws : List Waiting) → Stays (pool_act f a args rest ws)
  pool_stays zero a args rest ws = λ h. absurd h
  pool_stays (suc f) a args rest ws = λ h. absurd h

  call_stays : (f : ℕ) (a : Activation) (vs : List ℕ) (ws : List Waiting) (o : Option (List ℕ × List ℕ)) → Stays (with_args o (call_act f a vs ws))
  call_stays f a vs ws None = tt
  call_stays f a vs ws (Some (args, rest)) = by (is_pool a.side f)
    where
      by : (t : Bool) → Stays (cond t (pool_act f a args rest ws) (Pends (pending f false a args vs rest ws)))
      by true = pool_stays f a args rest ws
      by false = tt

  callee_stays : (o : Option ℕ) (a : Activation) (args vs rest : List ℕ) (ws : List Waiting) → Stays (to_callee o a args vs rest ws)
  callee_stays None a args vs rest ws = λ h. absurd h
  callee_stays (Some f) a args vs rest ws = tt

  pointer_stays : (sig : ℕ) (a : Activation) (vs : List ℕ) (ws : List Waiting) (o : Option (List ℕ × List ℕ)) → Stays (with_args o (pointer_act l sig a vs ws))
  pointer_stays sig a vs ws None = tt
  pointer_stays sig a vs ws (Some (args, [])) = tt
  pointer_stays sig a vs ws (Some (args, address ∷ rest)) = callee_stays (callee l sig address) a args vs rest ws

  loaded_stays : (o : Option ℕ) (p n : ℕ) (a : Activation) (f : ℕ → List ℕ) (ws : List Waiting) → Stays (Asks a.side (Loads o p n) (loaded (next a) f ws))
  loaded_stays o p n a f ws = λ h x t. by x t
    where
      by : (x : Answer) → Takes (Loads o p n) x → IsGoing (loaded (next a) f ws x)
      by (Value v) t = tt
      by Go t = absurd t
      by (Frame at) t = absurd t
      by (CalledBack g bs) t = absurd t
      by Stopped t = absurd t

  act_stays : (i : Option Instr) (a : Activation) (vs : List ℕ) (ws : List Waiting) → Stays (act l i a vs ws)
  act_stays (Some (instr.Push what)) a vs ws = tt
  act_stays (Some (instr.Load k o)) a [] ws = tt
  act_stays (Some (instr.Load k o)) a (p ∷ vs) ws = loaded_stays o p _ a _ ws
  act_stays (Some (instr.LoadKeep k o)) a [] ws = tt
  act_stays (Some (instr.LoadKeep k o)) a (p ∷ vs) ws = loaded_stays o p _ a _ ws
  act_stays (Some (instr.Store k o)) a [] ws = tt
  act_stays (Some (instr.Store k o)) a (p ∷ []) ws = tt
  act_stays (Some (instr.Store k o)) a (v ∷ (p ∷ vs)) ws = λ h x t. tt
  act_stays (Some (instr.StoreLocal k offset)) a [] ws = tt
  act_stays (Some (instr.StoreLocal k offset)) a (v ∷ vs) ws = λ h x t. tt
  act_stays (Some (instr.StoreStep k by old o)) a [] ws = tt
  act_stays (Some (instr.StoreStep k by old o)) a (p ∷ []) ws = tt
  act_stays (Some (instr.StoreStep k by old o)) a (v ∷ (p ∷ vs)) ws = λ h x t. tt
  act_stays (Some (instr.Change how)) a [] ws = tt
  act_stays (Some (instr.Change how)) a (v ∷ vs) ws = tt
  act_stays (Some (instr.Combine how)) a [] ws = tt
  act_stays (Some (instr.Combine how)) a (y ∷ []) ws = tt
  act_stays (Some (instr.Combine how)) a (y ∷ (x ∷ vs)) ws = combine_stays (combined how x y) a vs ws
  act_stays (Some (instr.EndIfZero n)) a [] ws = tt
  act_stays (Some (instr.EndIfZero n)) a (zero ∷ vs) ws = tt
  act_stays (Some (instr.EndIfZero n)) a (suc v ∷ vs) ws = tt
  act_stays (Some (instr.EndUnlessZero n)) a [] ws = tt
  act_stays (Some (instr.EndUnlessZero n)) a (zero ∷ vs) ws = tt
  act_stays (Some (instr.EndUnlessZero n)) a (suc v ∷ vs) ws = tt
  act_stays (Some (instr.SkipIfZero n)) a [] ws = tt
  act_stays (Some (instr.SkipIfZero n)) a (zero ∷ vs) ws = tt
  act_stays (Some (instr.SkipIfZero n)) a (suc v ∷ vs) ws = tt
  act_stays (Some (instr.GoOn n)) a vs ws = tt
  act_stays (Some instr.Turn) a vs ws = λ h x t. tt
  act_stays (Some (instr.GoBack n)) a vs ws = λ h x t. tt
  act_stays (Some (instr.Call f n)) a vs ws = call_stays f a vs ws (take_args n [] vs)
  act_stays (Some (instr.CallPointer sig n)) a vs ws = pointer_stays sig a vs ws (take_args n [] vs)
  act_stays (Some instr.Drop) a [] ws = tt
  act_stays (Some instr.Drop) a (v ∷ vs) ws = tt
  act_stays (Some instr.Finish) a [] ws = tt
  act_stays (Some instr.Finish) a (v ∷ vs) ws = λ h. absurd h
  act_stays None a vs ws = tt

  stays : (c : Config) → IsGoing c → Stays (action l c)
  stays (Going a vs ws) h = act_stays (slice_get l.code.instrs a.at) a vs ws
  stays (Under call vs ws) h = absurd h
  stays (Entering s i f args vs ws) h = absurd h
  stays (Closing v w vs ws) h = absurd h
  stays (Starting f args) h = absurd h
  stays (Done v) h = absurd h
  stays Lost h = absurd h

  -- after an access or a round it goes on in the body
  pub goes_after : (c : Config) (s : Side) (w : Want) (k : Answer → Config) (x : Answer) → IsGoing c → action l c ≡ Asks s w k → IsAccess w → Takes w x → IsGoing (k x)
  goes_after c s w k x h e access takes = let here : Stays (Asks s w k) = subst Stays e (stays c h) in here access x takes

  settles : (n : ℕ) (c : Config) → IsGoing c → IsGoing (settle n l c)
  settles zero c h = h
  settles (suc n) c h = by (action l c) (stays c h) (λ d k. settles n d k)
    where
      by : (s : Action) → Stays s → ((d : Config) → IsGoing d → IsGoing (settle n l d)) → IsGoing (or_stay s (settle n l) c)
      by (Silent d) k more = more d k
      by (Asks s w k) t more = h
      by (Pends p) t more = h
      by (Awaits p) t more = h
      by (Starts f args) t more = h
      by (Over v) t more = h
      by Stuck t more = h

  on : (c : Config) → IsGoing c → IsOn c
  on (Going a vs ws) h = tt
  on (Under call vs ws) h = absurd h
  on (Entering s i f args vs ws) h = absurd h
  on (Closing v w vs ws) h = absurd h
  on (Starting f args) h = absurd h
  on (Done v) h = absurd h
  on Lost h = absurd h

  is_on : (s : Action) (c : Config) → IsGoing c → IsOn (at_call s c)
  is_on (Pends p) c h = tt
  is_on (Silent d) c h = on c h
  is_on (Asks s w k) c h = on c h
  is_on (Awaits p) c h = on c h
  is_on (Starts f args) c h = on c h
  is_on (Over v) c h = on c h
  is_on Stuck c h = on c h

  -- it rests in the body or at a call
  pub rests_on : (c : Config) → IsGoing c → IsOn (rested l c)
  rests_on c h = is_on (action l (settled l c)) (settled l c) (settles (suc (room l c)) c h)

  -- ---- where it has not ended

  call_goes : (p : Pending) (side : Side) (face : Bool) (at : Option ℕ) → ended_with (called l p side face at) ≡ None
  call_goes p Replay true at = refl
  call_goes p Replay false (Some at) = refl
  call_goes p Replay false None = refl
  call_goes p System face (Some at) = by p.call.indirect
    where
      by : (i : Bool) → ended_with (entered_below l p i) ≡ None
      by true = refl
      by false = refl
  call_goes p System face None = refl

  below_goes : (p : Pending) (at : Option ℕ) → ended_with (below Split l p at) ≡ None
  below_goes p (Some at) = refl
  below_goes p None = refl

  start_goes : (f : ℕ) (args : List ℕ) (at : Option ℕ) → ended_with (started l f args at) ≡ None
  start_goes f args (Some at) = refl
  start_goes f args None = refl

  goes : (s : Action) → Stays s → ended_with (next_of Split l s) ≡ None
  goes (Silent d) h = refl
  goes (Asks s w k) h = refl
  goes (Pends p) h = call_goes p p.call.then.side (is_face l p.call.func) (entry l p.call.func)
  goes (Awaits p) h = below_goes p (entry l p.call.func)
  goes (Starts f args) h = start_goes f args (entry l f)
  goes (Over v) h = absurd h
  goes Stuck h = refl

  waits_goes : (call : Call) (vs : List ℕ) (ws : List Waiting) (o : Option (List ℕ × List ℕ)) → ended_with (next_of Split l (with_args o (awaiting call vs ws))) ≡ None
  waits_goes call vs ws None = refl
  waits_goes call vs ws (Some (args, rest)) = below_goes _ (entry l call.func)

  -- a thread that rests so has not ended
  pub goes_on : (c : Config) → IsOn (ready l c) → ended_with (step Split l c) ≡ None
  goes_on (Going a vs ws) h = goes (act l (slice_get l.code.instrs a.at) a vs ws) (act_stays (slice_get l.code.instrs a.at) a vs ws)
  goes_on (Under call vs ws) h = waits_goes call vs ws (take_args call.args [] vs)
  goes_on (Entering s i f args vs ws) h = refl
  goes_on (Closing v w vs ws) h = by w
    where
      returns : (call : Call) (o : Option (List ℕ × List ℕ)) → ended_with (next_of Split l (with_args o (returning v call ws))) ≡ None
      returns call None = refl
      returns call (Some (args, rest)) = refl

      by : (u : Waiting) → ended_with (next_of Split l (close v u vs ws)) ≡ None
      by (ForValue a) = refl
      by (ForRet call) = returns call (take_args call.args [] vs)
      by (ForUpRet a g) = refl
      by (ForBelow call g) = refl
      by (ForOutside g) = refl
  goes_on (Starting (Some f) args) h = start_goes f args (entry l f)
  goes_on (Starting None args) h = refl
  goes_on (Done v) h = absurd h
  goes_on Lost h = refl
