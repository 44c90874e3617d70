-- On which side of the cut code wants what.
use Rattle.std.proofs.Common.{◌≡◌, ℕ, zero, suc, Bool, true, false, cond, List, [], ◌∷◌, Option, Some, None, Result, Ok, Err, refl, subst}
use Rattle.std.specs.Prelude.{slice_get}
use Rattle.marks.specs.declared.side.Side.{Side}
use Rattle.marks.specs.declared.side.Side.TheVariants.{Replay, System}
use Rattle.marks.specs.declared.fault.FaultKind.{FaultKind}
use Rattle.marks.specs.Wants.{Want, Outside, Turns, Loads, Stores, Enters, Leaves, Allocs, Frees, Calls, Below, Gives, Returns, CallsBack, UpReturns, Steps, Fails}
use Rattle.c_code.specs.declared.instr.Instr.{Instr}
use Rattle.c_code.specs.declared.instr.Instr.TheVariants as instr
use Rattle.c_code.specs.declared.activation.Activation.{Activation}
use Rattle.c_code.specs.declared.activation.Call.{Call}
use Rattle.c_code.specs.declared.activation.Waiting.{Waiting}
use Rattle.c_code.specs.declared.activation.Waiting.TheVariants.{ForValue, ForRet, ForUpRet, ForBelow, ForOutside}
use Rattle.c_code.specs.Values.{combined}
use Rattle.c_code.specs.Machine.{Laid, Pending, Config, Going, Under, Entering, Closing, Starting, Done, Lost, Action, Silent, Asks, Pends, Awaits, Starts, Over, Stuck, entry, is_face, take_args, with_args, combine, is_pool, pool_act, pending, call_act, pointer_act, to_callee, callee, act, returning, awaiting, close, start}
use Rattle.c_code.specs.MarkLists.{Split, Next, Quiet, Wants, Ends, No, entered_below, called, below, started, next_of, step}
use Rattle.whole_runs.specs.World.{World}
use Rattle.recorder_threads.specs.declared.wants.Want.{Want as Told}
use Rattle.recorder_threads.specs.declared.wants.Want.TheVariants as told
use Rattle.recorder_threads.specs.Threads.{place_of}
use Rattle.reference_recorder_marks.specs.declared.mark.Mark.{Mark}
use Rattle.reference_recorder_rules.specs.Steps.{IsAtStep}

-- events are wanted above the cut, whichever code makes them, and functions are called back below it
abbrev pub CanBeOn : Want → Side → Type 0
CanBeOn Outside side = Unit {0}
CanBeOn Turns side = Unit {0}
CanBeOn (Loads o at n) side = Unit {0}
CanBeOn (Stores o at bytes) side = Unit {0}
CanBeOn (Enters i f args bytes) side = Unit {0}
CanBeOn (Leaves at n) side = Unit {0}
CanBeOn (Allocs n) side = side ≡ Replay
CanBeOn (Frees at) side = side ≡ Replay
CanBeOn (Calls i f args) side = side ≡ Replay
CanBeOn (Below f args) side = Unit {0}
CanBeOn (Gives f args) side = side ≡ Replay
CanBeOn (Returns f args v) side = side ≡ Replay
CanBeOn (CallsBack f args bytes) side = side ≡ System
CanBeOn (UpReturns f v) side = side ≡ Replay
CanBeOn (Steps i f args) side = Unit {0}
CanBeOn (Fails kind) side = Unit {0}

abbrev AsksThere : Action → Type 0
AsksThere (Silent c) = Unit {0}
AsksThere (Asks side want to) = CanBeOn want side
AsksThere (Pends p) = Unit {0}
AsksThere (Awaits p) = Unit {0}
AsksThere (Starts f args) = Unit {0}
AsksThere (Over v) = Unit {0}
AsksThere Stuck = Unit {0}

abbrev WantsThere : Next → Type 0
WantsThere (Quiet c) = Unit {0}
WantsThere (Wants side want to) = CanBeOn want side
WantsThere (Ends v) = Unit {0}
WantsThere No = Unit {0}

combine_there : (o : Result ℕ FaultKind) (a : Activation) (vs : List ℕ) (ws : List Waiting) → AsksThere (combine o a vs ws)
combine_there (Ok v) a vs ws = tt
combine_there (Err kind) a vs ws = tt

pool_there : (f : ℕ) (a : Activation) (args rest : List ℕ) (ws : List Waiting) → AsksThere (pool_act f a args rest ws)
pool_there zero a args rest ws = refl
pool_there (suc f) a args rest ws = refl

call_there : (f : ℕ) (a : Activation) (vs : List ℕ) (ws : List Waiting) (o : Option (List ℕ × List ℕ)) → AsksThere (with_args o (call_act f a vs ws))
call_there f a vs ws None = tt
call_there f a vs ws (Some (args, rest)) = by (is_pool a.side f)
  where
    by : (t : Bool) → AsksThere (cond t (pool_act f a args rest ws) (Pends (pending f false a args vs rest ws)))
    by true = pool_there f a args rest ws
    by false = tt

callee_there : (o : Option ℕ) (a : Activation) (args vs rest : List ℕ) (ws : List Waiting) → AsksThere (to_callee o a args vs rest ws)
callee_there None a args vs rest ws = tt
callee_there (Some f) a args vs rest ws = tt

return_there : (v : ℕ) (call : Call) (ws : List Waiting) (o : Option (List ℕ × List ℕ)) → AsksThere (with_args o (returning v call ws))
return_there v call ws None = tt
return_there v call ws (Some taken) = refl

await_there : (call : Call) (vs : List ℕ) (ws : List Waiting) (o : Option (List ℕ × List ℕ)) → AsksThere (with_args o (awaiting call vs ws))
await_there call vs ws None = tt
await_there call vs ws (Some taken) = tt

close_there : (v : ℕ) (x : Waiting) (vs : List ℕ) (ws : List Waiting) → AsksThere (close v x vs ws)
close_there v (ForValue a) vs ws = tt
close_there v (ForRet call) vs ws = return_there v call ws (take_args call.args [] vs)
close_there v (ForUpRet a g) vs ws = refl
close_there v (ForBelow call g) vs ws = refl
close_there v (ForOutside g) vs ws = refl

start_there : (o : Option ℕ) (args : List ℕ) → AsksThere (start o args)
start_there (Some f) args = tt
start_there None args = tt

module _ (l : Laid) where
  pointer_there : (sig : ℕ) (a : Activation) (vs : List ℕ) (ws : List Waiting) (o : Option (List ℕ × List ℕ)) → AsksThere (with_args o (pointer_act l sig a vs ws))
  pointer_there sig a vs ws None = tt
  pointer_there sig a vs ws (Some (args, [])) = tt
  pointer_there sig a vs ws (Some (args, address ∷ rest)) = callee_there (callee l sig address) a args vs rest ws

  act_there : (i : Option Instr) (a : Activation) (vs : List ℕ) (ws : List Waiting) → AsksThere (act l i a vs ws)
  act_there (Some (instr.Push what)) a vs ws = tt
  act_there (Some (instr.Load k o)) a [] ws = tt
  act_there (Some (instr.Load k o)) a (p ∷ vs) ws = tt
  act_there (Some (instr.LoadKeep k o)) a [] ws = tt
  act_there (Some (instr.LoadKeep k o)) a (p ∷ vs) ws = tt
  act_there (Some (instr.Store k o)) a [] ws = tt
  act_there (Some (instr.Store k o)) a (p ∷ []) ws = tt
  act_there (Some (instr.Store k o)) a (v ∷ (p ∷ vs)) ws = tt
  act_there (Some (instr.StoreLocal k offset)) a [] ws = tt
  act_there (Some (instr.StoreLocal k offset)) a (v ∷ vs) ws = tt
  act_there (Some (instr.StoreStep k by old o)) a [] ws = tt
  act_there (Some (instr.StoreStep k by old o)) a (p ∷ []) ws = tt
  act_there (Some (instr.StoreStep k by old o)) a (v ∷ (p ∷ vs)) ws = tt
  act_there (Some (instr.Change how)) a [] ws = tt
  act_there (Some (instr.Change how)) a (v ∷ vs) ws = tt
  act_there (Some (instr.Combine how)) a [] ws = tt
  act_there (Some (instr.Combine how)) a (y ∷ []) ws = tt
  act_there (Some (instr.Combine how)) a (y ∷ (x ∷ vs)) ws = combine_there (combined how x y) a vs ws
  act_there (Some (instr.EndIfZero n)) a [] ws = tt
  act_there (Some (instr.EndIfZero n)) a (v ∷ vs) ws = tt
  act_there (Some (instr.EndUnlessZero n)) a [] ws = tt
  act_there (Some (instr.EndUnlessZero n)) a (v ∷ vs) ws = tt
  act_there (Some (instr.SkipIfZero n)) a [] ws = tt
  act_there (Some (instr.SkipIfZero n)) a (v ∷ vs) ws = tt
  act_there (Some (instr.GoOn n)) a vs ws = tt
  act_there (Some instr.Turn) a vs ws = tt
  act_there (Some (instr.GoBack n)) a vs ws = tt
  act_there (Some (instr.Call f n)) a vs ws = call_there f a vs ws (take_args n [] vs)
  act_there (Some (instr.CallPointer sig n)) a vs ws = pointer_there sig a vs ws (take_args n [] vs)
  act_there (Some instr.Drop) a [] ws = tt
  act_there (Some instr.Drop) a (v ∷ vs) ws = tt
  act_there (Some instr.Finish) a [] ws = tt
  act_there (Some instr.Finish) a (v ∷ vs) ws = tt
  act_there None a vs ws = tt

  back_there : (p : Pending) (indirect : Bool) → WantsThere (entered_below l p indirect)
  back_there p false = tt
  back_there p true = refl

  called_there : (p : Pending) (side : Side) (face : Bool) (e : Option ℕ) → WantsThere (called l p side face e)
  called_there p Replay true e = refl
  called_there p Replay false (Some at) = tt
  called_there p Replay false None = tt
  called_there p System face (Some at) = back_there p p.call.indirect
  called_there p System face None = tt

  below_there : (p : Pending) (e : Option ℕ) → WantsThere (below Split l p e)
  below_there p (Some at) = tt
  below_there p None = refl

  started_there : (f : ℕ) (args : List ℕ) (e : Option ℕ) → WantsThere (started l f args e)
  started_there f args (Some at) = refl
  started_there f args None = tt

  next_there : (a : Action) → AsksThere a → WantsThere (next_of Split l a)
  next_there (Silent c) h = tt
  next_there (Asks side want to) h = h
  next_there (Pends p) h = called_there p p.call.then.side (is_face l p.call.func) (entry l p.call.func)
  next_there (Awaits p) h = below_there p (entry l p.call.func)
  next_there (Starts f args) h = started_there f args (entry l f)
  next_there (Over v) h = tt
  next_there Stuck h = tt

  step_there : (c : Config) → WantsThere (step Split l c)
  step_there (Going a vs ws) = next_there (act l (slice_get l.code.instrs a.at) a vs ws) (act_there (slice_get l.code.instrs a.at) a vs ws)
  step_there (Under call vs ws) = next_there (with_args (take_args call.args [] vs) (awaiting call vs ws)) (await_there call vs ws (take_args call.args [] vs))
  step_there (Entering side i f args vs ws) = tt
  step_there (Closing v x vs ws) = next_there (close v x vs ws) (close_there v x vs ws)
  step_there (Starting f args) = next_there (start f args) (start_there f args)
  step_there (Done v) = tt
  step_there Lost = tt

-- ---- a thread whose code wants what is told

-- on which side that can be
abbrev pub IsOn : Told → Side → Type 0
IsOn told.Turn side = Unit {0}
IsOn (told.Load at n) side = Unit {0}
IsOn (told.Store at n v) side = Unit {0}
IsOn (told.Enter i f size) side = Unit {0}
IsOn told.Leave side = Unit {0}
IsOn (told.Alloc n) side = side ≡ Replay
IsOn (told.Free at) side = side ≡ Replay
IsOn (told.Call i f) side = side ≡ Replay
IsOn (told.Give f) side = side ≡ Replay
IsOn (told.Return f v) side = side ≡ Replay
IsOn (told.CallBack f size) side = side ≡ System
IsOn (told.UpReturn v) side = side ≡ Replay
IsOn (told.Step i f) side = Unit {0}
IsOn (told.Fault n) side = Unit {0}

module _ {w : World} {marks : List Mark} {t : ℕ} {side : Side} {args : List ℕ} where
  there : {said : Told} (at : IsAtStep w marks t side args said) → CanBeOn at.step.want side
  there at =
      subst (CanBeOn at.step.want) at.on_side
      (subst WantsThere at.step.comes_is (step_there w.laid (place_of w at.past.run at.step.thread)))

  pub on_side : (said : Told) → IsAtStep w marks t side args said → IsOn said side
  on_side told.Turn at = tt
  on_side (told.Load x n) at = tt
  on_side (told.Store x n v) at = tt
  on_side (told.Enter i f size) at = tt
  on_side told.Leave at = tt
  on_side (told.Alloc n) at = subst (λ v. CanBeOn v side) at.told (there at)
  on_side (told.Free x) at = subst (λ v. CanBeOn v side) at.told (there at)
  on_side (told.Call i f) at = subst (λ v. CanBeOn v side) at.told (there at)
  on_side (told.Give f) at = subst (λ v. CanBeOn v side) at.told (there at)
  on_side (told.Return f v) at = subst (λ x. CanBeOn x side) at.told (there at)
  on_side (told.CallBack f size) at = subst (λ v. CanBeOn v side) at.told.0 (there at)
  on_side (told.UpReturn v) at = subst (λ x. CanBeOn x side) at.told.1 (there at)
  on_side (told.Step i f) at = tt
  on_side (told.Fault n) at = tt
