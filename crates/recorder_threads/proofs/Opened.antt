-- How many activations are open is how many frames there are, and one more where a function is to be entered.
use Rattle.std.proofs.Common.{◌≡◌, ℕ, zero, suc, ◌+◌, ◌-◌, ◌≤◌, Bool, true, false, cond, List, [], ◌∷◌, drop, length, Option, Some, None, Result, Ok, Err, refl, ap, ◌∙◌, arith}
use Rattle.std.specs.Prelude.{slice_get}
use Rattle.marks.specs.declared.side.Side.{Side}
use Rattle.marks.specs.declared.side.Side.TheVariants.{Replay, System}
use Rattle.marks.specs.declared.fault.FaultKind.{FaultKind}
use Rattle.marks.specs.Ranges.{range}
use Rattle.c_code.specs.declared.instr.Instr.{Instr}
use Rattle.c_code.specs.declared.instr.Instr.TheVariants as instr
use Rattle.c_code.specs.declared.activation.Activation.{Activation}
use Rattle.c_code.specs.declared.activation.Call.{Call}
use Rattle.c_code.specs.declared.activation.Waiting.{Waiting}
use Rattle.c_code.specs.declared.activation.Waiting.TheVariants.{ForValue, ForRet, ForUpRet, ForBelow, ForOutside}
use Rattle.c_code.specs.Values.{combined}
use Rattle.c_code.specs.Fits.{held_by}
use Rattle.c_code.specs.Machine.{Laid, Config, Going, Under, Entering, Closing, Starting, Done, Lost, Action, Silent, Asks, Pends, Awaits, Starts, Over, Stuck, combine, is_pool, pool_act, pending, call_act, pointer_act, to_callee, callee, take_args, with_args, act, action, awaiting, returning, close, start}
use Rattle.c_code.specs.MarkLists.{or_stay, room, settle, settled}
use Rattle.c_code.specs.Opens.{Opens, nothing, frames_on, in_function, opens_in, opens_waiting, topmost, with_call, with_frame, with_up}
use Rattle.c_machine.specs.Moves.{one, open_on, waits_on}

-- ---- as many as frames

in_frame : (s : Side) (a : Activation) (side : Side) (o : Opens) → a.side ≡ side → length (frames_on s (in_function a o)) ≡ one s side + length (frames_on s o)
in_frame Replay a Replay o e = ap (λ d. length (frames_on Replay (with_frame d (range a.base a.size) o))) e ∙ omega arith
in_frame Replay a System o e = ap (λ d. length (frames_on Replay (with_frame d (range a.base a.size) o))) e ∙ omega arith
in_frame System a Replay o e = ap (λ d. length (frames_on System (with_frame d (range a.base a.size) o))) e ∙ omega arith
in_frame System a System o e = ap (λ d. length (frames_on System (with_frame d (range a.base a.size) o))) e ∙ omega arith

in_call : (s : Side) (f : ℕ) (args : List ℕ) (o : Opens) → frames_on s (with_call f args o) ≡ frames_on s o
in_call Replay f args o = refl
in_call System f args o = refl

in_up : (s : Side) (f : ℕ) (o : Opens) → frames_on s (with_up f o) ≡ frames_on s o
in_up Replay f o = refl
in_up System f o = refl

none_open : (s : Side) → length (frames_on s nothing) ≡ 0
none_open Replay = refl
none_open System = refl

module _ (height : ℕ → ℕ) (s : Side) where
  abbrev framed : Opens → ℕ
  framed o = length (frames_on s o)

  waiting : (ws : List Waiting) (vs : List ℕ) → framed (opens_waiting height ws vs) ≡ waits_on s ws
  waiting [] vs = none_open s
  waiting (ForValue a ∷ ws) vs =
      let ih = waiting ws (drop (height a.at - 1) vs) in
      in_frame s a a.side _ refl ∙ ap (λ n. one s a.side + n) ih
  waiting (ForRet call ∷ ws) vs =
      let ih = waiting ws (drop (height call.then.at - 1 + held_by call) vs) in
      in_frame s call.then call.then.side _ refl ∙ ap (λ n. one s call.then.side + n) (ap length (in_call s call.func (topmost call.args vs) _) ∙ ih)
  waiting (ForUpRet a f ∷ ws) vs =
      let ih = waiting ws (drop (height a.at - 1) vs) in
      ap length (in_up s f _) ∙ (in_frame s a a.side _ refl ∙ ap (λ n. one s a.side + n) ih)
  waiting (ForBelow call f ∷ ws) vs =
      let ih = waiting ws (drop (height call.then.at - 1 + held_by call) vs) in
      ap length (in_up s f _) ∙ (in_frame s call.then call.then.side _ refl ∙ ap (λ n. one s call.then.side + n) (ap length (in_call s call.func (topmost call.args vs) _) ∙ ih))
  waiting (ForOutside f ∷ ws) vs = ap length (in_up s f _) ∙ waiting ws vs

  one_few : (t : Side) → one s t ≤ 1
  one_few t = by s t
    where
      by : (a b : Side) → one a b ≤ 1
      by Replay Replay = omega arith
      by Replay System = omega arith
      by System Replay = omega arith
      by System System = omega arith

  -- one more where a function is to be entered
  pub open_few : (c : Config) → open_on s c ≤ suc (framed (opens_in height c))
  open_few (Going a vs ws) = let e = in_frame s a a.side (opens_waiting height ws (drop (height a.at) vs)) refl ∙ ap (λ n. one s a.side + n) (waiting ws (drop (height a.at) vs)) in omega (arith, e)
  open_few (Under call vs ws) = let e = waiting (ForRet call ∷ ws) vs in omega (arith, e)
  open_few (Entering t i f args vs ws) = let e = waiting ws vs in let k = one_few t in omega (arith, e, k)
  open_few (Closing v w vs ws) = let e = waiting (w ∷ ws) vs in omega (arith, e)
  open_few (Starting f args) = omega arith
  open_few (Done v) = omega arith
  open_few Lost = omega arith

-- ---- steps without a mark open and end none

module _ (l : Laid) (s : Side) where
  abbrev Keeps : ℕ → Action → Type 0
  Keeps n (Silent d) = open_on s d ≡ n
  Keeps n (Asks side w k) = Unit {0}
  Keeps n (Pends p) = Unit {0}
  Keeps n (Awaits p) = Unit {0}
  Keeps n (Starts f args) = Unit {0}
  Keeps n (Over v) = Unit {0}
  Keeps n Stuck = Unit {0}

  combine_keeps : (o : Result ℕ FaultKind) (a : Activation) (vs : List ℕ) (ws : List Waiting) → Keeps (one s a.side + waits_on s ws) (combine o a vs ws)
  combine_keeps (Ok v) a vs ws = refl
  combine_keeps (Err kind) a vs ws = tt

  call_keeps : (n f : ℕ) (a : Activation) (vs : List ℕ) (ws : List Waiting) (o : Option (List ℕ × List ℕ)) → Keeps n (with_args o (call_act f a vs ws))
  call_keeps n f a vs ws None = tt
  call_keeps n f a vs ws (Some (args, rest)) = by (is_pool a.side f) f
    where
      by : (b : Bool) (g : ℕ) → Keeps n (cond b (pool_act g a args rest ws) (Pends (pending f false a args vs rest ws)))
      by true zero = tt
      by true (suc g) = tt
      by false g = tt

  callee_keeps : (n : ℕ) (o : Option ℕ) (a : Activation) (args vs rest : List ℕ) (ws : List Waiting) → Keeps n (to_callee o a args vs rest ws)
  callee_keeps n None a args vs rest ws = tt
  callee_keeps n (Some f) a args vs rest ws = tt

  pointer_keeps : (n sig : ℕ) (a : Activation) (vs : List ℕ) (ws : List Waiting) (o : Option (List ℕ × List ℕ)) → Keeps n (with_args o (pointer_act l sig a vs ws))
  pointer_keeps n sig a vs ws None = tt
  pointer_keeps n sig a vs ws (Some (args, [])) = tt
  pointer_keeps n sig a vs ws (Some (args, address ∷ rest)) = callee_keeps n (callee l sig address) a args vs rest ws

  act_keeps : (i : Option Instr) (a : Activation) (vs : List ℕ) (ws : List Waiting) → Keeps (one s a.side + waits_on s ws) (act l i a vs ws)
  act_keeps (Some (instr.Push what)) a vs ws = refl
  act_keeps (Some (instr.Load k o)) a [] ws = tt
  act_keeps (Some (instr.Load k o)) a (p ∷ vs) ws = tt
  act_keeps (Some (instr.LoadKeep k o)) a [] ws = tt
  act_keeps (Some (instr.LoadKeep k o)) a (p ∷ vs) ws = tt
  act_keeps (Some (instr.Store k o)) a [] ws = tt
  act_keeps (Some (instr.Store k o)) a (v ∷ []) ws = tt
  act_keeps (Some (instr.Store k o)) a (v ∷ (p ∷ vs)) ws = tt
  act_keeps (Some (instr.StoreLocal k offset)) a [] ws = tt
  act_keeps (Some (instr.StoreLocal k offset)) a (v ∷ vs) ws = tt
  act_keeps (Some (instr.StoreStep k by old o)) a [] ws = tt
  act_keeps (Some (instr.StoreStep k by old o)) a (v ∷ []) ws = tt
  act_keeps (Some (instr.StoreStep k by old o)) a (v ∷ (p ∷ vs)) ws = tt
  act_keeps (Some (instr.Change how)) a [] ws = tt
  act_keeps (Some (instr.Change how)) a (v ∷ vs) ws = refl
  act_keeps (Some (instr.Combine how)) a [] ws = tt
  act_keeps (Some (instr.Combine how)) a (y ∷ []) ws = tt
  act_keeps (Some (instr.Combine how)) a (y ∷ (x ∷ vs)) ws = combine_keeps (combined how x y) a vs ws
  act_keeps (Some (instr.EndIfZero n)) a [] ws = tt
  act_keeps (Some (instr.EndIfZero n)) a (zero ∷ vs) ws = refl
  act_keeps (Some (instr.EndIfZero n)) a (suc v ∷ vs) ws = refl
  act_keeps (Some (instr.EndUnlessZero n)) a [] ws = tt
  act_keeps (Some (instr.EndUnlessZero n)) a (zero ∷ vs) ws = refl
  act_keeps (Some (instr.EndUnlessZero n)) a (suc v ∷ vs) ws = refl
  act_keeps (Some (instr.SkipIfZero n)) a [] ws = tt
  act_keeps (Some (instr.SkipIfZero n)) a (zero ∷ vs) ws = refl
  act_keeps (Some (instr.SkipIfZero n)) a (suc v ∷ vs) ws = refl
  act_keeps (Some (instr.GoOn n)) a vs ws = refl
  act_keeps (Some instr.Turn) a vs ws = tt
  act_keeps (Some (instr.GoBack n)) a vs ws = tt
  act_keeps (Some (instr.Call f n)) a vs ws = call_keeps (one s a.side + waits_on s ws) f a vs ws (take_args n [] vs)
  act_keeps (Some (instr.CallPointer sig n)) a vs ws = pointer_keeps (one s a.side + waits_on s ws) sig a vs ws (take_args n [] vs)
  act_keeps (Some instr.Drop) a [] ws = tt
  act_keeps (Some instr.Drop) a (v ∷ vs) ws = refl
  act_keeps (Some instr.Finish) a [] ws = tt
  act_keeps (Some instr.Finish) a (v ∷ vs) ws = tt
  act_keeps None a vs ws = tt

  under_keeps : (n : ℕ) (call : Call) (vs : List ℕ) (ws : List Waiting) (o : Option (List ℕ × List ℕ)) → Keeps n (with_args o (awaiting call vs ws))
  under_keeps n call vs ws None = tt
  under_keeps n call vs ws (Some taken) = tt

  return_keeps : (n v : ℕ) (call : Call) (ws : List Waiting) (o : Option (List ℕ × List ℕ)) → Keeps n (with_args o (returning v call ws))
  return_keeps n v call ws None = tt
  return_keeps n v call ws (Some taken) = tt

  close_keeps : (n v : ℕ) (w : Waiting) (vs : List ℕ) (ws : List Waiting) → Keeps n (close v w vs ws)
  close_keeps n v (ForValue a) vs ws = tt
  close_keeps n v (ForRet call) vs ws = return_keeps n v call ws (take_args call.args [] vs)
  close_keeps n v (ForUpRet a g) vs ws = tt
  close_keeps n v (ForBelow call g) vs ws = tt
  close_keeps n v (ForOutside g) vs ws = tt

  start_keeps : (n : ℕ) (f : Option ℕ) (args : List ℕ) → Keeps n (start f args)
  start_keeps n (Some f) args = tt
  start_keeps n None args = tt

  keeps : (c : Config) → Keeps (open_on s c) (action l c)
  keeps (Going a vs ws) = act_keeps (slice_get l.code.instrs a.at) a vs ws
  keeps (Under call vs ws) = under_keeps (open_on s (Under call vs ws)) call vs ws (take_args call.args [] vs)
  keeps (Entering t i f args vs ws) = tt
  keeps (Closing v w vs ws) = close_keeps (open_on s (Closing v w vs ws)) v w vs ws
  keeps (Starting f args) = start_keeps (open_on s (Starting f args)) f args
  keeps (Done v) = tt
  keeps Lost = tt

  settle_open : (n : ℕ) (c : Config) → open_on s (settle n l c) ≡ open_on s c
  settle_open zero c = refl
  settle_open (suc n) c = each (action l c) (keeps c) (λ d. settle_open n d)
    where
      each : (a : Action) → Keeps (open_on s c) a → ((d : Config) → open_on s (settle n l d) ≡ open_on s d) → open_on s (or_stay a (settle n l) c) ≡ open_on s c
      each (Silent d) k go = go d ∙ k
      each (Asks side w to) k go = refl
      each (Pends p) k go = refl
      each (Awaits p) k go = refl
      each (Starts f args) k go = refl
      each (Over v) k go = refl
      each Stuck k go = refl

  pub settled_open : (c : Config) → open_on s (settled l c) ≡ open_on s c
  settled_open c = settle_open (suc (room l c)) c
