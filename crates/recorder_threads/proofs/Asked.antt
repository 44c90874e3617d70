-- What the marks that code asks for have to do with the place that it is at.
use Rattle.std.proofs.Common.{◌≡◌, ℕ, zero, suc, ◌+◌, ◌*◌, ◌/◌, ◌%◌, Bool, true, false, cond, List, [], ◌∷◌, length, Option, Some, None, Result, Ok, Err, refl, sym, ap, ◌∙◌, subst, arith}
use Rattle.std.specs.Prelude.{slice_get}
use Rattle.std.proofs.Math.Nat.{add-mul-mod_self_left}
use Rattle.r2_num.specs.declared.kinds.IntKind.{IntKind}
use Rattle.r2_num.specs.declared.kinds.IntKind.TheVariants as kinds
use Rattle.marks.specs.declared.side.Side.{Side}
use Rattle.marks.specs.declared.side.Side.TheVariants.{Replay, System}
use Rattle.marks.specs.declared.fault.FaultKind.{FaultKind}
use Rattle.marks.specs.Ranges.{bytes_of_number, number_of_bytes}
use Rattle.marks.specs.Wants.{Want, Outside, Turns, Loads, Stores, Enters, Leaves, Allocs, Frees, Calls, Below, Gives, Returns, CallsBack, UpReturns, Steps, Fails}
use Rattle.c_code.specs.declared.instr.Instr.{Instr}
use Rattle.c_code.specs.declared.instr.Instr.TheVariants as instr
use Rattle.c_code.specs.declared.activation.Activation.{Activation}
use Rattle.c_code.specs.declared.activation.Call.{Call}
use Rattle.c_code.specs.declared.activation.Waiting.{Waiting}
use Rattle.c_code.specs.declared.activation.Waiting.TheVariants.{ForValue, ForRet, ForUpRet, ForBelow, ForOutside}
use Rattle.c_code.specs.Values.{bytes_of, combined}
use Rattle.c_code.specs.Machine.{Laid, Config, Going, Under, Entering, Closing, Starting, Done, Lost, Action, Silent, Asks, Pends, Awaits, Starts, Over, Stuck, combine, entry, frame_of, is_pool, pool_act, pending, call_act, pointer_act, to_callee, callee, take_args, with_args, act, action, awaiting, returning, close, start}
use Rattle.c_code.specs.MarkLists.{has_entry}
use Rattle.c_code.proofs.FrameBytes.{bytes_count}
use Rattle.c_machine.specs.Moves.{EntersBody}
use Rattle.c_machine.specs.Readers.{args_of, is_indirect, side_of}
use Rattle.recorder_threads.specs.Wants.{IsWidth}

-- the bytes of a number are those of the number that they have
pub bytes_again : (width value : ℕ) → bytes_of_number width value ≡ bytes_of_number (length (bytes_of_number width value)) (number_of_bytes (bytes_of_number width value))
bytes_again zero value = refl
bytes_again (suc width) value =
    let bs = bytes_of_number width (value / 256) in
    let rest = bytes_again width (value / 256) in
    let low : (value % 256 + 256 * number_of_bytes bs) % 256 ≡ value % 256 = add-mul-mod_self_left (value % 256) 256 (number_of_bytes bs) ∙ omega arith in
    let high : (value % 256 + 256 * number_of_bytes bs) / 256 ≡ number_of_bytes bs = omega arith in
    λ i. sym low i ∷ (rest ∙ ap (bytes_of_number (length bs)) (sym high)) i

-- the bytes of each kind are so many
width_of : (k : IntKind) → IsWidth (bytes_of k)
width_of kinds.I8 = record { some = omega arith; few = omega arith }
width_of kinds.U8 = record { some = omega arith; few = omega arith }
width_of kinds.I16 = record { some = omega arith; few = omega arith }
width_of kinds.U16 = record { some = omega arith; few = omega arith }
width_of kinds.I32 = record { some = omega arith; few = omega arith }
width_of kinds.U32 = record { some = omega arith; few = omega arith }
width_of kinds.I64 = record { some = omega arith; few = omega arith }
width_of kinds.U64 = record { some = omega arith; few = omega arith }

-- these are the bytes of a number, as many as are stored at a time
pub record AreStored (bytes : List ℕ) : Type 0 where
  pub number : bytes ≡ bytes_of_number (length bytes) (number_of_bytes bytes)
  pub width : IsWidth (length bytes)

stored : (k : IntKind) (value : ℕ) → AreStored (bytes_of_number (bytes_of k) value)
stored k value = record {
  number = bytes_again (bytes_of k) value;
  width = subst IsWidth (sym (bytes_count (bytes_of k) value)) (width_of k);
}

module _ (l : Laid) where
  -- a store has the bytes of a number, and is of a width, as a load is; a frame is that of the function that is to be entered
  abbrev pub Fits : Config → Want → Type 0
  Fits c Outside = Unit {0}
  Fits c Turns = Unit {0}
  Fits c (Loads o at n) = IsWidth n
  Fits c (Stores o at bytes) = AreStored bytes
  Fits c (Enters i f args bytes) = (i ≡ is_indirect c) × (args ≡ args_of c) × (bytes ≡ frame_of l f args) × (EntersBody l c → has_entry (entry l f) ≡ true)
  Fits c (Leaves at n) = Unit {0}
  Fits c (Allocs n) = Unit {0}
  Fits c (Frees at) = Unit {0}
  Fits c (Calls i f args) = Unit {0}
  Fits c (Below f args) = Unit {0}
  Fits c (Gives f args) = Unit {0}
  Fits c (Returns f args v) = Unit {0}
  Fits c (CallsBack f args bytes) = Unit {0}
  Fits c (UpReturns f v) = Unit {0}
  Fits c (Steps i f args) = Unit {0}
  Fits c (Fails kind) = Unit {0}

  -- it stands on the side of its code
  abbrev pub Asked : Config → Action → Type 0
  Asked c (Asks s w k) = (s ≡ side_of c) × Fits c w
  Asked c (Silent d) = Unit {0}
  Asked c (Pends p) = Unit {0}
  Asked c (Awaits p) = Unit {0}
  Asked c (Starts f args) = Unit {0}
  Asked c (Over v) = Unit {0}
  Asked c Stuck = Unit {0}

  combine_asked : (o : Result ℕ FaultKind) (a : Activation) (vs us : List ℕ) (ws : List Waiting) → Asked (Going a us ws) (combine o a vs ws)
  combine_asked (Ok v) a vs us ws = tt
  combine_asked (Err kind) a vs us ws = (refl, tt)

  pool_asked : (f : ℕ) (a : Activation) (args rest us : List ℕ) (ws : List Waiting) → Replay ≡ a.side → Asked (Going a us ws) (pool_act f a args rest ws)
  pool_asked zero a args rest us ws e = (e, tt)
  pool_asked (suc f) a args rest us ws e = (e, tt)

  pool_side : (s : Side) (f : ℕ) → is_pool s f ≡ true → Replay ≡ s
  pool_side Replay f e = refl
  pool_side System f e = absurd cc

  call_asked : (f : ℕ) (a : Activation) (vs : List ℕ) (ws : List Waiting) (o : Option (List ℕ × List ℕ)) → Asked (Going a vs ws) (with_args o (call_act f a vs ws))
  call_asked f a vs ws None = tt
  call_asked f a vs ws (Some (args, rest)) = by (is_pool a.side f) refl
    where
      by : (b : Bool) → is_pool a.side f ≡ b → Asked (Going a vs ws) (cond b (pool_act f a args rest ws) (Pends (pending f false a args vs rest ws)))
      by true e = pool_asked f a args rest vs ws (pool_side a.side f e)
      by false e = tt

  callee_asked : (o : Option ℕ) (a : Activation) (args vs us rest : List ℕ) (ws : List Waiting) → Asked (Going a us ws) (to_callee o a args vs rest ws)
  callee_asked None a args vs us rest ws = (refl, tt)
  callee_asked (Some f) a args vs us rest ws = tt

  pointer_asked : (sig : ℕ) (a : Activation) (vs : List ℕ) (ws : List Waiting) (o : Option (List ℕ × List ℕ)) → Asked (Going a vs ws) (with_args o (pointer_act l sig a vs ws))
  pointer_asked sig a vs ws None = tt
  pointer_asked sig a vs ws (Some (args, [])) = tt
  pointer_asked sig a vs ws (Some (args, address ∷ rest)) = callee_asked (callee l sig address) a args vs vs rest ws

  act_asked : (i : Option Instr) (a : Activation) (vs : List ℕ) (ws : List Waiting) → Asked (Going a vs ws) (act l i a vs ws)
  act_asked (Some (instr.Push what)) a vs ws = tt
  act_asked (Some (instr.Load k o)) a [] ws = tt
  act_asked (Some (instr.Load k o)) a (p ∷ vs) ws = (refl, width_of k)
  act_asked (Some (instr.LoadKeep k o)) a [] ws = tt
  act_asked (Some (instr.LoadKeep k o)) a (p ∷ vs) ws = (refl, width_of k)
  act_asked (Some (instr.Store k o)) a [] ws = tt
  act_asked (Some (instr.Store k o)) a (v ∷ []) ws = tt
  act_asked (Some (instr.Store k o)) a (v ∷ (p ∷ vs)) ws = (refl, stored k v)
  act_asked (Some (instr.StoreLocal k offset)) a [] ws = tt
  act_asked (Some (instr.StoreLocal k offset)) a (v ∷ vs) ws = (refl, stored k v)
  act_asked (Some (instr.StoreStep k by old o)) a [] ws = tt
  act_asked (Some (instr.StoreStep k by old o)) a (v ∷ []) ws = tt
  act_asked (Some (instr.StoreStep k by old o)) a (v ∷ (p ∷ vs)) ws = (refl, stored k _)
  act_asked (Some (instr.Change how)) a [] ws = tt
  act_asked (Some (instr.Change how)) a (v ∷ vs) ws = tt
  act_asked (Some (instr.Combine how)) a [] ws = tt
  act_asked (Some (instr.Combine how)) a (y ∷ []) ws = tt
  act_asked (Some (instr.Combine how)) a (y ∷ (x ∷ vs)) ws = combine_asked (combined how x y) a vs (y ∷ (x ∷ vs)) ws
  act_asked (Some (instr.EndIfZero n)) a [] ws = tt
  act_asked (Some (instr.EndIfZero n)) a (v ∷ vs) ws = tt
  act_asked (Some (instr.EndUnlessZero n)) a [] ws = tt
  act_asked (Some (instr.EndUnlessZero n)) a (v ∷ vs) ws = tt
  act_asked (Some (instr.SkipIfZero n)) a [] ws = tt
  act_asked (Some (instr.SkipIfZero n)) a (v ∷ vs) ws = tt
  act_asked (Some (instr.GoOn n)) a vs ws = tt
  act_asked (Some instr.Turn) a vs ws = (refl, tt)
  act_asked (Some (instr.GoBack n)) a vs ws = (refl, tt)
  act_asked (Some (instr.Call f n)) a vs ws = call_asked f a vs ws (take_args n [] vs)
  act_asked (Some (instr.CallPointer sig n)) a vs ws = pointer_asked sig a vs ws (take_args n [] vs)
  act_asked (Some instr.Drop) a [] ws = tt
  act_asked (Some instr.Drop) a (v ∷ vs) ws = tt
  act_asked (Some instr.Finish) a [] ws = tt
  act_asked (Some instr.Finish) a (v ∷ vs) ws = (refl, tt)
  act_asked None a vs ws = tt

  under_asked : (call : Call) (vs us : List ℕ) (ws : List Waiting) (o : Option (List ℕ × List ℕ)) → Asked (Under call us ws) (with_args o (awaiting call vs ws))
  under_asked call vs us ws None = tt
  under_asked call vs us ws (Some taken) = tt

  return_asked : (v : ℕ) (call : Call) (vs : List ℕ) (ws : List Waiting) (o : Option (List ℕ × List ℕ)) → Asked (Closing v (ForRet call) vs ws) (with_args o (returning v call ws))
  return_asked v call vs ws None = tt
  return_asked v call vs ws (Some taken) = (refl, tt)

  close_asked : (v : ℕ) (w : Waiting) (vs : List ℕ) (ws : List Waiting) → Asked (Closing v w vs ws) (close v w vs ws)
  close_asked v (ForValue a) vs ws = tt
  close_asked v (ForRet call) vs ws = return_asked v call vs ws (take_args call.args [] vs)
  close_asked v (ForUpRet a g) vs ws = (refl, tt)
  close_asked v (ForBelow call g) vs ws = (refl, tt)
  close_asked v (ForOutside g) vs ws = (refl, tt)

  start_asked : (f : Option ℕ) (args : List ℕ) → Asked (Starting f args) (start f args)
  start_asked (Some f) args = tt
  start_asked None args = (refl, tt)

  pub asked : (c : Config) → Asked c (action l c)
  asked (Going a vs ws) = act_asked (slice_get l.code.instrs a.at) a vs ws
  asked (Under call vs ws) = under_asked call vs vs ws (take_args call.args [] vs)
  asked (Entering s i f args vs ws) = (refl, (refl, refl, refl, λ h. h))
  asked (Closing v w vs ws) = close_asked v w vs ws
  asked (Starting f args) = start_asked f args
  asked (Done v) = tt
  asked Lost = tt
