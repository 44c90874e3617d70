-- The marks of calls, by the mode of the caller and the interface of the cut.
use Rattle.std.specs.Prelude.{ℕ, zero, suc, ◌-◌, ◌/◌, Bool, true, false, ◌&&◌, if◌then◌else◌, ◌==◌, leb, ltb, List, [], ◌∷◌, length, Option, Some, None, is_some}
use Rattle.marks.specs.declared.side.Side.{Side}
use Rattle.marks.specs.declared.side.Side.TheVariants.{Replay, System}
use Rattle.marks.specs.declared.fault.FaultKind.TheVariants.{BadCall}
use Rattle.marks.specs.Places.{builtin_count, function_address}
use Rattle.marks.specs.Wants.{Allocs, Below, Calls, CallsBack, Enters, Frees, Gives, Leaves, Outside, Returns, Steps, UpReturns, Answer, CalledBack}
use Rattle.c_code.specs.declared.shape.Shape.TheVariants.{Pointer}
use Rattle.c_code.specs.Frames.{are_values}
use Rattle.c_code.specs.MarkLists.{Reading, Split, Above, Open}
use Rattle.c_types_model.specs.Types.{CType}
use Rattle.c_types_rules.specs.TypedTree as typed
use Rattle.c_types_rules.specs.Limits.{frame_size}
use Rattle.c_semantics.specs.Reading.{Marks, wrong, ended, ask, fails, with_value, with_frame}
use Rattle.c_semantics.specs.Context.{Source, body_of, frame_of, is_face, is_function_of, local_offsets, param_shapes, result_shape}
use Rattle.c_semantics.specs.Values.{Here}
use Rattle.c_semantics.specs.Statements.{statement}

-- what a function makes from its frame on, which lies there, up to its end; its result is given to what
-- follows
abbrev pub Bodies : Type 0
Bodies = Side → (func base : ℕ) → (ℕ → Marks) → Marks

-- a function's frame, and what it makes
abbrev pub entering : Source → Bodies → Side → Side → (indirect : Bool) → (func : ℕ) → (args : List ℕ) →
    (ℕ → Marks) → Marks
entering s bodies mark_side side i f args go =
    ask mark_side (Enters i f args (frame_of s f args)) (with_frame (λ base. bodies side f base go))

-- a function that is called back above the cut, and the return of its Up
abbrev pub called_back : Source → Bodies → (func : ℕ) → (args : List ℕ) → (ℕ → Marks) → Marks
called_back s bodies g args go =
    if is_some (body_of s g) && are_values (param_shapes s g) args
    then (entering s bodies Replay Replay false g args (λ v. ask Replay (UpReturns g v) (λ x. go v)))
    else wrong

-- a builtin or external that makes no event
abbrev pub stepping : Source → Side → (indirect : Bool) → (func : ℕ) → (args : List ℕ) → (ℕ → Marks) → Marks
stepping s side i f args go = ask side (Steps i f args) (with_value (result_shape s f) go)

-- ---- below a call of the interface

-- any code, which may call functions back and then returns
abbrev pub any_step : Source → Bodies → (func : ℕ) → (ℕ → Marks) → (again : Marks) → Answer → Marks
any_step s bodies f go again (CalledBack g args) = called_back s bodies g args (λ v. again)
any_step s bodies f go again x = with_value (result_shape s f) go x

abbrev pub any_below : ℕ → Source → Bodies → (func : ℕ) → (args : List ℕ) → (ℕ → Marks) → Marks
any_below zero s bodies f args go = λ ms. Open
any_below (suc n) s bodies f args go = ask Replay (Below f args)
    (any_step s bodies f go (any_below n s bodies f args go))

-- the function's own body on the system side, or the return of a builtin or external alone
abbrev pub own_below : Source → Bodies → (has_body : Bool) → (func : ℕ) → (args : List ℕ) → (ℕ → Marks) →
    Marks
own_below s bodies true f args go = entering s bodies System System false f args (λ v.
    ask Replay (Returns f args v) (λ x. go v))
own_below s bodies false f args go = ask Replay (Gives f args) (with_value (result_shape s f) go)

-- each call back has a mark, so there are no more of them than marks
abbrev pub below : Reading → Source → Bodies → (func : ℕ) → (args : List ℕ) → (ℕ → Marks) → Marks
below Split s bodies f args go = own_below s bodies (is_some (body_of s f)) f args go
below Above s bodies f args go = λ ms. any_below (suc (length ms)) s bodies f args go ms

-- ---- calls

-- in replay mode the first two builtins are events of the pool
abbrev pub first : List ℕ → ℕ
first [] = 0
first (x ∷ xs) = x

abbrev pub pooling : (func : ℕ) → (args : List ℕ) → (ℕ → Marks) → Marks
pooling zero args go = ask Replay (Allocs (first args)) (with_value Pointer go)
pooling (suc f) args go = ask Replay (Frees (first args)) (λ x. go 0)

abbrev pub is_pool : Side → ℕ → Bool
is_pool Replay f = ltb f 2
is_pool System f = false

-- an indirect call by system code may call the function back
abbrev pub back_or_plain : Source → Bodies → (func : ℕ) → (args : List ℕ) → (ℕ → Marks) → Answer → Marks
back_or_plain s bodies f args go (CalledBack g bs) = called_back s bodies f args go
back_or_plain s bodies f args go x = with_frame (λ base. bodies System f base go) x

abbrev pub entering_below : Source → Bodies → (indirect : Bool) → (func : ℕ) → (args : List ℕ) →
    (ℕ → Marks) → Marks
entering_below s bodies false f args go = entering s bodies System System false f args go
entering_below s bodies true f args go = ask System (CallsBack f args (frame_of s f args))
    (back_or_plain s bodies f args go)

-- a call, by the caller's side, whether the function is in the interface, and whether it has a body
abbrev pub calling : Reading → Source → Bodies → Side → (face has_body indirect : Bool) → (func : ℕ) →
    (args : List ℕ) → (ℕ → Marks) → Marks
calling r s bodies Replay true b i f args go = ask Replay (Calls i f args) (λ x. below r s bodies f args go)
calling r s bodies Replay false true i f args go = entering s bodies Replay Replay i f args go
calling r s bodies System face true i f args go = entering_below s bodies i f args go
calling r s bodies side face false i f args go = stepping s side i f args go

abbrev pub call : Reading → Source → Bodies → Side → (indirect : Bool) → (func : ℕ) → (args : List ℕ) →
    (ℕ → Marks) → Marks
call r s bodies side i f args go = calling r s bodies side (is_face s f) (is_some (body_of s f)) i f args go

abbrev pub call_by_name : Reading → Source → Bodies → Side → (func : ℕ) → (args : List ℕ) → (ℕ → Marks) →
    Marks
call_by_name r s bodies side f args go = if is_pool side f then pooling f args go
    else call r s bodies side false f args go

-- the function of the source at an address, if it is of this type
abbrev pub callee : Source → CType → (address : ℕ) → Option ℕ
callee s t address =
    let f = (address - function_address 0) / 16 in
    (if address == function_address f && (leb builtin_count f && is_function_of s t f) then Some f else None)

abbrev pub to_callee : Reading → Source → Bodies → Side → Option ℕ → (args : List ℕ) → (ℕ → Marks) → Marks
to_callee r s bodies side (Some f) args go = call r s bodies side true f args go
to_callee r s bodies side None args go = fails side BadCall

abbrev pub call_by_address : Reading → Source → Bodies → Side → CType → (address : ℕ) → (args : List ℕ) →
    (ℕ → Marks) → Marks
call_by_address r s bodies side t address args go = to_callee r s bodies side (callee s t address) args go

-- ---- functions

abbrev pub locals_of : Option typed.Body → List CType
locals_of (Some b) = b.locals
locals_of None = []

-- where the code of a function runs
abbrev pub here : Reading → Source → Bodies → Side → (func base : ℕ) → Here
here r s bodies side f base = record {
  source = s;
  side = side;
  base = base;
  offsets = local_offsets s (locals_of (body_of s f));
  call = call_by_name r s bodies side;
  call_at = call_by_address r s bodies side;
}

-- the statements of a function, and its Leave; without a `return` the result is 0
abbrev pub making : Source → Option typed.Body → Here → (ℕ → Marks) → Marks
making s None h go = wrong
making s (Some b) h go =
    let leave : ℕ → Marks = λ v. ask h.side (Leaves h.base (frame_size s.program b.locals)) (λ x. go v) in
    statement b.statements h (record { next = leave 0; stop = leave 0; again = leave 0; give = leave })

-- bodies in which calls nest at most n deep: each has a mark
abbrev pub bodies : ℕ → Reading → Source → Bodies
bodies zero r s side f base go = λ ms. Open
bodies (suc n) r s side f base go = making s (body_of s f) (here r s (bodies n r s) side f base) go

-- what is said of a list of marks by a call of a function
abbrev pub behaviour : Reading → Source → Side → (func : ℕ) → (args : List ℕ) → Marks
behaviour r s side f args = λ ms. entering s (bodies (suc (length ms)) r s) side side false f args ended ms

-- by a thread that begins with an indirect call, by system code, of the function of this type at an address
abbrev pub begun : Source → Bodies → (has_body : Bool) → (func : ℕ) → (args : List ℕ) → Marks
begun s bodies true f args = entering_below s bodies true f args ended
begun s bodies false f args = stepping s System true f args ended

abbrev pub started : Source → Bodies → Option ℕ → (args : List ℕ) → Marks
started s bodies None args = fails System BadCall
started s bodies (Some f) args = begun s bodies (is_some (body_of s f)) f args

abbrev pub thread_behaviour : Source → CType → (address : ℕ) → (args : List ℕ) → Marks
thread_behaviour s t address args = λ ms. started s (bodies (suc (length ms)) Split s) (callee s t address)
    args ms

-- ---- above the cut alone

abbrev pub outside_step : Source → Bodies → (again : Marks) → Answer → Marks
outside_step s bodies again (CalledBack g args) = called_back s bodies g args (λ v. again)
outside_step s bodies again x = wrong

abbrev pub outside : ℕ → Source → Bodies → Marks
outside zero s bodies = λ ms. Open
outside (suc n) s bodies = ask Replay Outside (outside_step s bodies (outside n s bodies))

-- a thread above the cut: functions that are called back, one after another
abbrev pub thread_above : Source → Marks
thread_above s = λ ms. outside (suc (length ms)) s (bodies (suc (length ms)) Above s) ms
