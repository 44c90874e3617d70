-- The texts of values and events. A number is printed by its type.
use Rattle.std.specs.Prelude.{ℕ, ◌/◌, ◌%◌, ◌==◌, false, if◌then◌else◌, List, [], ◌∷◌, ◌++◌, length, codes, decimal, flat_map, Option, Some, None}
use Rattle.std.specs.Fmt.{digit_glyph, digits, signed_decimal}
use Rattle.run_events.specs.declared.event.Event.{Event}
use Rattle.run_events.specs.declared.event.Event.TheVariants.{Call, Ret, Up, UpRet, Alloc, Free, Stop}
use Rattle.run_events.specs.declared.event.Reason.{Reason}
use Rattle.run_events.specs.declared.event.Reason.TheVariants.{Halted, Fault}
use Rattle.run_events.specs.declared.event.Record.{Record}
use Rattle.marks.specs.declared.fault.FaultKind.{FaultKind}
use Rattle.marks.specs.declared.fault.FaultKind.TheVariants.{Divide, Shift, NotLive, ReadOnly, StackFull, BadCall}
use Rattle.marks.specs.Kinds.{fault_word}
use Rattle.c_code.specs.declared.code.FuncInfo.{FuncInfo}
use Rattle.c_code.specs.declared.shape.Shape.{Shape}
use Rattle.c_code.specs.declared.shape.Shape.TheVariants.{Void, Int, Pointer}
use Rattle.c_code.specs.Machine.{Flat, func_of}
use Rattle.c_code.specs.Values.{read}
use Rattle.event_texts.specs.EventTexts.{kind_word}
use Rattle.call_inspector.specs.Open.{opened, innermost}

-- ---- values

-- `0x` and hexadecimal digits without leading zeros
abbrev pub address_text : ℕ → List ℕ
address_text n = codes "0x" ++ digits 16 false n

-- an integer in decimal, a pointer as an address; there is no value of type void
abbrev pub value_text : Shape → ℕ → List ℕ
value_text Void n = []
value_text (Int kind) n = signed_decimal (read kind n)
value_text Pointer n = address_text n

-- further arguments, each after a comma and a space
abbrev pub more_args_text : List Shape → List ℕ → List ℕ
more_args_text [] args = []
more_args_text (shape ∷ shapes) [] = []
more_args_text (shape ∷ shapes) (arg ∷ args) = codes ", " ++ value_text shape arg ++
    more_args_text shapes args

-- arguments of these types
abbrev pub args_text : List Shape → List ℕ → List ℕ
args_text [] args = []
args_text (shape ∷ shapes) [] = []
args_text (shape ∷ shapes) (arg ∷ args) = value_text shape arg ++ more_args_text shapes args

-- what a result adds to the name of its function: nothing for type void
abbrev pub result_text : Shape → ℕ → List ℕ
result_text Void n = []
result_text (Int kind) n = codes " = " ++ value_text (Int kind) n
result_text Pointer n = codes " = " ++ value_text Pointer n

-- two hexadecimal digits
abbrev pub byte_text : ℕ → List ℕ
byte_text b = digit_glyph false (b / 16) ∷ digit_glyph false (b % 16) ∷ []

-- a space, then the bytes of a region that came back, or `-` where there are none
abbrev pub piece_text : List ℕ → List ℕ
piece_text bytes = codes " " ++ (if length bytes == 0 then codes "-" else flat_map byte_text bytes)

-- ---- functions

-- NAME(A, B)
abbrev pub call_text : Option FuncInfo → List ℕ → List ℕ
call_text None args = []
call_text (Some info) args = info.name ++ codes "(" ++ args_text info.params args ++ codes ")"

-- NAME = R
abbrev pub return_text : Option FuncInfo → ℕ → List ℕ
return_text None result = []
return_text (Some info) result = info.name ++ result_text info.result result

-- what code knows of a function
abbrev pub info_of : Flat → Option ℕ → Option FuncInfo
info_of code None = None
info_of code (Some func) = func_of code func

-- ---- stops

-- the fault that has a number
abbrev pub fault_from : ℕ → Option FaultKind
fault_from n =
    if n == 1 then Some Divide else
    if n == 2 then Some Shift else
    if n == 3 then Some NotLive else
    if n == 4 then Some ReadOnly else
    if n == 5 then Some StackFull else
    if n == 6 then Some BadCall else None

abbrev pub fault_text : Option FaultKind → List ℕ
fault_text None = []
fault_text (Some kind) = fault_word kind

abbrev pub reason_text : Reason → List ℕ
reason_text Halted = codes "halted"
reason_text (Fault n) = fault_text (fault_from n)

-- ---- events

-- what an event's text has after the word of its kind, where calls and callbacks of these functions are
-- open
abbrev pub detail_text : Flat → List ℕ → Event → List ℕ
detail_text code active (Call func args) = call_text (func_of code func) args
detail_text code active (Ret same result outs) = return_text (info_of code (innermost active)) result ++
    flat_map piece_text outs
detail_text code active (Up func args) = call_text (func_of code func) args
detail_text code active (UpRet result) = return_text (info_of code (innermost active)) result
detail_text code active (Alloc size addr) = decimal size ++ codes " = " ++ address_text addr
detail_text code active (Free addr) = address_text addr
detail_text code active (Stop reason) = reason_text reason

-- KIND, a space, and the rest
abbrev pub open_event_text : Flat → List ℕ → Event → List ℕ
open_event_text code active e = kind_word e ++ codes " " ++ detail_text code active e

-- the text of an event after the earlier events of its thread
abbrev pub event_text : Flat → List Record → Event → List ℕ
event_text code earlier e = open_event_text code (opened earlier) e
