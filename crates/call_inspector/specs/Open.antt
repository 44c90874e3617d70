-- Which calls and callbacks of a thread are open.
use Rattle.std.specs.Prelude.{ℕ, List, [], ◌∷◌, drop, fold, Option, Some, None}
use Rattle.run_events.specs.declared.event.Event.{Event}
use Rattle.run_events.specs.declared.event.Event.TheVariants.{Call, Ret, Up, UpRet, Alloc, Free, Stop}
use Rattle.run_events.specs.declared.event.Record.{Record}

-- the functions of the calls and callbacks that are open, the innermost first, after one more event
abbrev pub open_after : List ℕ → Event → List ℕ
open_after active (Call func args) = func ∷ active
open_after active (Ret same result outs) = drop 1 active
open_after active (Up func args) = func ∷ active
open_after active (UpRet result) = drop 1 active
open_after active (Alloc size addr) = active
open_after active (Free addr) = active
open_after active (Stop reason) = active

-- the same after the first events of a thread
abbrev pub opened : List Record → List ℕ
opened rs = fold (λ active r. open_after active r.event) [] rs

-- the function that a return closes
abbrev pub innermost : List ℕ → Option ℕ
innermost [] = None
innermost (func ∷ active) = Some func
