-- What a thread's code may want to do next, and which mark answers it.
use Rattle.std.specs.Prelude.{ℕ, Bool, true, false, ◌&&◌, ◌||◌, not, if◌then◌else◌, ◌==◌, List, [], ◌∷◌, length, Option, Some, None}
use Rattle.marks.specs.declared.range.Range.{Range}
use Rattle.marks.specs.Ranges.{range, are_bytes, number_of_bytes}
use Rattle.marks.specs.declared.fault.FaultKind.{FaultKind}
use Rattle.marks.specs.declared.fault.FaultKind.TheVariants.{NotLive, ReadOnly, StackFull}
use Rattle.marks.specs.Kinds.{fault_number}
use Rattle.marks.specs.Cases.{if_call, if_ret, if_up, if_up_ret, if_alloc, if_free, if_turn, if_load, if_store, if_enter, if_leave, if_step}
use Rattle.marks.specs.Marks.{Access, Nowhere, Reading, Writing, Freeing, EventKind, Act, Turn, Load, Store, Enter, Leave, Step, Fault, Made}

-- indirect: the function comes from a pointer's value, so that its mode is tested
pub data Want : Type 0 where
  Outside : Want  -- no call of the thread is open above the cut: it may be called back
  Turns : Want
  Loads : (origin : Option ℕ) (at width : ℕ) → Want
  Stores : (origin : Option ℕ) (at : ℕ) (bytes : List ℕ) → Want
  -- the bytes of the new frame
  Enters : (indirect : Bool) (func : ℕ) (args : List ℕ) (bytes : List ℕ) → Want
  Leaves : (at size : ℕ) → Want
  Allocs : (size : ℕ) → Want
  Frees : (at : ℕ) → Want
  Calls : (indirect : Bool) (func : ℕ) (args : List ℕ) → Want  -- of the interface, above the cut
  -- anything below the cut: calls back, or the return of the call
  Below : (func : ℕ) (args : List ℕ) → Want
  Gives : (func : ℕ) (args : List ℕ) → Want  -- the return of a builtin or external
  -- the return of a call of a function with a body, which gave the result
  Returns : (func : ℕ) (args : List ℕ) (result : ℕ) → Want
  -- an indirect call below the cut: an Up, or the function's frame
  CallsBack : (func : ℕ) (args bytes : List ℕ) → Want
  UpReturns : (func result : ℕ) → Want
  Steps : (indirect : Bool) (func : ℕ) (args : List ℕ) → Want  -- a builtin or external, which is no event
  Fails : (kind : FaultKind) → Want

-- what the code learns from the mark
pub data Answer : Type 0 where
  Go : Answer
  Value : (value : ℕ) → Answer
  Frame : (at : ℕ) → Answer
  CalledBack : (func : ℕ) (args : List ℕ) → Answer
  Stopped : Answer  -- the mark is a fault, and nothing follows

abbrev pub same_numbers : List ℕ → List ℕ → Bool
same_numbers [] [] = true
same_numbers (x ∷ xs) (y ∷ ys) = x == y && same_numbers xs ys
same_numbers [] (y ∷ ys) = false
same_numbers (x ∷ xs) [] = false

abbrev pub same_origin : Option ℕ → Option ℕ → Bool
same_origin None None = true
same_origin (Some x) (Some y) = x == y
same_origin None (Some y) = false
same_origin (Some x) None = false

abbrev pub same_kind : FaultKind → FaultKind → Bool
same_kind k l = fault_number k == fault_number l

abbrev pub no_ranges : List Range → Bool
no_ranges [] = true
no_ranges (r ∷ rs) = false

abbrev pub same_access : Access → Access → Bool
same_access Nowhere Nowhere = true
same_access Nowhere (Reading q) = false
same_access Nowhere (Writing q) = false
same_access Nowhere (Freeing x) = false
same_access (Reading r) Nowhere = false
same_access (Reading r) (Reading q) = r.addr == q.addr && r.len == q.len
same_access (Reading r) (Writing q) = false
same_access (Reading r) (Freeing x) = false
same_access (Writing r) Nowhere = false
same_access (Writing r) (Reading q) = false
same_access (Writing r) (Writing q) = r.addr == q.addr && r.len == q.len
same_access (Writing r) (Freeing x) = false
same_access (Freeing at) Nowhere = false
same_access (Freeing at) (Reading q) = false
same_access (Freeing at) (Writing q) = false
same_access (Freeing at) (Freeing x) = at == x

-- the fault that stops one access, or none, of code that crosses nothing
abbrev pub is_fault_of : FaultKind → Access → Act → Bool
is_fault_of kind access Turn = false
is_fault_of kind access (Load origin at bytes) = false
is_fault_of kind access (Store origin at bytes) = false
is_fault_of kind access (Enter func args at bytes) = false
is_fault_of kind access (Leave at size) = false
is_fault_of kind access (Step func args result ins pieces freed) = false
is_fault_of kind access (Fault k crosses ins outs a) = same_kind k kind &&
    (not crosses && (no_ranges ins && (no_ranges outs && same_access a access)))
is_fault_of kind access (Made e) = false

-- a fault at a byte, of code that makes a Call or runs an external
abbrev pub is_fault_at_byte : Bool → Act → Bool
is_fault_at_byte crossing Turn = false
is_fault_at_byte crossing (Load origin at bytes) = false
is_fault_at_byte crossing (Store origin at bytes) = false
is_fault_at_byte crossing (Enter func args at bytes) = false
is_fault_at_byte crossing (Leave at size) = false
is_fault_at_byte crossing (Step func args result ins pieces freed) = false
is_fault_at_byte crossing (Fault k crosses ins outs a) = (same_kind k NotLive || same_kind k ReadOnly) &&
    (crosses || not crossing)
is_fault_at_byte crossing (Made e) = false

abbrev pub answer_if : Bool → Answer → Option Answer
answer_if b a = if b then Some a else None

abbrev pub stopped_if : Bool → Option Answer
stopped_if b = answer_if b Stopped

-- what an event answers; none where it doesn't answer what is wanted
abbrev pub event_answer : Want → EventKind → Option Answer
event_answer Outside kind = if_up (λ g bs. Some (CalledBack g bs)) None kind
event_answer Turns kind = None
event_answer (Loads origin at width) kind = None
event_answer (Stores origin at bytes) kind = None
event_answer (Enters indirect func args bytes) kind = None
event_answer (Leaves at size) kind = None
event_answer (Allocs size) kind = if_alloc (λ at n. answer_if (n == size) (Value at)) None kind
event_answer (Frees at) kind = if_free (λ x size. answer_if (x == at) Go) None kind
event_answer (Calls indirect func args) kind =
    if_call (λ g bs. answer_if (g == func && same_numbers bs args) Go) None kind
event_answer (Below func args) kind =
    if_ret (λ g bs v. answer_if (g == func && same_numbers bs args) (Value v))
    (if_up (λ g bs. Some (CalledBack g bs)) None kind) kind
event_answer (Gives func args) kind =
    if_ret (λ g bs v. answer_if (g == func && same_numbers bs args) (Value v)) None kind
event_answer (Returns func args result) kind =
    if_ret (λ g bs v. answer_if (g == func && (same_numbers bs args && v == result)) Go) None kind
event_answer (CallsBack func args bytes) kind =
    if_up (λ g bs. answer_if (g == func && same_numbers bs args) (CalledBack func args)) None kind
event_answer (UpReturns func result) kind =
    if_up_ret (λ g v. answer_if (g == func && v == result) Go) None kind
event_answer (Steps indirect func args) kind = None
event_answer (Fails fault) kind = None

-- what a mark answers that is no event: what is wanted was done, or a fault came in its place
abbrev pub plain_answer : Want → Act → Option Answer
plain_answer Outside act = None
plain_answer Turns act = if_turn (Some Go) None act
plain_answer (Loads origin at width) act =
    if_load (λ o x bytes. answer_if ((same_origin o origin && x == at) &&
    (length bytes == width && are_bytes bytes)) (Value (number_of_bytes bytes)))
    (stopped_if (is_fault_of NotLive (Reading (range at width)) act)) act
plain_answer (Stores origin at bytes) act =
    if_store (λ o x bs. answer_if (same_origin o origin && (x == at && same_numbers bs bytes)) Go)
    (stopped_if (is_fault_of NotLive (Writing (range at (length bytes))) act ||
    is_fault_of ReadOnly (Writing (range at (length bytes))) act)) act
plain_answer (Enters indirect func args bytes) act =
    if_enter (λ g bs x b. answer_if (g == func && (same_numbers bs args && same_numbers b bytes)) (Frame x))
    (stopped_if (is_fault_of StackFull Nowhere act)) act
plain_answer (Leaves at size) act = if_leave (λ x n. answer_if (x == at && n == size) Go) None act
plain_answer (Allocs size) act = None
plain_answer (Frees at) act = stopped_if (not (at == 0) && is_fault_of NotLive (Freeing at) act)
plain_answer (Calls indirect func args) act = stopped_if (is_fault_at_byte true act)
plain_answer (Below func args) act = None
plain_answer (Gives func args) act = None
plain_answer (Returns func args result) act = None
plain_answer (CallsBack func args bytes) act =
    if_enter (λ g bs x b. answer_if (g == func && (same_numbers bs args && same_numbers b bytes)) (Frame x))
    (stopped_if (is_fault_of StackFull Nowhere act)) act
plain_answer (UpReturns func result) act = None
plain_answer (Steps indirect func args) act =
    if_step (λ g bs v. answer_if (g == func && same_numbers bs args) (Value v))
    (stopped_if (is_fault_at_byte false act)) act
plain_answer (Fails kind) act = stopped_if (is_fault_of kind Nowhere act)

-- what the mark answers; none where it doesn't answer what is wanted
unfoldable pub answer_to : Want → Act → Option Answer
answer_to want Turn = plain_answer want Turn
answer_to want (Load origin at bytes) = plain_answer want (Load origin at bytes)
answer_to want (Store origin at bytes) = plain_answer want (Store origin at bytes)
answer_to want (Enter func args at bytes) = plain_answer want (Enter func args at bytes)
answer_to want (Leave at size) = plain_answer want (Leave at size)
answer_to want (Step func args result ins pieces freed) =
    plain_answer want (Step func args result ins pieces freed)
answer_to want (Fault kind crosses ins outs access) = plain_answer want (Fault kind crosses ins outs access)
answer_to want (Made e) = event_answer want e.kind

-- what code above the cut may want. It comes to a Step through a pointer to an external that isn't of the
-- interface, and
-- then may only stop
abbrev pub is_above : Want → Bool
is_above Outside = false
is_above Turns = true
is_above (Loads origin at width) = true
is_above (Stores origin at bytes) = true
is_above (Enters indirect func args bytes) = true
is_above (Leaves at size) = true
is_above (Allocs size) = true
is_above (Frees at) = true
is_above (Calls indirect func args) = true
is_above (Below func args) = false
is_above (Gives func args) = false
is_above (Returns func args result) = false
is_above (CallsBack func args bytes) = false
is_above (UpReturns func result) = true
is_above (Steps indirect func args) = true
is_above (Fails kind) = true

-- the thread is below the cut, and may be called back
abbrev pub is_below : Want → Bool
is_below Outside = true
is_below Turns = false
is_below (Loads origin at width) = false
is_below (Stores origin at bytes) = false
is_below (Enters indirect func args bytes) = false
is_below (Leaves at size) = false
is_below (Allocs size) = false
is_below (Frees at) = false
is_below (Calls indirect func args) = false
is_below (Below func args) = true
is_below (Gives func args) = false
is_below (Returns func args result) = false
is_below (CallsBack func args bytes) = false
is_below (UpReturns func result) = false
is_below (Steps indirect func args) = false
is_below (Fails kind) = false
