-- A step that is no event, and in which no call comes to its result.
use Rattle.std.proofs.Common.{◌≡◌, ℕ, ◌≤◌, Bool, true, false, cond, List, [], ◌∷◌, length, Option, Some, None, sym, ap, ◌∙◌, arith}
use Rattle.std.proofs.lemmas.Bool.{true≢false}
use Rattle.marks.specs.declared.side.Side.{Side}
use Rattle.marks.specs.Marks.{EventKind, Call, Ret, Up, UpRet, Alloc, Free, Stop, Act, Turn, Load, Store, Enter, Leave, Step, Fault, Made, Mark, is_event}
use Rattle.marks.specs.Wants.{event_answer, Want, Outside, Turns, Loads, Stores, Enters, Leaves, Allocs, Frees, Calls, Below, Gives, Returns, CallsBack, UpReturns, Steps, Fails, Answer, Stopped, answer_to, is_fault_at_byte, stopped_if}
use Rattle.c_code.specs.MarkLists.{reply, same_side}
use Rattle.marks.specs.Marks as marks
use Rattle.whole_runs.specs.World.{World}
use Rattle.whole_runs.specs.Outcomes.{Outcome, act_outcome, event_outcome}
use Rattle.whole_runs.specs.Steps.{Picked, IsMade}
use Rattle.whole_runs.specs.Ends.{Follows, HasRoomFor}
use Rattle.recorder_threads.specs.Answers.{IsNoCall}

-- marks that are no event have room
pub room : (past : List Mark) (m : Mark) → is_event m.act ≡ false → HasRoomFor past m
room past m plain = record { events = λ e. absurd (true≢false (sym e ∙ plain)); bytes = λ e. absurd (true≢false (sym e ∙ plain)) }

abbrev pub follows_so : (w : World) (past : List Mark) (m : Mark) (s : Picked w past) → IsMade w past s m → HasRoomFor past m → Follows w past → Follows w (m ∷ past)
follows_so w past m s made r f = (record { step = s; made = made; room = r }, f)

-- no more marks than the budget
pub in_budget : (w : World) (past : List Mark) → Follows w past → length past ≤ w.file.budget
in_budget w [] f = omega arith
in_budget w (m ∷ past) f = let lt = f.0.step.goes_on.in_budget in omega (arith, lt)

-- the answer is no fault
abbrev pub GoesOn : Answer → Type 0
GoesOn x = x ≡ Stopped → ⊥

if_stopped : (b : Bool) (x : Answer) → GoesOn x → stopped_if b ≡ Some x → ⊥
if_stopped true x h e = h (sym (ap or_this e))
  where
    or_this : Option Answer → Answer
    or_this None = x
    or_this (Some y) = y
if_stopped false x h e = absurd cc

-- a call of the interface is answered by its event
call_event : (i : Bool) (f : ℕ) (args : List ℕ) (a : Act) (x : Answer) → is_event a ≡ false → GoesOn x → answer_to (Calls i f args) a ≡ Some x → ⊥
unfolding answer_to
call_event i f args Turn x p h e = if_stopped false x h e
call_event i f args (Load o at bytes) x p h e = if_stopped false x h e
call_event i f args (Store o at bytes) x p h e = if_stopped false x h e
call_event i f args (Enter g bs at bytes) x p h e = if_stopped false x h e
call_event i f args (Leave at size) x p h e = if_stopped false x h e
call_event i f args (Step g bs v ins pieces freed) x p h e = if_stopped false x h e
call_event i f args (Fault kind crosses ins outs access) x p h e = if_stopped (is_fault_at_byte true (Fault kind crosses ins outs access)) x h e
call_event i f args (Made ev) x p h e = absurd cc

answered : (side : Side) (want : Want) (m : Mark) (x : Answer) → reply side want m ≡ Some x → answer_to want m.act ≡ Some x
unfolding reply
answered side want m x e = by (same_side (marks.side_of side m.act) m.side) e
  where
    by : (b : Bool) → cond b (answer_to want m.act) None ≡ Some x → answer_to want m.act ≡ Some x
    by true z = z
    by false z = absurd cc

pub no_call : (side : Side) (want : Want) (m : Mark) (x : Answer) → is_event m.act ≡ false → GoesOn x → reply side want m ≡ Some x → IsNoCall want
no_call side (Calls i f args) m x p h e = λ c. call_event i f args m.act x p h (answered side (Calls i f args) m x e)
no_call side Outside m x p h e = λ c. c
no_call side Turns m x p h e = λ c. c
no_call side (Loads o at n) m x p h e = λ c. c
no_call side (Stores o at bytes) m x p h e = λ c. c
no_call side (Enters i f args bytes) m x p h e = λ c. c
no_call side (Leaves at n) m x p h e = λ c. c
no_call side (Allocs n) m x p h e = λ c. c
no_call side (Frees at) m x p h e = λ c. c
no_call side (Below f args) m x p h e = λ c. c
no_call side (Gives f args) m x p h e = λ c. c
no_call side (Returns f args v) m x p h e = λ c. c
no_call side (CallsBack f args bytes) m x p h e = λ c. c
no_call side (UpReturns f v) m x p h e = λ c. c
no_call side (Steps i f args) m x p h e = λ c. c
no_call side (Fails kind) m x p h e = λ c. c

-- nor is a call of the interface answered by the result of a call
call_result : (i : Bool) (f : ℕ) (args : List ℕ) (a : Act) (x : Answer) (t : ℕ) (o : Outcome) → act_outcome t a ≡ Some o → answer_to (Calls i f args) a ≡ Some x → ⊥
unfolding answer_to
call_result i f args (Step g bs v ins pieces freed) x t o is e = absurd cc
call_result i f args (Made ev) x t o is e = by ev.kind is e
  where
    by : (k : EventKind) → event_outcome t k ≡ Some o → event_answer (Calls i f args) k ≡ Some x → ⊥
    by (Ret g bs v same outs commit) z y = absurd cc
    by (Call g bs ins outs prepared) z y = absurd cc
    by (Up g bs) z y = absurd cc
    by (UpRet g v) z y = absurd cc
    by (Alloc at size) z y = absurd cc
    by (Free at size) z y = absurd cc
    by (Stop fault) z y = absurd cc
call_result i f args Turn x t o is e = absurd cc
call_result i f args (Load p at bytes) x t o is e = absurd cc
call_result i f args (Store p at bytes) x t o is e = absurd cc
call_result i f args (Enter g bs at bytes) x t o is e = absurd cc
call_result i f args (Leave at size) x t o is e = absurd cc
call_result i f args (Fault kind crosses ins outs access) x t o is e = absurd cc

pub no_call_result : (side : Side) (want : Want) (m : Mark) (x : Answer) (t : ℕ) (o : Outcome) → act_outcome t m.act ≡ Some o → reply side want m ≡ Some x → IsNoCall want
no_call_result side (Calls i f args) m x t o is e = λ c. call_result i f args m.act x t o is (answered side (Calls i f args) m x e)
no_call_result side Outside m x t o is e = λ c. c
no_call_result side Turns m x t o is e = λ c. c
no_call_result side (Loads p at n) m x t o is e = λ c. c
no_call_result side (Stores p at bytes) m x t o is e = λ c. c
no_call_result side (Enters i f args bytes) m x t o is e = λ c. c
no_call_result side (Leaves at n) m x t o is e = λ c. c
no_call_result side (Allocs n) m x t o is e = λ c. c
no_call_result side (Frees at) m x t o is e = λ c. c
no_call_result side (Below f args) m x t o is e = λ c. c
no_call_result side (Gives f args) m x t o is e = λ c. c
no_call_result side (Returns f args v) m x t o is e = λ c. c
no_call_result side (CallsBack f args bytes) m x t o is e = λ c. c
no_call_result side (UpReturns f v) m x t o is e = λ c. c
no_call_result side (Steps i f args) m x t o is e = λ c. c
no_call_result side (Fails kind) m x t o is e = λ c. c
