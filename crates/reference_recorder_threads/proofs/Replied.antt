-- What a mark answers, told from the mark.
use Rattle.std.proofs.Common.{◌≡◌, ℕ, Bool, true, false, ◌&&◌, not, eqb, List, Option, Some, None, refl, subst}
use Rattle.marks.specs.declared.side.Side.{Side}
use Rattle.marks.specs.Ranges.{number_of_bytes}
use Rattle.marks.specs.Marks.{EventKind, Call, Ret, Up, UpRet, Alloc, Free, Stop, Act, Turn, Load, Store, Enter, Leave, Step, Fault, Made, Mark}
use Rattle.marks.specs.Wants.{Want, Outside, Turns, Loads, Stores, Enters, Leaves, Allocs, Frees, Calls, Below, Gives, Returns, CallsBack, UpReturns, Steps, Fails, Answer, Go, Value, Frame, CalledBack, Stopped, answer_if, answer_to, event_answer}
use Rattle.c_code.specs.MarkLists.{reply}
use Rattle.c_code.proofs.Sides.{replied}
use Rattle.replay_runs.specs.Runs.{is_fault}
use Rattle.replay_runs.specs.Pool.{is_call, is_call_event}
use Rattle.recorder_threads.specs.Answers.{IsCall, IsNoCall}

-- ---- the answer

-- the result of a builtin or external; of a function with a body its code has it already
abbrev pub ret_reply : Want → (result : ℕ) → Answer
ret_reply Outside r = Value r
ret_reply Turns r = Value r
ret_reply (Loads o at n) r = Value r
ret_reply (Stores o at bytes) r = Value r
ret_reply (Enters i f args bytes) r = Value r
ret_reply (Leaves at n) r = Value r
ret_reply (Allocs n) r = Value r
ret_reply (Frees at) r = Value r
ret_reply (Calls i f args) r = Value r
ret_reply (Below f args) r = Value r
ret_reply (Gives f args) r = Value r
ret_reply (Returns f args v) r = Go
ret_reply (CallsBack f args bytes) r = Value r
ret_reply (UpReturns f v) r = Value r
ret_reply (Steps i f args) r = Value r
ret_reply (Fails kind) r = Value r

-- the function that is called back: what the code wanted, where it called through an address
abbrev pub up_reply : Want → (func : ℕ) → (args : List ℕ) → Answer
up_reply Outside g bs = CalledBack g bs
up_reply Turns g bs = CalledBack g bs
up_reply (Loads o at n) g bs = CalledBack g bs
up_reply (Stores o at bytes) g bs = CalledBack g bs
up_reply (Enters i f args bytes) g bs = CalledBack g bs
up_reply (Leaves at n) g bs = CalledBack g bs
up_reply (Allocs n) g bs = CalledBack g bs
up_reply (Frees at) g bs = CalledBack g bs
up_reply (Calls i f args) g bs = CalledBack g bs
up_reply (Below f args) g bs = CalledBack g bs
up_reply (Gives f args) g bs = CalledBack g bs
up_reply (Returns f args v) g bs = CalledBack g bs
up_reply (CallsBack f args bytes) g bs = CalledBack f args
up_reply (UpReturns f v) g bs = CalledBack g bs
up_reply (Steps i f args) g bs = CalledBack g bs
up_reply (Fails kind) g bs = CalledBack g bs

-- what an event answers
abbrev pub event_reply : Want → EventKind → Answer
event_reply want (Call f args ins outs prepared) = Go
event_reply want (Ret f args v same outs commit) = ret_reply want v
event_reply want (Up f args) = up_reply want f args
event_reply want (UpRet f v) = Go
event_reply want (Alloc at size) = Value at
event_reply want (Free at size) = Go
event_reply want (Stop fault) = Stopped

-- what a mark answers
abbrev pub act_reply : Want → Act → Answer
act_reply want Turn = Go
act_reply want (Load o at bytes) = Value (number_of_bytes bytes)
act_reply want (Store o at bytes) = Go
act_reply want (Enter f args at bytes) = Frame at
act_reply want (Leave at size) = Go
act_reply want (Step f args v ins pieces freed) = Value v
act_reply want (Fault kind crosses ins outs access) = Stopped
act_reply want (Made e) = event_reply want e.kind

-- an answer, where there is one, is this
abbrev Is : Option Answer → Answer → Type 0
Is None y = Unit {0}
Is (Some x) y = x ≡ y

if_is : (b : Bool) (x : Answer) → Is (answer_if b x) x
if_is true x = refl
if_is false x = tt

not_if : (b : Bool) (y : Answer) → Is (answer_if (b && false) Stopped) y
not_if true y = tt
not_if false y = tt

event_is : (want : Want) (k : EventKind) → Is (event_answer want k) (event_reply want k)
event_is Outside (Up g bs) = refl
event_is (Allocs n) (Alloc at size) = if_is _ (Value at)
event_is (Frees at) (Free x size) = if_is _ Go
event_is (Calls i f args) (Call g bs ins outs prepared) = if_is _ Go
event_is (Below f args) (Ret g bs v same outs commit) = if_is _ (Value v)
event_is (Below f args) (Up g bs) = refl
event_is (Gives f args) (Ret g bs v same outs commit) = if_is _ (Value v)
event_is (Returns f args v) (Ret g bs w same outs commit) = if_is _ Go
event_is (CallsBack f args bytes) (Up g bs) = if_is _ (CalledBack f args)
event_is (UpReturns f v) (UpRet g w) = if_is _ Go
event_is want k = tt

act_is : (want : Want) (a : Act) → is_fault a ≡ 0 → Is (answer_to want a) (act_reply want a)
unfolding answer_to
act_is want (Fault k c ins outs at) e = absurd cc
act_is want (Made ev) e = event_is want ev.kind
act_is Turns Turn e = refl
act_is (Loads o at n) (Load p x bytes) e = if_is _ (Value _)
act_is (Stores o at bytes) (Store p x bs) e = if_is _ Go
act_is (Enters i f args bytes) (Enter g bs at b) e = if_is _ (Frame at)
act_is (Leaves at n) (Leave x size) e = if_is _ Go
act_is (Frees at) a e = not_if (not (eqb at 0)) _
act_is (CallsBack f args bytes) (Enter g bs at b) e = if_is _ (Frame at)
act_is (Steps i f args) (Step g bs v ins pieces freed) e = if_is _ (Value v)
act_is want a e = tt

pub reply_is : (side : Side) (want : Want) (m : Mark) (x : Answer) → is_fault m.act ≡ 0 → reply side want m ≡ Some x → x ≡ act_reply want m.act
reply_is side want m x none e = subst (λ o. Is o (act_reply want m.act)) (replied side want m x e).1 (act_is want m.act none)

-- ---- calls of the interface

only_call : (i : Bool) (f : ℕ) (args : List ℕ) (k : EventKind) (x : Answer) → is_call_event k ≡ false → event_answer (Calls i f args) k ≡ Some x → ⊥
only_call i f args (Call g bs ins outs prepared) x c e = absurd cc
only_call i f args k x c e = absurd cc

only_calls : (i : Bool) (f : ℕ) (args : List ℕ) (a : Act) (x : Answer) → is_fault a ≡ 0 → is_call a ≡ false → answer_to (Calls i f args) a ≡ Some x → ⊥
unfolding answer_to
only_calls i f args (Fault k c ins outs at) x none not_call e = absurd cc
only_calls i f args (Made ev) x none not_call e = only_call i f args ev.kind x not_call e
only_calls i f args a x none not_call e = absurd cc

no_calls : (want : Want) (a : Act) (x : Answer) → is_fault a ≡ 0 → is_call a ≡ false → answer_to want a ≡ Some x → IsNoCall want
no_calls (Calls i f args) a x none not_call e = λ c. only_calls i f args a x none not_call e
no_calls want a x none not_call e = λ c. c

-- a mark that is no Call answers something else
pub no_call : (side : Side) (want : Want) (m : Mark) (x : Answer) → is_fault m.act ≡ 0 → is_call m.act ≡ false → reply side want m ≡ Some x → IsNoCall want
no_call side want m x none not_call e = no_calls want m.act x none not_call (replied side want m x e).1

calls : (want : Want) (k : EventKind) (x : Answer) → is_call_event k ≡ true → event_answer want k ≡ Some x → IsCall want
calls (Calls i f args) k x is e = tt
calls want (Call g bs ins outs prepared) x is e = absurd cc
calls want k x is e = absurd cc

a_call_of : (want : Want) (a : Act) (x : Answer) → is_call a ≡ true → answer_to want a ≡ Some x → IsCall want
unfolding answer_to
a_call_of want (Made ev) x is e = calls want ev.kind x is e
a_call_of want a x is e = absurd cc

-- and a Call one
pub a_call : (side : Side) (want : Want) (m : Mark) (x : Answer) → is_call m.act ≡ true → reply side want m ≡ Some x → IsCall want
a_call side want m x is e = a_call_of want m.act x is (replied side want m x e).1
