-- What calls came to, on either side of the cut, and what follows from it: which threads there are, who
-- holds a mutex, how many answers of the file are used.
use Rattle.std.specs.Prelude.{ℕ, suc, ◌-◌, ◌^◌, Bool, ◌&&◌, not, ◌==◌, List, [], length, filter, find, filter_map, Option, Some, None, slice_get}
use Rattle.marks.specs.Marks.{EventKind, Call, Ret, Up, UpRet, Alloc, Free, Stop, Act, Turn, Load, Store, Enter, Leave, Step, Fault, Made, Mark}
use Rattle.c_builtins.specs.declared.builtin.Builtin.{Builtin}
use Rattle.c_builtins.specs.declared.builtin.Builtin.TheVariants.{Spawn, Lock, Unlock}
use Rattle.c_builtins.specs.declared.lookup.TheConstants.{BUILTINS}
use Rattle.c_builtins.specs.Table.{number_of}
use Rattle.lockset_check_laws.specs.Locks.{LockCalls}
use Rattle.lockset_check_laws.specs.Locks as locks

-- the builtin with the number
abbrev pub builtin_of : (func : ℕ) → Option Builtin
builtin_of f = slice_get BUILTINS f

-- a call of a thread that came to its result
pub record Outcome : Type 0 where
  pub thread : ℕ
  pub func : ℕ
  pub args : List ℕ
  pub result : ℕ

abbrev pub outcome : (thread func : ℕ) → (args : List ℕ) → (result : ℕ) → Outcome
outcome t f args result = record { thread = t; func = f; args = args; result = result }

abbrev pub event_outcome : (thread : ℕ) → EventKind → Option Outcome
event_outcome t (Call f args ins outs prepared) = None
event_outcome t (Ret f args result same outs commit) = Some (outcome t f args result)
event_outcome t (Up f args) = None
event_outcome t (UpRet f result) = None
event_outcome t (Alloc at size) = None
event_outcome t (Free at size) = None
event_outcome t (Stop fault) = None

-- above the cut a call comes to its result at the Ret, so that what a builtin does is done there; below
-- it a builtin or external is one step
abbrev pub act_outcome : (thread : ℕ) → Act → Option Outcome
act_outcome t Turn = None
act_outcome t (Load origin at bytes) = None
act_outcome t (Store origin at bytes) = None
act_outcome t (Enter f args at bytes) = None
act_outcome t (Leave at size) = None
act_outcome t (Step f args result ins pieces freed) = Some (outcome t f args result)
act_outcome t (Fault kind crosses ins outs access) = None
act_outcome t (Made e) = event_outcome t e.kind

-- of a run, the newest first
abbrev pub outcomes : List Mark → List Outcome
outcomes past = filter_map (λ (m : Mark). act_outcome m.thread m.act) past

-- ---- threads

-- the pattern of -1
abbrev pub minus_one : ℕ
minus_one = 2 ^ 64 - 1

abbrev pub is_start : Outcome → Bool
is_start o = o.func == number_of Spawn && not (o.result == minus_one)

-- how many threads were started, with the first one
abbrev pub started : List Mark → ℕ
started past = suc (length (filter is_start (outcomes past)))

abbrev pub args_of : Option Outcome → List ℕ
args_of None = []
args_of (Some o) = o.args

-- what a thread was started with: the address of its function and the argument
abbrev pub started_with : (thread : ℕ) → List Mark → List ℕ
started_with t past = args_of (find (λ (o : Outcome). is_start o && o.result == t) (outcomes past))

-- ---- mutexes

abbrev pub mutex_calls : LockCalls
mutex_calls = record { lock = number_of Lock; unlock = number_of Unlock }

-- the thread that holds a mutex
abbrev pub holder : (mutex : ℕ) → List Mark → Option ℕ
holder k past = locks.holder mutex_calls k past

-- ---- answers of the file

-- how many answers of a function are used, by all threads
abbrev pub used : (func : ℕ) → List Mark → ℕ
used f past = length (filter (λ (o : Outcome). o.func == f) (outcomes past))
