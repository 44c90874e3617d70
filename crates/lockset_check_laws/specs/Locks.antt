-- Mutexes, as a look back over marks: who holds one, and what each thread may count on.
use Rattle.std.specs.Prelude.{ℕ, Bool, false, ◌&&◌, if◌then◌else◌, ◌==◌, List, [], ◌∷◌, Option, Some, None}
use Rattle.marks.specs.declared.side.Side.{Side}
use Rattle.marks.specs.declared.side.Side.TheVariants.{Replay, System}
use Rattle.marks.specs.Marks.{EventKind, Call, Ret, Up, UpRet, Alloc, Free, Stop, Act, Turn, Load, Store, Enter, Leave, Step, Fault, Made, Mark}

-- the numbers of the functions that lock and unlock
pub record LockCalls : Type 0 where
  pub lock : ℕ
  pub unlock : ℕ

-- what a mark does to a mutex. Above the cut the return of the lock takes it, the call of the unlock gives
-- it
-- back, and
-- the return of that call frees it; below the cut one step locks, and one step both gives back and frees
pub data Deed : Type 0 where
  Takes : (side : Side) (mutex : ℕ) → Deed
  GivesBack : (mutex : ℕ) → Deed
  Frees : (mutex : ℕ) → Deed
  Drops : (mutex : ℕ) → Deed
  Other : Deed

abbrev pub event_deed : LockCalls → EventKind → Deed
event_deed l (Call func (k ∷ []) ins outs prepared) = if func == l.unlock then GivesBack k else Other
event_deed l (Call func [] ins outs prepared) = Other
event_deed l (Call func (j ∷ k ∷ ks) ins outs prepared) = Other
event_deed l (Ret func (k ∷ []) result same outs commit) =
    if func == l.lock then Takes Replay k else if func == l.unlock then Frees k else Other
event_deed l (Ret func [] result same outs commit) = Other
event_deed l (Ret func (j ∷ k ∷ ks) result same outs commit) = Other
event_deed l (Up func args) = Other
event_deed l (UpRet func result) = Other
event_deed l (Alloc at size) = Other
event_deed l (Free at size) = Other
event_deed l (Stop fault) = Other

abbrev pub deed : LockCalls → Act → Deed
deed l (Made e) = event_deed l e.kind
deed l (Step func (k ∷ []) result ins pieces freed) =
    if func == l.lock then Takes System k else if func == l.unlock then Drops k else Other
deed l (Step func [] result ins pieces freed) = Other
deed l (Step func (j ∷ k ∷ ks) result ins pieces freed) = Other
deed l Turn = Other
deed l (Load origin at bytes) = Other
deed l (Store origin at bytes) = Other
deed l (Enter func args at bytes) = Other
deed l (Leave at size) = Other
deed l (Fault kind crosses ins outs access) = Other

-- a thread's own marks
abbrev pub own : ℕ → List Mark → List Mark
own t [] = []
own t (m ∷ past) = if m.thread == t then m ∷ own t past else own t past

abbrev pub taken_after : ℕ → Deed → Option Side → Option Side
taken_after k (Takes side j) s = if j == k then Some side else s
taken_after k (GivesBack j) s = if j == k then None else s
taken_after k (Drops j) s = if j == k then None else s
taken_after k (Frees j) s = s
taken_after k Other s = s

-- on which side of the cut the thread of these marks took the mutex, where it hasn't given it back
abbrev pub taken : LockCalls → ℕ → List Mark → Option Side
taken l k [] = None
taken l k (m ∷ mine) = taken_after k (deed l m.act) (taken l k mine)

abbrev pub is_that : Option ℕ → ℕ → Bool
is_that None t = false
is_that (Some u) t = u == t

abbrev pub holder_after : ℕ → ℕ → Deed → Option ℕ → Option ℕ
holder_after k t (Takes side j) h = if j == k then Some t else h
holder_after k t (Frees j) h = if j == k && is_that h t then None else h
holder_after k t (Drops j) h = if j == k && is_that h t then None else h
holder_after k t (GivesBack j) h = h
holder_after k t Other h = h

-- the thread that holds the mutex: it took it, and it hasn't freed it
abbrev pub holder : LockCalls → ℕ → List Mark → Option ℕ
holder l k [] = None
holder l k (m ∷ past) = holder_after k m.thread (deed l m.act) (holder l k past)
