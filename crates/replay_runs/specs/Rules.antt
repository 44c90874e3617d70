-- The rules of a replay run: how each mark follows from its thread's own past, and from the events that
-- share a key.
use Rattle.std.specs.Prelude.{◌≡◌, ◌≢◌, ◌⊎◌, ℕ, ◌≤◌, ◌<◌, Bool, true, false, ◌&&◌, ◌||◌, if◌then◌else◌, ◌==◌, List, [], ◌∷◌, ◌++◌, map, length, Option, Some, None, is_some}
use Rattle.run_events.specs.declared.key.Class.{Class}
use Rattle.run_events.specs.declared.key.Class.TheVariants.{Mutex, User, Callback, Thread, Pool, Out, Async}
use Rattle.run_events.specs.declared.key.Key.{Key}
use Rattle.marks.specs.declared.side.Side.TheVariants.{Replay, System}
use Rattle.marks.specs.declared.fault.FaultKind.{FaultKind}
use Rattle.marks.specs.declared.fault.FaultKind.TheVariants.{Divide, Shift, NotLive, ReadOnly, StackFull, BadCall}
use Rattle.marks.specs.Places.{thread_count, replay_pool, is_constant, is_system}
use Rattle.marks.specs.declared.range.Range.{Range}
use Rattle.marks.specs.Ranges.{Piece, Prepared, covers, any_range, are_bytes, piece_ranges, piece_bytes, prepared_ranges}
use Rattle.marks.specs.Marks.{EventKind, Call, Ret, Up, UpRet, Alloc, Free, Stop, Act, Turn, Load, Store, Enter, Leave, Step, Fault, Made, Mark, Access, Nowhere, Reading, Writing, Freeing, Commit, NoRegion, Withheld, Released, logged}
use Rattle.marks.specs.Bytes.{writes, touches}
use Rattle.marks.specs.Wants.{Want, Outside, Turns, Loads, Stores, Enters, Leaves, Allocs, Frees, Calls, Below, Gives, Returns, CallsBack, UpReturns, Steps, Fails, answer_to, is_above, is_below}
use Rattle.replay_runs.specs.Runs.{Link, OfThread, OfKey, Start, Rules}
use Rattle.replay_runs.specs.Interface.{Interface, Program, Committing}
use Rattle.replay_runs.specs.Threads.{frame_place, HasRoom, OpenCall, open_calls, open_ups, fault_of, is_stop, is_stopped, last_return, same_return}
use Rattle.replay_runs.specs.Pool.{blocks_from, IsPlace, prepares_key, in_use_from, registered_from}
use Rattle.replay_runs.specs.Keys.{sorted_keys, keys_for}

-- the mark answers what the code wants; a thread above the cut may stop at any mark
abbrev pub is_reply : Want → Act → Bool
is_reply want act = if is_stop act then is_above want else (is_above want || is_below want) &&
    is_some (answer_to want act)

-- each of the functions may run above the cut
abbrev pub AllMayRun : Interface → List ℕ → Type 0
AllMayRun i [] = Unit {0}
AllMayRun i (f ∷ fs) = (i.may_run Replay f ≡ true) × AllMayRun i fs

-- a function that a pointer names may run in the mode that the call gives it, and those that a call
-- registers above
-- the cut; no Step may come above the cut
abbrev pub KeepsModes : Interface → Want → Type 0
KeepsModes i Outside = Unit {0}
KeepsModes i Turns = Unit {0}
KeepsModes i (Loads origin at width) = Unit {0}
KeepsModes i (Stores origin at bytes) = Unit {0}
KeepsModes i (Enters indirect func args bytes) = indirect ≡ true → i.may_run Replay func ≡ true
KeepsModes i (Leaves at size) = Unit {0}
KeepsModes i (Allocs size) = Unit {0}
KeepsModes i (Frees at) = Unit {0}
KeepsModes i (Calls indirect func args) = (indirect ≡ true → i.may_run System func ≡ true) ×
    AllMayRun i (i.registers func args)
KeepsModes i (Below func args) = Unit {0}
KeepsModes i (Gives func args) = Unit {0}
KeepsModes i (Returns func args result) = Unit {0}
KeepsModes i (CallsBack func args bytes) = Unit {0}
KeepsModes i (UpReturns func result) = Unit {0}
KeepsModes i (Steps indirect func args) = ⊥
KeepsModes i (Fails kind) = Unit {0}

-- no two of the ranges meet
abbrev pub Apart : List Range → Type 0
Apart [] = Unit {0}
Apart (r ∷ rs) = ((x : ℕ) → covers r x ≡ true → any_range rs x ≡ false) × Apart rs

abbrev pub DistinctKeys : List Prepared → Type 0
DistinctKeys [] = Unit {0}
DistinctKeys (p ∷ ps) = (prepares_key ps p.key ≡ false) × DistinctKeys ps

-- each piece has all bytes of its range
abbrev pub AreWhole : List Piece → Type 0
AreWhole [] = Unit {0}
AreWhole (p ∷ ps) = (length p.bytes ≡ p.range.len) × AreWhole ps

-- a piece of the used size, which is at most the capacity
abbrev pub IsUsed : ℕ → Piece → Type 0
IsUsed n p = (length p.bytes ≡ n) × (n ≤ p.range.len) × (are_bytes p.bytes ≡ true)

abbrev pub AreUsed : List ℕ → List Piece → Type 0
AreUsed [] [] = Unit {0}
AreUsed (n ∷ ns) (p ∷ ps) = IsUsed n p × AreUsed ns ps
AreUsed [] (p ∷ ps) = ⊥
AreUsed (n ∷ ns) [] = ⊥

-- the region of a NULL pointer has no bytes
abbrev pub CommitsUsed : ℕ → Option ℕ → Commit → Type 0
CommitsUsed k None commit = commit ≡ Withheld
CommitsUsed k (Some n) NoRegion = ⊥
CommitsUsed k (Some n) Withheld = ⊥
CommitsUsed k (Some n) (Released j p) = (j ≡ k) × IsUsed (if p.range.addr == 0 then 0 else n) p

abbrev pub Commits : Option Committing → Commit → Type 0
Commits None commit = commit ≡ NoRegion
Commits (Some c) commit = CommitsUsed c.key c.used commit

-- the Ret closes the innermost open Call, over the whole of its ranges
abbrev pub Closes : List OpenCall → ℕ → List ℕ → List Range → Type 0
Closes [] func args outs = ⊥
Closes (c ∷ cs) func args outs = (func ≡ c.func) × (args ≡ c.args) × (outs ≡ c.outs)

abbrev pub ClosesUp : List ℕ → ℕ → Type 0
ClosesUp [] func = ⊥
ClosesUp (f ∷ fs) func = func ≡ f

-- what a Ret carries
pub record IsReturn (i : Interface) (s : Start) (t : ℕ) (mine : List Mark) (func : ℕ) (args : List ℕ)
    (result : ℕ) (same : Bool) (outs : List Piece) (commit : Commit) : Type 0 where
  pub closes : Closes (open_calls mine) func args (piece_ranges outs)
  pub result_is : i.gives func result ≡ true
  pub used : AreUsed (i.used func args result) outs
  pub committed : Commits (i.commits func args result) commit
  -- the form `same` comes exactly where result and bytes are those of the thread's last return of the
  -- function
  pub repeats : same ≡ (i.is_cached func && same_return (last_return (s.returned t func) func mine)
      (record { result = result; bytes = piece_bytes outs ++ logged commit }))

-- what an event carries besides what the code wants
abbrev pub EventCarries : Interface → Start → ℕ → List Mark → EventKind → Type 0
EventCarries i s t mine (Call func args ins outs prepared) = (piece_ranges ins ≡ i.ins func args) ×
    AreWhole ins × (outs ≡ i.outs func args) × (prepared ≡ i.prepares func args) ×
    Apart (outs ++ prepared_ranges prepared) × DistinctKeys prepared
EventCarries i s t mine (Ret func args result same outs commit) =
    IsReturn i s t mine func args result same outs commit
EventCarries i s t mine (Up func args) = (i.may_run Replay func ≡ true) × (i.takes func args ≡ true)
EventCarries i s t mine (UpRet func result) = ClosesUp (open_ups mine) func
EventCarries i s t mine (Alloc at size) = Unit {0}
EventCarries i s t mine (Free at size) = (at == 0) ≡ (size == 0)
EventCarries i s t mine (Stop fault) = fault ≡ fault_of mine

abbrev pub SomeConstant : Range → Type 0
SomeConstant r = (x : ℕ) × (covers r x ≡ true) × (is_constant x ≡ true)

-- a Call is stopped at the first bad one of its ranges: it has touched those before
pub data StopsCall (ins outs : List Range) : FaultKind → List Range → List Range → Access → Type 0 where
  AtIn : (before after : List Range) (r : Range) → ins ≡ before ++ (r ∷ after) →
      StopsCall ins outs NotLive before [] (Reading r)
  AtOut : (before after : List Range) (r : Range) → outs ≡ before ++ (r ∷ after) → Apart before →
      StopsCall ins outs NotLive ins before (Writing r)
  AtConstant : (before after : List Range) (r : Range) → outs ≡ before ++ (r ∷ after) →
      Apart (r ∷ before) → SomeConstant r → StopsCall ins outs ReadOnly ins before (Writing r)

-- where the code enters a function, its frame lies at the least free place, and has room there
abbrev pub EnterCarries : ℕ → List Mark → Want → ℕ → Type 0
EnterCarries t mine Outside place = Unit {0}
EnterCarries t mine Turns place = Unit {0}
EnterCarries t mine (Loads origin at width) place = Unit {0}
EnterCarries t mine (Stores origin at bytes) place = Unit {0}
EnterCarries t mine (Enters indirect func args bytes) place = (place ≡ frame_place t mine) ×
    HasRoom t mine (length bytes)
EnterCarries t mine (Leaves at size) place = Unit {0}
EnterCarries t mine (Allocs size) place = Unit {0}
EnterCarries t mine (Frees at) place = Unit {0}
EnterCarries t mine (Calls indirect func args) place = Unit {0}
EnterCarries t mine (Below func args) place = Unit {0}
EnterCarries t mine (Gives func args) place = Unit {0}
EnterCarries t mine (Returns func args result) place = Unit {0}
EnterCarries t mine (CallsBack func args bytes) place = Unit {0}
EnterCarries t mine (UpReturns func result) place = Unit {0}
EnterCarries t mine (Steps indirect func args) place = Unit {0}
EnterCarries t mine (Fails kind) place = Unit {0}

-- a write is one of a constant
abbrev pub WritesConstant : Access → Type 0
WritesConstant Nowhere = Unit {0}
WritesConstant (Reading r) = Unit {0}
WritesConstant (Writing r) = SomeConstant r
WritesConstant (Freeing at) = Unit {0}

-- a store meets a fault that says that what it writes is read only at a constant alone
abbrev pub StoreFails : FaultKind → Access → Type 0
StoreFails Divide access = Unit {0}
StoreFails Shift access = Unit {0}
StoreFails NotLive access = Unit {0}
StoreFails ReadOnly access = WritesConstant access
StoreFails StackFull access = Unit {0}
StoreFails BadCall access = Unit {0}

-- a fault comes where it must: in place of a store, of a frame that has no room, or of a Call
abbrev pub FaultCarries : Interface → ℕ → List Mark → Want → FaultKind → List Range → List Range → Access →
    Type 0
FaultCarries i t mine Outside kind ins outs access = Unit {0}
FaultCarries i t mine Turns kind ins outs access = Unit {0}
FaultCarries i t mine (Loads origin at width) kind ins outs access = Unit {0}
FaultCarries i t mine (Stores origin at bytes) kind ins outs access = StoreFails kind access
FaultCarries i t mine (Enters indirect func args bytes) kind ins outs access =
    HasRoom t mine (length bytes) → ⊥
FaultCarries i t mine (Leaves at size) kind ins outs access = Unit {0}
FaultCarries i t mine (Allocs size) kind ins outs access = Unit {0}
FaultCarries i t mine (Frees at) kind ins outs access = Unit {0}
FaultCarries i t mine (Calls indirect func args) kind ins outs access =
    StopsCall (i.ins func args) (i.outs func args ++ prepared_ranges (i.prepares func args)) kind ins outs
    access
FaultCarries i t mine (Below func args) kind ins outs access = Unit {0}
FaultCarries i t mine (Gives func args) kind ins outs access = Unit {0}
FaultCarries i t mine (Returns func args result) kind ins outs access = Unit {0}
FaultCarries i t mine (CallsBack func args bytes) kind ins outs access = Unit {0}
FaultCarries i t mine (UpReturns func result) kind ins outs access = Unit {0}
FaultCarries i t mine (Steps indirect func args) kind ins outs access = Unit {0}
FaultCarries i t mine (Fails wanted) kind ins outs access = Unit {0}

-- what a mark carries besides what the code wants
abbrev pub Carries : Interface → Start → ℕ → List Mark → Want → Act → Type 0
Carries i s t mine want Turn = Unit {0}
Carries i s t mine want (Load origin at bytes) = Unit {0}
Carries i s t mine want (Store origin at bytes) = Unit {0}
Carries i s t mine want (Enter func args at bytes) = EnterCarries t mine want at
Carries i s t mine want (Leave at size) = Unit {0}
Carries i s t mine want (Step func args result ins pieces freed) = Unit {0}
Carries i s t mine want (Fault kind crosses ins outs access) =
    FaultCarries i t mine want kind ins outs access
Carries i s t mine want (Made e) = EventCarries i s t mine e.kind

-- the keys of an event, each once and in order
abbrev pub HasKeys : Interface → ℕ → List Mark → Act → Type 0
HasKeys i t mine (Made e) = map (λ q. q.key) e.keys ≡ sorted_keys (keys_for i t mine e.kind)
HasKeys i t mine Turn = Unit {0}
HasKeys i t mine (Load origin at bytes) = Unit {0}
HasKeys i t mine (Store origin at bytes) = Unit {0}
HasKeys i t mine (Enter func args at bytes) = Unit {0}
HasKeys i t mine (Leave at size) = Unit {0}
HasKeys i t mine (Step func args result ins pieces freed) = Unit {0}
HasKeys i t mine (Fault kind crosses ins outs access) = Unit {0}

-- the rules of a thread's own past
pub record OwnRules (program : Program) (s : Start) (mine : List Mark) (m : Mark) : Type 0 where
  pub thread : m.thread < thread_count
  pub side : m.side ≡ Replay
  pub replies : is_reply (program.want m.thread mine) m.act ≡ true
  pub modes : is_stop m.act ≡ false → KeepsModes program.interface (program.want m.thread mine)
  pub carries : Carries program.interface s m.thread mine (program.want m.thread mine) m.act
  pub keys : HasKeys program.interface m.thread mine m.act
  -- code above the cut touches no memory of the system, and writes no constant
  pub other_space : (x : ℕ) → touches m.act x ≡ true → is_system x ≡ false
  pub read_only : (x : ℕ) → writes m.act x ≡ true → is_constant x ≡ false
  -- nothing follows a Stop, and a fault is followed by its Stop alone
  pub running : is_stopped mine ≡ false
  pub after_fault : fault_of mine ≢ None → is_stop m.act ≡ true

-- a block lies at the least place that none of these blocks meets
abbrev pub PoolRule : List Range → EventKind → Type 0
PoolRule bs (Call func args ins outs prepared) = Unit {0}
PoolRule bs (Ret func args result same outs commit) = Unit {0}
PoolRule bs (Up func args) = Unit {0}
PoolRule bs (UpRet func result) = Unit {0}
PoolRule bs (Alloc at size) = IsPlace replay_pool bs size at
PoolRule bs (Free at size) = Unit {0}
PoolRule bs (Stop fault) = Unit {0}

-- what is called back is the program's first function, or is registered
abbrev pub CallbackRule : Interface → Bool → EventKind → Type 0
CallbackRule i registered (Call func args ins outs prepared) = Unit {0}
CallbackRule i registered (Ret func args result same outs commit) = Unit {0}
CallbackRule i registered (Up func args) = (func ≡ i.main) ⊎ (registered ≡ true)
CallbackRule i registered (UpRet func result) = Unit {0}
CallbackRule i registered (Alloc at size) = Unit {0}
CallbackRule i registered (Free at size) = Unit {0}
CallbackRule i registered (Stop fault) = Unit {0}

-- what is released under the key is the region that is in use under it
abbrev pub ReleaseRule : ℕ → Option Range → Commit → Type 0
ReleaseRule k region NoRegion = Unit {0}
ReleaseRule k region Withheld = Unit {0}
ReleaseRule k region (Released j p) = j ≡ k → region ≡ Some p.range

-- a key under which a region is prepared isn't in use
abbrev pub AsyncRule : ℕ → Option Range → EventKind → Type 0
AsyncRule k region (Call func args ins outs prepared) = prepares_key prepared k ≡ true → region ≡ None
AsyncRule k region (Ret func args result same outs commit) = ReleaseRule k region commit
AsyncRule k region (Up func args) = Unit {0}
AsyncRule k region (UpRet func result) = Unit {0}
AsyncRule k region (Alloc at size) = Unit {0}
AsyncRule k region (Free at size) = Unit {0}
AsyncRule k region (Stop fault) = Unit {0}

-- the rules of the events with a key, by its class and value, after those with this key since the start
abbrev pub SharedEvent : Interface → Start → Class → ℕ → List Mark → EventKind → Type 0
SharedEvent i s Mutex value past kind = Unit {0}
SharedEvent i s User value past kind = Unit {0}
SharedEvent i s Callback value past kind = CallbackRule i (registered_from (s.registered value) past) kind
SharedEvent i s Thread value past kind = Unit {0}
SharedEvent i s Pool value past kind = PoolRule (blocks_from s.blocks past) kind
SharedEvent i s Out value past kind = Unit {0}
SharedEvent i s Async value past kind = AsyncRule value (in_use_from value (s.in_use value) past) kind

abbrev pub SharedAct : Interface → Start → Key → List Mark → Act → Type 0
SharedAct i s k past (Made e) = SharedEvent i s k.class k.value past e.kind
SharedAct i s k past Turn = Unit {0}
SharedAct i s k past (Load origin at bytes) = Unit {0}
SharedAct i s k past (Store origin at bytes) = Unit {0}
SharedAct i s k past (Enter func args at bytes) = Unit {0}
SharedAct i s k past (Leave at size) = Unit {0}
SharedAct i s k past (Step func args result ins pieces freed) = Unit {0}
SharedAct i s k past (Fault kind crosses ins outs access) = Unit {0}

abbrev pub SharedRules : Interface → Start → Link → List Mark → Mark → Type 0
SharedRules i s (OfThread t) past m = Unit {0}
SharedRules i s (OfKey k) past m = SharedAct i s k past m.act

-- the rules of a replay run of the program from this start
abbrev pub replay_rules : Program → Start → Rules
replay_rules program s = record { Own = OwnRules program s; Shared = SharedRules program.interface s }
