-- What is known of the accesses of a byte that is in no object, or that a call holds.
use Rattle.std.specs.Prelude.{◌≡◌, ℕ, ◌+◌, ◌<◌, ◌≤◌, Bool, true, false, ◌||◌, ◌==◌, List, [], ◌∷◌, Option, Some, None}
use Rattle.run_events.specs.declared.key.Class.TheVariants.{Pool, Async}
use Rattle.marks.specs.declared.side.Side.TheVariants.{Replay}
use Rattle.marks.specs.Places.{thread_count, stack, stack_size, replay_stacks, replay_pool, replay_end, pool_size}
use Rattle.marks.specs.declared.range.Range.{Range}
use Rattle.marks.specs.Ranges.{range, covers, any_range}
use Rattle.marks.specs.Marks.{EventKind, Call, Ret, Up, UpRet, Alloc, Free, Stop, Act, Turn, Load, Store, Enter, Leave, Step, Fault, Made, Mark}
use Rattle.marks.specs.Bytes.{Byte, Dead, IsHeld, touches, place}
use Rattle.marks.specs.Wants.{Leaves}
use Rattle.replay_runs.specs.Runs.{Link, OfThread, OfKey, In, Start, Allowed, Run, RaceFree, fault_count, marks_of, byte}
use Rattle.replay_runs.specs.Known.{known, NoRace}
use Rattle.replay_runs.specs.Interface.{Program}
use Rattle.replay_runs.specs.Threads.{HasRoom, OpenCall, end_of, frame_place, open_calls, frames}
use Rattle.replay_runs.specs.Pool.{blocks, in_use}
use Rattle.replay_runs.specs.Keys.{key}
use Rattle.replay_runs.specs.Rules.{is_reply, replay_rules}
use Rattle.replay_runs.specs.Laws.{fresh}
use Rattle.replay_runs.specs.Passing.{Unraced}
use Rattle.replay_runs.specs.Blocks.{ListsBlocks}

-- who holds a byte: an open call of a thread, or the region that is prepared under a key
pub data Holder : Type 0 where
  Calling : (thread : ℕ) → Holder
  Preparing : (key : ℕ) → Holder

abbrev pub link_of : Holder → Link
link_of (Calling t) = OfThread t
link_of (Preparing k) = OfKey (key Async k)

abbrev pub any_held : List OpenCall → ℕ → Bool
any_held [] x = false
any_held (c ∷ cs) x = any_range c.outs x || any_held cs x

abbrev pub is_in : Option Range → ℕ → Bool
is_in None x = false
is_in (Some r) x = covers r x

abbrev pub holds : Start → List Mark → ℕ → Holder → Bool
holds s past x (Calling t) = any_held (open_calls (marks_of s t past)) x
holds s past x (Preparing k) = is_in (in_use s k past) x

abbrev pub is_own : Link → ℕ → Bool
is_own (OfThread t) u = t == u
is_own (OfKey k) u = false

-- the last event with the link, and so what comes after it, knows of each access of the byte, but for a
-- thread's own
abbrev pub AreKnown : List Mark → Link → ℕ → Type 0
AreKnown past l x = (a : Mark) → In a past → is_own l a.thread ≡ false → touches a.act x ≡ true →
    place a < known past l a.thread

-- of a byte that is dead in a stack its thread knows, of one that is dead in the pool the pool's key, of
-- one that is
-- held its holder
pub record BytesAreKnown (s : Start) (past : List Mark) (x : ℕ) : Type 0 where
  pub stacks : (t : ℕ) → t < thread_count → stack Replay t ≤ x → x < stack Replay t + stack_size →
      (byte s x past).cell ≡ Dead → AreKnown past (OfThread t) x
  pub pool : replay_pool ≤ x → x < replay_pool + pool_size → (byte s x past).cell ≡ Dead →
      AreKnown past (OfKey (key Pool 0)) x
  pub held : (h : Holder) → holds s past x h ≡ true → AreKnown past (link_of h) x

-- a thread leaves its innermost frame
abbrev pub LeavesFirst : Act → List Range → Type 0
LeavesFirst Turn fs = Unit {0}
LeavesFirst (Load origin at bytes) fs = Unit {0}
LeavesFirst (Store origin at bytes) fs = Unit {0}
LeavesFirst (Enter func args at bytes) fs = Unit {0}
LeavesFirst (Leave at size) [] = ⊥
LeavesFirst (Leave at size) (f ∷ fs) = (at ≡ f.addr) × (size ≡ f.len)
LeavesFirst (Step func args result ins pieces freed) fs = Unit {0}
LeavesFirst (Fault kind crosses ins outs access) fs = Unit {0}
LeavesFirst (Made e) fs = Unit {0}

abbrev pub FramesEndInOrder : Start → List Mark → Type 0
FramesEndInOrder s [] = Unit {0}
FramesEndInOrder s (m ∷ past) = LeavesFirst m.act (frames (marks_of s m.thread past)) ×
    FramesEndInOrder s past

-- each of a thread's marks stands above the cut and is one that its code wanted after those before it
abbrev pub AreWanted : Program → ℕ → List Mark → Type 0
AreWanted program t [] = Unit {0}
AreWanted program t (m ∷ mine) = (m.side ≡ Replay) × (is_reply (program.want t mine) m.act ≡ true) ×
    AreWanted program t mine

-- after such marks, code that leaves a frame leaves the innermost one of them
abbrev pub EndsOwnFrames : Program → Type 0
EndsOwnFrames program = (t : ℕ) (mine : List Mark) (at size : ℕ) → AreWanted program t mine →
    program.want t mine ≡ Leaves at size → LeavesFirst (Leave at size) (frames mine)

-- what each thread is in the midst of, its code wanted
abbrev pub BeginsWanted : Program → Start → Type 0
BeginsWanted program s = (t : ℕ) → AreWanted program t (s.parts t)

-- and then each run does so
abbrev pub CodeEndsFramesInOrder : Program → Type 0
CodeEndsFramesInOrder program = EndsOwnFrames program → (s : Start) (run : List Mark) →
    BeginsWanted program s → Run (replay_rules program s) s run → FramesEndInOrder s run

-- frames that stand one on the other
abbrev pub Stacked : ℕ → List Range → Type 0
Stacked base [] = Unit {0}
Stacked base (f ∷ fs) = (f.addr ≡ end_of base fs) × Stacked base fs

abbrev pub InPool : List Range → Type 0
InPool [] = Unit {0}
InPool (b ∷ bs) = (replay_pool ≤ b.addr) × (b.addr + b.len ≤ replay_pool + pool_size) × InPool bs

-- of these calls one at most holds the byte
abbrev pub Once : List OpenCall → ℕ → Type 0
Once [] x = Unit {0}
Once (c ∷ cs) x = (any_range c.outs x ≡ true → any_held cs x ≡ false) × Once cs x

-- what is live in the stacks and the pool is what frames and blocks have, and what is pending is what calls
-- and keys hold,
-- each byte for one of them
pub record IsWhole (s : Start) (past : List Mark) : Type 0 where
  pub stacked : (t : ℕ) → Stacked (stack Replay t) (frames (marks_of s t past))
  pub room : (t : ℕ) → frame_place t (marks_of s t past) ≤ stack Replay t + stack_size
  pub above : (t x : ℕ) → t < thread_count → frame_place t (marks_of s t past) ≤ x →
      x < stack Replay t + stack_size → (byte s x past).cell ≡ Dead
  pub listed : ListsBlocks (blocks s past) (λ x. (byte s x past).block)
  pub in_pool : InPool (blocks s past)
  pub unused : (x : ℕ) → replay_pool ≤ x → x < replay_pool + pool_size →
      any_range (blocks s past) x ≡ false → (byte s x past).cell ≡ Dead
  pub once : (t x : ℕ) → Once (open_calls (marks_of s t past)) x
  pub held : (x : ℕ) (h : Holder) → holds s past x h ≡ true → IsHeld (byte s x past).cell
  pub one : (x : ℕ) (h j : Holder) → holds s past x h ≡ true → holds s past x j ≡ true → h ≡ j
  pub owed : (x : ℕ) → IsHeld (byte s x past).cell → (h : Holder) × (holds s past x h ≡ true)

-- nothing lies in the stacks and in the pool, no block begins anywhere, and nothing is pending
pub record HasNoObjects (memory : ℕ → Byte) : Type 0 where
  pub cells : (x : ℕ) → replay_stacks ≤ x → x < replay_end → (memory x).cell ≡ Dead
  pub blocks : (x : ℕ) → (memory x).block ≡ 0
  pub unheld : (x : ℕ) → IsHeld (memory x).cell → ⊥

abbrev pub FreshStartsAreWhole : Type 0
FreshStartsAreWhole = (memory : ℕ → Byte) → HasNoObjects memory → IsWhole (fresh memory) []

-- a run without a race and without a fault since the start, which is whole
pub record Calm (program : Program) (s : Start) (run : List Mark) : Type 0 where
  pub starts : IsWhole s []
  pub steps : Run (replay_rules program s) s run
  pub race_free : RaceFree run
  pub in_order : FramesEndInOrder s run
  pub no_fault : fault_count run ≡ 0

-- it stays whole
abbrev pub CalmRunsAreWhole : Program → Start → Type 0
CalmRunsAreWhole program s = (run : List Mark) → Calm program s run → IsWhole s run

abbrev pub UnseenBytesAreKnown : Program → Start → Type 0
UnseenBytesAreKnown program s = (run : List Mark) → Calm program s run → (x : ℕ) → BytesAreKnown s run x

abbrev pub IsNewOrBack : EventKind → Type 0
IsNewOrBack (Call func args ins outs prepared) = ⊥
IsNewOrBack (Ret func args result same outs commit) = Unit {0}
IsNewOrBack (Up func args) = ⊥
IsNewOrBack (UpRet func result) = ⊥
IsNewOrBack (Alloc at size) = Unit {0}
IsNewOrBack (Free at size) = ⊥
IsNewOrBack (Stop fault) = ⊥

-- it enters a frame, has a new block, or gives back what a call holds
abbrev pub TakesUnseen : Act → Type 0
TakesUnseen Turn = ⊥
TakesUnseen (Load origin at bytes) = ⊥
TakesUnseen (Store origin at bytes) = ⊥
TakesUnseen (Enter func args at bytes) = Unit {0}
TakesUnseen (Leave at size) = ⊥
TakesUnseen (Step func args result ins pieces freed) = ⊥
TakesUnseen (Fault kind crosses ins outs access) = ⊥
TakesUnseen (Made e) = IsNewOrBack e.kind

-- so a frame, a new block and a return race with nothing, by the rules alone
abbrev pub UnseenBytesRaceWithNothing : Program → Start → Type 0
UnseenBytesRaceWithNothing program s =
    (past : List Mark) → Calm program s past → (m : Mark) → Allowed (replay_rules program s) s past m →
    TakesUnseen m.act → NoRace past m

-- nor does a frame for which there is room
abbrev pub FramesRaceWithNothing : Program → Start → Type 0
FramesRaceWithNothing program s =
    (past : List Mark) → Calm program s past → (t size : ℕ) → t < thread_count →
    HasRoom t (marks_of s t past) size
    → Unraced past t true (range (frame_place t (marks_of s t past)) size)
