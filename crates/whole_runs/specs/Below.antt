-- Below the cut: what code may touch there, the pool, and what calls of builtins and externals are given.
use Rattle.std.specs.Prelude.{◌≡◌, ◌≢◌, ℕ, Bool, true, false, if◌then◌else◌, ◌==◌, leb, List, [], ◌∷◌, ◌++◌, map, filter, find, reverse, Option, Some, None, option_map, slice_get, unwrap_or}
use Rattle.std.specs.Option.{option_or}
use Rattle.marks.specs.declared.side.Side.{Side}
use Rattle.marks.specs.declared.side.Side.TheVariants.{Replay, System}
use Rattle.marks.specs.declared.fault.FaultKind.TheVariants.{NotLive}
use Rattle.marks.specs.declared.breach.BreachKind.TheVariants.{OtherSpace}
use Rattle.marks.specs.Places.{thread_count, is_replay}
use Rattle.marks.specs.declared.range.Range.{Range}
use Rattle.marks.specs.Ranges.{Piece, Prepared, covers}
use Rattle.marks.specs.Marks.{Act, Turn, Load, Store, Enter, Leave, Step, Fault, Made, Mark, Alloc, Free}
use Rattle.marks.specs.Bytes.{Dead}
use Rattle.c_builtins.specs.declared.builtin.Builtin.{Builtin}
use Rattle.c_builtins.specs.declared.builtin.Builtin.TheVariants as builtins
use Rattle.c_code.specs.Machine.{first}
use Rattle.replay_runs.specs.Runs.{byte}
use Rattle.replay_runs.specs.Interface.{Committing}
use Rattle.replay_runs.specs.Pool.{blocks_after, in_use}
use Rattle.replay_runs.specs.Checks.{Checks, Check, Done, is_fault_found, is_breach_found, constant_check}
use Rattle.space_memory_laws.specs.Rights.{IsHandedDown}
use Rattle.system_side.specs.declared.file.Scripted.{Scripted}
use Rattle.system_side.specs.System.{is_thread}
use Rattle.whole_runs.specs.World.{World, begin, interface_on}
use Rattle.whole_runs.specs.Sides.{seen}
use Rattle.whole_runs.specs.Outcomes.{builtin_of, holder, minus_one, started, used}
use Rattle.whole_runs.specs.Threads.{result_of}
use Rattle.whole_runs.specs.Picks.{is_other}
use Rattle.whole_runs.specs.Memory.{real}

-- ---- what code may touch

-- of replay memory, code of a thread below the cut may touch what lives and is handed down to the thread
abbrev pub MayTouch : World → List Mark → (thread : ℕ) → (write : Bool) → (x : ℕ) → Type 0
MayTouch w past t write x = ((byte (begin w) x (seen past)).cell ≢ Dead) ×
    IsHandedDown (begin w) (seen past) t write x

abbrev pub IsForbidden : World → List Mark → (thread : ℕ) → (write : Bool) → (x : ℕ) → Type 0
IsForbidden w past t write x = (is_replay x ≡ true) × ¬ MayTouch w past t write x

-- a range that code below the cut reads or writes: it keeps out of memory that isn't its own, then what
-- it touches is live, then it writes no constant
abbrev pub touch_checks : World → List Mark → (thread : ℕ) → (write : Bool) → Range → Checks → Checks
touch_checks w past t write r cs =
    Check (λ x. (covers r x ≡ true) × IsForbidden w past t write x) (is_breach_found OtherSpace)
    (Check (λ x. (covers r x ≡ true) × (real w past x ≡ None)) (is_fault_found NotLive)
    (constant_check write r cs))

-- ranges that it reads, one after the other
abbrev pub read_checks : World → List Mark → (thread : ℕ) → List Range → Checks
read_checks w past t [] = Done
read_checks w past t (r ∷ rs) = touch_checks w past t false r (read_checks w past t rs)

-- ---- the pool below the cut

-- one step takes and gives back blocks as the events do above it
abbrev pub builtin_blocks : Option Builtin → (args : List ℕ) → (result : ℕ) → List Range → List Range
builtin_blocks (Some builtins.Malloc) args result bs = blocks_after (Alloc result (first args)) bs
builtin_blocks (Some builtins.Free) args result bs = blocks_after (Free (first args) 0) bs
builtin_blocks (Some builtins.Spawn) args result bs = bs
builtin_blocks (Some builtins.Join) args result bs = bs
builtin_blocks (Some builtins.Lock) args result bs = bs
builtin_blocks (Some builtins.Unlock) args result bs = bs
builtin_blocks (Some builtins.Print) args result bs = bs
builtin_blocks None args result bs = bs

abbrev pub act_blocks : Act → List Range → List Range
act_blocks Turn bs = bs
act_blocks (Load origin at bytes) bs = bs
act_blocks (Store origin at bytes) bs = bs
act_blocks (Enter f args at bytes) bs = bs
act_blocks (Leave at size) bs = bs
act_blocks (Step f args result ins pieces freed) bs = builtin_blocks (builtin_of f) args result bs
act_blocks (Fault kind crosses ins outs access) bs = bs
act_blocks (Made e) bs = bs

-- the live blocks there
abbrev pub system_blocks : List Mark → List Range
system_blocks [] = []
system_blocks (m ∷ past) = act_blocks m.act (system_blocks past)

-- the one that begins at an address, if one does
abbrev pub block_at : (at : ℕ) → List Mark → List Range
block_at at past = filter (λ (b : Range). b.addr == at) (system_blocks past)

-- ---- what calls are given

-- what the call of a builtin or external comes to: of the two of memory the pool says it; the others have
-- a result, and of an external the bytes that it writes, a piece for each region; and a file may have no
-- more answers of an external
pub data Given : Type 0 where
  ByPool : Given
  Says : (result : ℕ) (pieces : List (List ℕ)) → Given
  NoMore : Given

abbrev pub next_answer : Option Scripted → Given
next_answer None = NoMore
next_answer (Some a) = Says a.result a.pieces

-- a thread is given the number of threads so far, or -1 where there are as many as there may be; one that
-- joins the result of another one, or -1 where that isn't there; one that unlocks 0 or, where it doesn't
-- hold the mutex, -1
abbrev pub given_by : World → List Mark → (thread func : ℕ) → (args : List ℕ) → Option Builtin → Given
given_by w past t f args (Some builtins.Malloc) = ByPool
given_by w past t f args (Some builtins.Free) = ByPool
given_by w past t f args (Some builtins.Spawn) =
    Says (if leb thread_count (started past) then minus_one else started past) []
given_by w past t f args (Some builtins.Join) =
    Says (if is_other past t (first args) then unwrap_or (result_of w past (first args)) 0 else minus_one) []
given_by w past t f args (Some builtins.Lock) = Says 0 []
given_by w past t f args (Some builtins.Unlock) =
    Says (if is_thread t (holder (first args) past) then 0 else minus_one) []
given_by w past t f args (Some builtins.Print) = Says 0 []
given_by w past t f args None =
    next_answer (slice_get (filter (λ (a : Scripted). a.func == f) w.file.answers) (used f past))

abbrev pub given : World → List Mark → (thread func : ℕ) → (args : List ℕ) → Given
given w past t f args = given_by w past t f args (builtin_of f)

-- ---- where pieces go

-- to a region; nowhere, where the used size of a commit is negative; or no region has the key
pub data Target : Type 0 where
  To : (region : Range) → Target
  Nowhere : Target
  Missing : Target

-- of regions that one call prepares under a key the last counts
abbrev pub last_under : (key : ℕ) → List Prepared → Option Range
last_under k ps = option_map (λ (p : Prepared). p.range) (find (λ (p : Prepared). p.key == k) (reverse ps))

abbrev pub prepared_by : World → (key : ℕ) → Act → Option Range
prepared_by w k Turn = None
prepared_by w k (Load origin at bytes) = None
prepared_by w k (Store origin at bytes) = None
prepared_by w k (Enter f args at bytes) = None
prepared_by w k (Leave at size) = None
prepared_by w k (Step f args result ins pieces freed) =
    last_under k ((interface_on w System f).prepares f args)
prepared_by w k (Fault kind crosses ins outs access) = None
prepared_by w k (Made e) = None

-- the region last prepared under a key by an external below the cut; nothing takes it away
abbrev pub prepared_below : World → (key : ℕ) → List Mark → Option Range
prepared_below w k [] = None
prepared_below w k (m ∷ past) = option_or (prepared_by w k m.act) (prepared_below w k past)

-- the region that a commit finds: the one that a Call prepared; below the cut, where there is none, one
-- prepared there
abbrev pub region_under : World → Side → (key : ℕ) → List Mark → Option Range
region_under w Replay k past = in_use (begin w) k (seen past)
region_under w System k past = option_or (in_use (begin w) k (seen past)) (prepared_below w k past)

abbrev pub target_at : Option Range → Target
target_at None = Missing
target_at (Some r) = To r

abbrev pub target_used : World → Side → (key : ℕ) → List Mark → (used : Option ℕ) → Target
target_used w side k past None = Nowhere
target_used w side k past (Some n) = target_at (region_under w side k past)

abbrev pub commit_target : World → Side → List Mark → Option Committing → List Target
commit_target w side past None = []
commit_target w side past (Some c) = target_used w side c.key past c.used ∷ []

-- of a call in a mode that gives this result: each region that is held, and then the one that is committed
abbrev pub targets : World → Side → List Mark → (func : ℕ) → (args : List ℕ) → (result : ℕ) → List Target
targets w side past f args v = map To ((interface_on w side f).outs f args) ++
    commit_target w side past ((interface_on w side f).commits f args v)

abbrev pub piece_for : Target → List ℕ → List Piece
piece_for (To r) b = record { range = r; bytes = b } ∷ []
piece_for Nowhere b = []
piece_for Missing b = []

-- the pieces that are written. There are as many as targets, where the file fits
abbrev pub pieces_for : List Target → List (List ℕ) → List Piece
pieces_for [] bs = []
pieces_for (x ∷ xs) [] = []
pieces_for (x ∷ xs) (b ∷ bs) = piece_for x b ++ pieces_for xs bs
