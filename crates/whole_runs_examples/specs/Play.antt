-- A run that is played step by step, as the definitions say: the plainest recorder. What it makes is
-- tested by them afterwards.
use Rattle.std.specs.Prelude.{ℕ, zero, suc, ◌+◌, ◌-◌, ◌*◌, ◌/◌, Bool, ◌&&◌, ◌||◌, if◌then◌else◌, ◌==◌, leb, max, List, [], ◌∷◌, ◌++◌, map, filter, length, reverse, Option, Some, None, unwrap_or}
use Rattle.std.specs.List.{list_all, range_with_len}
use Rattle.run_events.specs.declared.key.Class.{Class}
use Rattle.run_events.specs.declared.key.Key.{Key}
use Rattle.run_events.specs.declared.key.KeyMark.{KeyMark}
use Rattle.marks.specs.declared.side.Side.{Side}
use Rattle.marks.specs.declared.side.Side.TheVariants.{System}
use Rattle.marks.specs.Places.{pool_size, replay_pool, system_pool}
use Rattle.marks.specs.declared.range.Range.{Range}
use Rattle.marks.specs.Ranges.{Piece, range, piece_bytes}
use Rattle.marks.specs.Marks.{EventKind, Call, Ret, Up, UpRet, Alloc, Free, Act, Turn, Load, Store, Enter, Leave, Step, Made, Mark, Commit, NoRegion, Withheld, Released, logged, is_event, side_of}
use Rattle.marks.specs.Bytes.{granted}
use Rattle.marks.specs.Wants.{Want, Outside, Turns, Loads, Stores, Enters, Leaves, Allocs, Frees, Calls, Below, Gives, Returns, CallsBack, UpReturns, Steps, Fails}
use Rattle.c_builtins.specs.declared.builtin.Builtin.{Builtin}
use Rattle.c_builtins.specs.declared.builtin.Builtin.TheVariants as builtins
use Rattle.c_code.specs.Machine.{first}
use Rattle.c_code.specs.MarkLists.{Next, Quiet, Wants, Ends, No}
use Rattle.replay_runs.specs.Runs.{OfThread, OfKey, marks_of, events_with, byte, keys_of, clock_of, last_clock, steps_since}
use Rattle.log_codec.specs.LogText.{Chunk}
use Rattle.replay_runs.specs.Interface.{Interface, Committing}
use Rattle.replay_runs.specs.Threads.{last_return, same_return}
use Rattle.replay_runs.specs.Keys.{key, sorted_keys, keys_for}
use Rattle.replay_runs.specs.Pool.{blocks, in_use}
use Rattle.whole_runs.specs.World.{World, begin, interface}
use Rattle.whole_runs.specs.Sides.{seen, events_by, place_on}
use Rattle.whole_runs.specs.Outcomes.{builtin_of}
use Rattle.whole_runs.specs.Threads.{comes}
use Rattle.whole_runs.specs.Picks.{stepping}
use Rattle.whole_runs.specs.Memory.{real}
use Rattle.whole_runs.specs.Below.{Given, ByPool, Says, NoMore, given, system_blocks, block_at, targets, pieces_for}
use Rattle.whole_runs.specs.Tests.{with_answer}
use Rattle.whole_runs.specs.Steps.{goes_up, read_by, zeros}
use Rattle.whole_runs.specs.declared.ending.Ending.{Ending}
use Rattle.whole_runs.specs.Ends.{Follows, IsRun, stops}
use Rattle.whole_runs.specs.Log.{all_chunks}

-- ---- memory

-- so many bytes of a memory, from an address on
abbrev pub bytes_in : (memory : ℕ → Option ℕ) → (at size : ℕ) → List ℕ
bytes_in memory at size = map (λ x. unwrap_or (memory x) 0) (range_with_len at size)

-- a range with its first bytes
abbrev pub piece_of : (memory : ℕ → Option ℕ) → Range → (used : ℕ) → Piece
piece_of memory r n = record { range = r; bytes = bytes_in memory r.addr n }

abbrev pub whole_pieces : (memory : ℕ → Option ℕ) → List Range → List Piece
whole_pieces memory rs = map (λ r. piece_of memory r r.len) rs

abbrev pub used_pieces : (memory : ℕ → Option ℕ) → List Range → List ℕ → List Piece
used_pieces memory [] ns = []
used_pieces memory (r ∷ rs) [] = []
used_pieces memory (r ∷ rs) (n ∷ ns) = piece_of memory r n ∷ used_pieces memory rs ns

-- ---- the pool

abbrev pub is_clear : (at size : ℕ) → Range → Bool
is_clear at size b = leb (b.addr + b.len) at || leb (at + size) b.addr

abbrev pub fits_at : (pool : ℕ) → List Range → (size at : ℕ) → Bool
fits_at pool bs size at = leb 1 size && (leb (at + size) (pool + pool_size) && list_all (is_clear at size) bs)

abbrev pub least_fit : (fits : ℕ → Bool) → List ℕ → ℕ
least_fit fits [] = 0
least_fit fits (x ∷ xs) = if fits x && (least_fit fits xs == 0 || leb x (least_fit fits xs)) then x else
    least_fit fits xs

-- a block begins where the pool does, or as soon as it may after another
abbrev pub place_in : (pool : ℕ) → List Range → (size : ℕ) → ℕ
place_in pool bs size = least_fit (fits_at pool bs size) (pool ∷ map (λ (b : Range). (b.addr + b.len + 15)
    / 16 * 16) bs)

-- ---- what is done

module _ (w : World) (past : List Mark) (t : ℕ) where
  abbrev memory : ℕ → Option ℕ
  memory x = real w past x

  abbrev mine : List Mark
  mine = marks_of (begin w) t (seen past)

  abbrev i : Interface
  i = interface w

  abbrev released_by : (memory : ℕ → Option ℕ) → (key used : ℕ) → Option Range → Commit
  released_by m k n None = NoRegion
  released_by m k n (Some r) = Released k (piece_of m r (if r.addr == 0 then 0 else n))

  abbrev commit_used : (memory : ℕ → Option ℕ) → (key : ℕ) → Option ℕ → Commit
  commit_used m k None = Withheld
  commit_used m k (Some n) = released_by m k n (in_use (begin w) k (seen past))

  abbrev commit_by : (memory : ℕ → Option ℕ) → Option Committing → Commit
  commit_by m None = NoRegion
  commit_by m (Some c) = commit_used m c.key c.used

  abbrev repeats : (f v : ℕ) → List Piece → Commit → Bool
  repeats f v outs commit = i.is_cached f && same_return (last_return ((begin w).returned t f) f mine)
      (record {
        result = v;
        bytes = piece_bytes outs ++ logged commit;
      })

  abbrev ret_of : (f : ℕ) → (args : List ℕ) → (v : ℕ) → List Piece → Commit → EventKind
  ret_of f args v outs commit = Ret f args v (repeats f v outs commit) outs commit

  -- the Ret of a call, out of a memory
  abbrev ret : (memory : ℕ → Option ℕ) → (f : ℕ) → (args : List ℕ) → (v : ℕ) → EventKind
  ret m f args v = ret_of f args v (used_pieces m (i.outs f args) (i.used f args v)) (commit_by m
      (i.commits f args v))

  abbrev given_ret : (f : ℕ) → (args : List ℕ) → Given → Option EventKind
  given_ret f args ByPool = None
  given_ret f args (Says v pieces) = Some (ret (with_answer w past f args v pieces) f args v)
  given_ret f args NoMore = None

  abbrev keys_of_kind : EventKind → List Key
  keys_of_kind kind = sorted_keys (keys_for i t mine kind)

  abbrev ticketed : List Key → List KeyMark
  ticketed ks = map (λ k. record {
    key = k;
    ticket = length (events_with (begin w) (OfKey k) (seen past));
  }) ks

  abbrev latest : List Key → ℕ
  latest [] = last_clock (events_with (begin w) (OfThread t) (seen past))
  latest (k ∷ ks) = max (last_clock (events_with (begin w) (OfKey k) (seen past))) (latest ks)

  -- an event with its steps, keys and clock
  abbrev pub event : EventKind → Act
  event kind = Made (record {
    kind = kind;
    steps = steps_since mine;
    keys = ticketed (keys_of_kind kind);
    clock = suc (latest (keys_of_kind kind));
  })

  abbrev event_if : Option EventKind → Option Act
  event_if None = None
  event_if (Some kind) = Some (event kind)

  abbrev given_step : (f : ℕ) → (args : List ℕ) → Given → Option Act
  given_step f args ByPool = None
  given_step f args (Says v pieces) = Some (Step f args v (whole_pieces memory (read_by w f args
      (builtin_of f)))
      (pieces_for (targets w System past f args v) pieces) [])
  given_step f args NoMore = None

  abbrev allocated : (f : ℕ) → (args : List ℕ) → (at : ℕ) → Option Act
  allocated f args at = Some (Step f args at [] (zeros at (granted at (first args))) [])

  abbrev step_of : (f : ℕ) → (args : List ℕ) → Option Builtin → Option Act
  step_of f args (Some builtins.Malloc) = allocated f args (place_in system_pool (system_blocks past)
      (first args))
  step_of f args (Some builtins.Free) = Some (Step f args 0 [] [] (block_at (first args) past))
  step_of f args b = given_step f args (given w past t f args)

  -- the act that answers what is wanted, if one does
  abbrev pub act_for : Side → Want → Option Act
  act_for side Outside = None
  act_for side Turns = Some Turn
  act_for side (Loads origin at width) = Some (Load origin at (bytes_in memory at width))
  act_for side (Stores origin at bytes) = Some (Store origin at bytes)
  act_for side (Enters indirect f args bytes) = Some (Enter f args (place_on w side t past) bytes)
  act_for side (Leaves at size) = Some (Leave at size)
  act_for side (Allocs size) = Some (event (Alloc (place_in replay_pool (blocks (begin w) (seen past))
      size) size))
  act_for side (Frees at) = Some (event (Free at (byte (begin w) at (seen past)).block))
  act_for side (Calls indirect f args) = Some (event (Call f args (whole_pieces memory (i.ins f args))
      (i.outs f args) (i.prepares f args)))
  act_for side (Below f args) = None
  act_for side (Gives f args) = event_if (given_ret f args (given w past t f args))
  act_for side (Returns f args v) = Some (event (ret memory f args v))
  act_for side (CallsBack f args bytes) =
      Some (if goes_up w past (CallsBack f args bytes) then event (Up f args) else Enter f args (place_on
      w side t past) bytes)
  act_for side (UpReturns f v) = Some (event (UpRet f v))
  act_for side (Steps indirect f args) = step_of f args (builtin_of f)
  act_for side (Fails kind) = None

  abbrev pub mark_for : Side → Act → Mark
  mark_for side act = record { thread = t; side = side_of side act; index = events_by w t past; act = act }

  abbrev with_act : Side → Option Act → List Mark
  with_act side None = past
  with_act side (Some act) = mark_for side act ∷ past

  abbrev with_next : Next → List Mark
  with_next (Quiet c) = past
  with_next (Wants side want to) = with_act side (act_for side want)
  with_next (Ends v) = past
  with_next No = past

  -- the run with one step more of the thread
  abbrev pub stepped : List Mark
  stepped = with_next (comes w past t)

abbrev pub stepped_by : World → List Mark → Option ℕ → List Mark
stepped_by w past None = past
stepped_by w past (Some t) = stepped w past t

-- the run with its next step
abbrev pub next : World → List Mark → List Mark
next w past = stepped_by w past (stepping w past)

-- the run after so many steps, the newest mark first
abbrev pub play : World → (steps : ℕ) → List Mark
play w zero = []
play w (suc n) = next w (play w n)

-- ---- how it ends

-- with the Stops of the threads that stand in replay mode
abbrev pub ended : World → List Mark → List Mark
ended w run = stops w run ++ run

-- the run after so many steps, with its Stops
abbrev pub whole : World → (steps : ℕ) → List Mark
whole w n = ended w (play w n)

-- the mark of a thread that does this after so many steps, and the run with it
abbrev pub instead : World → (steps thread : ℕ) → Side → Act → List Mark
instead w n t side act = mark_for w (play w n) t side act ∷ play w n

-- the run that a fault of the thread ends after so many steps
abbrev pub faulted : World → (steps thread : ℕ) → Side → Act → List Mark
faulted w n t side act = ended w (instead w n t side act)

-- ---- what it shows

-- of each event of a thread, the oldest first
abbrev of_events : {A : Type 0} → (Mark → A) → (thread : ℕ) → List Mark → List A
of_events form t run = reverse (map form (filter (λ (m : Mark). is_event m.act && m.thread == t) run))

abbrev pub clocks : (thread : ℕ) → List Mark → List ℕ
clocks t run = of_events (λ (m : Mark). clock_of m.act) t run

-- its keys with their tickets
abbrev pub tickets : (thread : ℕ) → List Mark → List (List KeyMark)
tickets t run = of_events (λ (m : Mark). keys_of m.act) t run

abbrev pub ticketed_key : Class → (value ticket : ℕ) → KeyMark
ticketed_key class value n = record { key = key class value; ticket = n }

-- of each chunk of the log its thread, and how many records it has
abbrev pub chunk_sizes : World → List Mark → List (ℕ × ℕ)
chunk_sizes w run = map (λ (c : Chunk). (c.thread, length c.records)) (all_chunks w run)

-- ---- what is said of a run

-- it is the run of its program, with so many steps, and ends so
abbrev pub RunsTo : World → (steps : ℕ) → Ending → Type 0
RunsTo w n e = IsRun w (whole w n) e

-- the thread meets this fault after so many steps, and the run ends so
abbrev pub FaultsTo : World → (steps thread : ℕ) → Side → Act → Ending → Type 0
FaultsTo w n t side act e = IsRun w (faulted w n t side act) e

-- no run goes on so after so many steps
abbrev pub IsNoStep : World → (steps thread : ℕ) → Side → Act → Type 0
IsNoStep w n t side act = ¬ Follows w (instead w n t side act)

-- the event of a thread after so many steps
abbrev pub event_at : World → (steps thread : ℕ) → EventKind → Act
event_at w n t kind = event w (play w n) t kind

-- the byte at an address after so many steps
abbrev pub byte_after : World → (steps : ℕ) → (x : ℕ) → Option ℕ
byte_after w n x = real w (play w n) x
