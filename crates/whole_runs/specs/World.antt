-- What a run is given: the code and the places of its objects, what is done at each call, and the system
-- file.
use Rattle.std.specs.Prelude.{ℕ, ◌+◌, Bool, if◌then◌else◌, [], codes, position, unwrap_or, Option, None, is_some, slice_get}
use Rattle.marks.specs.declared.side.Side.{Side}
use Rattle.marks.specs.declared.side.Side.TheVariants.{Replay, System}
use Rattle.marks.specs.Places.{builtin_count}
use Rattle.marks.specs.Wants.{same_numbers}
use Rattle.memory_map.specs.declared.placed.Placed.{Placed}
use Rattle.c_code.specs.declared.code.FuncInfo.{FuncInfo}
use Rattle.c_code.specs.Machine.{Flat, Laid, is_true}
use Rattle.c_code.specs.MarkLists.{want_above}
use Rattle.stub_operations.specs.Stubs.{Stubs, added_at}
use Rattle.stub_meaning.specs.Meaning.{interface_of}
use Rattle.replay_runs.specs.Runs.{Start}
use Rattle.replay_runs.specs.Interface.{Interface, Program}
use Rattle.replay_runs.specs.Laws.{fresh}
use Rattle.space_memory.specs.Objects.{byte_of}
use Rattle.space_memory_laws.specs.Starts.{placed_byte}
use Rattle.system_side.specs.declared.file.SysFile.{SysFile}

pub record World : Type 0 where
  pub laid : Laid
  pub stubs : Stubs
  pub file : SysFile

-- ---- memory before the run

-- the byte of a global or string; none where no object lies
abbrev pub placed_at : World → (x : ℕ) → Option ℕ
placed_at w x = byte_of w.laid.placed.strings x (byte_of w.laid.placed.globals x None)

-- nothing was done, and the objects lie in their places
abbrev pub begin : World → Start
begin w = fresh (placed_byte w.laid.placed)

-- ---- functions

-- the function may run in the mode. One of which the placement says nothing may run in neither
abbrev pub may_run : Placed → Side → (func : ℕ) → Bool
may_run p Replay f = is_true (slice_get p.replay f)
may_run p System f = is_true (slice_get p.system f)

abbrev pub is_main : FuncInfo → Bool
is_main f = same_numbers f.name (codes "main")

-- the number of `main`
abbrev pub main_of : Flat → ℕ
main_of code = builtin_count + unwrap_or (position is_main code.sources) 0

-- ---- what is done at calls

abbrev pub interface_with : World → Stubs → Interface
interface_with w s = interface_of w.laid.code (main_of w.laid.code) (may_run w.laid.placed) s

-- where code above the cut calls: what is said of the functions of the interface
abbrev pub interface : World → Interface
interface w = interface_with w w.stubs

-- a function that isn't of the interface has operations of its own below the cut
abbrev pub stubs_below : Stubs → (func : ℕ) → Stubs
stubs_below s f = if is_some (added_at s f) then s else record { added = s.below; below = [] }

-- what is done where a function is called in a mode
abbrev pub interface_on : World → Side → (func : ℕ) → Interface
interface_on w Replay f = interface w
interface_on w System f = interface_with w (stubs_below w.stubs f)

-- what a replay is given of it
abbrev pub program_of : World → Program
program_of w = record { interface = interface w; want = λ t mine. want_above w.laid mine }
