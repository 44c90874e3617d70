-- Where things lie: the addresses and sizes of the areas, and how many threads and frames there are.
use Rattle.std.specs.Prelude.{ℕ, ◌+◌, ◌*◌, Bool, ◌&&◌, leb, ltb}
use Rattle.marks.specs.declared.side.Side.{Side}
use Rattle.marks.specs.declared.side.Side.TheVariants.{Replay, System}

-- the numbers of threads are below it
abbrev pub thread_count : ℕ
thread_count = 32

-- as many frames of one space a thread may have in use
abbrev pub frame_count : ℕ
frame_count = 256

-- strings, and globals that no one writes
abbrev pub constants : ℕ
constants = 0x00100000

abbrev pub replay_globals : ℕ
replay_globals = 0x10000000

abbrev pub replay_stacks : ℕ
replay_stacks = 0x20000000

abbrev pub replay_pool : ℕ
replay_pool = 0x30000000

-- replay memory ends before it
abbrev pub replay_end : ℕ
replay_end = 0x40000000

abbrev pub system_globals : ℕ
system_globals = 0x50000000

abbrev pub system_stacks : ℕ
system_stacks = 0x60000000

abbrev pub system_pool : ℕ
system_pool = 0x70000000

-- system memory ends before it
abbrev pub system_end : ℕ
system_end = 0x80000000

abbrev pub stack_size : ℕ
stack_size = 0x10000

abbrev pub pool_size : ℕ
pool_size = 0x100000

-- blocks, frames, strings and areas begin at multiples of it
abbrev pub alignment : ℕ
alignment = 16

-- the first byte of a thread's stack, above the cut or below it
abbrev pub stack : Side → ℕ → ℕ
stack Replay thread = replay_stacks + thread * stack_size
stack System thread = system_stacks + thread * stack_size

-- the value of a pointer to a function
abbrev pub function_address : ℕ → ℕ
function_address func = 0x1000 + 16 * func

-- builtins have the numbers below it, functions of the source the others
abbrev pub builtin_count : ℕ
builtin_count = 16

abbrev pub is_constant : ℕ → Bool
is_constant x = leb constants x && ltb x replay_globals

abbrev pub is_replay : ℕ → Bool
is_replay x = leb replay_globals x && ltb x replay_end

abbrev pub is_system : ℕ → Bool
is_system x = leb system_globals x && ltb x system_end
