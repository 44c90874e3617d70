-- Which bytes of a run values of this crate stand for.
use Rattle.std.specs.Prelude.{ℕ, Option, None, if◌then◌else◌}
use Rattle.marks.specs.declared.side.Side.TheVariants.{Replay}
use Rattle.marks.specs.Ranges.{any_range, within}
use Rattle.marks.specs.Marks.{Act, Turn, Load, Store, Enter, Leave, Step, Fault, Made, Mark}
use Rattle.marks.specs.Bytes as shown
use Rattle.c_code.specs.MarkLists.{same_side}
use Rattle.whole_runs.specs.Memory.{changes, filled, value_of, written}
use Rattle.reference_recorder_memory.specs.declared.cells.Cell.{Cell}
use Rattle.reference_recorder_memory.specs.declared.cells.Cell.TheVariants as cell
use Rattle.reference_recorder_memory.specs.declared.cells.Byte.{Byte}

abbrev pub cell_of : Cell → shown.Cell
cell_of cell.Dead = shown.Dead
cell_of (cell.Live v) = shown.Live v
cell_of (cell.Held v) = shown.Held v

abbrev pub byte_of : Byte → shown.Byte
byte_of b = record { cell = cell_of b.cell; block = b.block }

-- what a mark leaves of the byte at x as a replay has it: one below the cut leaves it as it was
abbrev pub byte_step : (x : ℕ) → Mark → shown.Byte → shown.Byte
byte_step x m b = if same_side m.side Replay then shown.leaves m.act x b else b

-- what a mark leaves of the byte at x for code of both sides, where a replay has this there after it
abbrev pub left_at : shown.Cell → (x : ℕ) → Act → Option ℕ → Option ℕ
left_at seen x Turn v = v
left_at seen x (Load origin at bytes) v = v
left_at seen x (Store origin at bytes) v = written at bytes x v
left_at seen x (Enter f args at bytes) v = written at bytes x v
left_at seen x (Leave at size) v = if within at size x then None else v
left_at seen x (Step f args result ins pieces freed) v =
    if any_range freed x then None else filled pieces x v
left_at seen x (Fault kind crosses ins outs access) v = v
left_at seen x (Made e) v = if changes e.kind x then value_of seen else v
