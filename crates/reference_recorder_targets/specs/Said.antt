-- What is done at a call on either side of the cut.
use Rattle.std.specs.Prelude.{ℕ, List}
use Rattle.marks.specs.declared.side.Side.{Side}
use Rattle.marks.specs.declared.side.Side.TheVariants.{Replay, System}
use Rattle.stub_operations.specs.Stubs.{Stubs}
use Rattle.stub_meaning.specs.Calls.{Done}
use Rattle.stub_meaning.specs.Meaning.{done_at}
use Rattle.whole_runs.specs.World.{World, stubs_below}

-- the stubs by which code of a side calls the function
abbrev pub stubs_on : Side → Stubs → (func : ℕ) → Stubs
stubs_on Replay s f = s
stubs_on System s f = stubs_below s f

-- what is done where code of the side calls it, of which the interface of the side speaks
abbrev pub done_on : World → Side → (func : ℕ) → (args : List ℕ) → (result : ℕ) → Done
done_on w side f args v = done_at w.laid.code (stubs_on side w.stubs f) f args v
