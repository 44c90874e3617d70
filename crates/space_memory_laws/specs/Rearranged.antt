-- One memory for all runs that are alike.
use Rattle.std.specs.Prelude.{List}
use Rattle.marks.specs.Marks.{Mark}
use Rattle.replay_runs.specs.Runs.{Start}
use Rattle.replay_runs.specs.Interface.{Program}
use Rattle.replay_runs.specs.Laws.{Rearranged}
use Rattle.space_memory.specs.Spaces.{SpaceState}
use Rattle.space_memory_laws.specs.StandsFor.{StandsFor}

-- memory that stands for a run stands for each that is one with the same marks in another order
abbrev pub RearrangedRunsShareMemory : Type 0
RearrangedRunsShareMemory =
    (program : Program) (s : Start) (a b : List Mark) (memory : SpaceState) → Rearranged program s a b →
    StandsFor s a memory → StandsFor s b memory
