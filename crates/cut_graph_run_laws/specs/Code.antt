-- Threads of flat code, and what code wants above the cut.
use Rattle.std.specs.Prelude.{ℕ, List, reverse}
use Rattle.marks.specs.declared.side.Side.TheVariants.{Replay}
use Rattle.c_code.specs.Machine.{Done, Flat, Laid}
use Rattle.c_code.specs.MarkLists.{Above, Expects, lists, thread_lists, want_above}
use Rattle.c_types_model.specs.Types.{CType}
use Rattle.c_semantics.specs.Reading.{Marks}
use Rattle.c_semantics.specs.Context.{Source}
use Rattle.c_lower_placement.specs.Laws.{laid}
use Rattle.c_lower_placement.specs.Placement.{IsSigOf}

-- the threads of the code of a source: of its function at an address, or above the cut alone
pub data IsCodeThread (s : Source) (code : Flat) : Marks → Type 0 where
  of_function : (t : CType) (sig address : ℕ) (args : List ℕ) → IsSigOf s code t sig →
      IsCodeThread s code (thread_lists (laid s code) sig address args)
  above_alone : IsCodeThread s code (λ ms. lists Above ms (laid s code) (Done 0))

-- what a thread wants above the cut, as a function of its marks there so far, the newest last
abbrev pub wanting : Laid → Marks
wanting l ms = Expects Replay (want_above l (reverse ms))

pub data IsWanting (l : Laid) : Marks → Type 0 where
  wants : IsWanting l (wanting l)
