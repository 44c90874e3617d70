-- Replay runs of flat code.
use Rattle.std.specs.Prelude.{◌≡◌, ℕ, true, List, reverse}
use Rattle.marks.specs.declared.side.Side.{Side}
use Rattle.marks.specs.declared.side.Side.TheVariants.{Replay}
use Rattle.marks.specs.Bytes.{Byte}
use Rattle.marks.specs.Marks.{Mark}
use Rattle.c_code.specs.Machine.{Laid}
use Rattle.c_code.specs.MarkLists.{want_above}
use Rattle.c_semantics.specs.Context.{Source}
use Rattle.replay_runs.specs.Interface.{Interface, Program}
use Rattle.replay_runs.specs.Laws.{fresh}
use Rattle.replay_runs.specs.Runs.{marks_of}
use Rattle.cut_graph_rules.specs.Findings.{Cut, May}
use Rattle.cut_graph_reached.specs.Answers.{ModesKept}
use Rattle.cut_graph_laws.specs.Granted.{WantGranted}
use Rattle.cut_graph_laws.specs.SoundCut.{permits}
use Rattle.cut_graph_run_laws.specs.Code.{wanting}

-- each thread runs the code
abbrev pub program_of : Interface → Laid → Program
program_of i l = record { interface = i; want = λ t mine. want_above l mine }

-- the interface says where functions may run no more than the cut does
abbrev pub KeepsTo : Interface → Cut → Type 0
KeepsTo i c = (side : Side) (f : ℕ) → i.may_run side f ≡ true → May c side f

-- what a thread made so far, the newest first, keeps to the modes of the cut, and what it wants next is
-- granted
pub record StaysAbove (s : Source) (c : Cut) (l : Laid) (mine : List Mark) : Type 0 where
  pub kept : ModesKept (May c) (wanting l) (reverse mine)
  pub granted : WantGranted s (permits s c) Replay (want_above l mine)

-- each thread of the run does
abbrev pub RunStaysAbove : Source → Cut → Laid → (ℕ → Byte) → List Mark → Type 0
RunStaysAbove s c l memory run = (t : ℕ) → StaysAbove s c l (marks_of (fresh memory) t run)
