use Rattle.std.proofs.Common.{ℕ, List, refl, subst}
use Rattle.std.specs.Prelude.{reverse}
use Rattle.std.proofs.lemmas.List.{reverse-reverse}
use Rattle.marks.specs.declared.side.Side.TheVariants.{Replay}
use Rattle.marks.specs.Bytes.{Byte}
use Rattle.marks.specs.Marks.{Mark}
use Rattle.c_code.specs.Machine.{Flat}
use Rattle.c_code.specs.MarkLists.{want_above}
use Rattle.c_code.specs.Valid.{IsValid}
use Rattle.c_semantics.specs.Context.{Source}
use Rattle.c_lower_placement.specs.Laws.{MakesTheMarks, laid}
use Rattle.replay_runs.specs.Interface.{Interface}
use Rattle.replay_runs.specs.Laws.{IsReplayRun, fresh}
use Rattle.replay_runs.specs.Runs.{marks_of}
use Rattle.cut_graph_rules.specs.Findings.{Cut, IsAccepted, May}
use Rattle.cut_graph_reached.specs.Answers.{ModesKept}
use Rattle.cut_graph_laws.specs.Granted.{WantGranted}
use Rattle.cut_graph_laws.specs.SoundCut.{IsCutOf, permits}
use Rattle.cut_graph_laws.proofs.Accepted.{grants}
use Rattle.cut_graph_run_laws.specs.Code.{wanting}
use Rattle.cut_graph_run_laws.specs.Replays.{KeepsTo, StaysAbove, program_of}
use Rattle.cut_graph_run_laws.proofs.Above.{wanting_granted}
use Rattle.cut_graph_run_laws.proofs.Replays.{run_kept}
use Rattle.cut_graph_run_laws.proofs.Threads.{lists_granted}
use Rattle.cut_graph_run_laws.proofs.laws.replay_runs_keep_the_cut.Goals as goal

module _ (s : Source) (code : Flat) (makes : MakesTheMarks s code) (valid : IsValid code) (c : Cut) (of : IsCutOf s c) (accepted : IsAccepted c) where
  next_granted : (mine : List Mark) → ModesKept (May c) (wanting (laid s code)) (reverse mine) → WantGranted s (permits s c) Replay (want_above (laid s code) mine)
  next_granted mine kept =
      subst (λ (ms : List Mark). WantGranted s (permits s c) Replay (want_above (laid s code) ms)) (reverse-reverse mine)
      (wanting_granted (laid s code) valid s (permits s c) (lists_granted s (permits s c) (grants s c of accepted) code makes) (reverse mine) Replay (want_above (laid s code) (reverse (reverse mine))) refl (λ r k known. kept r k))

  stays : (i : Interface) → KeepsTo i c → (memory : ℕ → Byte) (run : List Mark) → IsReplayRun (program_of i (laid s code)) (fresh memory) run → (t : ℕ) → StaysAbove s c (laid s code) (marks_of (fresh memory) t run)
  stays i keeps memory run is t =
      let kept : ModesKept (May c) (wanting (laid s code)) (reverse (marks_of (fresh memory) t run)) = λ r k. keeps r.side r.func (run_kept i (laid s code) memory run is.steps t r k) in
      record { kept = kept; granted = next_granted (marks_of (fresh memory) t run) kept }

pub returns : goal.returns
returns c s code makes valid cut of accepted i keeps memory run is t = stays s code makes valid cut of accepted i keeps memory run is t
