use Rattle.std.proofs.Common.{◌≡◌, ◌<◌, ℕ, false, get_or}
use Rattle.c_code.specs.declared.code.FuncInfo.{FuncInfo}
use Rattle.whole_runs.specs.World.{is_main}
use Rattle.recorder_state.proofs.begin.main_of.Given as goal

-- none of those so far is main
abbrev pub invariant-loop-place : goal.invariant-loop-place
invariant-loop-place l = (k : ℕ) (d : FuncInfo) → k < l.place → is_main (get_or l.code.sources k d) ≡ false
