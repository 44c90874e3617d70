use Rattle.std.proofs.Common.{◌≡◌, ◌<◌, ℕ, false, get_or}
use Rattle.c_types_program.specs.declared.function.Function.{Function}
use Rattle.cut_check.specs.Sources.{is_named_main}
use Rattle.cut_check.proofs.begin.place_of_main.Given as goal

-- none of those so far is main
abbrev pub invariant-loop-place : goal.invariant-loop-place
invariant-loop-place l = (k : ℕ) (d : Function) → k < l.place → is_named_main (get_or l.functions k d) ≡ false
