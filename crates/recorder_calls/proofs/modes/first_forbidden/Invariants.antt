use Rattle.std.proofs.Common.{ℕ, Option, drop}
use Rattle.recorder_calls.specs.Calls.{IsFirstForbidden}
use Rattle.recorder_calls.proofs.modes.first_forbidden.Given as goal

abbrev pub invariant-loop-func : goal.invariant-loop-func
invariant-loop-func l = (found : Option ℕ) → IsFirstForbidden l.flags (drop l.func-index l.funcs) found → IsFirstForbidden l.flags l.funcs found
