use Rattle.std.proofs.Common.{arith}
use Rattle.steps_above_memory.proofs.laws.threads_have_calls.Goals as goal

pub returns : goal.returns
returns c program memory past above t h lt = let n = h.spaces.sound.held.threads in omega (arith, n, lt)
