-- Where stacks begin.
use Rattle.std.proofs.Common.{ℕ, ◌<◌, ◌^◌, arith}
use Rattle.marks.specs.declared.side.Side.{Side}
use Rattle.marks.specs.declared.side.Side.TheVariants.{Replay, System}
use Rattle.marks.specs.Places.{stack}

pub stack_low : (side : Side) (t : ℕ) → t < 32 → stack side t < 2 ^ 32
stack_low Replay t lt = omega (arith, lt)
stack_low System t lt = omega (arith, lt)
