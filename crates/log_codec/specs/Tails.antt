-- Bytes at the end of a vector, which can be taken back.
use Rattle.std.specs.Prelude.{ℕ, List}

-- what the vector held before, and what was added to it
pub record TailState : Type 0 where
  pub before : List ℕ
  pub added : List ℕ
