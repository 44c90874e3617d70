-- How many parts a constant has.
use Rattle.std.proofs.Common.{ℕ, ◌+◌}
use Rattle.c_types_rules.specs.TypedTree.{Value, Convert, Negate, Complement, Arithmetic, Not, Both, Either, Choice}

abbrev pub weight : Value → ℕ
weight (Convert t v) = weight v + 1
weight (Negate k v) = weight v + 1
weight (Complement k v) = weight v + 1
weight (Arithmetic op k a b) = weight a + weight b + 1
weight (Not v) = weight v + 1
weight (Both a b) = weight a + weight b + 1
weight (Either a b) = weight a + weight b + 1
weight (Choice c a b) = weight c + weight a + weight b + 1
weight _ = 0
