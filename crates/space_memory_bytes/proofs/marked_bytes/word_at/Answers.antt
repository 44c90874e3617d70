use Rattle.std.proofs.Common.{ℕ, ◌<◌, arith}
use Rattle.space_memory_bytes.proofs.Words.{word_digits}
use Rattle.space_memory_bytes.proofs.marked_bytes.word_at.Goals as goal

pub returns-clause-digits : goal.returns-clause-digits
returns-clause-digits c = word_digits c.args.bytes.now c.args.at c.from_le_bytes.result (λ k. omega (arith, c.type_inv.bytes k)) c.from_le_bytes.ensures
