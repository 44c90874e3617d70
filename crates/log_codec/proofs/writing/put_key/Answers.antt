use Rattle.std.proofs.Common.{append_assoc}
use Rattle.log_codec.proofs.writing.put_key.Goals as goal

pub returns-clause-added : goal.returns-clause-added
returns-clause-added c = rw (c.in_ok-put-2.ensures.added, c.in_ok-put.ensures.added, c.in_ok-put_byte.ensures.added, c.number.ensures, c.to_be_bytes.ensures, c.to_be_bytes-2.ensures) (simp append_assoc)
