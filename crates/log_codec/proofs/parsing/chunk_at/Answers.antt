use Rattle.byte_format.specs.Numbers.{fixed}
use Rattle.log_codec.proofs.Adding.{adds_chunk}
use Rattle.log_codec.proofs.parsing.chunk_at.Goals as goal

pub returns : goal.returns
returns c = adds_chunk fixed (λ x. x.now) c.args.records.now.items c.records_at.new.records.items c.records_at.result c.args.bytes.now c.in_ok-thread.thread c.in_ok-thread.count c.in_ok-thread.rest.now c.in_ok-thread.ensures c.records_at.ensures
