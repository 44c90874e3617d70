use Rattle.std.proofs.Common.{decimal, ap}
use Rattle.stub_operations.proofs.Growing.{two}
use Rattle.stub_texts.proofs.Texts.{same}
use Rattle.stub_texts.proofs.set.put_stub.Goals as goal

pub returns : goal.returns
returns c =
    two (two (two (two (two (two (two (two c.put.ensures (same c.as_bytes.ensures.value c.put-2.ensures))
    c.put-3.ensures) (same (ap decimal c.from.ensures) c.put_number.ensures)) c.put-4.ensures)
    (same c.name_of.ensures c.put-5.ensures)) c.put-6.ensures) c.put_lines.ensures) c.put-7.ensures
