use Rattle.std.proofs.Common.{decimal, ap}
use Rattle.stub_operations.proofs.Growing.{two}
use Rattle.stub_texts.proofs.Texts.{same}
use Rattle.stub_texts.proofs.operation.put_placed.Goals as goal

pub returns : goal.returns
returns c = two c.put.ensures (same (ap decimal c.from.ensures) c.put_number.ensures)
