use Rattle.stub_operations.proofs.Growing.{two}
use Rattle.stub_texts.proofs.operation.put_line.Goals as goal

pub returns : goal.returns
returns c = two c.put_operation.ensures c.put.ensures
