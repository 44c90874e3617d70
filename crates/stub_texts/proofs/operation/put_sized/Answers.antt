use Rattle.stub_operations.proofs.Growing.{two}
use Rattle.stub_texts.proofs.operation.put_sized.Goals as goal

pub returns : goal.returns
returns c = two c.put.ensures c.put_size.ensures
