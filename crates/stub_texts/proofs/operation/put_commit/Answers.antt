use Rattle.stub_operations.proofs.Growing.{two}
use Rattle.stub_texts.proofs.operation.put_commit.Goals as goal

pub returns : goal.returns
returns c = two c.put_placed.ensures c.put_sized.ensures
