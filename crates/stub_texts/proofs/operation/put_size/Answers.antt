use Rattle.stub_operations.proofs.Growing.{two}
use Rattle.stub_texts.proofs.operation.put_size.Goals as goal

pub returns : goal.returns
returns c = two c.put_term.ensures c.put_factor.ensures
