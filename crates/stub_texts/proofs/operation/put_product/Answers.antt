use Rattle.stub_operations.proofs.Growing.{two}
use Rattle.stub_texts.proofs.operation.put_product.Goals as goal

pub returns : goal.returns
returns c = two c.put.ensures c.put_term.ensures
