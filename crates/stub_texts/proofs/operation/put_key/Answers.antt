use Rattle.std.proofs.Common.{◌∙◌}
use Rattle.stub_operations.proofs.Growing.{two}
use Rattle.stub_texts.proofs.Texts.{same}
use Rattle.stub_texts.proofs.operation.put_key.Goals as goal

pub returns : goal.returns
returns c =
    two (two (two c.put.ensures c.put-2.ensures)
    (same (c.as_bytes.ensures.value ∙ c.word.ensures) c.put-3.ensures)) c.put_place.ensures
