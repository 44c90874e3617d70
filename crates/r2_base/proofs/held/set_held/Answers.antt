use Rattle.std.proofs.Common.{arith}
use Rattle.std.proofs.lemmas.Map.Text.{text_keys}
use Rattle.r2_base.proofs.held.set_held.Goals as goal

pub returns-clause-others : goal.returns-clause-others
returns-clause-others c = λ n ne. grind (arith, text_keys)
