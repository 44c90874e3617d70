use Rattle.c_types_statements.proofs.OfMade.{block_stands}
use Rattle.c_types_statements.proofs.made.block.Goals as goal

pub returns : goal.returns
returns c = λ t xs h. block_stands t c.args.statements xs h
