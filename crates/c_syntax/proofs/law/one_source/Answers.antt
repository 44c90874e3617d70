use Rattle.c_syntax.proofs.One.{one_decls}
use Rattle.c_syntax.proofs.law.one_source.Goals as goal

pub returns : goal.returns
returns c N x y h k = one_decls N N.tops x y h k
