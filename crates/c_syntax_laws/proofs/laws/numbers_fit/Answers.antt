use Rattle.c_syntax_laws.proofs.Tokens.{tokens_fit}
use Rattle.c_syntax_laws.proofs.Spelled.{tops_fit}
use Rattle.c_syntax_laws.proofs.laws.numbers_fit.Goals as goal

pub returns : goal.returns
returns c source ts ds read spelled = (tops_fit spelled (tokens_fit _ _ _ _ _ read)).0
