use Rattle.c_syntax_laws.proofs.Lower.{expr_falls, decl_falls, stmt_falls}
use Rattle.c_syntax_laws.proofs.laws.heights_fall.Goals as goal

pub returns : goal.returns
returns c = record { expressions = expr_falls; declarations = decl_falls; statements = stmt_falls }
