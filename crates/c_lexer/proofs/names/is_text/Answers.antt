use Rattle.std.proofs.Common.{sym, ◌∙◌}
use Rattle.std.proofs.lemmas.Bool.Decides.{Decides-eqb}
use Rattle.std.proofs.lemmas.Slice.Eq.{slice_eq-Decides}
use Rattle.c_lexer.proofs.names.is_text.Goals as goal

pub returns : goal.returns
returns c = λ yes. sym c.as_slice.ensures.bytes ∙ (slice_eq-Decides Decides-eqb c.as_slice.result.now c.args.name.now c.eq.result c.eq.ensures).0 yes
