use Rattle.std.proofs.Common.{ℕ, List, refl, subst}
use Rattle.front_end.specs.Answers.{IsAccepted}
use Rattle.r2_cli.proofs.SourceLemmas.{source_refused}
use Rattle.r2_cli.proofs.source.checked.Goals as goal

pub returns-in-Ok-clause-right : goal.returns-in-Ok-clause-right
returns-in-Ok-clause-right c = subst (λ (w : List ℕ). IsAccepted c.args.bytes.now w c.in-Ok.source) c.as_bytes.ensures.value c.in-Ok.ensures

pub returns-in-Err-clause-wrong : goal.returns-in-Err-clause-wrong
returns-in-Err-clause-wrong c = source_refused _ _ _ _ c.in-Err.error _ _ _ refl c.as_bytes.ensures.value c.in-Err.ensures c.wrong.ensures.words c.wrong.ensures.memory
