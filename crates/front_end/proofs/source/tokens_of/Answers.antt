use Rattle.std.proofs.Common.{length, subst, sym, arith}
use Rattle.front_end.specs.declared.error.SourceError.{SourceError}
use Rattle.front_end.specs.Answers.{IsTypeError}
use Rattle.front_end.proofs.Few.{few_tokens}
use Rattle.front_end.proofs.Refusals.{by_lexing}
use Rattle.front_end.proofs.source.tokens_of.Goals as goal

pub returns-in-Err-clause-refused : goal.returns-in-Err-clause-refused
returns-in-Err-clause-refused c =
    subst (λ (e : SourceError). IsTypeError c.args.bytes.now e) (sym c.from.ensures)
    (by_lexing c.args.bytes.now c.in-Err.error c.in-Err.ensures.bad_byte c.in-Err.ensures.open_text c.in-Err.ensures.big_number c.in-Err.ensures.directive)

pub returns-in-Ok-clause-few : goal.returns-in-Ok-clause-few
returns-in-Ok-clause-few c = let few = few_tokens c.in-Ok.tokens.items 0 (length c.args.bytes.now) c.in-Ok.ensures.places in omega (arith, few)
