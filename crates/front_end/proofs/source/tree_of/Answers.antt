use Rattle.std.proofs.Common.{List, subst, sym}
use Rattle.c_lexer.specs.declared.token.Token.{Token}
use Rattle.c_parser.specs.Parsed.{IsParseError}
use Rattle.front_end.specs.declared.error.SourceError.{SourceError}
use Rattle.front_end.specs.Answers.{IsTypeError}
use Rattle.front_end.proofs.Refusals.{by_parsing}
use Rattle.front_end.proofs.source.tree_of.Goals as goal

pub returns-in-Err-clause-refused : goal.returns-in-Err-clause-refused
returns-in-Err-clause-refused c = λ bytes lexed.
    let error = c.in-Err.error in
    let wrong = subst (λ (ts : List Token). IsParseError ts error) c.deref.ensures.value c.in-Err.ensures.refused in
    subst (λ (e : SourceError). IsTypeError bytes e) (sym c.from.ensures) (by_parsing bytes c.args.tokens.items error lexed wrong)

pub returns-in-Err-build_counted-clause-refused : goal.returns-in-Err-build_counted-clause-refused
returns-in-Err-build_counted-clause-refused c = λ bytes lexed.
    let error = c.in-Err-build_counted.error in
    let read = c.deref.result.now in
    let wrong = subst (λ (ts : List Token). IsParseError ts error) c.deref.ensures.value (c.in-Err-build_counted.ensures.refused read c.in-Ok.ensures.found) in
    subst (λ (e : SourceError). IsTypeError bytes e) (sym c.from-in-Err-build_counted.ensures) (by_parsing bytes c.args.tokens.items error lexed wrong)
