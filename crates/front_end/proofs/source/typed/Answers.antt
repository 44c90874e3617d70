use Rattle.std.proofs.Common.{subst, sym}
use Rattle.c_types.specs.Texts.{texts_among}
use Rattle.front_end.specs.declared.error.SourceError.{SourceError}
use Rattle.front_end.specs.Answers.{IsTypeError}
use Rattle.front_end.proofs.Refusals.{by_typing, program_of}
use Rattle.front_end.proofs.source.typed.Goals as goal

pub returns-in-Err-clause-refused : goal.returns-in-Err-clause-refused
returns-in-Err-clause-refused c = λ bytes ds holds source.
    subst (λ (e : SourceError). IsTypeError bytes e) (sym c.from.ensures)
    (by_typing bytes ds (texts_among c.args.tokens.now) c.args.tree c.in-Err.error source (c.in-Err.ensures ds holds))

pub returns-in-Ok-clause-typed : goal.returns-in-Ok-clause-typed
returns-in-Ok-clause-typed c = λ ds holds.
    let p = program_of ds (texts_among c.args.tokens.now) c.args.tree c.in-Ok.source (c.in-Ok.ensures ds holds) in
    record { program = p.0; is = p.1; texts = p.2 }
