use Rattle.std.proofs.Common.{subst, sym, ◌∙◌}
use Rattle.c_types_source.proofs.Sourced.{goes_on}
use Rattle.front_end.specs.declared.error.SourceError.{SourceError}
use Rattle.front_end.specs.Answers.{IsSourceError}
use Rattle.front_end.proofs.Refusals.{by_reading}
use Rattle.front_end.proofs.source.with_interface.Goals as goal

pub returns-in-Err : goal.returns-in-Err
returns-in-Err c = λ bytes ds source t.
    subst (λ (e : SourceError). IsSourceError bytes c.args.cut.now e) (sym c.from.ensures)
    (by_reading bytes c.args.cut.now ds t.program c.in-Err.error t.is.typed source (c.in-Err.ensures.interface ds t.program t.is))

pub returns-in-Ok : goal.returns-in-Ok
returns-in-Ok c = λ bytes ds source t.
    let stays = goes_on c.args.source c.in-Ok.source ds t.program t.is c.in-Ok.ensures.kept in
    (c.into_program.ensures.program ds t.program stays, c.into_program.ensures.texts ∙ c.in-Ok.ensures.kept.texts, c.in-Ok.ensures.interface ds t.program t.is)
