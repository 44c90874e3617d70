use Rattle.std.proofs.Common.{[], ◌∷◌, refl, sym}
use Rattle.c_machine.specs.Callers.{IsAtCall}
use Rattle.c_machine.specs.Positions.{laid}
use Rattle.test_marks.proofs.steps.begin_back.Goals as goal

pub begin-requires-clause-may : goal.begin-requires-clause-may
begin-requires-clause-may c =
    let at : IsAtCall (laid c.args.image.now.code c.args.image.now.placed) c.args.thread.now.config c.in-Call.func = c.in-Call.ensures.call c.in-Call.func refl in
    at.calls_back c.args.func (c.args.number ∷ []) (sym c.if-crosses.ensures) (c.if-is_call_of.ensures.yes c.args.image.now.placed refl)
