use Rattle.std.proofs.Common.{◌≡◌, false, refl, sym, ap, subst}
use Rattle.c_code.specs.Machine.{Done}
use Rattle.c_machine.specs.Moves.{IsCallOf, MayBegin}
use Rattle.c_machine.specs.Positions.{laid}
use Rattle.test_marks.proofs.steps.begun.Goals as goal

pub begin-requires-clause-may : goal.begin-requires-clause-may
begin-requires-clause-may c =
    let l = laid c.args.image.now.code c.args.image.now.placed in
    let new : c.in_ok-thread.thread.config ≡ Done 0 = ap (λ t. t.config) c.in_ok-thread.ensures.new in
    let call : IsCallOf l c.args.func c.args.args.now = c.if-is_call_of.ensures.yes c.args.image.now.placed refl in
    subst (λ d. MayBegin l d c.args.func c.args.args.now c.args.side false) (sym new) call
