use Rattle.std.proofs.Common.{◌≡◌, false, refl, sym, ◌∙◌, subst}
use Rattle.c_machine.specs.Callers.{IsAtCall}
use Rattle.c_machine.specs.Moves.{MayBegin}
use Rattle.c_machine.specs.Positions.{laid}
use Rattle.c_machine.specs.Readers.{args_of}
use Rattle.test_marks.specs.Sides.{side_told}
use Rattle.test_marks.proofs.Sides.{may_begin_there}
use Rattle.test_marks.proofs.steps.run.Goals as goal

pub begin-requires-clause-may : goal.begin-requires-clause-may
begin-requires-clause-may c =
    let l = laid c.args.image.now.code c.args.image.now.placed in
    let d = c.args.thread.now.config in
    let f = c.in-Call.func in
    let at : IsAtCall l d f = c.in-Call.ensures.call f refl in
    let copied : c.in-Ok.args.items ≡ args_of d = c.in-Ok.ensures.items_if_clones_equal (λ x y h. h) ∙ c.args-2.ensures in
    let there : MayBegin l d f (args_of d) (side_told l d) false = may_begin_there l d f (args_of d) (at.runs (c.if-is_call_of.ensures.yes c.args.image.now.placed refl).0) in
    let told : MayBegin l d f (args_of d) c.side_below-side.result false = subst (λ s. MayBegin l d f (args_of d) s false) (sym c.side_below-side.ensures) there in
    subst (λ args. MayBegin l d f args c.side_below-side.result false) (sym (c.deref-then-has_room.ensures.value ∙ copied)) told
