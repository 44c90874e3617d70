use Rattle.std.proofs.Common.{◌≡◌, true, refl, sym, ◌∙◌, subst}
use Rattle.marks.specs.declared.side.Side.TheVariants.{Replay}
use Rattle.c_machine.specs.Callers.{IsAtCall}
use Rattle.c_machine.specs.Moves.{IsCallOf, MayBegin}
use Rattle.c_machine.specs.Positions.{laid}
use Rattle.c_machine.specs.Readers.{args_of}
use Rattle.test_marks.proofs.steps.go_up.Goals as goal

pub begin-requires-clause-may : goal.begin-requires-clause-may
begin-requires-clause-may c =
    let l = laid c.args.image.now.code c.args.image.now.placed in
    let d = c.args.thread.now.config in
    let f = c.in-Call.func in
    let at : IsAtCall l d f = c.in-Call.ensures.call f refl in
    let up = c.if-may_go_up.ensures refl in
    let copied : c.in-Ok.args.items ≡ args_of d = c.in-Ok.ensures.items_if_clones_equal (λ x y h. h) ∙ c.args-2.ensures in
    let call : IsCallOf l f c.in-Ok.args.items = subst (λ args. IsCallOf l f args) c.deref.ensures.value (c.if-is_call_of.ensures.yes c.args.image.now.placed refl) in
    let may : MayBegin l d f (args_of d) Replay true = at.goes_up up.0 up.1 (subst (λ args. IsCallOf l f args) copied call) in
    subst (λ args. MayBegin l d f args Replay true) (sym (c.deref-then-has_room.ensures.value ∙ copied)) may
