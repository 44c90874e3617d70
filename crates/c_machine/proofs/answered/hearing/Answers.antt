use Rattle.std.proofs.Common.{◌≤◌, length, sym, subst}
use Rattle.c_code.specs.Valid.{needs}
use Rattle.c_machine_stack.specs.Stacks.{held}
use Rattle.c_machine.specs.Acts.{IsHearing}
use Rattle.c_machine.proofs.Hears.{change_hears, combine_hears, drop_hears, end_if_hears, end_unless_hears, go_on_hears, pointer_hears, push_hears, skip_hears}
use Rattle.c_machine.proofs.answered.hearing.Goals as goal

pub returns-in-Push : goal.returns-in-Push
returns-in-Push c = λ l. subst (λ i. IsHearing l i c.args.a.now (held c.args.values.now) _) (sym c.in-Push.is) (push_hears l c.args.a.now c.in-Push.field-0 (held c.args.values.now))

pub returns-in-Change : goal.returns-in-Change
returns-in-Change c = λ l. subst (λ i. IsHearing l i c.args.a.now (held c.args.values.now) _) (sym c.in-Change.is) (change_hears l c.args.a.now c.in-Change.field-0 (held c.args.values.now))

pub returns-in-Combine : goal.returns-in-Combine
returns-in-Combine c = λ l. subst (λ i. IsHearing l i c.args.a.now (held c.args.values.now) _) (sym c.in-Combine.is) (combine_hears l c.args.a.now c.in-Combine.field-0 (held c.args.values.now))

pub returns-in-EndIfZero : goal.returns-in-EndIfZero
returns-in-EndIfZero c = λ l. subst (λ i. IsHearing l i c.args.a.now (held c.args.values.now) _) (sym c.in-EndIfZero.is) (end_if_hears l c.args.a.now c.in-EndIfZero.field-0 (held c.args.values.now))

pub returns-in-EndUnlessZero : goal.returns-in-EndUnlessZero
returns-in-EndUnlessZero c = λ l. subst (λ i. IsHearing l i c.args.a.now (held c.args.values.now) _) (sym c.in-EndUnlessZero.is) (end_unless_hears l c.args.a.now c.in-EndUnlessZero.field-0 (held c.args.values.now))

pub returns-in-SkipIfZero : goal.returns-in-SkipIfZero
returns-in-SkipIfZero c = λ l. subst (λ i. IsHearing l i c.args.a.now (held c.args.values.now) _) (sym c.in-SkipIfZero.is) (skip_hears l c.args.a.now c.in-SkipIfZero.field-0 (held c.args.values.now))

pub returns-in-GoOn : goal.returns-in-GoOn
returns-in-GoOn c = λ l. subst (λ i. IsHearing l i c.args.a.now (held c.args.values.now) _) (sym c.in-GoOn.is) (go_on_hears l c.args.a.now c.in-GoOn.field-0 (held c.args.values.now))

pub returns-in-CallPointer : goal.returns-in-CallPointer
returns-in-CallPointer c = λ l. subst (λ i. IsHearing l i c.args.a.now (held c.args.values.now) _) (sym c.in-CallPointer.is) (pointer_hears l c.args.a.now c.in-CallPointer.field-0 c.in-CallPointer.field-1 (held c.args.values.now))

pub returns-in-Drop : goal.returns-in-Drop
returns-in-Drop c = λ l. subst (λ i. IsHearing l i c.args.a.now (held c.args.values.now) _) (sym c.in-Drop.is) (drop_hears l c.args.a.now (held c.args.values.now))

pub returns-in-Call : goal.returns-in-Call
returns-in-Call c = λ l.
    let vs = held c.args.values.now in
    let le : c.in-Call.n ≤ length vs = subst (λ i. needs i ≤ length vs) c.in-Call.is c.requires.enough in
    subst (λ i. IsHearing l i c.args.a.now vs c.hearing_call.result) (sym c.in-Call.is) (c.hearing_call.ensures l vs le)
