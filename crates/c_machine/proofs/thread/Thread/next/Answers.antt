use Rattle.std.proofs.Common.{sym, subst, ap, ◌∙◌, Some}
use Rattle.c_machine.specs.Positions.{laid, config}
use Rattle.c_machine.specs.Wants.{told}
use Rattle.c_machine.specs.Moves.{ThreadState, IsInside, MayFeed}
use Rattle.c_machine.specs.Callers.{IsAtCall, IsAtReturn}
use Rattle.c_machine.proofs.Callers.{call_wanted}
use Rattle.c_machine.proofs.Hearing.{needed_is_fed}
use Rattle.c_machine.proofs.Insides.{something_next}
use Rattle.c_machine.proofs.Returning.{return_wanted}
use Rattle.c_machine.proofs.thread.Thread.next.Goals as goal

pub unreachable-requires : goal.unreachable-requires
unreachable-requires c =
    let l = laid c.args.code.now c.args.placed.now in
    let inside : IsInside l (config c.self.inside.position) = subst (λ (t : ThreadState). IsInside l t.config) (sym c.self.view_is) c.requires.inside in
    something_next l (config c.self.inside.position) c.check.ensures inside (sym c.look.ensures ∙ c.in-None.is)

pub returns-clause-answers : goal.returns-clause-answers
returns-clause-answers c = λ x h.
    let l = laid c.args.code.now c.args.placed.now in
    subst (λ (t : ThreadState). MayFeed l t.config (told x)) c.self.view_is (needed_is_fed l (config c.self.inside.position) c.in-Some.want x (sym c.look.ensures ∙ c.in-Some.is) h)

pub returns-clause-call : goal.returns-clause-call
returns-clause-call c = λ f e.
    let l = laid c.args.code.now c.args.placed.now in
    subst (λ (t : ThreadState). IsAtCall l t.config f) c.self.view_is (call_wanted l (config c.self.inside.position) f (sym c.look.ensures ∙ c.in-Some.is ∙ ap (λ w. Some w) e))

pub returns-clause-ret : goal.returns-clause-ret
returns-clause-ret c = λ f v e.
    let l = laid c.args.code.now c.args.placed.now in
    let inside : IsInside l (config c.self.inside.position) = subst (λ (t : ThreadState). IsInside l t.config) (sym c.self.view_is) c.requires.inside in
    subst (λ (t : ThreadState). IsAtReturn l t.config f v) c.self.view_is (return_wanted l f v (config c.self.inside.position) inside.enters (sym c.look.ensures ∙ c.in-Some.is ∙ ap (λ w. Some w) e))

pub look-requires-clause-fits : goal.look-requires-clause-fits
look-requires-clause-fits c =
    let l = laid c.args.code.now c.args.placed.now in
    let inside : IsInside l (config c.self.inside.position) = subst (λ (t : ThreadState). IsInside l t.config) (sym c.self.view_is) c.requires.inside in
    inside.fits
