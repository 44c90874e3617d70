use Rattle.std.proofs.Common.{ap, ◌∙◌, Some}
use Rattle.c_machine.specs.Positions.{laid}
use Rattle.c_machine.proofs.Callers.{call_wanted}
use Rattle.c_machine.proofs.Hearing.{needed_is_fed}
use Rattle.c_machine.proofs.Returning.{return_wanted}
use Rattle.c_machine.proofs.thread.Thread.feed_next.Goals as goal

pub returns-in-Some-clause-call : goal.returns-in-Some-clause-call
returns-in-Some-clause-call c = λ f e. call_wanted (laid c.args.code.now c.args.placed.now) c.go_on.new.self.config f (c.in-Some.ensures.want ∙ ap (λ w. Some w) e)

pub returns-in-Some-clause-ret : goal.returns-in-Some-clause-ret
returns-in-Some-clause-ret c = λ f v e. return_wanted (laid c.args.code.now c.args.placed.now) f v c.go_on.new.self.config c.in-Some.ensures.inside.enters (c.in-Some.ensures.want ∙ ap (λ w. Some w) e)

pub returns-in-Some-clause-answers : goal.returns-in-Some-clause-answers
returns-in-Some-clause-answers c = λ x h. needed_is_fed (laid c.args.code.now c.args.placed.now) c.go_on.new.self.config c.in-Some.want x c.in-Some.ensures.want h
