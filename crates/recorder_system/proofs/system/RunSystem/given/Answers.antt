use Rattle.std.proofs.Common.{◌≤◌, length, sym, ap, ◌∙◌, subst}
use Rattle.system_side.specs.System.{SystemState}
use Rattle.whole_runs.specs.Below.{given}
use Rattle.recorder_system.specs.Stands.{IsSystemOf}
use Rattle.recorder_system.specs.Calls.{IsGiven}
use Rattle.recorder_system.specs.Shown.{given_in}
use Rattle.recorder_system.proofs.Gives.{shown_place, tells_answer, tells_builtin}
use Rattle.recorder_system.proofs.system.RunSystem.given.Goals as goal

pub returns-in-Some : goal.returns-in-Some
returns-in-Some c = λ w past h.
    let n = c.args.self.now in
    let few : length n.threads ≤ 32 = subst (λ (s : SystemState). length s.threads ≤ 32) c.self.view_is c.self.invariant.few in
    subst (IsGiven w (given w past c.args.thread c.args.func c.args.args.now)) (sym (c.given_by.ensures ∙ ap (λ k. given_in n c.args.thread k c.in-Some.builtin) c.first.ensures))
    (tells_builtin n c.args.thread c.args.func c.args.args.now c.in-Some.builtin few (sym c.builtin_of.ensures ∙ c.in-Some.is) c.requires w past h)

pub returns-in-Some-next_answer : goal.returns-in-Some-next_answer
returns-in-Some-next_answer c = λ w past h.
    subst (λ r. IsGiven w (given w past c.args.thread c.args.func c.args.args.now) (shown_place r)) (sym c.next_answer.ensures ∙ c.in-Some-next_answer.is)
    (tells_answer c.self.inside.system c.args.thread c.args.func c.args.args.now (sym c.builtin_of.ensures ∙ c.in-None.is) w past (subst (IsSystemOf w past) (sym c.self.view_is) h))

pub returns-in-None-next_answer : goal.returns-in-None-next_answer
returns-in-None-next_answer c = λ w past h.
    subst (λ r. IsGiven w (given w past c.args.thread c.args.func c.args.args.now) (shown_place r)) (sym c.next_answer.ensures ∙ c.in-None-next_answer.is)
    (tells_answer c.self.inside.system c.args.thread c.args.func c.args.args.now (sym c.builtin_of.ensures ∙ c.in-None.is) w past (subst (IsSystemOf w past) (sym c.self.view_is) h))
