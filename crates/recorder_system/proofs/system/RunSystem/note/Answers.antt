use Rattle.std.proofs.Common.{drop, set, OnOk, sym, ◌∙◌, subst}
use Rattle.system_side.specs.Answers.{left_of}
use Rattle.system_side.specs.System.{SystemState}
use Rattle.recorder_system.specs.Calls.{Notes}
use Rattle.recorder_system.proofs.Changes.{notes_answer}
use Rattle.recorder_system.proofs.Numbers.{number_is}
use Rattle.recorder_system.proofs.system.RunSystem.note.Goals as goal

pub returns-in-Some-clause-noted : goal.returns-in-Some-clause-noted
returns-in-Some-clause-noted c =
    subst (λ f. OnOk c.note_builtin.result (Notes c.args.thread f c.args.args.now c.args.self.now c.note_builtin.new.self))
    (sym (number_is c.args.func c.in-Some.builtin (sym c.builtin_of.ensures ∙ c.in-Some.is))) c.note_builtin.ensures.noted

pub returns-in-None-clause-noted : goal.returns-in-None-clause-noted
returns-in-None-clause-noted c =
    subst (Notes c.args.thread c.args.func c.args.args.now c.args.self.now) (sym c.answer.ensures.rest)
    (subst (λ (s : SystemState). Notes c.args.thread c.args.func c.args.args.now s (record c.self.inside.system { left = set c.self.inside.system.left c.args.func (drop 1 (left_of c.self.inside.system.left c.args.func)) })) c.self.view_is (notes_answer c.self.inside.system c.args.thread c.args.func c.args.args.now (sym c.builtin_of.ensures ∙ c.in-None.is)))
