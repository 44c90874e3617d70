use Rattle.std.proofs.Common.{refl}
use Rattle.r2_cli_outcome.proofs.StageLemmas.{plans, plans_refusal, read_nothing}
use Rattle.r2_cli.specs.Words.{help, version, order, check, stubs, gen, recording}
use Rattle.r2_cli.specs.Commands.{no_form, formed}
use Rattle.r2_cli.proofs.FormLemmas.{is_form_of}
use Rattle.r2_cli.proofs.commands.planned.Goals as goal

pub returns-in_default-clause-planned : goal.returns-in_default-clause-planned
returns-in_default-clause-planned g c = plans_refusal _ _ _ _ _ (no_form c.in_default.ensures.none) c.refused.ensures

pub returns-in-Help-clause-planned : goal.returns-in-Help-clause-planned
returns-in-Help-clause-planned g c =
    plans _ _ _ _ _ (λ o k. formed help (is_form_of _ _ _ help c.in-Some.ensures.form c.in-Help.is refl) k) (read_nothing _ _ _ _ _ c.help.ensures)

pub returns-in-Version-clause-planned : goal.returns-in-Version-clause-planned
returns-in-Version-clause-planned g c =
    plans _ _ _ _ _ (λ o k. formed version (is_form_of _ _ _ version c.in-Some.ensures.form c.in-Version.is refl) k) (read_nothing _ _ _ _ _ c.version.ensures)

pub returns-in-Order-clause-planned : goal.returns-in-Order-clause-planned
returns-in-Order-clause-planned g c =
    plans _ _ _ _ _ (λ o k. formed (order c.in-Order.log.now) (is_form_of _ _ _ (order c.in-Order.log.now) c.in-Some.ensures.form c.in-Order.is refl) k) c.order.ensures.answers

pub returns-in-Check-clause-planned : goal.returns-in-Check-clause-planned
returns-in-Check-clause-planned g c =
    plans _ _ _ _ _ (λ o k. formed (check c.in-Check.source.now c.in-Check.cut.now) (is_form_of _ _ _ (check c.in-Check.source.now c.in-Check.cut.now) c.in-Some.ensures.form c.in-Check.is refl) k) c.check.ensures.answers

pub returns-in-Stubs-clause-planned : goal.returns-in-Stubs-clause-planned
returns-in-Stubs-clause-planned g c =
    plans _ _ _ _ _ (λ o k. formed (stubs c.in-Stubs.source.now c.in-Stubs.cut.now) (is_form_of _ _ _ (stubs c.in-Stubs.source.now c.in-Stubs.cut.now) c.in-Some.ensures.form c.in-Stubs.is refl) k) c.stubs.ensures.answers

pub returns-in-Generate-clause-planned : goal.returns-in-Generate-clause-planned
returns-in-Generate-clause-planned g c =
    plans _ _ _ _ _ (λ o k. formed (gen c.in-Generate.rounds c.in-Generate.source.now c.in-Generate.system.now)
    (is_form_of _ _ _ (gen c.in-Generate.rounds c.in-Generate.source.now c.in-Generate.system.now) c.in-Some.ensures.form c.in-Generate.is refl) k) (read_nothing _ _ _ _ _ c.generate.ensures)

pub returns-in-Record-clause-planned : goal.returns-in-Record-clause-planned
returns-in-Record-clause-planned g c =
    let form = recording c.in-Record.source.now c.in-Record.cut.now c.in-Record.system.now c.in-Record.log.now c.in-Record.report.now in
    plans _ _ _ _ _ (λ o k. formed form (is_form_of _ _ _ form c.in-Some.ensures.form c.in-Record.is refl) k) c.record.ensures.answers
