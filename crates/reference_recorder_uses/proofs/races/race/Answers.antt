use Rattle.std.proofs.Common.{Some, None, sym, subst}
use Rattle.marks.specs.declared.breach.BreachKind.TheVariants.{Race}
use Rattle.replay_runs.specs.Checks.{Done, race_check}
use Rattle.whole_runs.specs.Sides.{seen}
use Rattle.reference_recorder_marks.specs.Marks.{past}
use Rattle.reference_recorder_races.specs.declared.tested.Tested.{Tested}
use Rattle.reference_recorder_races.specs.Races.{IsFirstRace}
use Rattle.reference_recorder_findings.specs.declared.finding.Finding.TheVariants.{Breach}
use Rattle.reference_recorder_findings.specs.Findings.{IsFound}
use Rattle.reference_recorder_uses.proofs.Raced.{race_same}
use Rattle.reference_recorder_uses.proofs.races.race.Goals as goal

pub returns-in-Some : goal.returns-in-Some
returns-in-Some c = λ w p h.
    let tested : Tested = record { range = c.args.range; write = c.args.write } in
    subst (λ f. IsFound (race_check (seen p) c.args.thread c.args.write c.args.range Done) (Some f)) (sym c.raced.ensures)
    (race_same p (past c.args.run.marks.now) h.same c.args.thread c.args.write c.args.range (Some (Breach Race c.in-Some.race.address (Some c.in-Some.race.other)))
    (subst (IsFirstRace (seen (past c.args.run.marks.now)) c.args.thread tested) c.in-Some.is c.in_ok-race.ensures))

pub returns-in-None : goal.returns-in-None
returns-in-None c = λ w p h.
    let tested : Tested = record { range = c.args.range; write = c.args.write } in
    race_same p (past c.args.run.marks.now) h.same c.args.thread c.args.write c.args.range None
    (subst (IsFirstRace (seen (past c.args.run.marks.now)) c.args.thread tested) c.in-None.is c.in_ok-race.ensures)
