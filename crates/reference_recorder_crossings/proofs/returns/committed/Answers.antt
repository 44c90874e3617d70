use Rattle.std.proofs.Common.{ℕ, Option, sym, subst}
use Rattle.replay_runs.specs.Interface.{Committing}
use Rattle.reference_recorder_findings.specs.Findings.{IsFound}
use Rattle.reference_recorder_crossings.specs.Parts.{committed_checks}
use Rattle.reference_recorder_crossings.proofs.returns.committed.Goals as goal

pub returns-in-Some : goal.returns-in-Some
returns-in-Some c = λ w p h.
    subst (λ (x : Committing). IsFound (committed_checks w p c.args.pieces.now c.args.answers.now c.args.regions.now c.args.used.now x.key x.used) c.released.result) c.commit.view_is
    (subst (λ (o : Option ℕ). IsFound (committed_checks w p c.args.pieces.now c.args.answers.now c.args.regions.now c.args.used.now c.commit.inside.key o) c.released.result) (sym c.in-Some.is) (c.released.ensures w p h))

pub returns-in-None : goal.returns-in-None
returns-in-None c = λ w p h.
    subst (λ (x : Committing). IsFound (committed_checks w p c.args.pieces.now c.args.answers.now c.args.regions.now c.args.used.now x.key x.used) c.sizes.result) c.commit.view_is
    (subst (λ (o : Option ℕ). IsFound (committed_checks w p c.args.pieces.now c.args.answers.now c.args.regions.now c.args.used.now c.commit.inside.key o) c.sizes.result) (sym c.in-None.is) (c.sizes.ensures w p h))
