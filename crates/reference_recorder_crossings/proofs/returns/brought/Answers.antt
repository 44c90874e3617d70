use Rattle.std.proofs.Common.{Some, None}
use Rattle.stub_meaning.specs.Meaning.{first_of}
use Rattle.reference_recorder_crossings.proofs.ReturnChecks.{brought_is}
use Rattle.reference_recorder_crossings.proofs.returns.brought.Goals as goal

pub returns-in-Some : goal.returns-in-Some
returns-in-Some c = λ w p h.
    brought_is w p c.args.pieces.now c.args.answers.now c.outs-regions.result.now c.args.called.now.outs c.used-used.result.now c.args.known.now.used (Some c.in-Some.commit) (first_of c.args.known.now.commits)
    c.outs-regions.ensures c.used-used.ensures c.in-Some.ensures c.committed.result (c.committed.ensures w p h)

pub returns-in-None : goal.returns-in-None
returns-in-None c = λ w p h.
    brought_is w p c.args.pieces.now c.args.answers.now c.outs-regions.result.now c.args.called.now.outs c.used-used.result.now c.args.known.now.used None (first_of c.args.known.now.commits)
    c.outs-regions.ensures c.used-used.ensures c.in-None.ensures c.sizes.result (c.sizes.ensures w p h)
