use Rattle.std.proofs.Common.{arith}
use Rattle.r2_cli_outcome.specs.Plans.{write_of}
use Rattle.r2_cli_outcome.proofs.AfterLemmas.{later_then}
use Rattle.r2_cli_outcome.proofs.WriteLemmas.{refused_more, done_more, taken_more, split_at}
use Rattle.r2_cli_outcome.proofs.writing.write_all.Goals as goal

pub returns-in_err-write_one-clause-later : goal.returns-in_err-write_one-clause-later
returns-in_err-write_one-clause-later g c = later_then _ _ _ c.loop-write.invariant.later c.in_err-write_one.ensures.later

pub returns-in_err-write_one-clause-does : goal.returns-in_err-write_one-clause-does
returns-in_err-write_one-clause-does g c =
    refused_more _ _ _ _ _ _ _ _ _ (split_at write_of c.args.writes.now c.loop-write.write-index c.write-item.result (omega arith) c.write-item.is)
    c.loop-write.invariant.after c.loop-write.invariant.later c.in_err-write_one.ensures.does c.from_residual.ensures.1

pub loop-write-preserved : goal.loop-write-preserved
loop-write-preserved g c = record {
  after = done_more _ _ _ _ _ _ (taken_more write_of c.args.writes.now c.loop-write.write-index c.write-item.result (omega arith) c.write-item.is) c.loop-write.invariant.after c.in_ok-write_one.ensures.does;
  later = later_then _ _ _ c.loop-write.invariant.later c.in_ok-write_one.ensures.later;
}
