use Rattle.std.proofs.Common.{ℕ, subst}
use Rattle.marks.specs.Ranges.{any_piece, any_prepared, any_range, within}
use Rattle.marks.specs.Marks.{released}
use Rattle.marks.specs.Bytes.{granted}
use Rattle.reference_recorder_marks.specs.Marks.{commit_of}
use Rattle.reference_recorder_races.specs.Least.{IsLeastAt}
use Rattle.reference_recorder_races.specs.Hits.{writing}
use Rattle.reference_recorder_races.proofs.OneMark.{call_met, none_met, ret_met, write_met}
use Rattle.reference_recorder_races.proofs.acts.met_event.Goals as goal

pub returns-in-Call : goal.returns-in-Call
returns-in-Call c = rw c.in-Call.is (call_met c.args.tested (any_piece _) (any_range _) (any_prepared _) c.read_list-found.result c.held_list-held.result c.prepared_list-more.result c.least-both.result c.least.result c.read_list-found.ensures c.held_list-held.ensures c.prepared_list-more.ensures c.least-both.ensures c.least.ensures)

pub returns-in-Ret : goal.returns-in-Ret
returns-in-Ret c = rw c.in-Ret.is (ret_met c.args.tested _ (released (commit_of _)) c.written_list-brought.result c.written_commit-freed.result c.least-in-Ret.result c.written_list-brought.ensures c.written_commit-freed.ensures c.least-in-Ret.ensures)

pub returns-in-Up : goal.returns-in-Up
returns-in-Up c = rw c.in-Up.is (none_met c.args.tested)

pub returns-in-UpRet : goal.returns-in-UpRet
returns-in-UpRet c = rw c.in-UpRet.is (none_met c.args.tested)

pub returns-in-Alloc : goal.returns-in-Alloc
returns-in-Alloc c = rw c.in-Alloc.is (write_met c.args.tested (within c.in-Alloc.at (granted c.in-Alloc.at c.in-Alloc.size)) c.written_part.result (subst (λ (n : ℕ). IsLeastAt (λ x. writing c.args.tested x (within c.in-Alloc.at n x)) c.written_part.result) c.granted-len.ensures c.written_part.ensures))

pub returns-in-Free : goal.returns-in-Free
returns-in-Free c = rw c.in-Free.is (write_met c.args.tested _ c.written_part-in-Free.result c.written_part-in-Free.ensures)

pub returns-in-Stop : goal.returns-in-Stop
returns-in-Stop c = rw c.in-Stop.is (none_met c.args.tested)
