use Rattle.std.proofs.Common.{◌≤◌, ◌++◌, List, length, ◌∙◌, sym, ap, subst, arith}
use Rattle.std.specs.Prelude.{sum_by}
use Rattle.marks.specs.Marks.{Mark}
use Rattle.whole_runs.specs.Records.{size_of}
use Rattle.whole_runs.specs.Ends.{events_of, most_bytes, most_events}
use Rattle.reference_recorder_threads.proofs.Oldest.{as_many}
use Rattle.reference_recorder_laws.proofs.AtEnd.{length_whole}
use Rattle.reference_recorder_laws.proofs.Short.{few_bytes, few_events, few_marks, same_events}
use Rattle.reference_recorder_laws.proofs.Stamped.{length_at_end}
use Rattle.reference_recorder_laws.proofs.laws.runs_are_short.Goals as goal

pub returns-clause-marks : goal.returns-clause-marks
returns-clause-marks c = λ w marks p.
    let few = few_marks w p.fit p.run p.follows in
    let same = as_many p.run marks p.same in
    omega (arith, few, same)

pub returns-clause-events : goal.returns-clause-events
returns-clause-events c = λ w marks p.
    subst (λ (ms : List Mark). length ms ≤ most_events) (sym (same_events p.run) ∙ ap events_of p.same) (few_events w p.run p.follows)

pub returns-clause-bytes : goal.returns-clause-bytes
returns-clause-bytes c = λ w marks p.
    subst (λ (ms : List Mark). sum_by size_of ms ≤ most_bytes) (sym (same_events p.run) ∙ ap events_of p.same) (few_bytes w p.run p.follows)

pub returns-clause-at_end : goal.returns-clause-at_end
returns-clause-at_end c = λ w marks p.
    let few = few_marks w p.fit p.past p.follows in
    let most = length_at_end w p.past p.last p.ending p.ends in
    let same = as_many (p.last ++ p.past) marks p.same in
    omega (arith, few, most, same)

pub returns-clause-whole : goal.returns-clause-whole
returns-clause-whole c = λ w marks r.
    let most = length_whole w r.fit r.run r.ending r.is_run in
    let same = as_many r.run marks r.same in
    omega (arith, most, same)
