use Rattle.reference_recorder_records_laws.proofs.Runs.{are_recordable, end_recordable, next_recordable, run_recordable}
use Rattle.reference_recorder_records_laws.proofs.laws.records_can_stand.Goals as goal

pub returns-clause-past : goal.returns-clause-past
returns-clause-past c = λ w marks p. are_recordable w p.fit p.run p.follows marks p.same

pub returns-clause-next : goal.returns-clause-next
returns-clause-next c = λ w marks p s told made. next_recordable w p.fit p.run p.follows s made.mark made.made told made.same

pub returns-clause-at_end : goal.returns-clause-at_end
returns-clause-at_end c = λ w marks p. end_recordable w p.fit p.past p.follows p.last p.ending p.ends marks p.same

pub returns-clause-whole : goal.returns-clause-whole
returns-clause-whole c = λ w marks r. run_recordable w r.fit r.run r.ending r.is_run marks r.same
