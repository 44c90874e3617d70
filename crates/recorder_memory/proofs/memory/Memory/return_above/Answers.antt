use Rattle.recorder_memory.proofs.Results.{any_err, any_ok, both_ok}
use Rattle.recorder_memory.proofs.Returning.{above_found, allowed_passes, return_made}
use Rattle.recorder_memory.proofs.memory.Memory.return_above.Goals as goal

pub returns-clause-passes : goal.returns-clause-passes
returns-clause-passes c = any_ok c.release.result _ _ (λ u done. allowed_passes c.args.self.now c.args.thread c.args.used.now c.args.commit done.key done.returned) c.release.ensures.spaces

pub returns-clause-made : goal.returns-clause-made
returns-clause-made c = both_ok c.release.result _ _ _
    (λ u makes done. return_made c.args.self.now _ c.args.thread c.args.used.now c.args.commit c.args.ranges.now c.args.keys.now c.requires.in_range makes done) c.release.ensures.made c.release.ensures.spaces

pub returns-clause-refused : goal.returns-clause-refused
returns-clause-refused c = any_err c.release.result _ _ (λ refusal refuses. above_found c.args.self.now c.args.thread c.args.used.now c.args.commit refusal refuses) c.release.ensures.refused
