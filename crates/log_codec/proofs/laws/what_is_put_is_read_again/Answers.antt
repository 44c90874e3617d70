use Rattle.std.proofs.Common.{map, ◌∙◌}
use Rattle.log_codec.specs.Putting.{log_chunk}
use Rattle.log_codec.proofs.PutTexts.{put_is, put_is_log, records_put}
use Rattle.log_codec.proofs.laws.what_is_put_is_read_again.Goals as goal

pub returns-clause-records : goal.returns-clause-records
returns-clause-records c = λ cs kept are all. all (map log_chunk cs) (put_is_log cs are) ∙ records_put cs

pub returns-clause-whole : goal.returns-clause-whole
returns-clause-whole c = λ cs kept are same. same.1 (map log_chunk cs, put_is_log cs are)

pub returns-clause-prefix : goal.returns-clause-prefix
returns-clause-prefix c = λ cs bytes more kept are e full. full (map log_chunk cs) more (are, e ∙ put_is cs)
