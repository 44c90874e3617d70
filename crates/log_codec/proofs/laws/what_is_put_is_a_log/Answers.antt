use Rattle.std.proofs.Common.{map, ◌∙◌}
use Rattle.log_codec.specs.Putting.{log_chunk}
use Rattle.log_codec.proofs.PutTexts.{put_is, put_is_log}
use Rattle.log_codec.proofs.laws.what_is_put_is_a_log.Goals as goal

pub returns-clause-whole : goal.returns-clause-whole
returns-clause-whole c = put_is_log

pub returns-clause-prefix : goal.returns-clause-prefix
returns-clause-prefix c = λ cs bytes more are e. (map log_chunk cs, more, (are, e ∙ put_is cs))
