use Rattle.std.proofs.Common.{ap}
use Rattle.system_side.specs.declared.file.Scripted.{Scripted}
use Rattle.system_side.specs.AnswerLists.{SoFar, last_pieces}
use Rattle.sys_script_lines.proofs.Repeats.{put_in}
use Rattle.sys_script_lines.proofs.answer.repeat_answer.Goals as goal

pub returns-clause-last : goal.returns-clause-last
returns-clause-last c =
    let old = c.args.answers.now.ended in
    let a : Scripted = record { func = c.args.external.func; result = c.in-Some.result; pieces = last_pieces old } in
    put_in c.repeat.new.self.ended old a c.args.external.pieces (ap (λ (x : SoFar). x.ended) c.in_ok-repeat.ensures.ended) c.requires.count_is
