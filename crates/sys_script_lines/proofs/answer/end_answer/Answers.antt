use Rattle.std.proofs.Common.{◌≡◌, length, arith}
use Rattle.system_side.specs.declared.file.Scripted.{Scripted}
use Rattle.sys_script_lines.proofs.Repeats.{put_in}
use Rattle.sys_script_lines.proofs.answer.end_answer.Goals as goal

pub returns-clause-last : goal.returns-clause-last
returns-clause-last c =
    let old = c.args.answers.now in
    let a : Scripted = record { func = c.args.external.func; result = c.in-Some.result; pieces = old.begun } in
    let count : length old.begun ≡ c.args.external.pieces = omega (arith, c.if-count-external.false, c.count.ensures) in
    put_in c.end.new.self.ended old.ended a c.args.external.pieces c.in_ok-end.ensures.ended count
