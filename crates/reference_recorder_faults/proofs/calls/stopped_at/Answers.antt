use Rattle.std.proofs.Common.{◌≡◌, true, [], get_or, take, sym, ◌∙◌}
use Rattle.std.proofs.lemmas.Result.{IfOk-weaker}
use Rattle.marks.specs.Marks.{Fault, Reading, Writing}
use Rattle.reference_recorder_marks.specs.Marks.{act_of, past}
use Rattle.reference_recorder_faults.specs.Ranges.{no_range}
use Rattle.reference_recorder_faults.proofs.Stopped.{stopped_constant, stopped_dead, stopped_read, stopped_somewhere, stopped_write}
use Rattle.reference_recorder_faults.proofs.calls.stopped_at.Goals as goal

pub unreachable-requires : goal.unreachable-requires
unreachable-requires c =
    let w = c.requires.0 in
    let s = c.requires.2 in
    stopped_dead w (past c.args.marks.now) c.args.ins.now c.args.held.now c.args.kind c.requires.1 s.stopped c.in-NotLive.is
    (c.in-None.ensures w s.objects s.low) (c.in-None-first_dead_range.ensures w s.objects s.low)

pub unreachable-requires-in-None-first_constant : goal.unreachable-requires-in-None-first_constant
unreachable-requires-in-None-first_constant c =
    let s = c.requires.2 in
    stopped_somewhere c.requires.0 (past c.args.marks.now) c.args.ins.now c.args.held.now c.args.kind c.requires.1 s.stopped c.in-ReadOnly.is c.in-None-first_constant.ensures

pub returns-in-Some : goal.returns-in-Some
returns-in-Some c = λ w act s.
    IfOk-weaker c.at_read.result (λ made. act_of made ≡ Fault c.args.kind true (take c.in-Some.place c.args.ins.now) [] (Reading (get_or c.args.ins.now c.in-Some.place no_range))) (λ made. act ≡ act_of made)
    (λ made e. stopped_read w (past c.args.marks.now) c.args.ins.now c.args.held.now c.args.kind act s.stopped c.in-NotLive.is c.in-Some.place (c.in-Some.ensures w s.objects s.low) ∙ sym e)
    c.at_read.ensures

pub returns-in-Some-first_dead_range : goal.returns-in-Some-first_dead_range
returns-in-Some-first_dead_range c = λ w act s.
    let place = c.in-Some-first_dead_range.place in
    IfOk-weaker c.at_write.result (λ made. act_of made ≡ Fault c.args.kind true c.args.ins.now (take place c.args.held.now) (Writing (get_or c.args.held.now place no_range))) (λ made. act ≡ act_of made)
    (λ made e. stopped_write w (past c.args.marks.now) c.args.ins.now c.args.held.now c.args.kind act s.stopped c.in-NotLive.is (c.in-None.ensures w s.objects s.low) place (c.in-Some-first_dead_range.ensures w s.objects s.low) ∙ sym e)
    c.at_write.ensures

pub returns-in-Some-first_constant : goal.returns-in-Some-first_constant
returns-in-Some-first_constant c = λ w act s.
    let place = c.in-Some-first_constant.place in
    IfOk-weaker c.at_write-in-Some-first_constant.result (λ made. act_of made ≡ Fault c.args.kind true c.args.ins.now (take place c.args.held.now) (Writing (get_or c.args.held.now place no_range))) (λ made. act ≡ act_of made)
    (λ made e. stopped_constant w (past c.args.marks.now) c.args.ins.now c.args.held.now c.args.kind act s.stopped c.in-ReadOnly.is place c.in-Some-first_constant.ensures ∙ sym e)
    c.at_write-in-Some-first_constant.ensures
