use Rattle.std.proofs.Common.{refl, sym, ◌∙◌, subst, arith}
use Rattle.marks.specs.declared.range.Range.{Range}
use Rattle.recorder_memory.specs.Answers.{PutsOuts}
use Rattle.recorder_memory.specs.Below.{LeavesSeen}
use Rattle.recorder_memory.proofs.Marking.{with_spaces}
use Rattle.recorder_memory.proofs.Answering.{none_put, one_more_put, put_refused, put_seen}
use Rattle.recorder_memory.proofs.memory.Memory.put_outs.Goals as goal

pub loop-i-init : goal.loop-i-init
loop-i-init c = record { put = none_put _ _ _ _ _ _; seen = λ w past h. h.above; held = refl; watch = refl }

pub returns-in-Err-clause-refused : goal.returns-in-Err-clause-refused
returns-in-Err-clause-refused c =
    let none : Range = record { addr = 0; len = 0 } in
    put_refused c.args.self.now c.args.thread c.args.outs.now c.args.used.now c.args.commit c.args.pieces.now c.loop-i.self c.loop-i.i none c.as_slice-bytes.result.now c.index-pieces-i.result c.in-Err.refusal (omega arith) (omega arith) (c.as_slice-bytes.ensures ∙ c.index-pieces-i.is) c.loop-i.invariant.held c.loop-i.invariant.put c.in-Err.ensures.refused

pub loop-i-preserved : goal.loop-i-preserved
loop-i-preserved c =
    let none : Range = record { addr = 0; len = 0 } in
    record {
      put = one_more_put c.args.self.now c.args.thread c.args.outs.now c.args.used.now c.args.commit c.args.pieces.now c.loop-i.self _ c.loop-i.i none c.as_slice-bytes.result.now c.index-pieces-i.result (omega arith) (omega arith) (c.as_slice-bytes.ensures ∙ c.index-pieces-i.is) refl c.loop-i.invariant.put c.in_default.ensures.put;
      seen = put_seen c.args.self.now c.loop-i.self _ c.args.thread _ _ refl c.loop-i.invariant.seen c.in_default.ensures.put;
      held = c.put_up.ensures.held ∙ c.loop-i.invariant.held;
      watch = c.loop-i.invariant.watch;
    }

pub returns-in-Err-clause-seen : goal.returns-in-Err-clause-seen
returns-in-Err-clause-seen c = subst (LeavesSeen c.args.self.now) (sym (with_spaces c.loop-i.self c.put_up.new.spaces _ c.in-Err.ensures.unchanged)) c.loop-i.invariant.seen

pub returns-clause-put : goal.returns-clause-put
returns-clause-put c = subst (λ n. PutsOuts c.args.self.now c.args.thread c.args.outs.now c.args.used.now c.args.commit c.args.pieces.now n c.loop-i.self) (omega arith) c.loop-i.invariant.put
