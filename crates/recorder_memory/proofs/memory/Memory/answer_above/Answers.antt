use Rattle.std.proofs.Common.{map, length, sym, ap, ◌∙◌, subst}
use Rattle.space_memory_access.specs.declared.holder.Region.{Region}
use Rattle.space_memory_access.specs.Held.{HeldState, innermost}
use Rattle.space_memory.specs.Releases.{outs_of}
use Rattle.recorder_memory.specs.Below.{LeavesSeen}
use Rattle.recorder_memory.proofs.Answering.{all_answered, answer_refused, last_refused, last_seen}
use Rattle.recorder_memory.proofs.Results.{all_ok, any_err}
use Rattle.recorder_memory.proofs.memory.Memory.answer_above.Goals as goal

pub returns-in-Err-put_last-clause-refused : goal.returns-in-Err-put_last-clause-refused
returns-in-Err-put_last-clause-refused c =
    last_refused c.args.self.now c.put_outs.new.self c.args.thread c.args.outs.now c.args.used.now c.args.pieces.now c.requires.pieces c.put_outs.ensures.held c.args.commit c.in-Ok.region c.in-Err-put_last.refusal c.in-Ok.ensures.region c.in-Ok.ensures.key
    (ap (λ (q : HeldState). map (λ (r : Region). r.range) (outs_of (innermost q c.args.thread) q.regions)) c.put_outs.ensures.held ∙ c.requires.regions)
    c.in_default.ensures.put c.in-Err-put_last.ensures.refused

pub returns-in-Err-put_last-clause-seen : goal.returns-in-Err-put_last-clause-seen
returns-in-Err-put_last-clause-seen c = subst (LeavesSeen c.args.self.now) (sym c.in-Err-put_last.ensures.unchanged) c.put_outs.ensures.seen

pub returns-clause-answered : goal.returns-clause-answered
returns-clause-answered c = all_ok c.test_return.result _
    (all_answered c.args.self.now c.put_outs.new.self c.args.thread c.args.outs.now c.args.used.now c.args.pieces.now c.requires.pieces c.put_outs.ensures.held c.args.commit c.in-Ok.region c.put_last.new.self c.in-Ok.ensures.region c.in-Ok.ensures.key c.in_default.ensures.put c.in_default-put_last.ensures.put)

pub returns-clause-refused : goal.returns-clause-refused
returns-clause-refused c = any_err c.test_return.result _ _
    (λ refusal refuses. answer_refused c.args.self.now c.put_last.new.self c.args.thread c.args.outs.now c.args.used.now c.args.commit c.args.pieces.now refusal
    (all_answered c.args.self.now c.put_outs.new.self c.args.thread c.args.outs.now c.args.used.now c.args.pieces.now c.requires.pieces c.put_outs.ensures.held c.args.commit c.in-Ok.region c.put_last.new.self c.in-Ok.ensures.region c.in-Ok.ensures.key c.in_default.ensures.put c.in_default-put_last.ensures.put)
    refuses)
    c.test_return.ensures.refused

pub returns-clause-seen : goal.returns-clause-seen
returns-clause-seen c = last_seen c.args.self.now c.put_outs.new.self c.put_last.new.self c.args.thread (length c.args.outs.now) c.in-Ok.region c.args.pieces.now c.put_outs.ensures.seen c.in_default-put_last.ensures.put
