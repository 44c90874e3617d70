use Rattle.std.proofs.Common.{sym, ap, ◌∙◌}
use Rattle.marks.specs.Marks.{Call, Ret, Free}
use Rattle.reference_recorder_marks.specs.Marks.{commit_of, kind_of}
use Rattle.reference_recorder_spaces.proofs.Answered.{on_ok}
use Rattle.reference_recorder_spaces.proofs.Still.{makes_as}
use Rattle.reference_recorder_spaces.proofs.events.make.Goals as goal

pub give_back-requires-clause-next : goal.give_back-requires-clause-next
give_back-requires-clause-next c =
    let n = c.requires.next in
    let r = c.in-Ret in
    let kind = ap kind_of r.is ∙ ap (λ outs. Ret r.func r.args r.result r.same outs (commit_of r.commit)) (sym c.as_slice-in-Ret.ensures) in
    (r.func, r.args, r.result, r.same, (n.0, n.1 ∙ kind, n.2))

pub returns-in-Call : goal.returns-in-Call
returns-in-Call c =
    let r = c.in-Call in
    on_ok c.call.result
    (λ m. makes_as c.args.spaces.now c.args.thread (kind_of c.args.kind.now)
    (Call r.func r.args c.as_slice.result.now c.as_slice-in-Call.result.now c.as_slice-in-Call-2.result.now) c.call.new.spaces
    (ap kind_of r.is ∙ (λ i. Call r.func r.args (sym c.as_slice.ensures i) (sym c.as_slice-in-Call.ensures i) (sym c.as_slice-in-Call-2.ensures i)))
    (m r.func r.args))
    c.call.ensures

pub returns-in-Ret : goal.returns-in-Ret
returns-in-Ret c =
    let r = c.in-Ret in
    on_ok c.give_back.result
    (λ m. makes_as c.args.spaces.now c.args.thread (kind_of c.args.kind.now)
    (Ret r.func r.args r.result r.same c.as_slice-in-Ret.result.now (commit_of r.commit)) c.give_back.new.spaces
    (ap kind_of r.is ∙ ap (λ outs. Ret r.func r.args r.result r.same outs (commit_of r.commit)) (sym c.as_slice-in-Ret.ensures))
    (m r.func r.args r.result r.same))
    c.give_back.ensures

pub returns-in-Alloc : goal.returns-in-Alloc
returns-in-Alloc c = λ e is n. c.take.ensures c.args.thread c.in-Alloc.at e (is ∙ ap kind_of c.in-Alloc.is) n

pub free-requires : goal.free-requires
free-requires c = let n = c.requires.next in (c.args.thread, c.in-Free.size, (n.0, n.1 ∙ ap kind_of c.in-Free.is, n.2))

pub returns-in-Free : goal.returns-in-Free
returns-in-Free c = makes_as c.args.spaces.now c.args.thread (kind_of c.args.kind.now) (Free c.in-Free.at c.in-Free.size) c.free.new.spaces (ap kind_of c.in-Free.is) (c.free.ensures c.args.thread c.in-Free.size)
