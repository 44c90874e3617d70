use Rattle.std.proofs.Common.{sym, ap, ◌∙◌, arith}
use Rattle.reference_recorder_marks.specs.Marks.{past}
use Rattle.reference_recorder_uses.specs.Checks.{any_at}
use Rattle.reference_recorder_uses.proofs.BlocksBelow.{found_at, handed_back, null, unfound_at}
use Rattle.reference_recorder_uses.proofs.blocks.freed_below.Goals as goal

pub returns-then-addr-eq0 : goal.returns-then-addr-eq0
returns-then-addr-eq0 c = λ w p h. null w p c.args.addr (omega arith)

pub returns-then-is_replay : goal.returns-then-is_replay
returns-then-is_replay c = λ w p h. handed_back w p c.args.addr (sym c.is_replay.ensures ∙ c.if-is_replay.true)

pub returns-then-any_at : goal.returns-then-any_at
returns-then-any_at c = λ w p h.
    found_at w p (past c.args.run.marks.now) h.same c.args.addr (sym c.is_replay.ensures ∙ c.if-is_replay.false)
    (ap (any_at c.args.addr) (sym c.in_ok-blocks.ensures) ∙ (ap (any_at c.args.addr) (sym c.deref.ensures.value) ∙ (sym c.any_at.ensures ∙ c.if-any_at.true)))

pub returns : goal.returns
returns c = λ w p h.
    unfound_at w p (past c.args.run.marks.now) h.same c.args.addr (λ z. omega (arith, z)) (sym c.is_replay.ensures ∙ c.if-is_replay.false)
    (ap (any_at c.args.addr) (sym c.in_ok-blocks.ensures) ∙ (ap (any_at c.args.addr) (sym c.deref.ensures.value) ∙ (sym c.any_at.ensures ∙ c.if-any_at.false)))
