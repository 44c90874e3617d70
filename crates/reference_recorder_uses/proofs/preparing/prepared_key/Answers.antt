use Rattle.std.proofs.Common.{sym, ◌∙◌}
use Rattle.whole_runs.specs.World.{begin}
use Rattle.whole_runs.specs.Sides.{seen}
use Rattle.reference_recorder_uses.proofs.OneKey.{listed, neither, used_already}
use Rattle.reference_recorder_uses.proofs.preparing.prepared_key.Goals as goal

pub returns-then-any_number : goal.returns-then-any_number
returns-then-any_number c = λ w p h.
    listed (begin w) (seen p) c.args.more.now c.args.prepared.now c.key_of-key.result c.key_of-key.ensures (sym c.any_number.ensures ∙ c.if-any_number.true)
    c.in_use_already-taken.result c.in_use_already-taken.ensures

pub returns-in-Some : goal.returns-in-Some
returns-in-Some c = λ w p h.
    used_already (begin w) (seen p) c.args.more.now c.args.prepared.now c.key_of-key.result c.key_of-key.ensures c.in-Some.field-0 (sym (c.in-Some.ensures w p h))
    c.in_use_already-taken.result c.in_use_already-taken.ensures

pub returns-in-None : goal.returns-in-None
returns-in-None c = λ w p h.
    neither (begin w) (seen p) c.args.more.now c.args.prepared.now c.key_of-key.result c.key_of-key.ensures (sym (c.in-None.ensures w p h))
    (sym c.any_number.ensures ∙ c.if-any_number.false)
