use Rattle.std.proofs.Common.{◌-◌, arith, ap, ◌∙◌}
use Rattle.std.specs.Prelude.{reverse}
use Rattle.c_machine_stack.proofs.Tops.{one_gone}
use Rattle.c_machine_stack.proofs.stack.Stack.drop_below.Goals as goal

pub returns-then-count-len-clause-dropped : goal.returns-then-count-len-clause-dropped
returns-then-count-len-clause-dropped g c =
    let xs = c.args.self.now.items.items in
    let n = c.args.count in
    let k = c.len-len.result - n - 1 in
    ap reverse c.remove-gone.ensures.by_index.2 ∙ one_gone xs n k (omega (arith, c.args.self.now.items.ok.0, c.if-count-len.true))
