use Rattle.std.proofs.Common.{◌≡◌, ◌-◌, length, take, arith, ap, ◌∙◌}
use Rattle.std.specs.Prelude.{reverse}
use Rattle.c_machine_stack.proofs.Tops.{prefix_is}
use Rattle.c_machine_stack.proofs.stack.Stack.drop_top.Goals as goal

pub returns-clause-dropped : goal.returns-clause-dropped
returns-clause-dropped g c =
    let xs = c.args.self.now.items.items in
    let n = c.args.count in
    let keep : c.saturating_sub.result ≡ length xs - n = omega (arith, c.saturating_sub.ensures, c.args.self.now.items.ok.0) in
    ap reverse (c.truncate.ensures.items ∙ ap (λ m. take m xs) keep) ∙ prefix_is xs n
