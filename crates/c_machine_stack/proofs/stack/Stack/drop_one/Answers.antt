use Rattle.std.proofs.Common.{◌≡◌, ◌-◌, length, take, arith, ap, ◌∙◌}
use Rattle.std.specs.Prelude.{reverse}
use Rattle.c_machine_stack.proofs.Tops.{prefix_is}
use Rattle.c_machine_stack.proofs.stack.Stack.drop_one.Goals as goal

pub returns-clause-dropped : goal.returns-clause-dropped
returns-clause-dropped g c =
    let xs = c.args.self.now.items.items in
    let keep : c.args.self.now.items.len - 1 ≡ length xs - 1 = omega (arith, c.args.self.now.items.ok.0) in
    ap reverse (c.pop-gone.ensures.rest ∙ ap (λ m. take m xs) keep) ∙ prefix_is xs 1
