use Rattle.std.proofs.Common.{◌≡◌, ◌-◌, ◌++◌, length, drop, arith, ap, ◌∙◌}
use Rattle.std.specs.Prelude.{reverse}
use Rattle.std.proofs.lemmas.List.{take_all, length-drop}
use Rattle.c_machine_stack.proofs.Tops.{repeated}
use Rattle.c_machine_stack.proofs.stack.Stack.repeat_top.Goals as goal

pub returns-clause-repeated : goal.returns-clause-repeated
returns-clause-repeated g c =
    let xs = c.args.self.now.items.items in
    let n = c.args.count in
    let from = c.saturating_sub-from.result in
    let keep : from ≡ length xs - n = omega (arith, c.saturating_sub-from.ensures, c.args.self.now.items.ok.0) in
    let long = c.args.self.now.items.ok.0 in
    ap reverse (c.in-Ok.ensures.items ∙ ap (λ l. xs ++ l) (take_all _ (drop from xs) (omega (arith, length-drop from xs, long)) ∙ ap (λ m. drop m xs) keep)) ∙ repeated xs n
