use Rattle.std.proofs.Common.{◌≡◌, ◌-◌, length, drop, arith, ap, ◌∙◌}
use Rattle.std.proofs.lemmas.List.{take_rest}
use Rattle.c_machine_stack.proofs.Tops.{tail_is}
use Rattle.c_machine_stack.proofs.stack.Stack.top_slice.Goals as goal

pub returns : goal.returns
returns g c =
    let xs = c.args.self.now.items.items in
    let n = c.args.count in
    let keep : c.saturating_sub.result ≡ length xs - n = omega (arith, c.saturating_sub.ensures, c.args.self.now.items.ok.0) in
    take_rest c.deref.result.now c.saturating_sub.result ∙ ap (λ l. drop c.saturating_sub.result l) c.deref.ensures.value ∙ ap (λ m. drop m xs) keep ∙ tail_is xs n
