use Rattle.std.proofs.Common.{◌≡◌, ◌+◌, ◌-◌, ◌∷◌, length, take, arith, ap, sym, ◌∙◌}
use Rattle.std.specs.Prelude.{reverse}
use Rattle.std.proofs.lemmas.List.{length-reverse}
use Rattle.c_machine_stack.proofs.Tops.{last_is_first}
use Rattle.c_machine_stack.proofs.stack.Stack.peek.Goals as goal

pub returns : goal.returns
returns g c =
    let xs = c.args.self.now.items.items in
    let n = c.len-top.result - 1 in
    let long : length xs ≡ n + 1 = omega (arith, c.requires.some, length-reverse xs, c.len-top.ensures, c.args.self.now.items.ok.0) in
    (reverse (take n xs), last_is_first xs n c.index.result.now long ∙ ap (λ y. y ∷ reverse (take n xs)) (sym c.index.ensures))
