use Rattle.std.proofs.Common.{◌≡◌, ◌+◌, ◌-◌, ◌∷◌, length, take, get_or, arith, ap, sym, ◌∙◌}
use Rattle.std.specs.Prelude.{reverse}
use Rattle.std.proofs.lemmas.List.{length-reverse}
use Rattle.c_machine_stack.proofs.Tops.{two_are_first}
use Rattle.c_machine_stack.proofs.stack.Stack.peek_two.Goals as goal

pub returns : goal.returns
returns g c =
    let xs = c.args.self.now.items.items in
    let n = c.len-top.result - 2 in
    let a = c.index.result.now in
    let b = c.index-2.result.now in
    let long : length xs ≡ n + 2 = omega (arith, c.requires.two, length-reverse xs, c.len-top.ensures, c.args.self.now.items.ok.0) in
    let up : c.len-top.result - 1 ≡ n + 1 = omega arith in
    let low : c.len-top.result - 1 - 1 ≡ n = omega arith in (
      reverse (take n xs),
      two_are_first xs n a b long
          ∙ ap (λ y. y ∷ (get_or xs n b ∷ reverse (take n xs))) (sym (c.index.ensures ∙ ap (λ m. get_or xs m a) up))
          ∙ ap (λ y. a ∷ (y ∷ reverse (take n xs))) (sym (c.index-2.ensures ∙ ap (λ m. get_or xs m b) low)),
    )
