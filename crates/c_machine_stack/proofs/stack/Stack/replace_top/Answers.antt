use Rattle.std.proofs.Common.{◌≡◌, ◌+◌, ◌-◌, length, arith}
use Rattle.std.proofs.lemmas.List.{length-reverse}
use Rattle.c_machine_stack.proofs.Tops.{last_changed}
use Rattle.c_machine_stack.proofs.stack.Stack.replace_top.Goals as goal

pub returns-clause-replaced : goal.returns-clause-replaced
returns-clause-replaced g c =
    let xs = c.args.self.now.items.items in
    let n = c.len-top.result - 1 in
    let long : length xs ≡ n + 1 = omega (arith, c.requires.some, length-reverse xs, c.len-top.ensures, c.args.self.now.items.ok.0) in
    last_changed xs n c.args.value long
