use Rattle.std.proofs.Common.{◌+◌, length, take, arith, ap, refl}
use Rattle.std.proofs.lemmas.List.{length-reverse, length-take-le}
use Rattle.c_machine_stack.specs.Stacks.{held}
use Rattle.c_machine.proofs.Arguments.{has_address}
use Rattle.c_machine.proofs.tops.address_below.Goals as goal

pub bounds-top-0 : goal.bounds-top-0
bounds-top-0 c =
    let vs = held c.args.values.now in
    omega (arith, ap length c.top_slice-top.ensures, length-reverse (take (c.args.n + 1) vs), length-take-le (c.args.n + 1) vs (omega arith))

pub returns : goal.returns
returns c = λ l sig a ws. has_address l sig a ws c.args.n _ (held c.args.values.now) c.top_slice-top.result.now (omega arith) c.top_slice-top.ensures refl
