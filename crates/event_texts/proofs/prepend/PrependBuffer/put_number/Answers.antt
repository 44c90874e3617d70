use Rattle.std.proofs.Common.{arith, ◌≤◌, length, decimal, length-append, length-drop, ap}
use Rattle.std.proofs.lemmas.Fmt.{length-decimal-le}
use Rattle.event_texts.proofs.prepend.PrependBuffer.put_number.Goals as goal

pub write_digits-self-inside-requires : goal.write_digits-self-inside-requires
write_digits-self-inside-requires c =
    let few : length (decimal c.args.number) ≤ 20 = length-decimal-le 20 c.args.number (omega arith) (omega arith) (omega arith) in
    (omega (arith, few, length-drop c.self.inside.start c.self.inside.bytes, ap length c.self.view_is), omega arith)

pub returns-clause-short : goal.returns-clause-short
returns-clause-short c =
    rw (c.write_digits-self-inside.ensures.written, c.self.view_is, length-append)
    (let few : length (decimal c.args.number) ≤ 20 = length-decimal-le 20 c.args.number (omega arith) (omega arith) (omega arith) in omega (arith, few))
