use Rattle.std.proofs.Common.{◌≡◌, ℕ, ◌≤◌, List, length, get_or, take, ap, ◌∙◌, arith}
use Rattle.std.proofs.lemmas.List.{length-take-le, get_or-take}
use Rattle.space_memory_bytes.proofs.Marks.{digit_of}
use Rattle.space_memory_bytes.proofs.Changes.{number_put}
use Rattle.space_memory_bytes.proofs.live_bytes.LiveBytes.write.Goals as goal

pub returns-clause-written : goal.returns-clause-written
returns-clause-written c =
    let low = c.min-low.result in
    let part = take low c.to_le_bytes-bytes.result in
    let eight : length c.to_le_bytes-bytes.result ≡ 8 = ap (λ (xs : List ℕ). length xs) c.to_le_bytes-bytes.ensures in
    let few : low ≤ 8 = omega (arith, c.min-low.ensures) in
    number_put c.args.self.now c.put.new.self c.fill.new.self c.args.addr c.args.width low c.args.value part c.min-low.ensures
    (length-take-le low c.to_le_bytes-bytes.result (omega (arith, eight)))
    (omega arith)
    (λ i lt. get_or-take low c.to_le_bytes-bytes.result i 0 lt ∙ ap (λ (xs : List ℕ). get_or xs i 0) c.to_le_bytes-bytes.ensures ∙ digit_of c.args.value i (omega arith))
    c.put.ensures.put c.fill.ensures.fills
