use Rattle.std.proofs.Common.{◌≡◌, ℕ, ◌+◌, ◌-◌, List, length, get_or, cond, rules, ap, ◌∙◌, arith}
use Rattle.marks.specs.Ranges.{covers}
use Rattle.space_memory_bytes.proofs.Marks.{mid_get}
use Rattle.space_memory_bytes.proofs.marked_bytes.put_part.Goals as goal

pub returns-clause-put : goal.returns-clause-put
returns-clause-put c = λ k.
    let n = length c.args.part.now in
    let len : length c.copy_from_slice.new.self ≡ n = search rules in
    mid_get c.args.bytes.now c.copy_from_slice.new.self c.args.at n (c.args.at + n - c.args.at) k (omega arith) len c.requires
    ∙ ap (λ (xs : List ℕ). cond (covers (record { addr = c.args.at; len = n }) k) (get_or xs (k - c.args.at) 0) (get_or c.args.bytes.now k 0)) c.copy_from_slice.ensures.after
