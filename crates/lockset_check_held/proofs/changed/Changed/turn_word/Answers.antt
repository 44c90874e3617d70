use Rattle.std.proofs.Common.{◌≡◌, ℕ, ◌<◌, ◌^◌, Some, bit_xor, rules, subst}
use Rattle.std.proofs.lemmas.Nat.{xor_lt}
use Rattle.lockset_check_held.proofs.Changes.{put_words}
use Rattle.lockset_check_held.proofs.changed.Changed.turn_word.Goals as goal

pub invariant_of-self-2 : goal.invariant_of-self-2
invariant_of-self-2 c =
    let word : ℕ = bit_xor c.bits_of.result c.args.bits in
    let some : 0 < word = search rules in
    let old : c.bits_of.result < 2 ^ 64 = search rules in
    let bits : c.args.bits < 2 ^ 64 = search rules in
    let fits : word < 2 ^ 64 = xor_lt 64 c.bits_of.result c.args.bits old bits in
    put_words c.self.inside.words.entries c.insert.new.self.entries c.args.number (Some word) c.in_ok-insert.ensures.updates.0 c.self.invariant
    (λ x e. let is : word ≡ x = cc in subst (λ (y : ℕ). (0 < y) × (y < 2 ^ 64)) is (some, fits))
