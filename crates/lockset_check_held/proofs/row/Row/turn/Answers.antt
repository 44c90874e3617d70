use Rattle.std.proofs.Common.{ℕ, ◌*◌, ◌%◌, ◌^◌, refl}
use Rattle.std.specs.Prelude.{nat_eq}
use Rattle.std.proofs.lemmas.Result.{on_ok_weaker}
use Rattle.lockset_check_held.specs.Rows.{is_on, word_of}
use Rattle.lockset_check_held.proofs.Bits.{same_bits}
use Rattle.lockset_check_held.proofs.Changes.{either_way, place_stays, place_turned, same_stays}
use Rattle.lockset_check_held.proofs.row.Row.turn.Goals as goal

pub returns-clause-done : goal.returns-clause-done
returns-clause-done c =
    let place = c.args.place in
    let bits : ℕ = 1 * 2 ^ (place % 64) % 2 ^ 64 in
    on_ok_weaker c.turn_word.result (place_turned place bits refl (word_of c.args.self.now) (word_of c.turn_word.new.self)) c.turn_word.ensures.done

pub returns-clause-within : goal.returns-clause-within
returns-clause-within c =
    let place = c.args.place in
    let old = c.args.self.now in
    let new = c.turn_word.new.self in
    either_way c.turn_word.result (returns-clause-done c) c.turn_word.ensures.err (place_stays place (is_on old) (is_on new))
    (λ h. same_stays (nat_eq place) (is_on old) (is_on new) (same_bits (word_of new) (word_of old) h))
