use Rattle.std.proofs.Common.{ℕ, ◌*◌, ◌%◌, ◌^◌, refl, ap}
use Rattle.std.specs.Prelude.{nat_eq}
use Rattle.std.proofs.lemmas.Result.{on_ok_weaker}
use Rattle.lockset_check_held.specs.Changes.{Changes, change_of, is_turned}
use Rattle.lockset_check_held.proofs.Changes.{either_way, place_stays, place_turned, same_stays}
use Rattle.lockset_check_held.proofs.changed.Changed.turn.Goals as goal

pub returns-clause-done : goal.returns-clause-done
returns-clause-done c =
    let place = c.args.place in
    let bits : ℕ = 1 * 2 ^ (place % 64) % 2 ^ 64 in
    on_ok_weaker c.turn_word.result (place_turned place bits refl (change_of c.args.self.now) (change_of c.turn_word.new.self)) c.turn_word.ensures.done

pub returns-clause-within : goal.returns-clause-within
returns-clause-within c =
    let place = c.args.place in
    let old = is_turned c.args.self.now in
    let new = is_turned c.turn_word.new.self in
    either_way c.turn_word.result (returns-clause-done c) c.turn_word.ensures.err (place_stays place old new)
    (λ e. same_stays (nat_eq place) old new (ap (λ (v : Changes). is_turned v) e))
