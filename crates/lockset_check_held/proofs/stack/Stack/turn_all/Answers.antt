use Rattle.std.proofs.Common.{◌≡◌, Some, None, rules, ◌∙◌}
use Rattle.std.specs.Prelude.{slice_get}
use Rattle.lockset_check_held.specs.Changes.{is_turned}
use Rattle.std.proofs.lemmas.Result.{on_ok_weaker}
use Rattle.lockset_check_held.proofs.Changes.{either_way}
use Rattle.lockset_check_held.proofs.Stacks.{first_kept, first_stays, nothing_kept, rest_stays}
use Rattle.lockset_check_held.proofs.stack.Stack.turn_all.Goals as goal

pub returns-in_ok-turn_all-in-Some-clause-keeps : goal.returns-in_ok-turn_all-in-Some-clause-keeps
returns-in_ok-turn_all-in-Some-clause-keeps c =
    let first : Some c.in-Some.first ≡ slice_get c.args.self.now 0 = search rules in
    on_ok_weaker c.put.result
    (first_kept (is_turned c.args.places.now) c.args.self.now c.take.new.self c.put.new.self c.in-Some.first c.turn_all.new.self first c.take.ensures.rest c.in_ok-turn_all-in-Some.ensures.done)
    c.put.ensures.done

pub returns-in_ok-turn_all-in-Some-clause-within : goal.returns-in_ok-turn_all-in-Some-clause-within
returns-in_ok-turn_all-in-Some-clause-within c =
    let first : Some c.in-Some.first ≡ slice_get c.args.self.now 0 = search rules in
    either_way c.put.result c.put.ensures.done c.put.ensures.err
    (first_stays (is_turned c.args.places.now) c.args.self.now c.take.new.self c.put.new.self c.in-Some.first c.turn_all.new.self first c.take.ensures.rest c.in_ok-turn_all-in-Some.ensures.within)
    (λ e. rest_stays (is_turned c.args.places.now) c.args.self.now c.put.new.self (e ∙ c.take.ensures.rest))

pub returns-in_err-turn_all-in-Some-clause-within : goal.returns-in_err-turn_all-in-Some-clause-within
returns-in_err-turn_all-in-Some-clause-within c = rest_stays (is_turned c.args.places.now) c.args.self.now c.take.new.self c.take.ensures.rest

pub returns-in-None-clause-keeps : goal.returns-in-None-clause-keeps
returns-in-None-clause-keeps c =
    let none : None ≡ slice_get c.args.self.now 0 = search rules in
    nothing_kept (is_turned c.args.places.now) c.args.self.now c.take.new.self none c.take.ensures.rest

pub returns-in-None-clause-within : goal.returns-in-None-clause-within
returns-in-None-clause-within c = rest_stays (is_turned c.args.places.now) c.args.self.now c.take.new.self c.take.ensures.rest
