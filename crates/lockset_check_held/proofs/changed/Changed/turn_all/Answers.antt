use Rattle.std.proofs.Common.{◌≡◌, ℕ, suc, ◌+◌, ◌≤◌, length, take, sym, subst, arith}
use Rattle.lockset_check_held.specs.Changes.{Changes, Xors, change_of}
use Rattle.lockset_check_held.proofs.Changes.{each_turned, next_turned, none_turned, some_within}
use Rattle.lockset_check_held.proofs.changed.Changed.turn_all.Goals as goal

pub loop-i-init : goal.loop-i-init
loop-i-init c = none_turned c.args.others.now (change_of c.args.self.now)

pub loop-i-preserved : goal.loop-i-preserved
loop-i-preserved c =
    let changes = c.args.others.now in
    let old = c.args.self.now in
    let i = c.loop-i.i in
    let next : suc i ≡ i + 1 = omega arith in
    subst (λ (k : ℕ). Xors (change_of (take k changes)) (change_of old) (change_of c.turn_word.new.self)) next
    (next_turned changes i c.at-number.result c.len-i-end.ensures.once c.at-number.ensures (change_of old) (change_of c.loop-i.self) (change_of c.turn_word.new.self)
    c.loop-i.invariant c.in_ok-turn_word.ensures.done)

pub returns-in_err-turn_word-clause-within : goal.returns-in_err-turn_word-clause-within
returns-in_err-turn_word-clause-within c =
    let changes = c.args.others.now in
    let old = c.args.self.now in
    let i = c.loop-i.i in
    some_within changes (change_of old) i (change_of c.turn_word.new.self)
    (subst (λ (v : Changes). Xors (change_of (take i changes)) (change_of old) (change_of v)) (sym c.in_err-turn_word.ensures.err) c.loop-i.invariant)

pub returns-clause-done : goal.returns-clause-done
returns-clause-done c =
    let le : length c.args.others.now ≤ c.loop-i.i = omega arith in
    each_turned c.args.others.now (change_of c.args.self.now) c.loop-i.i (change_of c.loop-i.self) c.loop-i.invariant le

pub returns-clause-within : goal.returns-clause-within
returns-clause-within c = some_within c.args.others.now (change_of c.args.self.now) c.loop-i.i (change_of c.loop-i.self) c.loop-i.invariant
