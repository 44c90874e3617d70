use Rattle.std.proofs.Common.{◌≡◌, ℕ, suc, ◌+◌, ◌≤◌, length, take, bit_and, ap, subst, ◌∙◌, arith}
use Rattle.lockset_check_held.specs.Changes.{Changes, change_of}
use Rattle.lockset_check_held.specs.Rows.{word_of}
use Rattle.lockset_check_held.proofs.Changes.{each_both, next_both, none_both}
use Rattle.lockset_check_held.proofs.row.Row.among.Goals as goal

pub loop-i-init : goal.loop-i-init
loop-i-init c = λ n. ap (λ (v : Changes). change_of v n) c.new-both.ensures ∙ none_both c.args.changed.now (word_of c.args.self.now) n

pub loop-i-preserved : goal.loop-i-preserved
loop-i-preserved c =
    let row = c.args.self.now in
    let changes = c.args.changed.now in
    let i = c.loop-i.i in
    let e = c.at-number.result in
    let next : suc i ≡ i + 1 = omega arith in
    subst (λ (k : ℕ). (n : ℕ) → change_of c.turn_word.new.self n ≡ bit_and (word_of row n) (change_of (take k changes) n)) next
    (next_both changes i e c.len-i-end.ensures.once c.at-number.ensures (word_of row) (change_of c.loop-i.both) (change_of c.turn_word.new.self)
    (bit_and c.word.result e.1) (ap (λ (w : ℕ). bit_and w e.1) c.word.ensures) c.loop-i.invariant c.in_ok-turn_word.ensures.done)

pub returns : goal.returns
returns c =
    let le : length c.args.changed.now ≤ c.loop-i.i = omega arith in
    each_both c.args.self.now c.args.changed.now c.loop-i.both c.loop-i.i le c.loop-i.invariant
