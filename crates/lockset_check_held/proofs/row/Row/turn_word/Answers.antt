use Rattle.std.proofs.Common.{◌<◌, length, arith}
use Rattle.std.proofs.lemmas.List.{get_or_read}
use Rattle.lockset_check_held.proofs.Bits.{word_turned}
use Rattle.lockset_check_held.proofs.row.Row.turn_word.Goals as goal

pub returns-clause-done : goal.returns-clause-done
returns-clause-done c =
    let words = c.reach.new.words.items in
    let word = c.index_mut.result.now in
    let lt : c.args.number < length words = omega (arith, c.in_ok-reach.ensures.long) in
    let is = get_or_read words c.args.number word lt c.index_mut.ensures.value 0 in
    rw (← c.self.view_is)
    (word_turned c.self.inside.words.items words c.args.number c.args.bits word c.in_ok-reach.ensures.same lt is)
