use Rattle.std.proofs.Common.{sym}
use Rattle.std.proofs.lemmas.Option.{get_or_from_slice_get, slice_get_within}
use Rattle.system_side.specs.AnswerLists.{as_scripted}
use Rattle.system_side.proofs.Places.{noted_more}
use Rattle.system_side.proofs.answers.Left.new.Goals as goal

pub loop-place-preserved : goal.loop-place-preserved
loop-place-preserved c =
    let answers = c.args.answers.now in
    let place = c.loop-place.place in
    let a = as_scripted c.get.result in
    noted_more answers place a c.loop-place.left c.add.new.self (slice_get_within answers place a c.get.ensures) (sym (get_or_from_slice_get answers place a a c.get.ensures)) c.loop-place.invariant c.in_ok-add.ensures
