use Rattle.std.proofs.Common.{ap}
use Rattle.system_side.specs.AnswerLists.{SoFar}
use Rattle.system_side.proofs.Flat.{piece_added}
use Rattle.system_side.proofs.answer_list.AnswersSoFar.add.Goals as goal

pub returns-clause-added : goal.returns-clause-added
returns-clause-added c =
    let s = c.args.self.now in
    let old = c.self.inside in
    let p = piece_added old.first old.groups.items old.pieces.items c.push.new.self.items c.args.piece old.entries.items s c.in_ok-push.ensures.items c.self.invariant (ap (λ (x : SoFar). x.ended) c.self.view_is) (ap (λ (x : SoFar). x.begun) c.self.view_is) in
    λ i. record { ended = p.0 i; begun = p.1 i }
