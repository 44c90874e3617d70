use Rattle.std.proofs.Common.{List, ℕ, drop, ap, ◌∙◌}
use Rattle.system_side.specs.AnswerLists.{SoFar, answers_in}
use Rattle.system_side.proofs.Flat.{all_cut, none_begun}
use Rattle.system_side.proofs.answer_list.AnswersSoFar.begin.Goals as goal

pub returns : goal.returns
returns c =
    let old = c.self.inside in
    let kept = c.self.invariant in
    let cut = c.truncate.ensures.items in
    let ended = ap (λ (ps : List (List ℕ)). answers_in old.groups.items ps old.entries.items) cut ∙ (all_cut old.groups.items old.pieces.items old.first old.entries.items kept.there kept.start ∙ ap (λ (x : SoFar). x.ended) c.self.view_is) in
    let begun = ap (λ (ps : List (List ℕ)). drop old.first ps) cut ∙ none_begun old.pieces.items old.first in
    λ i. record { ended = ended i; begun = begun i }
