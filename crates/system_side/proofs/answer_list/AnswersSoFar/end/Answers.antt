use Rattle.std.proofs.Common.{◌≡◌, ◌-◌, List, [], ◌∷◌, ◌++◌, get_or, length, take, drop, ap, ◌∙◌}
use Rattle.system_side.specs.declared.answer_list.Entry.{Entry}
use Rattle.system_side.specs.declared.answer_list.Group.{Group}
use Rattle.system_side.specs.AnswerLists.{SoFar, answers_in, group_in, none, pieces_in}
use Rattle.system_side.proofs.Flat.{all_from, all_grouped, last_group, one_more}
use Rattle.system_side.proofs.answer_list.AnswersSoFar.end.Goals as goal

-- the answer takes the group that is put in last, whose pieces are those that were begun
pub returns-clause-ended : goal.returns-clause-ended
returns-clause-ended c =
    let old = c.self.inside in
    let gs = old.groups.items in
    let ps = old.pieces.items in
    let es = old.entries.items in
    let more = c.push.new.self.items in
    let now = c.args.self.now in
    let end : c.len-end.result ≡ length ps = c.len-end.ensures ∙ old.pieces.ok.0 in
    let place : c.len-group.result ≡ length gs = c.len-group.ensures ∙ old.groups.ok.0 in
    let g : Group = record { first = old.first; count = c.len-end.result - old.first } in
    let e : Entry = record { result = c.args.value; group = c.len-group.result; func = c.args.func } in
    let groups : c.push_reserved.new.self.items ≡ gs ++ g ∷ [] = c.push_reserved.ensures.items ∙ ap (λ (xs : List Group). xs ++ g ∷ []) c.in_ok-reserve.ensures.items in
    let ended = ap (λ (x : SoFar). x.ended) c.self.view_is in
    let begun = ap (λ (x : SoFar). x.begun) c.self.view_is in
    let its : group_in (gs ++ g ∷ []) e ≡ g = ap (λ n. get_or (gs ++ g ∷ []) n none) place ∙ last_group gs g in
    let pieces : pieces_in ps (group_in (gs ++ g ∷ []) e) ≡ now.begun = ap (pieces_in ps) its ∙ (ap (λ n. take (n - old.first) (drop old.first ps)) end ∙ (all_from ps old.first ∙ begun)) in
    ap (λ (xs : List Group). answers_in xs ps more) groups
    ∙ one_more (gs ++ g ∷ []) ps es more e now now.begun c.in_ok-push.ensures.items (all_grouped gs (g ∷ []) ps es c.self.invariant.there.grouped ∙ ended) pieces
