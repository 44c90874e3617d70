use Rattle.std.proofs.Common.{◌≡◌, ◌+◌, ◌-◌, length, arith, sym, ap, ◌∙◌}
use Rattle.std.proofs.lemmas.List.{length-map}
use Rattle.system_side.specs.declared.answer_list.Entry.{Entry}
use Rattle.system_side.specs.AnswerLists.{SoFar, answer_in, group_in, last_pieces, pieces_in}
use Rattle.system_side.proofs.Flat.{one_more}
use Rattle.system_side.proofs.Lasts.{last_entry}
use Rattle.system_side.proofs.answer_list.AnswersSoFar.repeat.Goals as goal

-- the answer takes the group of the one before
pub returns-clause-ended : goal.returns-clause-ended
returns-clause-ended c =
    let old = c.self.inside in
    let gs = old.groups.items in
    let ps = old.pieces.items in
    let es = old.entries.items in
    let more = c.push.new.self.items in
    let now = c.args.self.now in
    let last = c.index-last.result.now in
    let e : Entry = record { result = c.args.value; group = last.group; func = c.args.func } in
    let ended = ap (λ (x : SoFar). x.ended) c.self.view_is in
    let begun = ap (λ (x : SoFar). x.begun) c.self.view_is in
    let len : c.len.result ≡ length es = c.len.ensures ∙ old.entries.ok.0 in
    let some : length es ≡ length now.ended = sym (length-map es (answer_in gs ps)) ∙ ap length ended in
    let place : c.len.result - 1 + 1 ≡ length es = omega (arith, len, some, c.requires.some) in
    let pieces : pieces_in ps (group_in gs e) ≡ last_pieces now.ended = ap (λ (x : Entry). pieces_in ps (group_in gs x)) c.index-last.ensures ∙ (sym (last_entry gs ps es (c.len.result - 1) last place) ∙ ap last_pieces ended) in
    let whole = one_more gs ps es more e now (last_pieces now.ended) c.in_ok-push.ensures.items ended pieces in
    λ i. record { ended = whole i; begun = begun i }
