use Rattle.std.proofs.Common.{ℕ, ◌%◌, ◌/◌, ◌<◌, List, None, ◌∙◌, refl, arith}
use Rattle.std.proofs.Math.ListN.{replicate}
use Rattle.std.proofs.lemmas.List.{get_or-replicate}
use Rattle.std.specs.Vec.{with_item}
use Rattle.race_watch_pages.specs.declared.pages.WordPage.{WordPage}
use Rattle.race_watch_pages.specs.declared.pages.Pages.{Pages}
use Rattle.race_watch_pages.proofs.Cells.{IsMade, made_same, made_there, made_split}
use Rattle.race_watch_pages.proofs.pages.Pages.add_page.Goals as goal

pub returns-clause-same : goal.returns-clause-same
returns-clause-same c = λ k.
    let old : Pages = c.args.self.now in
    let new : Pages = record { size = old.size; index = with_item old.index c.args.page c.len-at.result; words = c.push.new.self; cells = old.cells } in
    let zeros : List ℕ = replicate 64 0 in
    let page : WordPage = record { number = c.args.page; split = None; values = zeros } in
    let made : IsMade old new page c.args.page c.len-at.result = record { listed = c.requires.listed; index = refl; end = c.len-at.ensures ∙ old.words.ok.0; words = c.in_ok-push.ensures.items; cells = refl; number = refl; whole = refl; away = c.requires.away } in
    let lt : k % 256 / 4 < 64 = omega arith in
    made_same old new page c.args.page c.len-at.result k made (get_or-replicate 64 (k % 256 / 4) 0 0 lt)

pub returns-clause-stays : goal.returns-clause-stays
returns-clause-stays c = λ p.
    let old : Pages = c.args.self.now in
    let new : Pages = record { size = old.size; index = with_item old.index c.args.page c.len-at.result; words = c.push.new.self; cells = old.cells } in
    let zeros : List ℕ = replicate 64 0 in
    let page : WordPage = record { number = c.args.page; split = None; values = zeros } in
    let made : IsMade old new page c.args.page c.len-at.result = record { listed = c.requires.listed; index = refl; end = c.len-at.ensures ∙ old.words.ok.0; words = c.in_ok-push.ensures.items; cells = refl; number = refl; whole = refl; away = c.requires.away } in
    made_there old new page c.args.page c.len-at.result p made

pub returns-clause-split : goal.returns-clause-split
returns-clause-split c = λ p.
    let old : Pages = c.args.self.now in
    let new : Pages = record { size = old.size; index = with_item old.index c.args.page c.len-at.result; words = c.push.new.self; cells = old.cells } in
    let zeros : List ℕ = replicate 64 0 in
    let page : WordPage = record { number = c.args.page; split = None; values = zeros } in
    let made : IsMade old new page c.args.page c.len-at.result = record { listed = c.requires.listed; index = refl; end = c.len-at.ensures ∙ old.words.ok.0; words = c.in_ok-push.ensures.items; cells = refl; number = refl; whole = refl; away = c.requires.away } in
    made_split old new page c.args.page c.len-at.result p made
