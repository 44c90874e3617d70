use Rattle.std.proofs.Common.{◌≡◌, ◌∙◌, Some, get_or, refl, ap}
use Rattle.std.proofs.lemmas.List.{get_or_read}
use Rattle.std.specs.Vec.{with_item}
use Rattle.race_watch_pages.specs.declared.pages.WordPage.{WordPage}
use Rattle.race_watch_pages.specs.declared.pages.CellPage.{CellPage}
use Rattle.race_watch_pages.specs.declared.pages.Pages.{Pages}
use Rattle.race_watch_pages.specs.Kept.{blank_words}
use Rattle.race_watch_pages.proofs.Cells.{IsCut, cut_same, cut_stays, cut_split}
use Rattle.race_watch_pages.proofs.pages.Pages.put_cells.Goals as goal

pub returns-clause-same : goal.returns-clause-same
returns-clause-same c = λ k.
    let old : Pages = c.args.self.now in
    let word : WordPage = record { number = c.index_mut.result.now.number; split = Some c.len-to.result; values = c.index_mut.result.now.values } in
    let new : Pages = record { size = old.size; index = old.index; words = with_item old.words c.args.at word; cells = c.push.new.self } in
    let page : CellPage = record { number = c.args.page; values = c.args.values } in
    let was : c.index_mut.result.now ≡ get_or old.words.items c.args.at blank_words = get_or_read old.words.items _ _ c.requires.place.within c.index_mut.ensures.value blank_words in
    let cut : IsCut old new word page c.args.page c.args.at c.len-to.result = record { stands = c.requires.place; index = refl; words = refl; end = c.len-to.ensures ∙ old.cells.ok.0; cells = c.in_ok-push.ensures.items; own = ap (λ (p : WordPage). p.number) was ∙ c.requires.place.number; split = refl; number = refl } in
    cut_same old new word page c.args.page c.args.at c.len-to.result k cut (c.requires.values k)

pub returns-clause-stays : goal.returns-clause-stays
returns-clause-stays c = λ p.
    let old : Pages = c.args.self.now in
    let word : WordPage = record { number = c.index_mut.result.now.number; split = Some c.len-to.result; values = c.index_mut.result.now.values } in
    let new : Pages = record { size = old.size; index = old.index; words = with_item old.words c.args.at word; cells = c.push.new.self } in
    let page : CellPage = record { number = c.args.page; values = c.args.values } in
    let was : c.index_mut.result.now ≡ get_or old.words.items c.args.at blank_words = get_or_read old.words.items _ _ c.requires.place.within c.index_mut.ensures.value blank_words in
    let cut : IsCut old new word page c.args.page c.args.at c.len-to.result = record { stands = c.requires.place; index = refl; words = refl; end = c.len-to.ensures ∙ old.cells.ok.0; cells = c.in_ok-push.ensures.items; own = ap (λ (p : WordPage). p.number) was ∙ c.requires.place.number; split = refl; number = refl } in
    cut_stays old new word page c.args.page c.args.at c.len-to.result p cut

pub returns-clause-split : goal.returns-clause-split
returns-clause-split c = λ p.
    let old : Pages = c.args.self.now in
    let word : WordPage = record { number = c.index_mut.result.now.number; split = Some c.len-to.result; values = c.index_mut.result.now.values } in
    let new : Pages = record { size = old.size; index = old.index; words = with_item old.words c.args.at word; cells = c.push.new.self } in
    let page : CellPage = record { number = c.args.page; values = c.args.values } in
    let was : c.index_mut.result.now ≡ get_or old.words.items c.args.at blank_words = get_or_read old.words.items _ _ c.requires.place.within c.index_mut.ensures.value blank_words in
    let cut : IsCut old new word page c.args.page c.args.at c.len-to.result = record { stands = c.requires.place; index = refl; words = refl; end = c.len-to.ensures ∙ old.cells.ok.0; cells = c.in_ok-push.ensures.items; own = ap (λ (p : WordPage). p.number) was ∙ c.requires.place.number; split = refl; number = refl } in
    cut_split old new word page c.args.page c.args.at c.len-to.result p cut
