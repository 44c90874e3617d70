use Rattle.std.proofs.Common.{◌≡◌, ◌+◌, ◌<◌, [], ◌∷◌, ◌++◌, length, get_or, refl, sym, ap, ◌∙◌, subst, arith}
use Rattle.std.proofs.Math.ListN.{set}
use Rattle.std.proofs.lemmas.List.{get_or_read}
use Rattle.recorder_book.specs.Chunks.{chunks_text, filled}
use Rattle.recorder_book.specs.Book.{BookState, IsBookOf}
use Rattle.recorder_book.proofs.Runs.{IsAdded, still_sound, is_added}
use Rattle.recorder_book.proofs.book.Book.add.Goals as goal

pub invariant_of-self-2 : goal.invariant_of-self-2
invariant_of-self-2 c =
    let b = c.self.inside in
    let old : BookState = record { chunk = b.chunk; events = b.events; bytes = b.bytes; log = b.log.items; threads = b.threads.items } in
    let t = c.args.entry.thread in
    let lt : t < 32 = c.requires.form.thread in
    let below : t < length b.threads.items = omega (arith, lt, c.self.invariant.threads) in
    let was : c.index_mut-records.result.now ≡ get_or b.threads.items t [] = get_or_read b.threads.items t _ below c.index_mut-records.ensures.value [] in
    let more : c.add_record.new.records ≡ get_or b.threads.items t [] ++ c.args.entry ∷ [] = c.in_ok-add_record.ensures.records ∙ ap (λ rs. rs ++ c.args.entry ∷ []) was in
    let new : BookState = record { chunk = b.chunk; events = b.events + 1; bytes = b.bytes + c.record_size-size.result; log = c.add_record.new.log.items; threads = set b.threads.items t c.add_record.new.records } in
    let added : IsAdded c.args.entry old new = record {
      full = c.requires.form;
      chunk = refl;
      events = refl;
      bytes = ap (λ n. b.bytes + n) c.record_size-size.ensures.size;
      threads = ap (set b.threads.items t) more;
      log = c.in_ok-add_record.ensures.log ∙ ap (λ rs. b.log.items ++ chunks_text (filled b.chunk t rs)) more;
    } in
    still_sound c.args.entry old new added c.self.invariant

pub returns-clause-added : goal.returns-clause-added
returns-clause-added c = λ w past m made is k.
    let b = c.self.inside in
    let old : BookState = record { chunk = b.chunk; events = b.events; bytes = b.bytes; log = b.log.items; threads = b.threads.items } in
    let t = c.args.entry.thread in
    let lt : t < 32 = c.requires.form.thread in
    let below : t < length b.threads.items = omega (arith, lt, c.self.invariant.threads) in
    let was : c.index_mut-records.result.now ≡ get_or b.threads.items t [] = get_or_read b.threads.items t _ below c.index_mut-records.ensures.value [] in
    let more : c.add_record.new.records ≡ get_or b.threads.items t [] ++ c.args.entry ∷ [] = c.in_ok-add_record.ensures.records ∙ ap (λ rs. rs ++ c.args.entry ∷ []) was in
    let new : BookState = record { chunk = b.chunk; events = b.events + 1; bytes = b.bytes + c.record_size-size.result; log = c.add_record.new.log.items; threads = set b.threads.items t c.add_record.new.records } in
    let added : IsAdded c.args.entry old new = record {
      full = c.requires.form;
      chunk = refl;
      events = refl;
      bytes = ap (λ n. b.bytes + n) c.record_size-size.ensures.size;
      threads = ap (set b.threads.items t) more;
      log = c.in_ok-add_record.ensures.log ∙ ap (λ rs. b.log.items ++ chunks_text (filled b.chunk t rs)) more;
    } in
    is_added c.args.entry old new added w past m made is (subst (IsBookOf w past) (sym c.self.view_is) k)
