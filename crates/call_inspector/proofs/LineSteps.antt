-- One more event, one more thread.
use Rattle.std.proofs.Common.{◌≡◌, ℕ, List, [], ◌∷◌, ◌++◌, refl}
use Rattle.std.specs.Prelude.{fold}
use Rattle.run_events.specs.declared.event.Record.{Record}
use Rattle.call_inspector.specs.Open.{open_after, opened}

fold_more : (rs : List Record) (active : List ℕ) (r : Record) → fold (λ (o : List ℕ) (e : Record). open_after o e.event) active (rs ++ r ∷ []) ≡ open_after (fold (λ (o : List ℕ) (e : Record). open_after o e.event) active rs) r.event
fold_more [] active r = refl
fold_more (x ∷ rs) active r = fold_more rs (open_after active x.event) r

pub opened_more : (rs : List Record) (r : Record) → opened (rs ++ r ∷ []) ≡ open_after (opened rs) r.event
opened_more rs r = fold_more rs [] r
