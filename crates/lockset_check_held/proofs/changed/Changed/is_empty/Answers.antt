use Rattle.std.proofs.Common.{◌≡◌, ℕ, true, subst}
use Rattle.std.proofs.lemmas.Bool.{iff_false}
use Rattle.lockset_check_held.specs.Changes.{Changes, is_turned}
use Rattle.lockset_check_held.proofs.Changes.{some_turned}
use Rattle.lockset_check_held.proofs.changed.Changed.is_empty.Goals as goal

pub returns-clause-some : goal.returns-clause-some
returns-clause-some c = λ off.
    subst (λ (v : Changes). (p : ℕ) × (is_turned v p ≡ true)) c.self.view_is
    (some_turned c.self.inside.words.entries c.self.invariant (iff_false c.is_empty.ensures off))
