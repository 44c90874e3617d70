-- Places after a binding is put after all others, or taken from there.
use Rattle.std.proofs.Common.{◌≡◌, ℕ, ◌+◌, ◌<◌, List, [], ◌∷◌, ◌++◌, length, take, Option, Some, sym, ap, subst, ◌∙◌, arith, length-append}
use Rattle.std.specs.Prelude.{reverse, slice_set}
use Rattle.std.proofs.lemmas.List.{length-reverse, take-append-le}
use Rattle.c_scopes.specs.declared.binding.Binding.{Binding}
use Rattle.c_scopes.specs.Bindings.{newest, Ties}
use Rattle.c_scopes.proofs.Places.{ties_bound, ties_taken}
use Rattle.c_scopes.proofs.Starts.{reverse_push}

module _ {V : Type 0} where
  pub ties_pushed : (places : List (Option ℕ)) (old new : List (Binding V)) (b : Binding V) (place : ℕ) → new ≡ old ++ b ∷ [] → Ties places (reverse old) → b.name < length places
      → b.hidden ≡ newest b.name (reverse old) → place ≡ length old → Ties (slice_set places b.name (Some place)) (reverse new)
  ties_pushed places old new b place grown ties lt hides at =
      let turned : reverse new ≡ b ∷ reverse old = ap reverse grown ∙ reverse_push old b in
      subst (Ties (slice_set places b.name (Some place))) (sym turned) (ties_bound places (reverse old) b place ties lt hides (at ∙ sym (length-reverse old)))

  pub ties_popped : (places : List (Option ℕ)) (old new : List (Binding V)) (b : Binding V) → old ≡ new ++ b ∷ [] → Ties places (reverse old) → Ties (slice_set places b.name b.hidden) (reverse new)
  ties_popped places old new b grown ties =
      let turned : reverse old ≡ b ∷ reverse new = ap reverse grown ∙ reverse_push new b in
      ties_taken places b (reverse new) (subst (Ties places) turned ties)

  pub prefix_popped : (start : ℕ) (old new : List (Binding V)) (b : Binding V) → old ≡ new ++ b ∷ [] → start < length old → take start new ≡ take start old
  prefix_popped start old new b grown lt =
      let size : length old ≡ length new + 1 = ap length grown ∙ length-append new (b ∷ []) in
      sym (ap (take start) grown ∙ take-append-le start new (b ∷ []) (omega arith))
