-- The newest of a list, taken off or put on.
use Rattle.std.proofs.Common.{◌≡◌, ◌<◌, ◌-◌, ◌↔◌, ℕ, zero, suc, [], ◌∷◌, ◌++◌, Option, Some, None, Result, Ok, Err, OnOk, IfErr, MatchResult, List, IsSome, take, reverse, refl, append-nil, arith}
use Rattle.std.specs.Option.{option_to_list}
use Rattle.std.proofs.lemmas.List.{reverse-append}
use Rattle.c_syntax.specs.Nodes.{Nodes}
use Rattle.c_parser_tree.specs.declared.builder.Builder.{Builder}
use Rattle.c_parser_tree.specs.declared.builder.BuildError.{BuildError}
use Rattle.c_parser_tree.specs.declared.builder.BuildError.TheVariants as errors
use Rattle.c_parser_tree.specs.Built.{puts}
use Rattle.c_parser_tree.specs.IsMade.{IsMade, IsNewest}
use Rattle.c_parser_tree.specs.Seen.{nodes_seen, stack_seen}
use Rattle.c_parser_tree.specs.Stacks.{Stacks}
use Rattle.c_parser_tree.specs.Takes.{newest}

pub popped_none : {A : Type 0} (old new : List A) (n : ℕ) → old ≡ new ++ [] → (IsSome {T = A} None ↔ (0 < n)) → new ≡ take (n - 1) old → reverse old ≡ []
popped_none old new zero e v k = rw (e, append-nil, k) refl
popped_none {A = A} old new (suc n) e v k = absurd (let some : IsSome {T = A} None = v.1 (omega arith) in cc)

pub popped_some : {A : Type 0} (x : A) (old new : List A) → old ≡ new ++ x ∷ [] → reverse old ≡ x ∷ reverse new
popped_some x old new e = rw e (reverse-append new (x ∷ []))

pub taken_newest : {A : Type 0} (r : Result A BuildError) (old new : List A) (back : List A → Stacks) → IsNewest r old new → MatchResult r (λ a. newest (reverse old) back ≡ Some (a, back (reverse new))) (λ e. (e ≡ errors.Unfit) × (newest (reverse old) back ≡ None))
taken_newest (Ok a) old new back h = rw h refl
taken_newest (Err e) old new back h = (h.0, rw h.1 refl)

pub on_top : {A : Type 0} (r : Result (Unit {0}) BuildError) (old new : List A) (x : A) → OnOk r (new ≡ old ++ x ∷ []) → OnOk r (reverse new ≡ x ∷ reverse old)
on_top (Ok _) old new x e = rw e (reverse-append old (x ∷ []))
on_top (Err _) old new x e = tt

pub made_newest : {A : Type 0} (r : Result (Unit {0}) BuildError) (b : Builder) (N : Nodes) (x : A) (old new : List A) (back : List A → Stacks) → OnOk r (reverse new ≡ x ∷ reverse old) → IfErr r (λ e. e ≡ errors.Memory) → nodes_seen b ≡ N → stack_seen b ≡ back (reverse new) → IsMade r b (puts N (back (x ∷ reverse old)))
made_newest (Ok _) b N x old new back e m n k = rw (n, k, e) refl
made_newest (Err errors.Unfit) b N x old new back e m n k = absurd cc
made_newest (Err errors.Memory) b N x old new back e m n k = tt
