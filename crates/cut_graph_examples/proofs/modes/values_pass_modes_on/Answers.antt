use Rattle.std.proofs.Common.{◌≡◌, ◌==◌, [], ◌∷◌, refl, sym, subst, arith}
use Rattle.std.proofs.lemmas.List.Elements.{Contains-push}
use Rattle.marks.specs.declared.side.Side.TheVariants.{System}
use Rattle.cut_graph_rules.specs.declared.mention.Mention.TheVariants.{Function, Global}
use Rattle.cut_graph_rules.specs.Sources.{Mentioned, mentioned}
use Rattle.cut_graph_rules.specs.MayRun.{MayRun, begins, below, crosses, in_body, in_value}
use Rattle.cut_graph_examples.specs.Sources.{mentions_in_source}
use Rattle.cut_graph_examples.specs.Programs.{in_a_value, through_a_pointer}
use Rattle.cut_graph_examples.proofs.Kept.{never_kept}
use Rattle.cut_graph_examples.proofs.modes.values_pass_modes_on.Goals as goal

-- 17 names a global, in whose value 16 is named
abbrev by_value : Mentioned
by_value = mentioned ([] ∷ (Global 0 ∷ []) ∷ (Function 17 ∷ []) ∷ []) ((Function 16 ∷ []) ∷ [])

is_in_a_value : mentions_in_source in_a_value ≡ by_value
is_in_a_value = refl

-- 17 names a global that points to that one
abbrev by_pointer : Mentioned
by_pointer = mentioned ([] ∷ (Global 1 ∷ []) ∷ (Function 17 ∷ []) ∷ []) ((Function 16 ∷ []) ∷ [] ∷ [])

is_through_a_pointer : mentions_in_source through_a_pointer ≡ by_pointer
is_through_a_pointer = refl

pub returns-clause-named : goal.returns-clause-named
returns-clause-named c =
    subst (λ (n : Mentioned). MayRun n (λ f. f == 17) 18 System 16) (sym is_in_a_value)
    (below (crosses begins (in_body (Contains-push [] (Function 17))) (omega arith) refl) (in_value {g = 0} (Contains-push [] (Global 0)) (Contains-push [] (Function 16))) (omega arith))

pub returns-clause-no_further : goal.returns-clause-no_further
returns-clause-no_further c = λ side.
    subst (λ (n : Mentioned). MayRun n (λ f. f == 17) 18 side 16 → ⊥) (sym is_through_a_pointer) (never_kept by_pointer (λ f. f == 17) 18 (18 ∷ []) (17 ∷ []) 16 refl refl refl side)
