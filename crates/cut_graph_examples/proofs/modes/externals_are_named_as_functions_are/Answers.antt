use Rattle.std.proofs.Common.{◌≡◌, ◌==◌, false, [], ◌∷◌, refl, sym, subst, arith}
use Rattle.std.proofs.lemmas.List.Elements.{Contains-push}
use Rattle.marks.specs.declared.side.Side.TheVariants.{Replay, System}
use Rattle.cut_graph_rules.specs.declared.mention.Mention.TheVariants.{Function}
use Rattle.cut_graph_rules.specs.Sources.{Mentioned, mentioned}
use Rattle.cut_graph_rules.specs.MayRun.{MayRun, begins, below, crosses, in_body, stays}
use Rattle.cut_graph_examples.specs.Sources.{mentions_in_source}
use Rattle.cut_graph_examples.specs.Programs.{called_below, compared_external}
use Rattle.cut_graph_examples.proofs.Kept.{not_kept}
use Rattle.cut_graph_examples.proofs.modes.externals_are_named_as_functions_are.Goals as goal

-- 17 names 16, and `main`, of number 18, names 17
abbrev two_names : Mentioned
two_names = mentioned ([] ∷ (Function 16 ∷ []) ∷ (Function 17 ∷ []) ∷ []) []

is_called_below : mentions_in_source called_below ≡ two_names
is_called_below = refl

abbrev one_name : Mentioned
one_name = mentioned ([] ∷ (Function 16 ∷ []) ∷ []) []

is_compared : mentions_in_source compared_external ≡ one_name
is_compared = refl

pub returns-clause-below : goal.returns-clause-below
returns-clause-below c =
    subst (λ (n : Mentioned). MayRun n (λ f. f == 17) 18 System 16) (sym is_called_below)
    (below (crosses begins (in_body (Contains-push [] (Function 17))) (omega arith) refl) (in_body (Contains-push [] (Function 16))) (omega arith))

pub returns-clause-not_above : goal.returns-clause-not_above
returns-clause-not_above c =
    subst (λ (n : Mentioned). MayRun n (λ f. f == 17) 18 Replay 16 → ⊥) (sym is_called_below) (not_kept two_names (λ f. f == 17) 18 (18 ∷ []) (17 ∷ 16 ∷ []) Replay 16 refl refl)

pub returns-clause-compared : goal.returns-clause-compared
returns-clause-compared c =
    subst (λ (n : Mentioned). MayRun n (λ f. false) 17 Replay 16) (sym is_compared) (stays begins (in_body (Contains-push [] (Function 16))) (omega arith) refl)
