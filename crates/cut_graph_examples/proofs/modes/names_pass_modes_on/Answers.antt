use Rattle.std.proofs.Common.{◌≡◌, ◌==◌, false, [], ◌∷◌, refl, sym, subst, arith}
use Rattle.std.proofs.lemmas.List.Elements.{Contains-push}
use Rattle.marks.specs.declared.side.Side.TheVariants.{Replay, System}
use Rattle.cut_graph_rules.specs.declared.mention.Mention.TheVariants.{Function}
use Rattle.cut_graph_rules.specs.Sources.{Mentioned, mentioned}
use Rattle.cut_graph_rules.specs.MayRun.{MayRun, begins, below, crosses, in_body, stays}
use Rattle.cut_graph_examples.specs.Sources.{mentions_in_source}
use Rattle.cut_graph_examples.specs.Programs.{compared, hidden, never_named, under_sizeof}
use Rattle.cut_graph_examples.proofs.Kept.{never_kept, not_kept}
use Rattle.cut_graph_examples.proofs.modes.names_pass_modes_on.Goals as goal

-- `main`, of number 17, names 16
abbrev one_name : Mentioned
one_name = mentioned ([] ∷ (Function 16 ∷ []) ∷ []) []

-- what is compared is named
is_compared : mentions_in_source compared ≡ one_name
is_compared = refl

-- 17 names 16, and `main`, of number 18, names 17
abbrev two_names : Mentioned
two_names = mentioned ([] ∷ (Function 16 ∷ []) ∷ (Function 17 ∷ []) ∷ []) []

is_under_sizeof : mentions_in_source under_sizeof ≡ two_names
is_under_sizeof = refl

abbrev no_names : Mentioned
no_names = mentioned ([] ∷ [] ∷ []) []

is_hidden : mentions_in_source hidden ≡ no_names
is_hidden = refl

is_never_named : mentions_in_source never_named ≡ no_names
is_never_named = refl

pub returns-clause-compared : goal.returns-clause-compared
returns-clause-compared c =
    subst (λ (n : Mentioned). MayRun n (λ f. false) 17 Replay 16) (sym is_compared) (stays begins (in_body (Contains-push [] (Function 16))) (omega arith) refl)

pub returns-clause-across : goal.returns-clause-across
returns-clause-across c =
    subst (λ (n : Mentioned). MayRun n (λ f. f == 16) 17 System 16) (sym is_compared) (crosses begins (in_body (Contains-push [] (Function 16))) (omega arith) refl)

pub returns-clause-not_above : goal.returns-clause-not_above
returns-clause-not_above c =
    subst (λ (n : Mentioned). MayRun n (λ f. f == 16) 17 Replay 16 → ⊥) (sym is_compared) (not_kept one_name (λ f. f == 16) 17 (17 ∷ []) (16 ∷ []) Replay 16 refl refl)

pub returns-clause-hidden : goal.returns-clause-hidden
returns-clause-hidden c = λ side.
    subst (λ (n : Mentioned). MayRun n (λ f. false) 17 side 16 → ⊥) (sym is_hidden) (never_kept no_names (λ f. false) 17 (17 ∷ []) [] 16 refl refl refl side)

pub returns-clause-under_sizeof : goal.returns-clause-under_sizeof
returns-clause-under_sizeof c =
    subst (λ (n : Mentioned). MayRun n (λ f. f == 17) 18 System 16) (sym is_under_sizeof)
    (below (crosses begins (in_body (Contains-push [] (Function 17))) (omega arith) refl) (in_body (Contains-push [] (Function 16))) (omega arith))

pub returns-clause-never : goal.returns-clause-never
returns-clause-never c = λ side.
    subst (λ (n : Mentioned). MayRun n (λ f. false) 17 side 16 → ⊥) (sym is_never_named) (never_kept no_names (λ f. false) 17 (17 ∷ []) [] 16 refl refl refl side)
