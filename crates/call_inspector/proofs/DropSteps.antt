-- One item more of a list, from its end on.
use Rattle.std.proofs.Common.{◌≡◌, ◌<◌, ◌≤◌, ◌+◌, ℕ, List, [], ◌∷◌, ◌++◌, codes, length, drop, get_or, refl, ap, ◌∙◌, ◌⊎◌, inl, inr}
use Rattle.std.proofs.lemmas.List.{drop_more, drop_all}
use Rattle.c_code.specs.declared.shape.Shape.{Shape}
use Rattle.call_inspector.specs.EventText.{value_text, more_args_text}

-- ---- arguments

pub more_args_step : (shapes : List Shape) (args : List ℕ) (i : ℕ) (s : Shape) → i < length shapes → i < length args
    → more_args_text (drop i shapes) (drop i args) ≡ codes ", " ++ value_text (get_or shapes i s) (get_or args i 0) ++ more_args_text (drop (i + 1) shapes) (drop (i + 1) args)
more_args_step shapes args i s some more =
    ap (λ (xs : List Shape). more_args_text xs (drop i args)) (drop_more shapes i s some)
    ∙ ap (more_args_text (get_or shapes i s ∷ drop (i + 1) shapes)) (drop_more args i 0 more)

no_args : (shapes : List Shape) → more_args_text shapes [] ≡ []
no_args [] = refl
no_args (s ∷ shapes) = refl

pub more_args_done : (shapes : List Shape) (args : List ℕ) (i : ℕ) → (length shapes ≤ i) ⊎ (length args ≤ i) → more_args_text (drop i shapes) (drop i args) ≡ []
more_args_done shapes args i (inl le) = ap (λ (xs : List Shape). more_args_text xs (drop i args)) (drop_all i shapes le)
more_args_done shapes args i (inr le) = ap (more_args_text (drop i shapes)) (drop_all i args le) ∙ no_args (drop i shapes)
