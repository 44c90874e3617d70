-- The words of `record`.
use Rattle.std.proofs.Common.{◌≡◌, ◌∷◌, [], ℕ, List, Option, Some, None, IfSome, IfNone, codes, get_or, sym, ◌∙◌, ap, subst}
use Rattle.r2_cli.specs.declared.forms.Command.{Command}
use Rattle.r2_cli.specs.Forms.{form_of}
use Rattle.r2_cli.specs.Words.{CanRecord, recording, IsForm}

-- they have its form where the names are those of four files, and only there
pub recorded_by : (words : List (List ℕ)) (r : Option Command) (src cut sys log rep : List ℕ) → words ≡ codes "record" ∷ src ∷ cut ∷ sys ∷ log ∷ rep ∷ []
    → IfSome r (λ c. (form_of c ≡ recording src cut sys log rep) × CanRecord src sys log rep) → IfSome r (λ c. IsForm words (form_of c))
recorded_by words None src cut sys log rep is h = tt
recorded_by words (Some c) src cut sys log rep is (form, can) = subst (IsForm words) (sym form) (is, can)

pub unrecorded_by : (words : List (List ℕ)) (r : Option Command) (src cut sys log rep : List ℕ) → words ≡ codes "record" ∷ src ∷ cut ∷ sys ∷ log ∷ rep ∷ []
    → IfNone r (CanRecord src sys log rep → ⊥) → IfNone r ((a b d e f : List ℕ) → IsForm words (recording a b d e f) → ⊥)
unrecorded_by words (Some c) src cut sys log rep is h = tt
unrecorded_by words None src cut sys log rep is h = λ a b d e f w.
    let same = sym is ∙ w.0 in
    let source : src ≡ a = ap (λ (ws : List (List ℕ)). get_or ws 1 []) same in
    let system : sys ≡ d = ap (λ (ws : List (List ℕ)). get_or ws 3 []) same in
    let log_is : log ≡ e = ap (λ (ws : List (List ℕ)). get_or ws 4 []) same in
    let report : rep ≡ f = ap (λ (ws : List (List ℕ)). get_or ws 5 []) same in
    h (subst (λ x. CanRecord x sys log rep) (sym source) (subst (λ x. CanRecord a x log rep) (sym system) (subst (λ x. CanRecord a d x rep) (sym log_is) (subst (λ x. CanRecord a d e x) (sym report) w.1))))
