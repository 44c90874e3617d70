-- What doesn't see the origin of a load or store, mark by mark.
use Rattle.std.proofs.Common.{◌≡◌, ℕ, List, [], ◌∷◌, Option, None, refl, ap, sym, ◌∙◌}
use Rattle.marks.specs.Marks.{Act, Turn, Load, Store, Enter, Leave, Step, Fault, Made, Mark}
use Rattle.reference_recorder_marks.specs.Marks.{without_origin, without_origins}

abbrev pub blank : Mark → Mark
blank m = record m { act = without_origin m.act }

pub blind : {B : Type 0} (g : Act → B) →
    ((o : Option ℕ) (at : ℕ) (bytes : List ℕ) → g (Load None at bytes) ≡ g (Load o at bytes)) →
    ((o : Option ℕ) (at : ℕ) (bytes : List ℕ) → g (Store None at bytes) ≡ g (Store o at bytes)) →
    (a : Act) → g (without_origin a) ≡ g a
blind g load store Turn = refl
blind g load store (Load o at bytes) = load o at bytes
blind g load store (Store o at bytes) = store o at bytes
blind g load store (Enter f args at bytes) = refl
blind g load store (Leave at size) = refl
blind g load store (Step f args v ins pieces freed) = refl
blind g load store (Fault kind crosses ins outs access) = refl
blind g load store (Made e) = refl

-- what goes on by a step that doesn't see it
pub blind_fold : {A : Type 0} (f : List Mark → A) (step : Mark → A → A) →
    ((m : Mark) (p : List Mark) → f (m ∷ p) ≡ step m (f p)) →
    ((m : Mark) (a : A) → step (blank m) a ≡ step m a) → (p : List Mark) → f (without_origins p) ≡ f p
blind_fold f step more same [] = refl
blind_fold f step more same (m ∷ p) =
    more (blank m) (without_origins p) ∙ ap (step (blank m)) (blind_fold f step more same p) ∙ same m (f p) ∙ sym (more m p)

-- the same where the step sees what a mark does alone
pub blind_acts : {A : Type 0} (f : List Mark → A) (step : Act → A → A) →
    ((m : Mark) (p : List Mark) → f (m ∷ p) ≡ step m.act (f p)) →
    ((o : Option ℕ) (at : ℕ) (bytes : List ℕ) (a : A) → step (Load None at bytes) a ≡ step (Load o at bytes) a) →
    ((o : Option ℕ) (at : ℕ) (bytes : List ℕ) (a : A) → step (Store None at bytes) a ≡ step (Store o at bytes) a) →
    (p : List Mark) → f (without_origins p) ≡ f p
blind_acts f step more load store p =
    blind_fold f (λ m. step m.act) more (λ m a. blind (λ act. step act a) (λ o at bytes. load o at bytes a) (λ o at bytes. store o at bytes a) m.act) p
