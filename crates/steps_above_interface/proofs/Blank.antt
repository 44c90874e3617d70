-- Functions of which no return is kept.
use Rattle.std.proofs.Common.{◌≡◌, ℕ, zero, suc, ◌+◌, List, [], ◌∷◌, ◌++◌, get_or, replicate, Option, None, refl, sym, ap, ◌∙◌, subst, arith}
use Rattle.std.proofs.lemmas.List.{length-append}
use Rattle.steps_above_interface.specs.State.{AreBlank, AreWide, kept_of}

blank_row : (n t : ℕ) → ◌≡◌ {A = Option ℕ} (get_or (replicate n None) t None) None
blank_row zero t = refl
blank_row (suc n) zero = refl
blank_row (suc n) (suc t) = blank_row n t

abbrev pub blank : List (Option ℕ)
blank = replicate 32 None

wide_more : (rows : List (List (Option ℕ))) → AreWide rows → AreWide (rows ++ blank ∷ [])
wide_more [] h zero lt = refl
wide_more [] h (suc f) lt = absurd (omega (arith, lt))
wide_more (r ∷ rows) h zero lt = h 0 (omega arith)
wide_more (r ∷ rows) h (suc f) lt = wide_more rows (λ g below. h (suc g) (omega (arith, below))) f (omega (arith, lt))

none_more : (rows : List (List (Option ℕ))) → ((t f : ℕ) → kept_of rows t f ≡ None) → (t f : ℕ) → kept_of (rows ++ blank ∷ []) t f ≡ None
none_more [] h t zero = blank_row 32 t
none_more [] h t (suc f) = refl
none_more (r ∷ rows) h t zero = h t 0
none_more (r ∷ rows) h t (suc f) = none_more rows (λ u g. h u (suc g)) t f

pub blank_none : AreBlank 0 []
blank_none = record { functions = refl; threads = λ f lt. absurd (omega (arith, lt)); none = λ t f. refl }

pub blank_more : (n : ℕ) (old new : List (List (Option ℕ))) → AreBlank n old → new ≡ old ++ blank ∷ [] → AreBlank (n + 1) new
blank_more n old new h is = subst (AreBlank (n + 1)) (sym is) (record {
  functions = length-append old (blank ∷ []) ∙ ap (λ k. k + 1) h.functions;
  threads = wide_more old h.threads;
  none = none_more old h.none;
})
