-- Where the code of each function stands in the code of a program, and what callers know of it.
use Rattle.std.proofs.Common.{◌≡◌, ℕ, zero, suc, ◌+◌, ◌-◌, ◌<◌, ◌≤◌, ◌⊎◌, inl, inr, List, [], ◌∷◌, ◌++◌, length, append_assoc, append-nil, length-append, Option, Some, None, refl, sym, ap, ◌∙◌, subst, arith}
use Rattle.std.specs.Prelude.{slice_get}
use Rattle.std.proofs.lemmas.Option.{same_Some, slice_get_within}
use Rattle.std.proofs.lemmas.Bool.{cases_lt}
use Rattle.c_code.specs.declared.code.FuncInfo.{FuncInfo}
use Rattle.c_code.specs.declared.instr.Instr.{Instr}
use Rattle.c_lower_placement.specs.Code.{Lies, body_code}
use Rattle.c_lower_placement.specs.Heights.{Stand, body_heights}
use Rattle.c_types_program.specs.declared.function.Body.{Body}
use Rattle.c_types_program.specs.declared.function.Function.{Function}
use Rattle.c_types_program.specs.Declarations.{Declared, body_in}
use Rattle.c_lower_bodies.specs.Making.{making}
use Rattle.c_lower.specs.Lowered.{code_of, codes_of, info_of, infos_from}
use Rattle.c_lower.proofs.Long.{body_long}
use Rattle.c_lower.proofs.Standing.{get_second, height_in, lies_after, stand_after}

module _ (p : Declared) where
  -- how much code stands before that of a function
  abbrev pub start : ℕ → List Function → ℕ
  start zero fs = 0
  start (suc k) [] = 0
  start (suc k) (f ∷ fs) = length (code_of p f.body) + start k fs

  pub info_at : (fs : List Function) (k at : ℕ) (f : Function) → slice_get fs k ≡ Some f → slice_get (infos_from p at fs) k ≡ Some (info_of p (at + start k fs) f)
  info_at [] k at f e = absurd cc
  info_at (g ∷ fs) zero at f e = let n : at ≡ at + 0 = omega arith in ap (λ (h : Function). Some (info_of p at h)) (same_Some g f e) ∙ ap (λ m. Some (info_of p m f)) n
  info_at (g ∷ fs) (suc k) at f e =
      let n : at + length (code_of p g.body) + start k fs ≡ at + (length (code_of p g.body) + start k fs) = omega arith in
      info_at fs k (at + length (code_of p g.body)) f e ∙ ap (λ m. Some (info_of p m f)) n

  -- what is known at a number is of the function of this number
  pub known_at : (fs : List Function) (k at : ℕ) (info : FuncInfo) → slice_get (infos_from p at fs) k ≡ Some info → (f : Function) × (slice_get fs k ≡ Some f) × (info ≡ info_of p (at + start k fs) f)
  known_at [] k at info e = absurd cc
  known_at (g ∷ fs) zero at info e = let n : at ≡ at + 0 = omega arith in (g, refl, sym (same_Some (info_of p at g) info e) ∙ ap (λ m. info_of p m g) n)
  known_at (g ∷ fs) (suc k) at info e =
      let h = known_at fs k (at + length (code_of p g.body)) info e in
      let n : at + length (code_of p g.body) + start k fs ≡ at + (length (code_of p g.body) + start k fs) = omega arith in
      (h.0, h.1, h.2 ∙ ap (λ m. info_of p m h.0) n)

  pub none_at : (fs : List Function) (k at : ℕ) → slice_get fs k ≡ None → slice_get (infos_from p at fs) k ≡ None
  none_at [] k at e = refl
  none_at (g ∷ fs) zero at e = absurd cc
  none_at (g ∷ fs) (suc k) at e = none_at fs k (at + length (code_of p g.body)) e

  pub infos_counted : (fs : List Function) (at : ℕ) → length (infos_from p at fs) ≡ length fs
  infos_counted [] at = refl
  infos_counted (f ∷ fs) at = ap suc (infos_counted fs (at + length (code_of p f.body)))

  lies_from : (pre : List Instr) (fs : List Function) (k : ℕ) (f : Function) → slice_get fs k ≡ Some f → Lies (pre ++ codes_of p fs) (length pre + start k fs) (code_of p f.body)
  lies_from pre [] k f e = absurd cc
  lies_from pre (g ∷ fs) zero f e =
      let here : Lies (pre ++ (code_of p g.body ++ codes_of p fs)) (length pre) (code_of p g.body) = lies_after pre (code_of p g.body) (codes_of p fs) in
      let n : length pre ≡ length pre + 0 = omega arith in
      subst (λ (h : Function). Lies (pre ++ (code_of p g.body ++ codes_of p fs)) (length pre + 0) (code_of p h.body)) (same_Some g f e)
      (subst (λ m. Lies (pre ++ (code_of p g.body ++ codes_of p fs)) m (code_of p g.body)) n here)
  lies_from pre (g ∷ fs) (suc k) f e =
      let c = code_of p g.body in
      let n : length (pre ++ c) + start k fs ≡ length pre + (length c + start k fs) = omega (arith, length-append pre c) in
      let there : Lies ((pre ++ c) ++ codes_of p fs) (length (pre ++ c) + start k fs) (code_of p f.body) = lies_from (pre ++ c) fs k f e in
      subst (λ l. Lies l (length pre + (length c + start k fs)) (code_of p f.body)) (append_assoc pre c (codes_of p fs))
      (subst (λ m. Lies ((pre ++ c) ++ codes_of p fs) m (code_of p f.body)) n there)

  -- the code of each function stands where it begins
  pub lies_at : (fs : List Function) (k : ℕ) (f : Function) → slice_get fs k ≡ Some f → Lies (codes_of p fs) (start k fs) (code_of p f.body)
  lies_at fs k f e = let z : 0 + start k fs ≡ start k fs = omega arith in subst (λ m. Lies (codes_of p fs) m (code_of p f.body)) z (lies_from [] fs k f e)

  -- the instruction at a place is of a function
  abbrev pub Among : List Function → ℕ → Type 0
  Among fs q = (k by : ℕ) × (f : Function) × (slice_get fs k ≡ Some f) × (by < length (code_of p f.body)) × (start k fs + by ≡ q)

  -- each instruction is
  pub among : (fs : List Function) (q : ℕ) (i : Instr) → slice_get (codes_of p fs) q ≡ Some i → Among fs q
  among [] q i e = absurd cc
  among (g ∷ fs) q i e = by (cases_lt q (length (code_of p g.body))) (λ n h. among fs n i h)
    where
      by : (q < length (code_of p g.body)) ⊎ (length (code_of p g.body) ≤ q) → ((n : ℕ) → slice_get (codes_of p fs) n ≡ Some i → Among fs n) → Among (g ∷ fs) q
      by (inl lt) later = (0, q, g, refl, lt, omega arith)
      by (inr le) later =
          let h = later (q - length (code_of p g.body)) (sym (get_second (code_of p g.body) (codes_of p fs) q le) ∙ e) in
          let n : length (code_of p g.body) + start h.0 fs + h.1 ≡ q = omega (arith, h.5, le) in
          (suc h.0, h.1, h.2, h.3, h.4, n)

  -- ---- heights

  abbrev pub heights_of : Option Body → List ℕ
  heights_of None = []
  heights_of (Some b) = body_heights (body_in p.table b)

  abbrev pub all_heights : List Function → List ℕ
  all_heights [] = []
  all_heights (f ∷ fs) = heights_of f.body ++ all_heights fs

  heights_long : (o : Option Body) → length (heights_of o) ≡ length (code_of p o)
  heights_long None = refl
  heights_long (Some b) = body_long _ (body_in p.table b)

  stands_from : (pre : List ℕ) (fs : List Function) (k : ℕ) (f : Function) → slice_get fs k ≡ Some f → Stand (height_in (pre ++ all_heights fs)) (length pre + start k fs) (heights_of f.body)
  stands_from pre [] k f e = absurd cc
  stands_from pre (g ∷ fs) zero f e =
      let here : Stand (height_in (pre ++ (heights_of g.body ++ all_heights fs))) (length pre) (heights_of g.body) = stand_after pre (heights_of g.body) (all_heights fs) in
      let n : length pre ≡ length pre + 0 = omega arith in
      subst (λ (h : Function). Stand (height_in (pre ++ (heights_of g.body ++ all_heights fs))) (length pre + 0) (heights_of h.body)) (same_Some g f e)
      (subst (λ m. Stand (height_in (pre ++ (heights_of g.body ++ all_heights fs))) m (heights_of g.body)) n here)
  stands_from pre (g ∷ fs) (suc k) f e =
      let c = heights_of g.body in
      let n : length (pre ++ c) + start k fs ≡ length pre + (length (code_of p g.body) + start k fs) = omega (arith, length-append pre c, heights_long g.body) in
      let there : Stand (height_in ((pre ++ c) ++ all_heights fs)) (length (pre ++ c) + start k fs) (heights_of f.body) = stands_from (pre ++ c) fs k f e in
      subst (λ l. Stand (height_in l) (length pre + (length (code_of p g.body) + start k fs)) (heights_of f.body)) (append_assoc pre c (all_heights fs))
      (subst (λ m. Stand (height_in ((pre ++ c) ++ all_heights fs)) m (heights_of f.body)) n there)

  pub stands_at : (fs : List Function) (k : ℕ) (f : Function) → slice_get fs k ≡ Some f → Stand (height_in (all_heights fs)) (start k fs) (heights_of f.body)
  stands_at fs k f e = let z : 0 + start k fs ≡ start k fs = omega arith in subst (λ m. Stand (height_in (all_heights fs)) m (heights_of f.body)) z (stands_from [] fs k f e)
