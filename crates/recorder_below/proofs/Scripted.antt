-- What the file answers fits the call.
use Rattle.std.proofs.Common.{◌≡◌, ℕ, zero, suc, ◌+◌, Bool, true, false, cond, eqb, List, [], ◌∷◌, length, map, Contains, Option, Some, None, is_some, refl, sym, ap, ◌∙◌, subst, arith}
use Rattle.std.specs.Prelude.{filter, slice_get}
use Rattle.std.proofs.lemmas.Bool.{eqb-true}
use Rattle.std.proofs.lemmas.List.{length-append, length-map}
use Rattle.marks.specs.declared.side.Side.TheVariants.{System}
use Rattle.marks.specs.Marks.{Mark}
use Rattle.replay_runs.specs.Interface.{Committing}
use Rattle.system_side.specs.declared.file.Scripted.{Scripted}
use Rattle.whole_runs.specs.World.{World, interface_on}
use Rattle.whole_runs.specs.Outcomes.{builtin_of, used}
use Rattle.whole_runs.specs.Below.{Given, ByPool, Says, NoMore, To, commit_target, given, given_by, next_answer, targets}
use Rattle.whole_runs.specs.Fits.{IsFit, committed}

-- an answer that is found among those of a function is one of the file, and of the function
found_answer : (f : ℕ) (all : List Scripted) (n : ℕ) (a : Scripted) → slice_get (filter (λ (b : Scripted). eqb b.func f) all) n ≡ Some a → Contains all a × (a.func ≡ f)
found_answer f [] n a e = absurd cc
found_answer f (b ∷ all) n a e = by (λ k z. found_answer f all k a z) (eqb b.func f) refl n e
  where
    rest : List Scripted
    rest = filter (λ (c : Scripted). eqb c.func f) all

    later : Contains all a × (a.func ≡ f) → Contains (b ∷ all) a × (a.func ≡ f)
    later h = ((suc h.0.0, (let lt = h.0.1 in omega (arith, lt)), h.0.2), h.1)

    first : b ≡ a → eqb b.func f ≡ true → Contains (b ∷ all) a × (a.func ≡ f)
    first same z = ((0, omega arith, same), subst (λ (c : Scripted). c.func ≡ f) same (eqb-true b.func f z))

    by : ((k : ℕ) → slice_get rest k ≡ Some a → Contains all a × (a.func ≡ f)) → (q : Bool) → eqb b.func f ≡ q → (n : ℕ) → slice_get (cond q (b ∷ rest) rest) n ≡ Some a → Contains (b ∷ all) a × (a.func ≡ f)
    by others true z zero is = let same : b ≡ a = cc in first same z
    by others true z (suc n) is = later (others n is)
    by others false z n is = later (others n is)

abbrev result_in : ℕ → Given → ℕ
result_in v ByPool = v
result_in v (Says u ps) = u
result_in v NoMore = v

abbrev pieces_in : List (List ℕ) → Given → List (List ℕ)
pieces_in qs ByPool = qs
pieces_in qs (Says u ps) = ps
pieces_in qs NoMore = qs

module _ (w : World) (fit : IsFit w) (past : List Mark) (t f : ℕ) (args : List ℕ) (v : ℕ) (ps : List (List ℕ)) where
  abbrev taken : Option Committing
  taken = (interface_on w System f).commits f args v

  -- it has as many pieces as the call takes
  pieces_fit : builtin_of f ≡ None → given w past t f args ≡ Says v ps → length ps ≡ length ((interface_on w System f).outs f args) + committed (is_some taken)
  pieces_fit none says = by (slice_get (filter (λ (a : Scripted). eqb a.func f) w.file.answers) (used f past)) refl (sym (ap (given_by w past t f args) none) ∙ says)
    where
      by : (o : Option Scripted) → slice_get (filter (λ (a : Scripted). eqb a.func f) w.file.answers) (used f past) ≡ o → next_answer o ≡ Says v ps → length ps ≡ length ((interface_on w System f).outs f args) + committed (is_some taken)
      by None is e = absurd cc
      by (Some a) is e =
          let h = found_answer f w.file.answers (used f past) a is in
          let result_is : a.result ≡ v = ap (result_in v) e in
          let pieces_are : a.pieces ≡ ps = ap (pieces_in ps) e in
          ap length (sym pieces_are) ∙ (fit.file.answers a h.0).pieces args ∙ (λ i. length ((interface_on w System (h.1 i)).outs (h.1 i) args) + committed (is_some ((interface_on w System (h.1 i)).commits (h.1 i) args (result_is i))))

  one_or_none : (o : Option Committing) → length (commit_target w System past o) ≡ committed (is_some o)
  one_or_none None = refl
  one_or_none (Some c) = refl

  targets_count : length (targets w System past f args v) ≡ length ((interface_on w System f).outs f args) + committed (is_some taken)
  targets_count =
      let outs = length-map ((interface_on w System f).outs f args) To in
      let last = one_or_none taken in
      length-append (map To ((interface_on w System f).outs f args)) (commit_target w System past taken) ∙ omega (arith, outs, last)

  pub pieces_count : builtin_of f ≡ None → given w past t f args ≡ Says v ps → length ps ≡ length (targets w System past f args v)
  pieces_count none says = pieces_fit none says ∙ sym targets_count

-- what the file answers, or that it has no more
pub never_pool : (w : World) (past : List Mark) (t f : ℕ) (args : List ℕ) → builtin_of f ≡ None → given w past t f args ≡ ByPool → ⊥
never_pool w past t f args none e = by (slice_get (filter (λ (a : Scripted). eqb a.func f) w.file.answers) (used f past)) (sym (ap (given_by w past t f args) none) ∙ e)
  where
    by : (o : Option Scripted) → next_answer o ≡ ByPool → ⊥
    by None z = absurd cc
    by (Some a) z = absurd cc
