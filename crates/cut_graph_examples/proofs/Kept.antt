-- What may run is among numbers that the rule doesn't lead out of.
use Rattle.std.proofs.Common.{◌≡◌, inl, inr, ℕ, ◌==◌, Bool, true, false, ◌&&◌, List, [], ◌∷◌, refl, sym, ap, ◌∙◌, subst, arith}
use Rattle.std.specs.Prelude.{if◌then◌else◌}
use Rattle.std.specs.List.{Contains, flat_map, list_all}
use Rattle.std.proofs.lemmas.Bool.{eqb-true}
use Rattle.std.proofs.lemmas.List.Elements.{Contains-append_cases, Contains-append_left, Contains-append_right, Contains-push, Contains-push_cases}
use Rattle.marks.specs.declared.side.Side.{Side}
use Rattle.marks.specs.declared.side.Side.TheVariants.{Replay, System}
use Rattle.cut_graph_rules.specs.declared.mention.Mention.{Mention}
use Rattle.cut_graph_rules.specs.declared.mention.Mention.TheVariants.{Function, Global, Written}
use Rattle.cut_graph_rules.specs.Sources.{Mentioned}
use Rattle.cut_graph_rules.specs.MayRun.{MayRun, Names, begins, below, crosses, in_body, in_value, mentions_in, mentions_in_value, stays}

-- ---- numbers in lists

abbrev pub among : ℕ → List ℕ → Bool
among k [] = false
among k (x ∷ xs) = if k == x then true else among k xs

both : (s t : Bool) → s && t ≡ true → (s ≡ true) × (t ≡ true)
both true t e = (refl, e)
both false t e = cc

one_or_other : (t : Bool) (k x : ℕ) (xs : List ℕ) (test : ℕ → Bool) → (k == x) ≡ t → test x ≡ true → (if t then true else among k xs) ≡ true → (among k xs ≡ true → test k ≡ true) → test k ≡ true
one_or_other true k x xs test e h in_rest rest = ap test (eqb-true k x e) ∙ h
one_or_other false k x xs test e h in_rest rest = rest in_rest

at_each : (test : ℕ → Bool) (xs : List ℕ) (k : ℕ) → list_all test xs ≡ true → among k xs ≡ true → test k ≡ true
at_each test [] k h e = cc
at_each test (x ∷ xs) k h e = let b = both (test x) (list_all test xs) h in one_or_other (k == x) k x xs test refl b.0 e (at_each test xs k b.1)

of_each : (test : ℕ → Bool) (xs : List ℕ) (k : ℕ) → list_all test xs ≡ true → Contains xs k → test k ≡ true
of_each test [] k h c = absurd (omega (arith, c.1))
of_each test (x ∷ xs) k h c = let b = both (test x) (list_all test xs) h in elim (Contains-append_cases (x ∷ []) xs k c) [
  | inl a ↦ elim (Contains-push_cases [] x k a) [ inl g ↦ absurd (omega (arith, g.1)) | inr e ↦ ap test (sym e) ∙ b.0 ]
  | inr a ↦ of_each test xs k b.1 a
]

-- ---- what is named

abbrev pub function_named : Mention → List ℕ
function_named (Function h) = h ∷ []
function_named (Global g) = []
function_named (Written g) = []

abbrev pub named : Mentioned → Mention → List ℕ
named n (Function h) = h ∷ []
named n (Global g) = flat_map function_named (mentions_in_value n g)
named n (Written g) = []

abbrev pub all_named : Mentioned → ℕ → List ℕ
all_named n f = flat_map (named n) (mentions_in n f)

in_list : (to : Mention → List ℕ) (ms : List Mention) (m : Mention) (v : ℕ) → Contains ms m → Contains (to m) v → Contains (flat_map to ms) v
in_list to [] m v h k = absurd (omega (arith, h.1))
in_list to (x ∷ ms) m v h k = elim (Contains-append_cases (x ∷ []) ms m h) [
  | inl a ↦ elim (Contains-push_cases [] x m a) [
    | inl b ↦ absurd (omega (arith, b.1))
    | inr e ↦ Contains-append_left (to x) (flat_map to ms) v (subst (λ (y : Mention). Contains (to y) v) (sym e) k)
  ]
  | inr b ↦ Contains-append_right (to x) (flat_map to ms) v (in_list to ms m v b k)
]

is_named : (n : Mentioned) (f h : ℕ) → Names n f h → Contains (all_named n f) h
is_named n f h (in_body c) = in_list (named n) (mentions_in n f) (Function h) h c (Contains-push [] h)
is_named n f h (in_value {g = g} c d) = in_list (named n) (mentions_in n f) (Global g) h c (in_list function_named (mentions_in_value n g) (Function h) h d (Contains-push [] h))

-- ---- numbers that the rule doesn't lead out of

abbrev pub passes_above : Mentioned → (ℕ → Bool) → (above below : List ℕ) → ℕ → Bool
passes_above n face above under f = list_all (λ h. if face h then among h under else among h above) (all_named n f)

abbrev pub passes_below : Mentioned → (below : List ℕ) → ℕ → Bool
passes_below n under f = list_all (λ h. among h under) (all_named n f)

abbrev pub is_kept : Mentioned → (ℕ → Bool) → (main : ℕ) → (above below : List ℕ) → Bool
is_kept n face main above under = among main above && (list_all (passes_above n face above under) above && list_all (passes_below n under) under)

abbrev pub listed : (above below : List ℕ) → Side → List ℕ
listed above under Replay = above
listed above under System = under

-- all that may run is among them
pub kept : (n : Mentioned) (face : ℕ → Bool) (main : ℕ) (above under : List ℕ) → is_kept n face main above under ≡ true → (side : Side) (f : ℕ) → MayRun n face main side f → among f (listed above under side) ≡ true
kept n face main above under h side f begins = (both (among main above) (list_all (passes_above n face above under) above && list_all (passes_below n under) under) h).0
kept n face main above under h side f (stays {f = a} {h = b} r name inside e) =
    let p = (both (among main above) (list_all (passes_above n face above under) above && list_all (passes_below n under) under) h).1 in
    let q = (both (list_all (passes_above n face above under) above) (list_all (passes_below n under) under) p).0 in
    let t = of_each (λ h. if face h then among h under else among h above) (all_named n a) b (at_each (passes_above n face above under) above a q (kept n face main above under h Replay a r)) (is_named n a b name) in
    sym (ap (λ (x : Bool). if x then among b under else among b above) e) ∙ t
kept n face main above under h side f (crosses {f = a} {h = b} r name inside e) =
    let p = (both (among main above) (list_all (passes_above n face above under) above && list_all (passes_below n under) under) h).1 in
    let q = (both (list_all (passes_above n face above under) above) (list_all (passes_below n under) under) p).0 in
    let t = of_each (λ h. if face h then among h under else among h above) (all_named n a) b (at_each (passes_above n face above under) above a q (kept n face main above under h Replay a r)) (is_named n a b name) in
    sym (ap (λ (x : Bool). if x then among b under else among b above) e) ∙ t
kept n face main above under h side f (below {f = a} {h = b} r name inside) =
    let p = (both (among main above) (list_all (passes_above n face above under) above && list_all (passes_below n under) under) h).1 in
    let q = (both (list_all (passes_above n face above under) above) (list_all (passes_below n under) under) p).1 in
    of_each (λ h. among h under) (all_named n a) b (at_each (passes_below n under) under a q (kept n face main above under h System a r)) (is_named n a b name)

-- what isn't among them may not run
pub not_kept : (n : Mentioned) (face : ℕ → Bool) (main : ℕ) (above under : List ℕ) (side : Side) (f : ℕ) → is_kept n face main above under ≡ true → among f (listed above under side) ≡ false → MayRun n face main side f → ⊥
not_kept n face main above under side f h e r = let t = kept n face main above under h side f r in cc

pub never_kept : (n : Mentioned) (face : ℕ → Bool) (main : ℕ) (above under : List ℕ) (f : ℕ) → is_kept n face main above under ≡ true → among f above ≡ false → among f under ≡ false → (side : Side) → MayRun n face main side f → ⊥
never_kept n face main above under f h d e Replay r = not_kept n face main above under Replay f h d r
never_kept n face main above under f h d e System r = not_kept n face main above under System f h e r
