-- The vertices that paths from `main` lead to are those of what may run.
use Rattle.std.proofs.Common.{◌≡◌, ◌⊎◌, inl, inr, ◌↔◌, ℕ, ◌+◌, ◌<◌, Bool, true, false, List, [], ◌∷◌, length, refl, sym, ap, ◌∙◌, subst, arith}
use Rattle.std.specs.Prelude.{if◌then◌else◌}
use Rattle.std.specs.List.{Contains}
use Rattle.std.proofs.lemmas.List.Elements.{Contains-push, Contains-push_cases}
use Rattle.marks.specs.declared.side.Side.{Side}
use Rattle.marks.specs.declared.side.Side.TheVariants.{Replay, System}
use Rattle.cut_graph_rules.specs.declared.mention.Mention.{Mention}
use Rattle.cut_graph_rules.specs.declared.mention.Mention.TheVariants.{Function, Global, Written}
use Rattle.cut_graph_rules.specs.Sources.{Mentioned}
use Rattle.cut_graph_rules.specs.MayRun.{IsFunction, MayRun, Names, begins, below, crosses, in_body, in_value, mentions_in, mentions_in_value, stays}
use Rattle.cut_graph_paths.specs.Graphs.{Leads, edges_at, flag, here, on}
use Rattle.cut_graph_modes.specs.Runs.{IsPart, Runs, may}
use Rattle.cut_graph_modes.specs.Edges.{graph_of, naming_on, side_of, target}
use Rattle.cut_graph_modes.proofs.Rows.{among_lists, lead, leads_there}
use Rattle.cut_graph_modes.proofs.Sides.{function_edges, function_in, function_led, function_vertex, functions_of, global_edges, global_in, global_inside, global_led, global_vertex, graph_size}

abbrev May : Mentioned → List Bool → ℕ → Side → ℕ → Type 0
May n faces main side f = MayRun n (flag faces) main side f

-- the vertex of a function that may run on a side
record IsRunning (n : Mentioned) (faces : List Bool) (main v : ℕ) : Type 0 where
  pub side : Side
  pub function : ℕ
  pub is : v ≡ function_vertex n side function
  pub inside : IsFunction n function
  pub runs : May n faces main side function

-- the vertex of a global that such a function names
record IsNamed (n : Mentioned) (faces : List Bool) (main v : ℕ) : Type 0 where
  pub side : Side
  pub place : ℕ
  pub by : ℕ
  pub is : v ≡ global_vertex n side place
  pub inside : place < length n.globals
  pub runs : May n faces main side by
  pub mentions : Contains (mentions_in n by) (Global place)

-- ---- one step of the rule

by_flag : (n : Mentioned) (faces : List Bool) (main f h : ℕ) (b : Bool) → flag faces h ≡ b → May n faces main Replay f → Names n f h → IsFunction n h → May n faces main (if b then System else Replay) h
by_flag n faces main f h true e r named lt = crosses r named lt e
by_flag n faces main f h false e r named lt = stays r named lt e

passed_on : (n : Mentioned) (faces : List Bool) (main f h : ℕ) (side : Side) → May n faces main side f → Names n f h → IsFunction n h → May n faces main (side_of faces side h) h
passed_on n faces main f h Replay r named lt = by_flag n faces main f h (flag faces h) refl r named lt
passed_on n faces main f h System r named lt = below r named lt

-- ---- from paths to the rule

by_function : (n : Mentioned) (faces : List Bool) (main b : ℕ) (side : Side) (f : ℕ) → May n faces main side f → (m : Mention) → Contains (mentions_in n f) m → Contains (target (naming_on n side true) faces m) b →
    IsRunning n faces main b ⊎ IsNamed n faces main b
by_function n faces main b side f r (Function h) among c =
    let o = function_led (naming_on n side true) faces h b c in
    inl (record { side = side_of faces side h; function = h; is = sym o.1; inside = o.0; runs = passed_on n faces main f h side r (in_body among) o.0 })
by_function n faces main b side f r (Global p) among c =
    let o = global_led (naming_on n side true) faces p b c in
    inr (record { side = side; place = p; by = f; is = sym o.1; inside = global_inside (naming_on n side true) p o.0; runs = r; mentions = among })
by_function n faces main b side f r (Written p) among c = absurd (omega (arith, c.1))

by_value : (n : Mentioned) (faces : List Bool) (main b : ℕ) (side : Side) (p f : ℕ) → May n faces main side f → Contains (mentions_in n f) (Global p) → (m : Mention) → Contains (mentions_in_value n p) m →
    Contains (target (naming_on n side false) faces m) b → IsRunning n faces main b ⊎ IsNamed n faces main b
by_value n faces main b side p f r mentions (Function h) among c =
    let o = function_led (naming_on n side false) faces h b c in
    inl (record { side = side_of faces side h; function = h; is = sym o.1; inside = o.0; runs = passed_on n faces main f h side r (in_value {g = p} mentions among) o.0 })
by_value n faces main b side p f r mentions (Global q) among c = let o = global_led (naming_on n side false) faces q b c in cc
by_value n faces main b side p f r mentions (Written q) among c = absurd (omega (arith, c.1))

after_function : (n : Mentioned) (faces : List Bool) (main a b : ℕ) → IsRunning n faces main a → Contains (edges_at (graph_of n faces) a) b → IsRunning n faces main b ⊎ IsNamed n faces main b
after_function n faces main a b r c =
    let edges = ap (edges_at (graph_of n faces)) r.is ∙ function_edges n faces r.side r.function r.inside in
    let o = lead (target (naming_on n r.side true) faces) (mentions_in n r.function) b (subst (λ (xs : List ℕ). Contains xs b) edges c) in
    by_function n faces main b r.side r.function r.runs o.mention o.among o.leads

after_global : (n : Mentioned) (faces : List Bool) (main a b : ℕ) → IsNamed n faces main a → Contains (edges_at (graph_of n faces) a) b → IsRunning n faces main b ⊎ IsNamed n faces main b
after_global n faces main a b r c =
    let edges = ap (edges_at (graph_of n faces)) r.is ∙ global_edges n faces r.side r.place r.inside in
    let o = lead (target (naming_on n r.side false) faces) (mentions_in_value n r.place) b (subst (λ (xs : List ℕ). Contains xs b) edges c) in
    by_value n faces main b r.side r.place r.by r.runs r.mentions o.mention o.among o.leads

main_only : (main v : ℕ) → Contains (main ∷ []) v → v ≡ 0 + main
main_only main v h = elim (Contains-push_cases [] main v h) [ inl g ↦ absurd (omega (arith, g.1)) | inr e ↦ omega arith ]

reaches : (n : Mentioned) (faces : List Bool) (main : ℕ) → IsFunction n main → (v : ℕ) → Leads (graph_of n faces) (main ∷ []) v → IsRunning n faces main v ⊎ IsNamed n faces main v
reaches n faces main lt v (here h) = inl (record { side = Replay; function = main; is = main_only main v h; inside = lt; runs = begins })
reaches n faces main lt v (on {a} {b} l h) = elim (reaches n faces main lt a l) [
  | inl r ↦ after_function n faces main a b r h
  | inr r ↦ after_global n faces main a b r h
]

-- ---- from the rule to paths

edge_to_function : (n : Mentioned) (faces : List Bool) (side : Side) (f h : ℕ) → IsFunction n f → IsFunction n h → Contains (mentions_in n f) (Function h) →
    Contains (edges_at (graph_of n faces) (function_vertex n side f)) (function_vertex n (side_of faces side h) h)
edge_to_function n faces side f h lf lh c =
    subst (λ (xs : List ℕ). Contains xs (function_vertex n (side_of faces side h) h)) (sym (function_edges n faces side f lf))
    (leads_there (target (naming_on n side true) faces) (mentions_in n f) (Function h) (function_vertex n (side_of faces side h) h) c (function_in (naming_on n side true) faces h lh))

edge_to_global : (n : Mentioned) (faces : List Bool) (side : Side) (f p : ℕ) → IsFunction n f → p < length n.globals → Contains (mentions_in n f) (Global p) →
    Contains (edges_at (graph_of n faces) (function_vertex n side f)) (global_vertex n side p)
edge_to_global n faces side f p lf lp c =
    subst (λ (xs : List ℕ). Contains xs (global_vertex n side p)) (sym (function_edges n faces side f lf))
    (leads_there (target (naming_on n side true) faces) (mentions_in n f) (Global p) (global_vertex n side p) c (global_in (naming_on n side true) faces p refl lp))

edge_from_global : (n : Mentioned) (faces : List Bool) (side : Side) (p h : ℕ) → p < length n.globals → IsFunction n h → Contains (mentions_in_value n p) (Function h) →
    Contains (edges_at (graph_of n faces) (global_vertex n side p)) (function_vertex n (side_of faces side h) h)
edge_from_global n faces side p h lp lh c =
    subst (λ (xs : List ℕ). Contains xs (function_vertex n (side_of faces side h) h)) (sym (global_edges n faces side p lp))
    (leads_there (target (naming_on n side false) faces) (mentions_in_value n p) (Function h) (function_vertex n (side_of faces side h) h) c (function_in (naming_on n side false) faces h lh))

step : (n : Mentioned) (faces : List Bool) (from : List ℕ) (side : Side) (f h : ℕ) → IsFunction n f → IsFunction n h → Leads (graph_of n faces) from (function_vertex n side f) → Names n f h →
    Leads (graph_of n faces) from (function_vertex n (side_of faces side h) h)
step n faces from side f h lf lh l (in_body c) = on l (edge_to_function n faces side f h lf lh c)
step n faces from side f h lf lh l (in_value {g = p} c d) =
    let lp : p < length n.globals = among_lists n.globals p (Function h) d in
    on (on l (edge_to_global n faces side f p lf lp c)) (edge_from_global n faces side p h lp lh d)

-- what may run is a function
pub function_runs : (n : Mentioned) (face : ℕ → Bool) (main : ℕ) → IsFunction n main → (side : Side) (f : ℕ) → MayRun n face main side f → IsFunction n f
function_runs n face main lt side f begins = lt
function_runs n face main lt side f (stays r named inside e) = inside
function_runs n face main lt side f (crosses r named inside e) = inside
function_runs n face main lt side f (below r named inside) = inside

at_side : (n : Mentioned) (faces : List Bool) (from : List ℕ) (h : ℕ) (s t : Side) → s ≡ t → Leads (graph_of n faces) from (function_vertex n s h) → Leads (graph_of n faces) from (function_vertex n t h)
at_side n faces from h s t e l = subst (λ (x : Side). Leads (graph_of n faces) from (function_vertex n x h)) e l

leads_to : (n : Mentioned) (faces : List Bool) (main : ℕ) → IsFunction n main → (side : Side) (f : ℕ) → May n faces main side f → Leads (graph_of n faces) (main ∷ []) (function_vertex n side f)
leads_to n faces main lt side f begins = let e : main ≡ 0 + main = omega arith in here (subst (λ (v : ℕ). Contains (main ∷ []) v) e (Contains-push [] main))
leads_to n faces main lt side f (stays {f = g} {h} r named inside e) =
    at_side n faces (main ∷ []) h (side_of faces Replay h) Replay (ap (λ (b : Bool). if b then System else Replay) e)
    (step n faces (main ∷ []) Replay g h (function_runs n (flag faces) main lt Replay g r) inside (leads_to n faces main lt Replay g r) named)
leads_to n faces main lt side f (crosses {f = g} {h} r named inside e) =
    at_side n faces (main ∷ []) h (side_of faces Replay h) System (ap (λ (b : Bool). if b then System else Replay) e)
    (step n faces (main ∷ []) Replay g h (function_runs n (flag faces) main lt Replay g r) inside (leads_to n faces main lt Replay g r) named)
leads_to n faces main lt side f (below {f = g} {h} r named inside) =
    step n faces (main ∷ []) System g h (function_runs n (flag faces) main lt System g r) inside (leads_to n faces main lt System g r) named

-- ---- both

-- a vertex has one meaning
same_function : (n : Mentioned) (s t : Side) (f h : ℕ) → IsFunction n f → IsFunction n h → function_vertex n s f ≡ function_vertex n t h → (s ≡ t) × (f ≡ h)
same_function n Replay Replay f h lf lh e = (refl, omega arith)
same_function n Replay System f h lf lh e = absurd (omega arith)
same_function n System Replay f h lf lh e = absurd (omega arith)
same_function n System System f h lf lh e = (refl, omega arith)

no_global : (n : Mentioned) (s t : Side) (f p : ℕ) → IsFunction n f → p < length n.globals → function_vertex n s f ≡ global_vertex n t p → ⊥
no_global n Replay Replay f p lf lp e = omega arith
no_global n Replay System f p lf lp e = omega arith
no_global n System Replay f p lf lp e = omega arith
no_global n System System f p lf lp e = omega arith

runs_there : (n : Mentioned) (faces : List Bool) (main : ℕ) (side : Side) (f : ℕ) → IsFunction n f → IsRunning n faces main (function_vertex n side f) ⊎ IsNamed n faces main (function_vertex n side f) → May n faces main side f
runs_there n faces main side f lt (inl r) =
    let same = same_function n side r.side f r.function lt r.inside r.is in
    subst (λ (s : Side). May n faces main s f) (sym same.0) (subst (λ (h : ℕ). May n faces main r.side h) (sym same.1) r.runs)
runs_there n faces main side f lt (inr r) = absurd (no_global n side r.side f r.place lt r.inside r.is)

by_vertex : (n : Mentioned) (faces : List Bool) (main : ℕ) → IsFunction n main → (flags : List Bool) → ((v : ℕ) → (flag flags v ≡ true) ↔ Leads (graph_of n faces) (main ∷ []) v) → (side : Side) (f : ℕ) →
    ((f < functions_of n) × (flag flags (function_vertex n side f) ≡ true)) ↔ May n faces main side f
by_vertex n faces main lt flags exact side f = (
  λ h. runs_there n faces main side f h.0 (reaches n faces main lt (function_vertex n side f) ((exact (function_vertex n side f)).0 h.1)),
  λ r. (function_runs n (flag faces) main lt side f r, (exact (function_vertex n side f)).1 (leads_to n faces main lt side f r)),
)

both_ways : {P Q R : Type 0} → P ↔ Q → Q ↔ R → P ↔ R
both_ways h k = (λ p. k.0 (h.0 p), λ r. h.1 (k.1 r))

-- the flags of what is reached, cut into those of either side
pub exactly : (n : Mentioned) (faces : List Bool) (main : ℕ) (flags : List Bool) (m : Runs) → IsFunction n main → ((v : ℕ) → (flag flags v ≡ true) ↔ Leads (graph_of n faces) (main ∷ []) v) →
    IsPart m.above flags 0 (functions_of n) → IsPart m.below flags (functions_of n + length n.globals) (functions_of n) → (side : Side) (f : ℕ) → (may m side f ≡ true) ↔ MayRun n (flag faces) main side f
exactly n faces main flags m lt exact up down Replay f = both_ways (up.is f) (by_vertex n faces main lt flags exact Replay f)
exactly n faces main flags m lt exact up down System f = both_ways (down.is f) (by_vertex n faces main lt flags exact System f)

pub first_within : (n : Mentioned) (faces : List Bool) (main k : ℕ) → IsFunction n main → Contains (main ∷ []) k → k < length (graph_of n faces)
first_within n faces main k lt h =
    let e = main_only main k h in
    let size = graph_size n faces in
    omega arith
