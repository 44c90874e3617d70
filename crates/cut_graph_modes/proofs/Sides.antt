-- The edges of functions and of globals, on each side.
use Rattle.std.proofs.Common.{◌≡◌, inl, inr, ℕ, ◌+◌, ◌-◌, ◌*◌, ◌<◌, ◌≤◌, Bool, true, false, ◌&&◌, List, [], ◌∷◌, ◌++◌, length, refl, sym, ap, ◌∙◌, subst, arith}
use Rattle.std.specs.Prelude.{nat_lt, if◌then◌else◌, replicate, slice_get}
use Rattle.std.specs.List.{Contains, flat_map}
use Rattle.std.proofs.lemmas.Bool.{ltb-true, ltb-false, lt-ltb}
use Rattle.std.proofs.lemmas.List.{length-append, length-map, length-replicate}
use Rattle.std.proofs.lemmas.List.Elements.{Contains-push, Contains-push_cases}
use Rattle.marks.specs.declared.side.Side.{Side}
use Rattle.marks.specs.declared.side.Side.TheVariants.{Replay, System}
use Rattle.c_builtins.specs.Table.{first_source_function}
use Rattle.cut_graph_rules.specs.declared.mention.Mention.{Mention}
use Rattle.cut_graph_rules.specs.declared.mention.Mention.TheVariants.{Function, Global, Written}
use Rattle.cut_graph_rules.specs.Sources.{Mentioned}
use Rattle.cut_graph_rules.specs.MayRun.{IsFunction, mentions_in, mentions_in_value, or_nothing}
use Rattle.cut_graph_paths.specs.Graphs.{IsWithin, edges_at}
use Rattle.cut_graph_modes.specs.declared.vertices.Naming.{Naming}
use Rattle.cut_graph_modes.specs.Edges.{first_of, function_at, global_at, graph_of, naming_on, rows_of, side_of, side_rows, target}
use Rattle.cut_graph_modes.proofs.Rows.{AllBelow, below_append, below_none, below_rows, edges_left, edges_mapped, edges_right, no_edges}

-- so many functions there are, and so many vertices on a side
abbrev pub functions_of : Mentioned → ℕ
functions_of n = first_source_function + length n.functions

abbrev pub function_vertex : Mentioned → Side → ℕ → ℕ
function_vertex n side h = function_at (functions_of n) (length n.globals) side h

abbrev pub global_vertex : Mentioned → Side → ℕ → ℕ
global_vertex n side g = global_at (functions_of n) (length n.globals) side g

-- ---- one vertex, if a test holds

pub one_if : (t : Bool) (v b : ℕ) → Contains (if t then v ∷ [] else []) b → (t ≡ true) × (v ≡ b)
one_if true v b h = (refl, elim (Contains-push_cases [] v b h) [ inl g ↦ absurd (omega (arith, g.1)) | inr e ↦ e ])
one_if false v b h = absurd (omega (arith, h.1))

pub one_in : (t : Bool) (v : ℕ) → t ≡ true → Contains (if t then v ∷ [] else []) v
one_in t v e = subst (λ (x : Bool). Contains (if x then v ∷ [] else []) v) (sym e) (Contains-push [] v)

both_true : (s t : Bool) → s && t ≡ true → t ≡ true
both_true true t e = e
both_true false t e = cc

-- ---- where names lead

pub function_in : (n : Naming) (faces : List Bool) (h : ℕ) → h < n.functions → Contains (target n faces (Function h)) (function_at n.functions n.globals (side_of faces n.side h) h)
function_in n faces h lt = one_in (nat_lt h n.functions) (function_at n.functions n.globals (side_of faces n.side h) h) (lt-ltb h n.functions lt)

pub global_in : (n : Naming) (faces : List Bool) (g : ℕ) → n.follows ≡ true → g < n.globals → Contains (target n faces (Global g)) (global_at n.functions n.globals n.side g)
global_in n faces g follows lt =
    one_in (n.follows && nat_lt g n.globals) (global_at n.functions n.globals n.side g) (ap (λ (b : Bool). b && nat_lt g n.globals) follows ∙ lt-ltb g n.globals lt)

pub function_led : (n : Naming) (faces : List Bool) (h b : ℕ) → Contains (target n faces (Function h)) b → (h < n.functions) × (function_at n.functions n.globals (side_of faces n.side h) h ≡ b)
function_led n faces h b c =
    let o = one_if (nat_lt h n.functions) (function_at n.functions n.globals (side_of faces n.side h) h) b c in
    (ltb-true h n.functions o.0, o.1)

pub global_led : (n : Naming) (faces : List Bool) (g b : ℕ) → Contains (target n faces (Global g)) b → (n.follows && nat_lt g n.globals ≡ true) × (global_at n.functions n.globals n.side g ≡ b)
global_led n faces g b c = one_if (n.follows && nat_lt g n.globals) (global_at n.functions n.globals n.side g) b c

pub global_inside : (n : Naming) (g : ℕ) → n.follows && nat_lt g n.globals ≡ true → g < n.globals
global_inside n g e = ltb-true g n.globals (both_true n.follows (nat_lt g n.globals) e)

first_small : (f g : ℕ) (side : Side) → first_of f g side ≤ f + g
first_small f g Replay = omega arith
first_small f g System = omega arith

target_below : (n : Naming) (faces : List Bool) (m : Mention) (b : ℕ) → Contains (target n faces m) b → b < 2 * (n.functions + n.globals)
target_below n faces (Function h) b c =
    let o = function_led n faces h b c in
    let s = first_small n.functions n.globals (side_of faces n.side h) in
    let e : function_at n.functions n.globals (side_of faces n.side h) h ≡ b = o.1 in
    omega (arith, o.0)
target_below n faces (Global g) b c =
    let o = global_led n faces g b c in
    let s = first_small n.functions n.globals n.side in
    let lt = global_inside n g o.0 in
    let e : global_at n.functions n.globals n.side g ≡ b = o.1 in
    omega arith
target_below n faces (Written g) b c = absurd (omega (arith, c.1))

-- ---- how many vertices there are

pub side_size : (n : Mentioned) (faces : List Bool) (side : Side) → length (side_rows n faces side) ≡ functions_of n + length n.globals
side_size n faces side = sized first_source_function (rows_of (naming_on n side true) faces n.functions) (rows_of (naming_on n side false) faces n.globals)
    (length n.functions) (length n.globals) (length-map n.functions (flat_map (target (naming_on n side true) faces))) (length-map n.globals (flat_map (target (naming_on n side false) faces)))
  where
    sized : (k : ℕ) (bs cs : List (List ℕ)) (i j : ℕ) → length bs ≡ i → length cs ≡ j → length (replicate k [] ++ (bs ++ cs)) ≡ (k + i) + j
    sized k bs cs i j e f =
        let a = length-append (replicate k []) (bs ++ cs) in
        let b = length-append bs cs in
        let c : length (replicate {A = List ℕ} k []) ≡ k = length-replicate k [] in
        omega arith

pub graph_size : (n : Mentioned) (faces : List Bool) → length (graph_of n faces) ≡ 2 * (functions_of n + length n.globals)
graph_size n faces =
    let a = length-append (side_rows n faces Replay) (side_rows n faces System) in
    let b = side_size n faces Replay in
    let c = side_size n faces System in
    omega arith

-- twice so many
abbrev most : Mentioned → ℕ
most n = 2 * (functions_of n + length n.globals)

side_below : (n : Mentioned) (faces : List Bool) (side : Side) → AllBelow (most n) (side_rows n faces side)
side_below n faces side =
    let fs = rows_of (naming_on n side true) faces n.functions in
    let gs = rows_of (naming_on n side false) faces n.globals in
    below_append (most n) (replicate first_source_function []) (fs ++ gs) (below_none (most n) first_source_function)
    (below_append (most n) fs gs
    (below_rows (most n) (target (naming_on n side true) faces) n.functions (target_below (naming_on n side true) faces))
    (below_rows (most n) (target (naming_on n side false) faces) n.globals (target_below (naming_on n side false) faces)))

pub graph_within : (n : Mentioned) (faces : List Bool) → IsWithin (graph_of n faces)
graph_within n faces a b c =
    let lt = below_append (most n) (side_rows n faces Replay) (side_rows n faces System) (side_below n faces Replay) (side_below n faces System) a b c in
    let size = graph_size n faces in
    omega arith

-- ---- the edges of one side

on_side : (n : Mentioned) (faces : List Bool) (side : Side) (v : ℕ) → v < functions_of n + length n.globals → edges_at (graph_of n faces) (first_of (functions_of n) (length n.globals) side + v) ≡ edges_at (side_rows n faces side) v
on_side n faces Replay v lt =
    let e : 0 + v ≡ v = omega arith in
    ap (edges_at (graph_of n faces)) e ∙ edges_left (side_rows n faces Replay) (side_rows n faces System) v (omega (arith, side_size n faces Replay))
on_side n faces System v lt = edges_right (side_rows n faces Replay) (side_rows n faces System) ((functions_of n + length n.globals) + v) v (omega (arith, side_size n faces Replay))

-- of a builtin, by its number, and of a function of the source
builtin_edges : (n : Mentioned) (faces : List Bool) (side : Side) (f : ℕ) → f < first_source_function → edges_at (side_rows n faces side) f ≡ []
builtin_edges n faces side f lt = in_first first_source_function (rows_of (naming_on n side true) faces n.functions ++ rows_of (naming_on n side false) faces n.globals) f lt
  where
    in_first : (k : ℕ) (ys : List (List ℕ)) (v : ℕ) → v < k → edges_at (replicate k [] ++ ys) v ≡ []
    in_first k ys v lt =
        let c : length (replicate {A = List ℕ} k []) ≡ k = length-replicate k [] in
        edges_left (replicate k []) ys v (omega arith) ∙ no_edges k v

source_edges : (n : Mentioned) (faces : List Bool) (side : Side) (f w : ℕ) → f ≡ first_source_function + w → w < length n.functions →
    edges_at (side_rows n faces side) f ≡ flat_map (target (naming_on n side true) faces) (or_nothing (slice_get n.functions w))
source_edges n faces side f w is lt =
    in_second first_source_function (rows_of (naming_on n side true) faces n.functions) (rows_of (naming_on n side false) faces n.globals) f w is
    (omega (arith, length-map n.functions (flat_map (target (naming_on n side true) faces)))) ∙ edges_mapped (target (naming_on n side true) faces) n.functions w
  where
    in_second : (k : ℕ) (ys zs : List (List ℕ)) (v w : ℕ) → v ≡ k + w → w < length ys → edges_at (replicate k [] ++ (ys ++ zs)) v ≡ edges_at ys w
    in_second k ys zs v w is lt =
        let c : length (replicate {A = List ℕ} k []) ≡ k = length-replicate k [] in
        edges_right (replicate k []) (ys ++ zs) v w (omega arith) ∙ edges_left ys zs w lt

value_edges : (n : Mentioned) (faces : List Bool) (side : Side) (p : ℕ) → edges_at (side_rows n faces side) (functions_of n + p) ≡ flat_map (target (naming_on n side false) faces) (mentions_in_value n p)
value_edges n faces side p =
    in_third first_source_function (rows_of (naming_on n side true) faces n.functions) (rows_of (naming_on n side false) faces n.globals) (functions_of n + p) p
    (omega (arith, length-map n.functions (flat_map (target (naming_on n side true) faces)))) ∙ edges_mapped (target (naming_on n side false) faces) n.globals p
  where
    in_third : (k : ℕ) (ys zs : List (List ℕ)) (v w : ℕ) → v ≡ (k + length ys) + w → edges_at (replicate k [] ++ (ys ++ zs)) v ≡ edges_at zs w
    in_third k ys zs v w is =
        let c : length (replicate {A = List ℕ} k []) ≡ k = length-replicate k [] in
        edges_right (replicate k []) (ys ++ zs) v (length ys + w) (omega arith) ∙ edges_right ys zs (length ys + w) w refl

-- ---- the edges of functions and globals

by_number : (n : Mentioned) (faces : List Bool) (side : Side) (f : ℕ) (t : Bool) → nat_lt f first_source_function ≡ t → IsFunction n f →
    edges_at (side_rows n faces side) f ≡ flat_map (target (naming_on n side true) faces) (if t then [] else or_nothing (slice_get n.functions (f - first_source_function)))
by_number n faces side f true e lt = builtin_edges n faces side f (ltb-true f first_source_function e)
by_number n faces side f false e lt =
    let le : first_source_function ≤ f = ltb-false f first_source_function e in
    source_edges n faces side f (f - first_source_function) (omega arith) (omega arith)

pub function_edges : (n : Mentioned) (faces : List Bool) (side : Side) (f : ℕ) → IsFunction n f →
    edges_at (graph_of n faces) (function_vertex n side f) ≡ flat_map (target (naming_on n side true) faces) (mentions_in n f)
function_edges n faces side f lt = on_side n faces side f (omega arith) ∙ by_number n faces side f (nat_lt f first_source_function) refl lt

pub global_edges : (n : Mentioned) (faces : List Bool) (side : Side) (p : ℕ) → p < length n.globals →
    edges_at (graph_of n faces) (global_vertex n side p) ≡ flat_map (target (naming_on n side false) faces) (mentions_in_value n p)
global_edges n faces side p lt = on_side n faces side (functions_of n + p) (omega arith) ∙ value_edges n faces side p
