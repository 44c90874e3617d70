-- The cut of the source is accepted.
use Rattle.std.proofs.Common.{◌≡◌, ◌==◌, ℕ, ◌-◌, Bool, true, false, List, [], ◌∷◌, Some, inl, inr, ◌⊎◌, refl, sym, ap, ◌∙◌, subst, arith, slice_get}
use Rattle.std.specs.List.{Contains}
use Rattle.std.specs.Prelude.{if◌then◌else◌}
use Rattle.std.proofs.lemmas.Bool.{eq-eqb, eqb-true}
use Rattle.std.proofs.lemmas.List.Elements.{Contains-append_cases, Contains-append_left, Contains-append_right, Contains-push, Contains-push_cases}
use Rattle.std.proofs.lemmas.Option.{slice_get_within}
use Rattle.marks.specs.declared.side.Side.{Side}
use Rattle.marks.specs.declared.side.Side.TheVariants.{Replay, System}
use Rattle.c_builtins.specs.declared.builtin.Builtin.{Builtin}
use Rattle.c_builtins.specs.declared.builtin.Builtin.TheVariants.{Malloc, Free, Spawn, Join, Lock, Unlock, Print}
use Rattle.c_builtins.specs.Table.{in_interface, number_of}
use Rattle.cut_graph_rules.specs.declared.mention.Mention.{Mention}
use Rattle.cut_graph_rules.specs.declared.mention.Mention.TheVariants.{Function as FunctionMention, Global, Written}
use Rattle.cut_graph_rules.specs.Sources.{Mentioned, mentions_of}
use Rattle.cut_graph_rules.specs.MayRun.{IsFunction, begins, crosses, below, stays, in_body, mentions_in}
use Rattle.cut_graph_rules.specs.Findings.{IsAccepted, IsExternal, IsTouching, May, is_above, is_shared}
use Rattle.cut_graph_examples.proofs.Kept.{among, is_kept, kept, listed}
use Rattle.cut_graph_laws.specs.SoundCut.{IsCutOf}
use Rattle.cut_graph_laws_examples.specs.Scene.{cut, program, scene}

abbrev n : Mentioned
n = mentions_of program

abbrev above_list : List ℕ
above_list = 20 ∷ 17 ∷ []

abbrev below_list : List ℕ
below_list = 19 ∷ 18 ∷ 16 ∷ []

is_kept_here : is_kept n cut.face 20 above_list below_list ≡ true
is_kept_here = refl

pub runs_there : (side : Side) (f : ℕ) → May cut side f → among f (listed above_list below_list side) ≡ true
runs_there side f m = kept n cut.face 20 above_list below_list is_kept_here side f m

-- ---- one of the numbers of a list

one_or : (t : Bool) (k x : ℕ) (rest : Bool) → (k == x) ≡ t → (if t then true else rest) ≡ true → (k ≡ x) ⊎ (rest ≡ true)
one_or true k x rest e h = inl (eqb-true k x e)
one_or false k x rest e h = inr h

pub cases_of : (k x : ℕ) (xs : List ℕ) → among k (x ∷ xs) ≡ true → (k ≡ x) ⊎ (among k xs ≡ true)
cases_of k x xs h = one_or (k == x) k x (among k xs) refl h

pub above_cases : (f : ℕ) → May cut Replay f → (f ≡ 20) ⊎ (f ≡ 17)
above_cases f m = elim (cases_of f 20 (17 ∷ []) (runs_there Replay f m)) [
  | inl e ↦ inl e
  | inr k ↦ elim (cases_of f 17 [] k) [ inl e ↦ inr e | inr l ↦ absurd cc ]
]

below_cases : (f : ℕ) → May cut System f → (f ≡ 19) ⊎ ((f ≡ 18) ⊎ (f ≡ 16))
below_cases f m = elim (cases_of f 19 (18 ∷ 16 ∷ []) (runs_there System f m)) [
  | inl e ↦ inl e
  | inr k ↦ elim (cases_of f 18 (16 ∷ []) k) [
    | inl e ↦ inr (inl e)
    | inr l ↦ elim (cases_of f 16 [] l) [ inl e ↦ inr (inr e) | inr z ↦ absurd cc ]
  ]
]

-- ---- globals

abbrev globals_in : List Mention → List ℕ
globals_in [] = []
globals_in (Global g ∷ ms) = g ∷ globals_in ms
globals_in (FunctionMention h ∷ ms) = globals_in ms
globals_in (Written g ∷ ms) = globals_in ms

among_first : (g : ℕ) (xs : List ℕ) → among g (g ∷ xs) ≡ true
among_first g xs = ap (λ (t : Bool). if t then true else among g xs) (eq-eqb g g refl)

among_later : (g x : ℕ) (xs : List ℕ) (t : Bool) → among g xs ≡ true → (if t then true else among g xs) ≡ true
among_later g x xs true h = refl
among_later g x xs false h = h

among_more : (m : Mention) (ms : List Mention) (g : ℕ) → among g (globals_in ms) ≡ true → among g (globals_in (m ∷ ms)) ≡ true
among_more (Global x) ms g h = among_later g x (globals_in ms) (g == x) h
among_more (FunctionMention f) ms g h = h
among_more (Written x) ms g h = h

pub mentioned_globals : (ms : List Mention) (g : ℕ) → Contains ms (Global g) → among g (globals_in ms) ≡ true
mentioned_globals [] g c = absurd (omega (arith, c.1))
mentioned_globals (m ∷ ms) g c = elim (Contains-append_cases (m ∷ []) ms (Global g) c) [
  | inl k ↦ elim (Contains-push_cases [] m (Global g) k) [
    | inl l ↦ absurd (omega (arith, l.1))
    | inr e ↦ subst (λ (x : Mention). among g (globals_in (x ∷ ms)) ≡ true) (sym e) (among_first g (globals_in ms))
  ]
  | inr k ↦ among_more m ms g (mentioned_globals ms g k)
]

touched_by : (f : ℕ) (side : Side) (g : ℕ) (k : ℕ) → IsTouching cut side g f → f ≡ k → among g (globals_in (mentions_in n k)) ≡ true
touched_by f side g k t e = subst (λ (x : ℕ). among g (globals_in (mentions_in n x)) ≡ true) e (mentioned_globals (mentions_in n f) g t.mentions)

-- above the cut `a` and `p` are touched, below it `b`
two_cases : (g x y z : ℕ) → among g (x ∷ y ∷ z ∷ []) ≡ true → (g ≡ x) ⊎ ((g ≡ y) ⊎ (g ≡ z))
two_cases g x y z h = elim (cases_of g x (y ∷ z ∷ []) h) [
  | inl e ↦ inl e
  | inr k ↦ elim (cases_of g y (z ∷ []) k) [
    | inl e ↦ inr (inl e)
    | inr l ↦ elim (cases_of g z [] l) [ inl e ↦ inr (inr e) | inr q ↦ absurd cc ]
  ]
]

pub not_above : (g : ℕ) (f : ℕ) → IsTouching cut Replay g f → g ≡ 1 → ⊥
not_above g f t e = elim (above_cases f t.runs) [
  | inl k ↦ let no : among 1 (globals_in (mentions_in n 20)) ≡ true = subst (λ (x : ℕ). among x (globals_in (mentions_in n 20)) ≡ true) e (touched_by f Replay g 20 t k) in cc
  | inr k ↦ let no : among 1 (globals_in (mentions_in n 17)) ≡ true = subst (λ (x : ℕ). among x (globals_in (mentions_in n 17)) ≡ true) e (touched_by f Replay g 17 t k) in cc
]

one_case : (g x : ℕ) → among g (x ∷ []) ≡ true → g ≡ x
one_case g x h = elim (cases_of g x [] h) [ inl e ↦ e | inr k ↦ absurd cc ]

below_is : (g f : ℕ) → IsTouching cut System g f → g ≡ 1
below_is g f t = elim (below_cases f t.runs) [
  | inl k ↦ one_case g 1 (touched_by f System g 19 t k)
  | inr z ↦ elim z [
    | inl k ↦ one_case g 1 (touched_by f System g 18 t k)
    | inr k ↦ let no : among g (globals_in (mentions_in n 16)) ≡ true = touched_by f System g 16 t k in absurd cc
  ]
]

-- ---- functions that are mentioned

abbrev functions_in : List Mention → List ℕ
functions_in [] = []
functions_in (FunctionMention h ∷ ms) = h ∷ functions_in ms
functions_in (Global g ∷ ms) = functions_in ms
functions_in (Written g ∷ ms) = functions_in ms

later_on : (m : Mention) (ms : List Mention) (h : ℕ) → Contains ms (FunctionMention h) → Contains (m ∷ ms) (FunctionMention h)
later_on m ms h c = Contains-append_right (m ∷ []) ms (FunctionMention h) c

places : (h : ℕ) (ms : List Mention) → among h (functions_in ms) ≡ true → Contains ms (FunctionMention h)
places h [] e = absurd cc
places h (FunctionMention f ∷ ms) e = elim (cases_of h f (functions_in ms) e) [
  | inl same ↦ Contains-append_left (FunctionMention f ∷ []) ms (FunctionMention h) (subst (λ (x : ℕ). Contains (FunctionMention x ∷ []) (FunctionMention h)) same (Contains-push [] (FunctionMention h)))
  | inr k ↦ later_on (FunctionMention f) ms h (places h ms k)
]
places h (Global g ∷ ms) e = later_on (Global g) ms h (places h ms e)
places h (Written g ∷ ms) e = later_on (Written g) ms h (places h ms e)

-- ---- findings

with_body : (e : ℕ) (name : List ℕ) → IsExternal program e name → (e ≡ 20) ⊎ (e ≡ 17) → ⊥
with_body e name x (inl k) = let here : slice_get program.functions 4 ≡ Some x.function = ap (λ (i : ℕ). slice_get program.functions (i - 16)) (sym k) ∙ x.declared in let bare = x.without_body in cc
with_body e name x (inr k) = let here : slice_get program.functions 1 ≡ Some x.function = ap (λ (i : ℕ). slice_get program.functions (i - 16)) (sym k) ∙ x.declared in let bare = x.without_body in cc

numbered : (e : ℕ) (name : List ℕ) → IsExternal program e name → IsFunction n e
numbered e name x = let lt = slice_get_within program.functions (e - 16) x.function x.declared in let le = x.of_source in omega (arith, lt, le)

pub accepted : IsAccepted cut
accepted x (is_shared {place = g} {a = f} {b = h} is first second written named by) = not_above g f first.touches (below_is g h second.touches)
accepted x (is_above {e = e} {f = f} {name = name} external outside runs names by) = with_body e name external (above_cases e (stays runs names (numbered e name external) outside))

builtins_there : (b : Builtin) → cut.face (number_of b) ≡ in_interface b
builtins_there Malloc = refl
builtins_there Free = refl
builtins_there Spawn = refl
builtins_there Join = refl
builtins_there Lock = refl
builtins_there Unlock = refl
builtins_there Print = refl

pub of_source : IsCutOf scene cut
of_source = record { program = refl; faces = λ f. refl; builtins = builtins_there; main = refl }

-- ---- what may run

pub main_may : May cut Replay 20
main_may = begins

pub back_may : May cut Replay 17
back_may = stays begins (in_body (places 17 (mentions_in n 20) refl)) (omega arith) refl

pub go_may : May cut System 19
go_may = crosses begins (in_body (places 19 (mentions_in n 20) refl)) (omega arith) refl

pub low_may : May cut System 18
low_may = below go_may (in_body (places 18 (mentions_in n 19) refl)) (omega arith)
