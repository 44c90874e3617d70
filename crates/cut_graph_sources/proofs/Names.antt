-- In a typed source no two functions have one name, and the function that is named `main` has a body.
use Rattle.std.proofs.Common.{◌≡◌, ◌⊎◌, inl, inr, ℕ, zero, suc, ◌+◌, ◌-◌, Bool, true, false, ◌&&◌, ◌||◌, cond, List, [], ◌∷◌, ◌++◌, length, Option, Some, None, refl, sym, ap, ◌∙◌, subst, arith, ⊎_elim}
use Rattle.std.specs.Prelude.{is_some, not, slice_get}
use Rattle.std.specs.List.{position_or_len}
use Rattle.std.proofs.lemmas.Option.{same_Some}
use Rattle.std.proofs.lemmas.Slice.Eq.{bytes_eq-Decides}
use Rattle.c_syntax.specs.declared.declaration.Base.TheVariants as bases
use Rattle.c_syntax.specs.declared.declaration.Base.{Base}
use Rattle.c_syntax.specs.Syntax.{Annots, Decl, Decls, Parts, Rest, Declare, NoDecls, MoreDecls, NoRest, Initial, Body, Members}
use Rattle.c_builtins.specs.Table.{first_source_function}
use Rattle.c_scopes.specs.Scopes.{Scope, meaning_in, same_name}
use Rattle.c_types_model.specs.Types.{CType, Void, Integer, PointerTo, ArrayOf, StructOf, UndefinedStruct, FunctionOf}
use Rattle.c_types_rules.specs.Checked.{Checked, Fine, Noted, Broken, heard, keep, ◌>>=◌, ◌>>◌}
use Rattle.c_types_rules.specs.TypeTests.{same_type}
use Rattle.c_types_rules.specs.TypedTree as typed
use Rattle.c_types_rules.specs.Environment.{Meaning, FunctionNamed, GlobalNamed, LocalNamed, extents, is_reserved}
use Rattle.c_types_rules.specs.Expressions.{annotation_types, complete, declared_name, declared_type}
use Rattle.c_types_rules.specs.Limits.{Which, Typed, decided, first_limit, outcome, unless}
use Rattle.c_types_rules.specs.Sources.{Function, Program, at_file, body_at, body_of, declaration, declarations, declared_again, function, function_declared, function_or_global, function_rest, global, global_value, has_main, is_main as is_typed_main, main, nothing, program, struct_defined, tags_of, with_body}
use Rattle.c_semantics.proofs.TypedReturns.{Holds, holds_then, holds_on, holds_after, holds_kept}

-- the name is that of the function at this place
record IsOfPlace (names : Scope Meaning) (name : List ℕ) (place : ℕ) : Type 0 where
  type : CType
  means : meaning_in name names ≡ Some (FunctionNamed (place + first_source_function) type)

-- each function is found by its name
abbrev Found : List Function → Scope Meaning → Type 0
Found fs names = (i : ℕ) (f : Function) → slice_get fs i ≡ Some f → IsOfPlace names f.name i

abbrev Good : Program → Type 0
Good p = Found p.functions p.names

-- ---- lists of functions

more_has : {A : Type 0} (xs : List A) (y x : A) (i : ℕ) → slice_get (xs ++ y ∷ []) i ≡ Some x → (slice_get xs i ≡ Some x) ⊎ ((y ≡ x) × (i ≡ length xs))
more_has [] y x zero e = inr (cc, refl)
more_has [] y x (suc i) e = absurd cc
more_has (z ∷ xs) y x zero e = inl e
more_has (z ∷ xs) y x (suc i) e = ⊎_elim (λ old. inl old) (λ new. inr (new.0, ap suc new.1)) (more_has xs y x i e)

-- a function that gets its body keeps its name
given_has : (fs : List Function) (place : ℕ) (b : typed.Body) (i : ℕ) (x : Function) → slice_get (with_body fs place b) i ≡ Some x → (f : Function) × (slice_get fs i ≡ Some f) × (f.name ≡ x.name)
given_has [] place b i x e = absurd cc
given_has (f ∷ fs) zero b zero x e = let is : record f { body = Some b } ≡ x = cc in (f, refl, ap (λ (g : Function). g.name) is)
given_has (f ∷ fs) zero b (suc i) x e = (x, e, refl)
given_has (f ∷ fs) (suc place) b zero x e = (x, e, refl)
given_has (f ∷ fs) (suc place) b (suc i) x e = given_has fs place b i x e

-- ---- one name more

same_names : (a b : List ℕ) → same_name a b ≡ true → a ≡ b
same_names a b e = (bytes_eq-Decides a b).0 e

name_is : (a : List ℕ) → same_name a a ≡ true
name_is a = (bytes_eq-Decides a a).1 refl

-- names that are found stay what they are
still_found : (names : Scope Meaning) (name other : List ℕ) (m : Meaning) (place : ℕ) → meaning_in name names ≡ None → IsOfPlace names other place → IsOfPlace ((name, m) ∷ names) other place
still_found names name other m place none is = by (same_name other name) refl
  where
    by : (b : Bool) → same_name other name ≡ b → IsOfPlace ((name, m) ∷ names) other place
    by true e =
        let same : other ≡ name = same_names other name e in
        let never : None ≡ Some (FunctionNamed (place + first_source_function) is.type) = sym none ∙ (ap (λ n. meaning_in n names) (sym same) ∙ is.means) in
        absurd cc
    by false e = record { type = is.type; means = ap (λ b. cond b (Some m) (meaning_in other names)) e ∙ is.means }

all_still : (fs : List Function) (names : Scope Meaning) (name : List ℕ) (m : Meaning) → meaning_in name names ≡ None → Found fs names → Found fs ((name, m) ∷ names)
all_still fs names name m none found i f e = still_found names name f.name m i none (found i f e)

abbrev bare : List ℕ → CType → Function
bare name t = record { name = name; type = t; body = None }

abbrev with_function : Program → List ℕ → CType → Program
with_function p name t = record p { functions = p.functions ++ bare name t ∷ []; names = (name, FunctionNamed (length p.functions + first_source_function) t) ∷ p.names }

with_function_good : (p : Program) (name : List ℕ) (t : CType) → meaning_in name p.names ≡ None → Good p → Good (with_function p name t)
with_function_good p name t none g i f e =
    ⊎_elim (λ old. still_found p.names name f.name m i none (g i f old)) (λ new. subst (λ (h : Function). IsOfPlace more h.name i) new.0 (subst (λ k. IsOfPlace more name k) (sym new.1) here)) (more_has p.functions (bare name t) f i e)
  where
    m : Meaning
    m = FunctionNamed (length p.functions + first_source_function) t

    more : Scope Meaning
    more = (name, m) ∷ p.names

    here : IsOfPlace more name (length p.functions)
    here = record { type = t; means = ap (λ b. cond b (Some m) (meaning_in name p.names)) (name_is name) }

-- ---- functions

abbrev Numbered : ℕ × Program → Type 0
Numbered a = Good a.1

again_good : (p : Program) (from : ℕ) (t : CType) (o : Option Meaning) (name : List ℕ) → meaning_in name p.names ≡ o → Good p → Holds Numbered (declared_again p from t o name)
again_good p from t (Some (FunctionNamed number u)) name e g = holds_after Numbered (keep from 1 (same_type t u)) (Fine (number, p)) g
again_good p from t (Some (GlobalNamed place u)) name e g = tt
again_good p from t (Some (LocalNamed place u)) name e g = tt
again_good p from t None name e g = with_function_good p name t e g

declared_good : (p : Program) (from : ℕ) (t : CType) (name : List ℕ) → Good p → Holds Numbered (function_declared p from t name)
declared_good p from t name g =
    holds_after Numbered (keep from 19 (not (is_reserved name))) (declared_again p from t (meaning_in name p.names) name) (again_good p from t (meaning_in name p.names) name refl g)

defined_good : (p : Program) (place : ℕ) (b : typed.Body) → Good p → Good (record p { functions = with_body p.functions place b })
defined_good p place b g i x e = let (f, at, same) = given_has p.functions place b i x e in subst (λ name. IsOfPlace p.names name i) same (g i f at)

rest_good : (tags : List (List ℕ)) (p : Program) (from place : ℕ) (name : List ℕ) (t : CType) (ps : Parts) (r : Rest) → Good p → Holds Good (function_rest tags p from place name t ps r)
rest_good tags p from place name t ps NoRest g = g
rest_good tags p from place name t ps (Initial v) g = tt
rest_good tags p from place name t ps (Body s) g =
    let last : Checked Program = body_of (at_file tags p) t ps s >>= (λ b. Fine (record p { functions = with_body p.functions place b })) in
    holds_after Good (keep from 21 (not (is_some (body_at p.functions place)))) (keep from 18 (is_typed_main name t) >> last) (holds_after Good (keep from 18 (is_typed_main name t)) last
    (holds_on Good (body_of (at_file tags p) t ps s) _ (λ b. defined_good p place b g)))
rest_good tags p from place name t ps (Members ds) g = tt

function_good : (tags : List (List ℕ)) (p : Program) (from : ℕ) (name : List ℕ) (t : CType) (ps : Parts) (r : Rest) → Good p → Holds Good (function tags p from name t ps r)
function_good tags p from name t ps r g =
    holds_then Numbered Good (function_declared p from t name) (λ a. function_rest tags a.1 from (a.0 - first_source_function) name t ps r) (declared_good p from t name g)
    (λ a h. rest_good tags a.1 from (a.0 - first_source_function) name t ps r h)

-- ---- globals

none_there : (o : Option Meaning) → not (is_some o) ≡ true → o ≡ None
none_there None e = refl
none_there (Some m) e = absurd cc

-- what is declared after two rules are kept
held_second : (from a b : ℕ) (x y : Bool) (c : Checked Program) → (y ≡ true → Holds Good c) → Holds Good ((keep from a x >> keep from b y) >> c)
held_second from a b true y c h = holds_kept Good from b y c h
held_second from a b false y c h = tt

global_good : (tags : List (List ℕ)) (p : Program) (from : ℕ) (name : List ℕ) (t : CType) (r : Rest) → Good p → Holds Good (global tags p from name t r)
global_good tags p from name t r g =
    holds_after Good (complete (extents (at_file tags p)) from t) _ (held_second from 19 1 (not (is_reserved name)) (not (is_some (meaning_in name p.names))) _ (λ free.
    holds_on Good (heard (global_value tags (record p { names = (name, GlobalNamed (length p.globals) t) ∷ p.names }) from t r)) _
    (λ x. all_still p.functions p.names name (GlobalNamed (length p.globals) t) (none_there (meaning_in name p.names) free) g)))

-- ---- declarations

struct_good : (tags : List (List ℕ)) (p : Program) (from : ℕ) (tag : List ℕ) (ds : Decls) → Good p → Holds Good (struct_defined tags p from tag ds)
struct_good tags p from tag ds g = search (holds_after, holds_on, g)

either_good : (tags : List (List ℕ)) (p : Program) (from : ℕ) (name : List ℕ) (t : CType) (ps : Parts) (r : Rest) → Good p → Holds Good (function_or_global tags p from name t ps r)
either_good tags p from name (FunctionOf t ts) ps r g = function_good tags p from name (FunctionOf t ts) ps r g
either_good tags p from name Void ps r g = global_good tags p from name Void r g
either_good tags p from name (Integer k) ps r g = global_good tags p from name (Integer k) r g
either_good tags p from name (PointerTo t) ps r g = global_good tags p from name (PointerTo t) r g
either_good tags p from name (ArrayOf n t) ps r g = global_good tags p from name (ArrayOf n t) r g
either_good tags p from name (StructOf n) ps r g = global_good tags p from name (StructOf n) r g
either_good tags p from name (UndefinedStruct tag) ps r g = global_good tags p from name (UndefinedStruct tag) r g

-- what is declared by a declarator
abbrev declares : List (List ℕ) → Program → (from : ℕ) → Annots → Base → Parts → Option (List ℕ) → Rest → Checked Program
declares tags p from an b ps n r =
    annotation_types an (at_file tags p) >> (declared_type (Declare from an b ps n r) (at_file tags p) >>= (λ t. function_or_global tags p from (declared_name n) t ps r))

declares_good : (tags : List (List ℕ)) (p : Program) (from : ℕ) (an : Annots) (b : Base) (ps : Parts) (n : Option (List ℕ)) (r : Rest) → Good p → Holds Good (declares tags p from an b ps n r)
declares_good tags p from an b ps n r g =
    holds_after Good (annotation_types an (at_file tags p)) (declared_type (Declare from an b ps n r) (at_file tags p) >>= (λ t. function_or_global tags p from (declared_name n) t ps r))
    (holds_on Good (declared_type (Declare from an b ps n r) (at_file tags p)) _ (λ t. either_good tags p from (declared_name n) t ps r g))

declaration_good : (tags : List (List ℕ)) (p : Program) (d : Decl) → Good p → Holds Good (declaration tags p d)
declaration_good tags p (Declare from an (bases.Struct tag) ps n (Members ds)) g = struct_good tags p from tag ds g
declaration_good tags p (Declare from an (bases.Struct tag) ps n NoRest) g = declares_good tags p from an (bases.Struct tag) ps n NoRest g
declaration_good tags p (Declare from an (bases.Struct tag) ps n (Initial v)) g = declares_good tags p from an (bases.Struct tag) ps n (Initial v) g
declaration_good tags p (Declare from an (bases.Struct tag) ps n (Body s)) g = declares_good tags p from an (bases.Struct tag) ps n (Body s) g
declaration_good tags p (Declare from an bases.Void ps n r) g = declares_good tags p from an bases.Void ps n r g
declaration_good tags p (Declare from an (bases.Int bytes signed) ps n r) g = declares_good tags p from an (bases.Int bytes signed) ps n r g

declarations_good : (tags : List (List ℕ)) (ds : Decls) (p : Program) → Good p → Holds Good (declarations tags p ds)
declarations_good tags NoDecls p g = g
declarations_good tags (MoreDecls d ds) p g = holds_then Good Good (declaration tags p d) (λ q. declarations tags q ds) (declaration_good tags p d g) (λ q h. declarations_good tags ds q h)

-- ---- sources

-- each function is found by its name, and one is `main` and has a body
record IsGoodSource (p : Program) : Type 0 where
  found : Good p
  main_there : has_main p.functions ≡ true

nothing_good : Good nothing
nothing_good i f e = absurd (none i f e)
  where
    none : (i : ℕ) (f : Function) → slice_get {X = Function} [] i ≡ Some f → ⊥
    none i f e = cc

source_good : (ds : Decls) → Holds IsGoodSource (program ds)
source_good ds =
    holds_then Good IsGoodSource (declarations (tags_of ds) nothing ds) _ (declarations_good (tags_of ds) ds nothing nothing_good)
    (λ p g. holds_kept IsGoodSource 0 18 (has_main p.functions) (Fine p) (λ e. record { found = g; main_there = e }))

within_limits : (q p : Program) (w : Option Which) → IsGoodSource q → unless q w ≡ Typed p → IsGoodSource p
within_limits q p None h e = let is : q ≡ p = cc in subst IsGoodSource is h
within_limits q p (Some w) h e = absurd cc

decided_good : (c : Checked Program) (p : Program) → Holds IsGoodSource c → decided c ≡ Typed p → IsGoodSource p
decided_good (Fine q) p h e = within_limits q p (first_limit true q) h e
decided_good (Noted notes q) p h e = within_limits q p (first_limit (not notes.large) q) h e
decided_good (Broken from rule) p h e = absurd cc

-- ---- main

abbrev is_main : Function → Bool
is_main f = same_name f.name main

-- a function `main`, and its place
record IsMainAt (fs : List Function) (place : ℕ) (f : Function) : Type 0 where
  at : slice_get fs place ≡ Some f
  is : is_main f ≡ true

later : (fs : List Function) (g : Function) (place : ℕ) (f : Function) → IsMainAt fs place f → IsMainAt (g ∷ fs) (suc place) f
later fs g place f h = record { at = h.at; is = h.is }

-- a function `main`, with its place, of which something holds
abbrev AMain : List Function → (Function → Type 0) → Type 0
AMain fs Q = (place : ℕ) × (f : Function) × IsMainAt fs place f × Q f

one_later : (fs : List Function) (g : Function) (Q : Function → Type 0) → AMain fs Q → AMain (g ∷ fs) Q
one_later fs g Q (place, f, there, q) = (suc place, f, later fs g place f there, q)

abbrev HasBody : Function → Type 0
HasBody f = is_some f.body ≡ true

with_a_body : (fs : List Function) → has_main fs ≡ true → AMain fs HasBody
with_a_body [] h = absurd cc
with_a_body (f ∷ fs) h = by (same_name f.name main) (is_some f.body) refl refl h (λ k. with_a_body fs k)
  where
    by : (b d : Bool) → same_name f.name main ≡ b → is_some f.body ≡ d → ((b && d) || has_main fs) ≡ true → (has_main fs ≡ true → AMain fs HasBody) → AMain (f ∷ fs) HasBody
    by true true e body k rest = (zero, f, record { at = refl; is = e }, body)
    by true false e body k rest = one_later fs f HasBody (rest k)
    by false d e body k rest = one_later fs f HasBody (rest k)

-- the first one
abbrev FirstMain : List Function → Type 0
FirstMain fs = (g : Function) × IsMainAt fs (position_or_len is_main fs) g

first_main : (fs : List Function) (place : ℕ) (f : Function) → IsMainAt fs place f → FirstMain fs
first_main [] place f h = let none : None ≡ Some f = h.at in absurd cc
first_main (x ∷ fs) place f h = by (is_main x) refl place h (λ k there. first_main fs k f there)
  where
    by : (b : Bool) → is_main x ≡ b → (place : ℕ) → IsMainAt (x ∷ fs) place f → ((k : ℕ) → IsMainAt fs k f → FirstMain fs) → (g : Function) × IsMainAt (x ∷ fs) (cond (not b) (1 + position_or_len is_main fs) 0) g
    by true e place h rest = (x, record { at = refl; is = e })
    by false e zero h rest =
        let same : x ≡ f = same_Some x f h.at in
        let never : false ≡ true = sym e ∙ (ap is_main same ∙ h.is) in
        absurd cc
    by false e (suc place) h rest =
        let (g, there) = rest place (record { at = h.at; is = h.is }) in
        let one_more : suc (position_or_len is_main fs) ≡ 1 + position_or_len is_main fs = omega arith in
        (g, subst (λ k. IsMainAt (x ∷ fs) k g) one_more (later fs x (position_or_len is_main fs) g there))

-- two functions `main` are one
one_main : (p : Program) → Good p → (i j : ℕ) (f g : Function) → IsMainAt p.functions i f → IsMainAt p.functions j g → f ≡ g
one_main p good i j f g h k =
    let a = good i f h.at in
    let b = good j g k.at in
    let same : f.name ≡ g.name = same_names f.name main h.is ∙ sym (same_names g.name main k.is) in
    let both : Some (FunctionNamed (i + first_source_function) a.type) ≡ Some (FunctionNamed (j + first_source_function) b.type) = sym a.means ∙ (ap (λ n. meaning_in n p.names) same ∙ b.means) in
    let numbers : i + first_source_function ≡ j + first_source_function = cc in
    let places : i ≡ j = omega (arith, numbers) in
    same_Some f g (sym h.at ∙ (ap (slice_get p.functions) places ∙ k.at))

good_main : (p : Program) → IsGoodSource p → (f : Function) × (slice_get p.functions (position_or_len is_main p.functions) ≡ Some f) × (is_some f.body ≡ true)
good_main p h =
    let (place, f, there, body) = with_a_body p.functions h.main_there in
    let (g, first) = first_main p.functions place f there in
    let same : f ≡ g = one_main p h.found place (position_or_len is_main p.functions) f g there first in
    (g, first.at, ap (λ (x : Function). is_some x.body) (sym same) ∙ body)

-- the first function that is named `main` has a body
pub main_has_a_body : (ds : Decls) (p : Program) → outcome ds ≡ Typed p → (f : Function) × (slice_get p.functions (position_or_len is_main p.functions) ≡ Some f) × (is_some f.body ≡ true)
main_has_a_body ds p e = good_main p (decided_good (program ds) p (source_good ds) e)
