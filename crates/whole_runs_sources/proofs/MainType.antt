-- In a typed source a function `main` that has a body is of the type of `main`.
use Rattle.std.proofs.Common.{◌≡◌, ◌⊎◌, inl, inr, ℕ, zero, suc, ◌+◌, ◌-◌, Bool, true, false, ◌||◌, cond, List, [], ◌∷◌, ◌++◌, length, Option, Some, None, refl, sym, ap, ◌∙◌, subst, arith, ⊎_elim}
use Rattle.std.specs.Prelude.{is_some, nat_le, not, slice_get}
use Rattle.std.proofs.lemmas.Option.{same_Some}
use Rattle.std.proofs.lemmas.Slice.Eq.{bytes_eq-Decides}
use Rattle.source_limits.specs.Limits.{greatest_object}
use Rattle.c_syntax.specs.declared.declaration.Base.TheVariants as bases
use Rattle.c_syntax.specs.declared.declaration.Base.{Base}
use Rattle.c_syntax.specs.Syntax.{Annots, Decl, Decls, Parts, Rest, Declare, NoDecls, MoreDecls, NoRest, Initial, Body, Members}
use Rattle.c_builtins.specs.Table.{first_source_function}
use Rattle.c_scopes.specs.Scopes.{Scope, meaning_in, same_name}
use Rattle.c_types_model.specs.Types.{CType, Void, Integer, PointerTo, ArrayOf, StructOf, UndefinedStruct, FunctionOf}
use Rattle.c_types_model.specs.Layouts.{struct_of}
use Rattle.c_types_model.specs.declared.extent.Extent.{Extent}
use Rattle.c_types_rules.specs.Checked.{Checked, Fine, Noted, Broken, heard, keep, small, ◌>>=◌, ◌>>◌}
use Rattle.c_types_rules.specs.TypeTests.{same_type}
use Rattle.c_types_rules.specs.TypedTree as typed
use Rattle.c_types_rules.specs.Environment.{Meaning, FunctionNamed, GlobalNamed, LocalNamed, declarable, extents, is_reserved, place_in}
use Rattle.c_types_rules.specs.Expressions.{annotation_types, complete, declared_name, declared_type}
use Rattle.c_types_rules.specs.Limits.{Which, Typed, decided, first_limit, outcome, unless}
use Rattle.c_types_rules.specs.Sources.{Function, Program, at_file, body_at, body_of, declaration, declarations, declared_again, extents_of, function, function_declared, function_or_global, function_rest, global, global_value, has_main, is_main, is_next, main, main_type, members_from, nothing, program, struct_defined, tags_of, with_body}
use Rattle.c_semantics.proofs.TypedReturns.{Holds, holds_then, holds_on, holds_after, holds_kept}
use Rattle.c_lower_layout.proofs.Numbers.{equal}

-- a function of this name and type stands at the place of the number
record IsAt (fs : List Function) (name : List ℕ) (number : ℕ) (t : CType) : Type 0 where
  function : Function
  there : slice_get fs (number - first_source_function) ≡ Some function
  named : function.name ≡ name
  typed : function.type ≡ t

-- each name of a function is that of one of these
abbrev Named : List Function → Scope Meaning → Type 0
Named fs names = (name : List ℕ) (number : ℕ) (t : CType) → meaning_in name names ≡ Some (FunctionNamed number t) → IsAt fs name number t

-- one that is named `main` has its type, if it has a body
abbrev MainsAre : List Function → Type 0
MainsAre fs = (i : ℕ) (f : Function) → slice_get fs i ≡ Some f → f.name ≡ main → is_some f.body ≡ true → f.type ≡ main_type

record Good (p : Program) : Type 0 where
  named : Named p.functions p.names
  mains : MainsAre p.functions

-- ---- lists of functions

kept_at : {A : Type 0} (xs : List A) (y x : A) (i : ℕ) → slice_get xs i ≡ Some x → slice_get (xs ++ y ∷ []) i ≡ Some x
kept_at [] y x i e = absurd cc
kept_at (z ∷ xs) y x zero e = e
kept_at (z ∷ xs) y x (suc i) e = kept_at xs y x i e

last_at : {A : Type 0} (xs : List A) (y : A) → slice_get (xs ++ y ∷ []) (length xs) ≡ Some y
last_at [] y = refl
last_at (x ∷ xs) y = last_at xs y

more_has : {A : Type 0} (xs : List A) (y x : A) (i : ℕ) → slice_get (xs ++ y ∷ []) i ≡ Some x → (slice_get xs i ≡ Some x) ⊎ (y ≡ x)
more_has [] y x zero e = inr (same_Some y x e)
more_has [] y x (suc i) e = absurd cc
more_has (z ∷ xs) y x zero e = inl e
more_has (z ∷ xs) y x (suc i) e = more_has xs y x i e

-- a function is as before, or is the one that gets its body
given_is : (fs : List Function) (place : ℕ) (b : typed.Body) (i : ℕ) (x : Function) → slice_get (with_body fs place b) i ≡ Some x →
    (slice_get fs i ≡ Some x) ⊎ ((f : Function) × (slice_get fs place ≡ Some f) × (f.name ≡ x.name) × (f.type ≡ x.type))
given_is [] place b i x e = absurd cc
given_is (f ∷ fs) zero b zero x e =
    let is : record f { body = Some b } ≡ x = same_Some (record f { body = Some b }) x e in
    inr (f, refl, ap (λ (g : Function). g.name) is, ap (λ (g : Function). g.type) is)
given_is (f ∷ fs) zero b (suc i) x e = inl e
given_is (f ∷ fs) (suc place) b zero x e = inl e
given_is (f ∷ fs) (suc place) b (suc i) x e = given_is fs place b i x e

-- it keeps its name and type
with_has : (fs : List Function) (place : ℕ) (b : typed.Body) (i : ℕ) (f : Function) → slice_get fs i ≡ Some f →
    (x : Function) × (slice_get (with_body fs place b) i ≡ Some x) × (x.name ≡ f.name) × (x.type ≡ f.type)
with_has [] place b i f e = absurd cc
with_has (g ∷ fs) zero b zero f e =
    let is : g ≡ f = same_Some g f e in
    (record g { body = Some b }, refl, ap (λ (h : Function). h.name) is, ap (λ (h : Function). h.type) is)
with_has (g ∷ fs) zero b (suc i) f e = (f, e, refl, refl)
with_has (g ∷ fs) (suc place) b zero f e = (f, e, refl, refl)
with_has (g ∷ fs) (suc place) b (suc i) f e = with_has fs place b i f e

same_names : (a b : List ℕ) → same_name a b ≡ true → a ≡ b
same_names a b e = (bytes_eq-Decides a b).0 e

name_is : (a b : List ℕ) → a ≡ b → same_name a b ≡ true
name_is a b e = (bytes_eq-Decides a b).1 e

-- ---- functions

-- a number was found for the name and type
record Numbered (name : List ℕ) (t : CType) (a : ℕ × Program) : Type 0 where
  good : Good a.1
  at : IsAt a.1.functions name a.0 t

abbrev bare : List ℕ → CType → Function
bare name t = record { name = name; type = t; body = None }

abbrev with_function : Program → List ℕ → CType → Program
with_function p name t = record p { functions = p.functions ++ bare name t ∷ []; names = (name, FunctionNamed (length p.functions + first_source_function) t) ∷ p.names }

function_names : (a : ℕ) (t : CType) (b : ℕ) (u : CType) → FunctionNamed a t ≡ FunctionNamed b u → (a ≡ b) × (t ≡ u)
function_names a t b u e = (cc, cc)

no_global : (place : ℕ) (t : CType) (b : ℕ) (u : CType) → GlobalNamed place t ≡ FunctionNamed b u → ⊥
no_global place t b u e = cc

module _ (p : Program) (name : List ℕ) (t : CType) (g : Good p) where
  abbrev more : List Function
  more = p.functions ++ bare name t ∷ []

  number_is : length p.functions + first_source_function - first_source_function ≡ length p.functions
  number_is = omega arith

  new_at : IsAt more name (length p.functions + first_source_function) t
  new_at = record {
    function = bare name t;
    there = ap (slice_get more) number_is ∙ last_at p.functions (bare name t);
    named = refl;
    typed = refl;
  }

  old_at : (other : List ℕ) (number : ℕ) (u : CType) → IsAt p.functions other number u → IsAt more other number u
  old_at other number u h = record { function = h.function; there = kept_at p.functions (bare name t) h.function (number - first_source_function) h.there; named = h.named; typed = h.typed }

  more_named : Named more ((name, FunctionNamed (length p.functions + first_source_function) t) ∷ p.names)
  more_named other number u e = by (same_name other name) refl e
    where
      m : Meaning
      m = FunctionNamed (length p.functions + first_source_function) t

      by : (b : Bool) → same_name other name ≡ b → cond b (Some m) (meaning_in other p.names) ≡ Some (FunctionNamed number u) → IsAt more other number u
      by true same k =
          let is = function_names (length p.functions + first_source_function) t number u (same_Some m (FunctionNamed number u) k) in
          subst (λ (x : CType). IsAt more other number x) is.1
          (subst (λ (n : ℕ). IsAt more other n t) is.0
          (subst (λ (x : List ℕ). IsAt more x (length p.functions + first_source_function) t) (sym (same_names other name same)) new_at))
      by false same k = old_at other number u (g.named other number u k)

  more_mains : MainsAre more
  more_mains i f e is body =
      ⊎_elim (λ old. g.mains i f old is body)
      (λ (new : bare name t ≡ f). let none : is_some (bare name t).body ≡ true = ap (λ (x : Function). is_some x.body) new ∙ body in absurd cc)
      (more_has p.functions (bare name t) f i e)

  with_function_good : Numbered name t (length p.functions + first_source_function, with_function p name t)
  with_function_good = record { good = record { named = more_named; mains = more_mains }; at = new_at }

again_good : (p : Program) (from : ℕ) (t : CType) (o : Option Meaning) (name : List ℕ) → meaning_in name p.names ≡ o → Good p → Holds (Numbered name t) (declared_again p from t o name)
again_good p from t (Some (FunctionNamed number u)) name e g =
    holds_kept (Numbered name t) from 1 (same_type t u) (Fine (number, p))
    (λ same. record { good = g; at = subst (λ (x : CType). IsAt p.functions name number x) (sym (equal t u same)) (g.named name number u e) })
again_good p from t (Some (GlobalNamed place u)) name e g = tt
again_good p from t (Some (LocalNamed place u)) name e g = tt
again_good p from t None name e g = with_function_good p name t g

declared_good : (p : Program) (from : ℕ) (t : CType) (name : List ℕ) → Good p → Holds (Numbered name t) (function_declared p from t name)
declared_good p from t name g =
    holds_after (Numbered name t) (keep from 19 (not (is_reserved name))) (declared_again p from t (meaning_in name p.names) name) (again_good p from t (meaning_in name p.names) name refl g)

-- what is kept of a function that gets its body
main_is : (name : List ℕ) (t : CType) → is_main name t ≡ true → name ≡ main → t ≡ main_type
main_is name t e is = by (same_name name main) (same_type t main_type) refl (name_is name main is) refl e
  where
    by : (b d : Bool) → same_name name main ≡ b → b ≡ true → same_type t main_type ≡ d → (not b || d) ≡ true → t ≡ main_type
    by true true k o s h = equal t main_type s
    by true false k o s h = absurd cc
    by false d k o s h = absurd cc

defined_good : (p : Program) (number : ℕ) (name : List ℕ) (t : CType) (b : typed.Body) → is_main name t ≡ true → Good p → IsAt p.functions name number t →
    Good (record p { functions = with_body p.functions (number - first_source_function) b })
defined_good p number name t b kept g at = record { named = all; mains = mains_are }
  where
    place : ℕ
    place = number - first_source_function

    all : Named (with_body p.functions (number - first_source_function) b) p.names
    all other n u e =
        let h = g.named other n u e in
        let (x, there, named, typed) = with_has p.functions (number - first_source_function) b (n - first_source_function) h.function h.there in
        record { function = x; there = there; named = named ∙ h.named; typed = typed ∙ h.typed }

    mains_are : MainsAre (with_body p.functions (number - first_source_function) b)
    mains_are i x e is body =
        ⊎_elim (λ old. g.mains i x old is body)
        (λ (new : (f : Function) × (slice_get p.functions (number - first_source_function) ≡ Some f) × (f.name ≡ x.name) × (f.type ≡ x.type)).
        let same : new.0 ≡ at.function = same_Some new.0 at.function (sym new.1 ∙ at.there) in
        let name_here : name ≡ main = sym at.named ∙ (ap (λ (f : Function). f.name) (sym same) ∙ (new.2 ∙ is)) in
        let type_here : x.type ≡ t = sym new.3 ∙ (ap (λ (f : Function). f.type) same ∙ at.typed) in
        type_here ∙ main_is name t kept name_here)
        (given_is p.functions (number - first_source_function) b i x e)

rest_good : (tags : List (List ℕ)) (a : ℕ × Program) (from : ℕ) (name : List ℕ) (t : CType) (ps : Parts) (r : Rest) → Numbered name t a →
    Holds Good (function_rest tags a.1 from (a.0 - first_source_function) name t ps r)
rest_good tags a from name t ps NoRest h = h.good
rest_good tags a from name t ps (Initial v) h = tt
rest_good tags a from name t ps (Body s) h =
    let p = a.1 in
    let place = a.0 - first_source_function in
    let last : Checked Program = body_of (at_file tags p) t ps s >>= (λ b. Fine (record p { functions = with_body p.functions place b })) in
    holds_after Good (keep from 21 (not (is_some (body_at p.functions place)))) (keep from 18 (is_main name t) >> last)
    (holds_kept Good from 18 (is_main name t) last (λ kept.
    holds_on Good (body_of (at_file tags p) t ps s) _ (λ b. defined_good p a.0 name t b kept h.good h.at)))
rest_good tags a from name t ps (Members ds) h = tt

function_good : (tags : List (List ℕ)) (p : Program) (from : ℕ) (name : List ℕ) (t : CType) (ps : Parts) (r : Rest) → Good p → Holds Good (function tags p from name t ps r)
function_good tags p from name t ps r g =
    holds_then (Numbered name t) Good (function_declared p from t name) (λ a. function_rest tags a.1 from (a.0 - first_source_function) name t ps r) (declared_good p from t name g)
    (λ a h. rest_good tags a from name t ps r h)

-- ---- globals

with_global : (p : Program) (name : List ℕ) (place : ℕ) (t : CType) → Good p → Named p.functions ((name, GlobalNamed place t) ∷ p.names)
with_global p name place t g other number u e = by (same_name other name) e
  where
    by : (b : Bool) → cond b (Some (GlobalNamed place t)) (meaning_in other p.names) ≡ Some (FunctionNamed number u) → IsAt p.functions other number u
    by true k = absurd (no_global place t number u (same_Some (GlobalNamed place t) (FunctionNamed number u) k))
    by false k = g.named other number u k

global_good : (tags : List (List ℕ)) (p : Program) (from : ℕ) (name : List ℕ) (t : CType) (r : Rest) → Good p → Holds Good (global tags p from name t r)
global_good tags p from name t r g =
    holds_after Good (complete (extents (at_file tags p)) from t) _ (holds_after Good (declarable (at_file tags p) from name) _
    (holds_on Good (heard (global_value tags (record p { names = (name, GlobalNamed (length p.globals) t) ∷ p.names }) from t r)) _
    (λ x. record { named = with_global p name (length p.globals) t g; mains = g.mains })))

-- ---- declarations

struct_good : (tags : List (List ℕ)) (p : Program) (from : ℕ) (tag : List ℕ) (ds : Decls) → Good p → Holds Good (struct_defined tags p from tag ds)
struct_good tags p from tag ds g =
    let extent : List (List ℕ × CType) → Extent = λ ms. struct_of (extents_of (extents (at_file tags p)) ms) in
    holds_after Good (keep from 19 (not (is_reserved tag))) _ (holds_after Good (keep from 1 (is_next (length p.structs) (place_in tag tags))) _
    (holds_on Good (members_from (at_file tags p) [] ds) _
    (λ ms. holds_after Good (small (nat_le (extent ms).size greatest_object)) (Fine (record p { structs = p.structs ++ record { members = ms; extent = extent ms } ∷ [] }))
    (record { named = g.named; mains = g.mains }))))

either_good : (tags : List (List ℕ)) (p : Program) (from : ℕ) (name : List ℕ) (t : CType) (ps : Parts) (r : Rest) → Good p → Holds Good (function_or_global tags p from name t ps r)
either_good tags p from name (FunctionOf t ts) ps r g = function_good tags p from name (FunctionOf t ts) ps r g
either_good tags p from name Void ps r g = global_good tags p from name Void r g
either_good tags p from name (Integer k) ps r g = global_good tags p from name (Integer k) r g
either_good tags p from name (PointerTo t) ps r g = global_good tags p from name (PointerTo t) r g
either_good tags p from name (ArrayOf n t) ps r g = global_good tags p from name (ArrayOf n t) r g
either_good tags p from name (StructOf n) ps r g = global_good tags p from name (StructOf n) r g
either_good tags p from name (UndefinedStruct tag) ps r g = global_good tags p from name (UndefinedStruct tag) r g

-- what is declared by a declarator
abbrev declares : List (List ℕ) → Program → (from : ℕ) → Annots → Base → Parts → Option (List ℕ) → Rest → Checked Program
declares tags p from an b ps n r =
    annotation_types an (at_file tags p) >> (declared_type (Declare from an b ps n r) (at_file tags p) >>= (λ t. function_or_global tags p from (declared_name n) t ps r))

declares_good : (tags : List (List ℕ)) (p : Program) (from : ℕ) (an : Annots) (b : Base) (ps : Parts) (n : Option (List ℕ)) (r : Rest) → Good p → Holds Good (declares tags p from an b ps n r)
declares_good tags p from an b ps n r g =
    holds_after Good (annotation_types an (at_file tags p)) (declared_type (Declare from an b ps n r) (at_file tags p) >>= (λ t. function_or_global tags p from (declared_name n) t ps r))
    (holds_on Good (declared_type (Declare from an b ps n r) (at_file tags p)) _ (λ t. either_good tags p from (declared_name n) t ps r g))

declaration_good : (tags : List (List ℕ)) (p : Program) (d : Decl) → Good p → Holds Good (declaration tags p d)
declaration_good tags p (Declare from an (bases.Struct tag) ps n (Members ds)) g = struct_good tags p from tag ds g
declaration_good tags p (Declare from an (bases.Struct tag) ps n NoRest) g = declares_good tags p from an (bases.Struct tag) ps n NoRest g
declaration_good tags p (Declare from an (bases.Struct tag) ps n (Initial v)) g = declares_good tags p from an (bases.Struct tag) ps n (Initial v) g
declaration_good tags p (Declare from an (bases.Struct tag) ps n (Body s)) g = declares_good tags p from an (bases.Struct tag) ps n (Body s) g
declaration_good tags p (Declare from an bases.Void ps n r) g = declares_good tags p from an bases.Void ps n r g
declaration_good tags p (Declare from an (bases.Int bytes signed) ps n r) g = declares_good tags p from an (bases.Int bytes signed) ps n r g

declarations_good : (tags : List (List ℕ)) (ds : Decls) (p : Program) → Good p → Holds Good (declarations tags p ds)
declarations_good tags NoDecls p g = g
declarations_good tags (MoreDecls d ds) p g = holds_then Good Good (declaration tags p d) (λ q. declarations tags q ds) (declaration_good tags p d g) (λ q h. declarations_good tags ds q h)

nothing_good : Good nothing
nothing_good = record { named = λ name number t e. absurd (no_name name number t e); mains = λ i f e. absurd (no_function i f e) }
  where
    no_name : (name : List ℕ) (number : ℕ) (t : CType) → meaning_in {V = Meaning} name [] ≡ Some (FunctionNamed number t) → ⊥
    no_name name number t e = cc

    no_function : (i : ℕ) (f : Function) → slice_get {X = Function} [] i ≡ Some f → ⊥
    no_function i f e = cc

source_good : (ds : Decls) → Holds Good (program ds)
source_good ds =
    holds_then Good Good (declarations (tags_of ds) nothing ds) _ (declarations_good (tags_of ds) ds nothing nothing_good)
    (λ p g. holds_after Good (keep 0 18 (has_main p.functions)) (Fine p) g)

within_limits : (q p : Program) (w : Option Which) → Good q → unless q w ≡ Typed p → Good p
within_limits q p None h e = let is : q ≡ p = cc in subst Good is h
within_limits q p (Some w) h e = absurd cc

decided_good : (c : Checked Program) (p : Program) → Holds Good c → decided c ≡ Typed p → Good p
decided_good (Fine q) p h e = within_limits q p (first_limit true q) h e
decided_good (Noted notes q) p h e = within_limits q p (first_limit (not notes.large) q) h e
decided_good (Broken from rule) p h e = absurd cc

-- a function `main` that has a body has its type
pub main_typed : (ds : Decls) (p : Program) → outcome ds ≡ Typed p → (i : ℕ) (f : Function) → slice_get p.functions i ≡ Some f → f.name ≡ main → is_some f.body ≡ true → f.type ≡ main_type
main_typed ds p e = (decided_good (program ds) p (source_good ds) e).mains
