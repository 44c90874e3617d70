-- What the declarations of a typed source do to its names and to the types of its functions.
use Rattle.std.proofs.Common.{◌≡◌, ℕ, zero, suc, ◌+◌, ◌-◌, Bool, true, false, cond, not, List, [], ◌∷◌, ◌++◌, length, length-append, map, Option, Some, None, refl, sym, ap, ◌∙◌}
use Rattle.std.specs.Prelude.{is_some, slice_get}
use Rattle.std.proofs.lemmas.Slice.Eq.{bytes_eq-Decides}
use Rattle.c_syntax.specs.declared.declaration.Base.{Base}
use Rattle.c_syntax.specs.declared.declaration.Base.TheVariants as bases
use Rattle.c_syntax.specs.Syntax.{Decl, Decls, Annots, Parts, Rest, Declare, NoDecls, MoreDecls, NoParts, Pointer, Array, Params, NoRest, Initial, Body, Members}
use Rattle.c_builtins.specs.Table.{first_source_function}
use Rattle.c_scopes.specs.Scopes.{meaning_in, same_name}
use Rattle.c_types_model.specs.Types.{CType, CTypes, Void, Integer, PointerTo, ArrayOf, StructOf, UndefinedStruct, FunctionOf}
use Rattle.c_types_rules.specs.Checked.{Checked, Fine, Noted, Broken, heard, keep, small, unevaluated, ◌>>=◌, ◌>>◌}
use Rattle.c_types_rules.specs.Constants.{integer_constant}
use Rattle.c_types_rules.specs.TypedTree as typed
use Rattle.c_types_rules.specs.TypeTests.{is_function, is_result, same_type}
use Rattle.c_types_rules.specs.Environment.{Environment, Meaning, FunctionNamed, GlobalNamed, LocalNamed, base_type, extents, inner, is_reserved, place_in, struct_type}
use Rattle.c_types_rules.specs.Expressions.{annotation_types, complete, declarator_type, declared_name, declared_type, expression, is_small, length_of, parameter_scope, parameter_type, parameter_types}
use Rattle.c_types_rules.specs.Sources.{Function, Program, at_file, body_at, body_of, declaration, declarations, declared_again, function, function_declared, function_or_global, function_rest, global, global_value, is_main, struct_defined, with_body}
use Rattle.annot_reader_rules.specs.Functions.{own_parameters}
use Rattle.c_lower_laws.proofs.Held.{Holds, holds_then, holds_on, holds_after}
use Rattle.front_end_laws.proofs.Rules.{Enough}

-- ---- declared parameters and types

-- there is a declaration for each parameter of a function's type
abbrev pub EnoughFor : Decls → CType → Type 0
EnoughFor ds (FunctionOf r ts) = Enough ds ts
EnoughFor ds Void = Unit {0}
EnoughFor ds (Integer k) = Unit {0}
EnoughFor ds (PointerTo t) = Unit {0}
EnoughFor ds (ArrayOf n t) = Unit {0}
EnoughFor ds (StructOf n) = Unit {0}
EnoughFor ds (UndefinedStruct tag) = Unit {0}

parameters_enough : (ds : Decls) (env : Environment) (place : ℕ) → Holds (Enough ds) (parameter_types ds env place)
parameters_enough NoDecls env place = tt
parameters_enough (MoreDecls d ds) env place =
    holds_on (Enough (MoreDecls d ds)) (parameter_type d env) _ (λ t. holds_on (Enough (MoreDecls d ds)) (parameter_scope d env place t) _
    (λ within. holds_then (Enough ds) (Enough (MoreDecls d ds)) (parameter_types ds within (place + 1)) _ (parameters_enough ds within (place + 1)) (λ ts h. h)))

-- a declarator that has no part declares what is no function
abbrev Starts : Parts → CType → Type 0
Starts NoParts t = is_function t ≡ false
Starts (Pointer from ps) t = Unit {0}
Starts (Array from x ps) t = Unit {0}
Starts (Params from ds ps) t = Unit {0}

no_function : (t : CType) → is_function t ≡ false → EnoughFor NoDecls t
no_function Void e = tt
no_function (Integer k) e = tt
no_function (PointerTo t) e = tt
no_function (ArrayOf n t) e = tt
no_function (StructOf n) e = tt
no_function (UndefinedStruct tag) e = tt
no_function (FunctionOf r ts) e = absurd cc

-- what follows a pointer or an array, whatever it is
starts_after : (ps : Parts) (t : CType) → is_function t ≡ false → Starts ps t
starts_after NoParts t e = e
starts_after (Pointer from ps) t e = tt
starts_after (Array from x ps) t e = tt
starts_after (Params from ds ps) t e = tt

declarator_enough : (ps : Parts) (env : Environment) (t : CType) → Starts ps t → Holds (EnoughFor (own_parameters ps)) (declarator_type ps env t)
declarator_enough NoParts env t h = no_function t h
declarator_enough (Pointer from ps) env t h =
    holds_after (EnoughFor (own_parameters ps)) (small (is_small (extents env) t)) _ (declarator_enough ps env (PointerTo t) (starts_after ps (PointerTo t) refl))
declarator_enough (Array from x ps) env t h =
    let whole : CType → Type 0 = EnoughFor (own_parameters ps) in
    holds_after whole (complete (extents env) from t) _ (holds_after whole (small (is_small (extents env) t)) _ (holds_on whole (expression x env) _
    (λ a. holds_after whole (unevaluated a) _ (holds_on whole (length_of from (integer_constant (typed.value_of a))) _
    (λ n. declarator_enough ps env (ArrayOf n t) (starts_after ps (ArrayOf n t) refl))))))
declarator_enough (Params from ds NoParts) env t h =
    holds_after (EnoughFor ds) (keep from 3 (is_result t)) _ (holds_then (Enough ds) (EnoughFor ds) (parameter_types ds (inner env) 0) _ (parameters_enough ds (inner env) 0) (λ ts k. k))
declarator_enough (Params from ds (Pointer f qs)) env t h =
    let whole : CType → Type 0 = EnoughFor (own_parameters qs) in
    holds_after whole (keep from 3 (is_result t)) _ (holds_on whole (parameter_types ds (inner env) 0) _ (λ ts. declarator_enough (Pointer f qs) env (FunctionOf t ts) tt))
declarator_enough (Params from ds (Array f x qs)) env t h =
    let whole : CType → Type 0 = EnoughFor (own_parameters qs) in
    holds_after whole (keep from 3 (is_result t)) _ (holds_on whole (parameter_types ds (inner env) 0) _ (λ ts. declarator_enough (Array f x qs) env (FunctionOf t ts) tt))
declarator_enough (Params from ds (Params f es qs)) env t h =
    let whole : CType → Type 0 = EnoughFor (own_parameters (Params f es qs)) in
    holds_after whole (keep from 3 (is_result t)) _ (holds_on whole (parameter_types ds (inner env) 0) _ (λ ts. declarator_enough (Params f es qs) env (FunctionOf t ts) tt))

base_is_none : (env : Environment) (b : Base) → is_function (base_type env b) ≡ false
base_is_none env bases.Void = refl
base_is_none env (bases.Int bytes signed) = refl
base_is_none env (bases.Struct tag) = by (place_in tag env.tags)
  where
    by : (o : Option ℕ) → is_function (struct_type tag o) ≡ false
    by (Some number) = refl
    by None = refl

declared_enough : (env : Environment) (from : ℕ) (an : Annots) (b : Base) (ps : Parts) (n : Option (List ℕ)) (r : Rest) →
    Holds (EnoughFor (own_parameters ps)) (declared_type (Declare from an b ps n r) env)
declared_enough env from an b ps n r =
    holds_then (EnoughFor (own_parameters ps)) (EnoughFor (own_parameters ps)) (declarator_type ps env (base_type env b)) _
    (declarator_enough ps env (base_type env b) (starts_after ps (base_type env b) (base_is_none env b)))
    (λ t h. holds_after (EnoughFor (own_parameters ps)) (small (is_small (extents env) t)) (Fine t) h)

-- ---- what a declaration does

-- the types of the functions so far, by number less that of the first
abbrev pub types : Program → List CType
types p = map (λ f. f.type) p.functions

-- the names and the types of functions are the same, and there are as many globals
pub record Same (p q : Program) : Type 0 where
  pub names : q.names ≡ p.names
  pub types : types q ≡ types p
  pub globals : length q.globals ≡ length p.globals

-- a function that was declared before; a new one, with a declaration for each parameter; or a global
pub data DidName (p : Program) (name : List ℕ) (ds : Decls) (q : Program) : Type 0 where
  again : (number : ℕ) (u : CType) → meaning_in name p.names ≡ Some (FunctionNamed number u) → Same p q → DidName p name ds q
  first : (u : CType) (ts : CTypes) → Enough ds ts → meaning_in name p.names ≡ None →
      q.names ≡ (name, FunctionNamed (length p.functions + first_source_function) (FunctionOf u ts)) ∷ p.names →
      types q ≡ types p ++ FunctionOf u ts ∷ [] → length q.globals ≡ length p.globals → DidName p name ds q
  object : (place : ℕ) (t : CType) → meaning_in name p.names ≡ None → q.names ≡ (name, GlobalNamed place t) ∷ p.names →
      types q ≡ types p → length q.globals ≡ length p.globals + 1 → DidName p name ds q

abbrev pub NoMembers : Rest → Type 0
NoMembers NoRest = Unit {0}
NoMembers (Initial v) = Unit {0}
NoMembers (Body s) = Unit {0}
NoMembers (Members ds) = ⊥

pub data Did (p : Program) : Decl → Program → Type 0 where
  struct : (from : ℕ) (an : Annots) (b : Base) (ps : Parts) (n : Option (List ℕ)) (ds : Decls) (q : Program) → Same p q →
      Did p (Declare from an b ps n (Members ds)) q
  named_one : (from : ℕ) (an : Annots) (b : Base) (ps : Parts) (n : Option (List ℕ)) (r : Rest) (q : Program) → NoMembers r →
      DidName p (declared_name n) (own_parameters ps) q → Did p (Declare from an b ps n r) q

-- ---- functions

with_body_types : (fs : List Function) (place : ℕ) (b : typed.Body) → map (λ (f : Function). f.type) (with_body fs place b) ≡ map (λ (f : Function). f.type) fs
with_body_types [] place b = refl
with_body_types (f ∷ fs) zero b = refl
with_body_types (f ∷ fs) (suc place) b = ap (λ ts. f.type ∷ ts) (with_body_types fs place b)

one_more_type : (fs : List Function) (g : Function) → map (λ (f : Function). f.type) (fs ++ g ∷ []) ≡ map (λ (f : Function). f.type) fs ++ g.type ∷ []
one_more_type [] g = refl
one_more_type (f ∷ fs) g = ap (λ ts. f.type ∷ ts) (one_more_type fs g)

rest_did : (tags : List (List ℕ)) (p : Program) (from place : ℕ) (name : List ℕ) (t : CType) (ps : Parts) (r : Rest) → Holds (Same p) (function_rest tags p from place name t ps r)
rest_did tags p from place name t ps NoRest = record { names = refl; types = refl; globals = refl }
rest_did tags p from place name t ps (Initial v) = tt
rest_did tags p from place name t ps (Body s) =
    let given : Checked Program = body_of (at_file tags p) t ps s >>= (λ b. Fine (record p { functions = with_body p.functions place b })) in
    holds_after (Same p) (keep from 21 (not (is_some (body_at p.functions place)))) (keep from 18 (is_main name t) >> given)
    (holds_after (Same p) (keep from 18 (is_main name t)) given
    (holds_on (Same p) (body_of (at_file tags p) t ps s) _ (λ b. record { names = refl; types = with_body_types p.functions place b; globals = refl })))
rest_did tags p from place name t ps (Members ds) = tt

-- what the number and the program are where a function is declared
abbrev DidFunction : Program → List ℕ → Decls → ℕ × Program → Type 0
DidFunction p name ds a = DidName p name ds a.1

again_did : (p : Program) (from : ℕ) (u : CType) (ts : CTypes) (o : Option Meaning) (name : List ℕ) (ds : Decls) → Enough ds ts →
    meaning_in name p.names ≡ o → Holds (DidFunction p name ds) (declared_again p from (FunctionOf u ts) o name)
again_did p from u ts (Some (FunctionNamed number w)) name ds h e =
    holds_after (DidFunction p name ds) (keep from 1 (same_type (FunctionOf u ts) w)) (Fine (number, p)) (again number w e (record { names = refl; types = refl; globals = refl }))
again_did p from u ts (Some (GlobalNamed place w)) name ds h e = tt
again_did p from u ts (Some (LocalNamed place w)) name ds h e = tt
again_did p from u ts None name ds h e =
    first u ts h e refl (one_more_type p.functions (record { name = name; type = FunctionOf u ts; body = None })) refl

-- the same, whatever its body
then_same : (p q z : Program) (name : List ℕ) (ds : Decls) → DidName p name ds q → Same q z → DidName p name ds z
then_same p q z name ds (again number u e s) k = again number u e (record { names = k.names ∙ s.names; types = k.types ∙ s.types; globals = k.globals ∙ s.globals })
then_same p q z name ds (first u ts h e f g c) k = first u ts h e (k.names ∙ f) (k.types ∙ g) (k.globals ∙ c)
then_same p q z name ds (object place t e f g c) k = object place t e (k.names ∙ f) (k.types ∙ g) (k.globals ∙ c)

function_did : (tags : List (List ℕ)) (p : Program) (from : ℕ) (name : List ℕ) (u : CType) (ts : CTypes) (ps : Parts) (r : Rest) →
    Enough (own_parameters ps) ts → Holds (DidName p name (own_parameters ps)) (function tags p from name (FunctionOf u ts) ps r)
function_did tags p from name u ts ps r h =
    let ds : Decls = own_parameters ps in
    let t : CType = FunctionOf u ts in
    holds_then (DidFunction p name ds) (DidName p name ds) (function_declared p from t name) (λ a. function_rest tags a.1 from (a.0 - first_source_function) name t ps r)
    (holds_after (DidFunction p name ds) (keep from 19 (not (is_reserved name))) (declared_again p from t (meaning_in name p.names) name)
    (again_did p from u ts (meaning_in name p.names) name ds h refl))
    (λ a k. by a.1 k (function_rest tags a.1 from (a.0 - first_source_function) name t ps r) (rest_did tags a.1 from (a.0 - first_source_function) name t ps r))
  where
    by : (q : Program) → DidName p name (own_parameters ps) q → (c : Checked Program) → Holds (Same q) c → Holds (DidName p name (own_parameters ps)) c
    by q k (Fine z) h = then_same p q z name (own_parameters ps) k h
    by q k (Noted m z) h = then_same p q z name (own_parameters ps) k h
    by q k (Broken f rule) h = tt

-- ---- globals

-- what is found where a name is declared that wasn't
declared_free : {B : Type 0} (Q : B → Type 0) (from : ℕ) (a : Bool) (o : Option Meaning) (y : Checked B) → (o ≡ None → Holds Q y) →
    Holds Q ((keep from 19 a >> keep from 1 (not (is_some o))) >> y)
declared_free Q from true None y h = h refl
declared_free Q from true (Some m) y h = tt
declared_free Q from false o y h = tt

global_did : (tags : List (List ℕ)) (p : Program) (from : ℕ) (name : List ℕ) (t : CType) (ds : Decls) (r : Rest) → Holds (DidName p name ds) (global tags p from name t r)
global_did tags p from name t ds r =
    let named : Program = record p { names = (name, GlobalNamed (length p.globals) t) ∷ p.names } in
    holds_after (DidName p name ds) (complete (extents (at_file tags p)) from t) _
    (declared_free (DidName p name ds) from (not (is_reserved name)) (meaning_in name p.names) _
    (λ e. holds_on (DidName p name ds) (heard (global_value tags named from t r)) _ (λ x. object (length p.globals) t e refl refl (length-append p.globals (record { name = name; type = t; value = x.0; unevaluated = x.1 } ∷ [])))))

either_did : (tags : List (List ℕ)) (p : Program) (from : ℕ) (name : List ℕ) (t : CType) (ps : Parts) (r : Rest) → EnoughFor (own_parameters ps) t →
    Holds (DidName p name (own_parameters ps)) (function_or_global tags p from name t ps r)
either_did tags p from name (FunctionOf u ts) ps r h = function_did tags p from name u ts ps r h
either_did tags p from name Void ps r h = global_did tags p from name Void (own_parameters ps) r
either_did tags p from name (Integer k) ps r h = global_did tags p from name (Integer k) (own_parameters ps) r
either_did tags p from name (PointerTo t) ps r h = global_did tags p from name (PointerTo t) (own_parameters ps) r
either_did tags p from name (ArrayOf n t) ps r h = global_did tags p from name (ArrayOf n t) (own_parameters ps) r
either_did tags p from name (StructOf n) ps r h = global_did tags p from name (StructOf n) (own_parameters ps) r
either_did tags p from name (UndefinedStruct tag) ps r h = global_did tags p from name (UndefinedStruct tag) (own_parameters ps) r

-- ---- declarations

abbrev declares : List (List ℕ) → Program → (from : ℕ) → Annots → Base → Parts → Option (List ℕ) → Rest → Checked Program
declares tags p from an b ps n r =
    annotation_types an (at_file tags p) >> (declared_type (Declare from an b ps n r) (at_file tags p) >>= (λ t. function_or_global tags p from (declared_name n) t ps r))

declares_did : (tags : List (List ℕ)) (p : Program) (from : ℕ) (an : Annots) (b : Base) (ps : Parts) (n : Option (List ℕ)) (r : Rest) → NoMembers r →
    Holds (Did p (Declare from an b ps n r)) (declares tags p from an b ps n r)
declares_did tags p from an b ps n r nm =
    let whole : Program → Type 0 = Did p (Declare from an b ps n r) in
    holds_after whole (annotation_types an (at_file tags p)) _
    (holds_then (EnoughFor (own_parameters ps)) whole (declared_type (Declare from an b ps n r) (at_file tags p)) _ (declared_enough (at_file tags p) from an b ps n r)
    (λ t h. wrapped (function_or_global tags p from (declared_name n) t ps r) (either_did tags p from (declared_name n) t ps r h)))
  where
    wrapped : (c : Checked Program) → Holds (DidName p (declared_name n) (own_parameters ps)) c → Holds (Did p (Declare from an b ps n r)) c
    wrapped (Fine q) h = named_one from an b ps n r q nm h
    wrapped (Noted m q) h = named_one from an b ps n r q nm h
    wrapped (Broken f rule) h = tt

-- only a struct has members
members_broken : (Q : Program → Type 0) (tags : List (List ℕ)) (p : Program) (from : ℕ) (an : Annots) (b : Base) (ps : Parts) (n : Option (List ℕ)) (ds : Decls) → Holds Q (declares tags p from an b ps n (Members ds))
members_broken Q tags p from an b ps n ds =
    holds_after Q (annotation_types an (at_file tags p)) (declared_type (Declare from an b ps n (Members ds)) (at_file tags p) >>= (λ t. function_or_global tags p from (declared_name n) t ps (Members ds)))
    (holds_on Q (declared_type (Declare from an b ps n (Members ds)) (at_file tags p)) _ by)
  where
    of_global : (t : CType) → Holds Q (global tags p from (declared_name n) t (Members ds))
    of_global t = search (holds_after, holds_on)

    by : (t : CType) → Holds Q (function_or_global tags p from (declared_name n) t ps (Members ds))
    by (FunctionOf u ts) = search holds_on
    by Void = of_global Void
    by (Integer k) = of_global (Integer k)
    by (PointerTo t) = of_global (PointerTo t)
    by (ArrayOf m t) = of_global (ArrayOf m t)
    by (StructOf m) = of_global (StructOf m)
    by (UndefinedStruct tag) = of_global (UndefinedStruct tag)

any_did : (tags : List (List ℕ)) (p : Program) (from : ℕ) (an : Annots) (b : Base) (ps : Parts) (n : Option (List ℕ)) (r : Rest) →
    Holds (Did p (Declare from an b ps n r)) (declares tags p from an b ps n r)
any_did tags p from an b ps n NoRest = declares_did tags p from an b ps n NoRest tt
any_did tags p from an b ps n (Initial v) = declares_did tags p from an b ps n (Initial v) tt
any_did tags p from an b ps n (Body s) = declares_did tags p from an b ps n (Body s) tt
any_did tags p from an b ps n (Members ds) = members_broken (Did p (Declare from an b ps n (Members ds))) tags p from an b ps n ds

struct_did : (tags : List (List ℕ)) (p : Program) (from : ℕ) (an : Annots) (tag : List ℕ) (ps : Parts) (n : Option (List ℕ)) (ds : Decls) →
    Holds (Did p (Declare from an (bases.Struct tag) ps n (Members ds))) (struct_defined tags p from tag ds)
struct_did tags p from an tag ps n ds = search (holds_after, holds_on, named)
  where
    named : (ss : _) → Did p (Declare from an (bases.Struct tag) ps n (Members ds)) (record p { structs = ss })
    named ss = struct from an (bases.Struct tag) ps n ds (record p { structs = ss }) (record { names = refl; types = refl; globals = refl })

pub declaration_did : (tags : List (List ℕ)) (p : Program) (d : Decl) → Holds (Did p d) (declaration tags p d)
declaration_did tags p (Declare from an (bases.Struct tag) ps n (Members ds)) = struct_did tags p from an tag ps n ds
declaration_did tags p (Declare from an (bases.Struct tag) ps n NoRest) = any_did tags p from an (bases.Struct tag) ps n NoRest
declaration_did tags p (Declare from an (bases.Struct tag) ps n (Initial v)) = any_did tags p from an (bases.Struct tag) ps n (Initial v)
declaration_did tags p (Declare from an (bases.Struct tag) ps n (Body s)) = any_did tags p from an (bases.Struct tag) ps n (Body s)
declaration_did tags p (Declare from an bases.Void ps n r) = any_did tags p from an bases.Void ps n r
declaration_did tags p (Declare from an (bases.Int bytes signed) ps n r) = any_did tags p from an (bases.Int bytes signed) ps n r

-- ---- what stays

-- names mean the same, and the types of functions are the same, where more is declared
pub record Grows (p q : Program) : Type 0 where
  pub names : (name : List ℕ) (m : Meaning) → meaning_in name p.names ≡ Some m → meaning_in name q.names ≡ Some m
  pub types : (k : ℕ) (t : CType) → slice_get (types p) k ≡ Some t → slice_get (types q) k ≡ Some t

has_more : {A : Type 0} (xs : List A) (y x : A) (i : ℕ) → slice_get xs i ≡ Some x → slice_get (xs ++ y ∷ []) i ≡ Some x
has_more [] y x i e = absurd cc
has_more (z ∷ xs) y x zero e = e
has_more (z ∷ xs) y x (suc i) e = has_more xs y x i e

-- a name that meant nothing
new_name : (p : Program) (name : List ℕ) (m : Meaning) → meaning_in name p.names ≡ None → (other : List ℕ) (w : Meaning) →
    meaning_in other p.names ≡ Some w → meaning_in other ((name, m) ∷ p.names) ≡ Some w
new_name p name m none other w e = by (same_name other name) refl
  where
    by : (b : Bool) → same_name other name ≡ b → cond b (Some m) (meaning_in other p.names) ≡ Some w
    by true h =
        let is : other ≡ name = (bytes_eq-Decides other name).0 h in
        let bad : Some w ≡ None = sym e ∙ (ap (λ x. meaning_in x p.names) is ∙ none) in absurd cc
    by false h = e

same_grows : (p q : Program) → Same p q → Grows p q
same_grows p q s = record {
  names = λ name m e. ap (meaning_in name) s.names ∙ e;
  types = λ k t e. ap (λ ts. slice_get ts k) s.types ∙ e;
}

did_name_grows : (p : Program) (name : List ℕ) (ds : Decls) (q : Program) → DidName p name ds q → Grows p q
did_name_grows p name ds q (again number u e s) = same_grows p q s
did_name_grows p name ds q (first u ts h none f g c) = record {
  names = λ other w e. ap (meaning_in other) f ∙ new_name p name (FunctionNamed (length p.functions + first_source_function) (FunctionOf u ts)) none other w e;
  types = λ k t e. ap (λ us. slice_get us k) g ∙ has_more (types p) (FunctionOf u ts) t k e;
}
did_name_grows p name ds q (object place t none f g c) = record {
  names = λ other w e. ap (meaning_in other) f ∙ new_name p name (GlobalNamed place t) none other w e;
  types = λ k u e. ap (λ us. slice_get us k) g ∙ e;
}

pub did_grows : (p : Program) (d : Decl) (q : Program) → Did p d q → Grows p q
did_grows p d q (struct from an b ps n ds z s) = same_grows p z s
did_grows p d q (named_one from an b ps n r z nm h) = did_name_grows p (declared_name n) (own_parameters ps) z h

grows_on : (p q z : Program) → Grows p q → Grows q z → Grows p z
grows_on p q z g h = record { names = λ name m e. h.names name m (g.names name m e); types = λ k t e. h.types k t (g.types k t e) }

pub declarations_grow : (tags : List (List ℕ)) (ds : Decls) (p : Program) → Holds (Grows p) (declarations tags p ds)
declarations_grow tags NoDecls p = record { names = λ name m e. e; types = λ k t e. e }
declarations_grow tags (MoreDecls d ds) p =
    holds_then (Did p d) (Grows p) (declaration tags p d) (λ q. declarations tags q ds) (declaration_did tags p d)
    (λ q h. further (declarations tags q ds) q (did_grows p d q h) (declarations_grow tags ds q))
  where
    further : (c : Checked Program) (q : Program) → Grows p q → Holds (Grows q) c → Holds (Grows p) c
    further (Fine z) q g h = grows_on p q z g h
    further (Noted m z) q g h = grows_on p q z g h
    further (Broken f rule) q g h = tt
