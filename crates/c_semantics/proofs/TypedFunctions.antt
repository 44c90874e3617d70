-- Each function of a typed source converts its results.
use Rattle.std.proofs.Common.{◌≡◌, ◌⊎◌, inl, inr, ℕ, zero, suc, ◌+◌, ◌-◌, Bool, true, false, cond, ltb, List, [], ◌∷◌, ◌++◌, length, Option, Some, None, refl, sym, ap, ◌∙◌, subst, arith, ⊎_elim}
use Rattle.std.specs.Prelude.{slice_get, not}
use Rattle.c_syntax.specs.declared.declaration.Base.{Base}
use Rattle.c_syntax.specs.declared.declaration.Base.TheVariants as bases
use Rattle.c_syntax.specs.Syntax.{Decl, Decls, Annots, Parts, Rest, Stmt, Declare, NoDecls, MoreDecls, NoRest, Initial, Body, Members}
use Rattle.marks.specs.Places.{builtin_count}
use Rattle.memory_map.specs.declared.placed.Placed.{Placed}
use Rattle.c_builtins.specs.Table.{first_source_function}
use Rattle.c_scopes.specs.Scopes.{same_name, meaning_in}
use Rattle.c_types_model.specs.Types.{CType, Void, Integer, PointerTo, ArrayOf, StructOf, UndefinedStruct, FunctionOf}
use Rattle.c_types_rules.specs.Checked.{Checked, Fine, Noted, Broken, keep, ◌>>=◌, ◌>>◌}
use Rattle.c_types_rules.specs.Expressions.{annotation_types, declared_name, declared_type}
use Rattle.c_types_rules.specs.Environment.{Struct, Meaning, FunctionNamed, GlobalNamed, LocalNamed, is_reserved}
use Rattle.c_types_rules.specs.Limits.{Which, Outcome, Typed, Limit, Rule, first_limit, outcome}
use Rattle.c_types_rules.specs.Sources.{Function, Global, Program, at_file, body_of, declaration, declarations, function, function_declared, function_defined, global, program, struct_defined, tags_of}
use Rattle.c_types_rules.specs.TypedTree as typed
use Rattle.c_types_rules.specs.TypeTests.{same_type}
use Rattle.c_types_rules.proofs.SameTypes.{types_compared}
use Rattle.c_semantics.specs.Context.{body_or, builtin_of, source_function, type_or}
use Rattle.c_semantics.specs.Returned.{ResultsAreConverted}
use Rattle.c_semantics.proofs.TypedReturns.{Holds, holds_then, holds_on, holds_after, holds_kept, Gives, body_gives}

-- the function of a number, of this type
pub record IsThere (p : Program) (number : ℕ) (t : CType) : Type 0 where
  pub func : Function
  pub at : slice_get p.functions (number - first_source_function) ≡ Some func
  pub is : func.type ≡ t

-- each function gives values of its result, and is there under its name
pub record Good (p : Program) : Type 0 where
  pub gives : (i : ℕ) (f : Function) (b : typed.Body) → slice_get p.functions i ≡ Some f → f.body ≡ Some b → Gives f.type b
  pub named : (name : List ℕ) (number : ℕ) (t : CType) → meaning_in name p.names ≡ Some (FunctionNamed number t) → IsThere p number t

-- ---- lists of functions

more_has : {A : Type 0} (xs : List A) (y x : A) (i : ℕ) → slice_get (xs ++ y ∷ []) i ≡ Some x → (slice_get xs i ≡ Some x) ⊎ (y ≡ x)
more_has [] y x zero e = inr cc
more_has [] y x (suc i) e = absurd cc
more_has (z ∷ xs) y x zero e = inl e
more_has (z ∷ xs) y x (suc i) e = more_has xs y x i e

has_more : {A : Type 0} (xs : List A) (y x : A) (i : ℕ) → slice_get xs i ≡ Some x → slice_get (xs ++ y ∷ []) i ≡ Some x
has_more [] y x i e = absurd cc
has_more (z ∷ xs) y x zero e = e
has_more (z ∷ xs) y x (suc i) e = has_more xs y x i e

last_is : {A : Type 0} (xs : List A) (y : A) → slice_get (xs ++ y ∷ []) (length xs) ≡ Some y
last_is [] y = refl
last_is (x ∷ xs) y = last_is xs y

-- a function that gets its body
abbrev given : List Function → ℕ → typed.Body → List Function
given [] place b = []
given (f ∷ fs) zero b = record f { body = Some b } ∷ fs
given (f ∷ fs) (suc place) b = f ∷ given fs place b

given_has : (fs : List Function) (place : ℕ) (b : typed.Body) (i : ℕ) (x : Function) → slice_get (given fs place b) i ≡ Some x → (slice_get fs i ≡ Some x) ⊎ ((f : Function) × (slice_get fs place ≡ Some f) × (record f { body = Some b } ≡ x))
given_has [] place b i x e = absurd cc
given_has (f ∷ fs) zero b zero x e = inr (f, refl, cc)
given_has (f ∷ fs) zero b (suc i) x e = inl e
given_has (f ∷ fs) (suc place) b zero x e = inl e
given_has (f ∷ fs) (suc place) b (suc i) x e = given_has fs place b i x e

has_given : (fs : List Function) (place : ℕ) (b : typed.Body) (i : ℕ) (x : Function) → slice_get fs i ≡ Some x → (f : Function) × (slice_get (given fs place b) i ≡ Some f) × (f.type ≡ x.type)
has_given [] place b i x e = absurd cc
has_given (f ∷ fs) zero b zero x e = let is : f ≡ x = cc in (record f { body = Some b }, refl, ap (λ (g : Function). g.type) is)
has_given (f ∷ fs) zero b (suc i) x e = (x, e, refl)
has_given (f ∷ fs) (suc place) b zero x e = (x, e, refl)
has_given (f ∷ fs) (suc place) b (suc i) x e = has_given fs place b i x e

-- ---- declarations of functions

-- a number, and a program that has the function of this type there
abbrev Numbered : CType → ℕ × Program → Type 0
Numbered t a = Good a.1 × IsThere a.1 a.0 t

abbrev bare : List ℕ → CType → Function
bare name t = record { name = name; type = t; body = None }

abbrev with_function : Program → List ℕ → CType → Program
with_function p name t = record p { functions = p.functions ++ bare name t ∷ []; names = (name, FunctionNamed (length p.functions + first_source_function) t) ∷ p.names }

kept_there : (p : Program) (name : List ℕ) (t : CType) (number : ℕ) (u : CType) → IsThere p number u → IsThere (with_function p name t) number u
kept_there p name t number u h = record { func = h.func; at = has_more p.functions (bare name t) h.func (number - first_source_function) h.at; is = h.is }

new_there : (p : Program) (name : List ℕ) (t : CType) → IsThere (with_function p name t) (length p.functions + first_source_function) t
new_there p name t =
    let place : length p.functions + first_source_function - first_source_function ≡ length p.functions = omega arith in
    record { func = bare name t; at = ap (slice_get (p.functions ++ bare name t ∷ [])) place ∙ last_is p.functions (bare name t); is = refl }

function_named : (a : ℕ) (t : CType) (b : ℕ) (u : CType) → FunctionNamed a t ≡ FunctionNamed b u → (a ≡ b) × (t ≡ u)
function_named a t b u e = (cc, cc)

with_function_good : (p : Program) (name : List ℕ) (t : CType) → Good p → Good (with_function p name t)
with_function_good p name t g = record {
  gives = λ i f b e eb. ⊎_elim (λ old. g.gives i f b old eb) (λ new. let none : None ≡ Some b = ap (λ (h : Function). h.body) new ∙ eb in absurd cc) (more_has p.functions (bare name t) f i e);
  named = λ other number u e. by (same_name other name) other number u e;
}
  where
    by : (b : Bool) (other : List ℕ) (number : ℕ) (u : CType) → cond b (Some (FunctionNamed (length p.functions + first_source_function) t)) (meaning_in other p.names) ≡ Some (FunctionNamed number u) → IsThere (with_function p name t) number u
    by true other number u e =
        let is : FunctionNamed (length p.functions + first_source_function) t ≡ FunctionNamed number u = cc in
        let parts = function_named (length p.functions + first_source_function) t number u is in
        subst (λ n. IsThere (with_function p name t) n u) parts.0 (subst (IsThere (with_function p name t) (length p.functions + first_source_function)) parts.1 (new_there p name t))
    by false other number u e = kept_there p name t number u (g.named other number u e)

-- a function that was declared before, or not
abbrev again : Program → (from : ℕ) → CType → Option Meaning → (name : List ℕ) → Checked (ℕ × Program)
again p from t (Some (FunctionNamed number u)) name = keep from 1 (same_type t u) >> Fine (number, p)
again p from t (Some m) name = Broken from 1
again p from t None name = Fine (length p.functions + first_source_function, with_function p name t)

again_good : (p : Program) (from : ℕ) (t : CType) (o : Option Meaning) (name : List ℕ) → meaning_in name p.names ≡ o → Good p → Holds (Numbered t) (again p from t o name)
again_good p from t (Some (FunctionNamed number u)) name e g =
    holds_kept (Numbered t) from 1 (same_type t u) (Fine (number, p))
    (λ same. (g, subst (IsThere p number) (sym ((types_compared t u).0 same)) (g.named name number u e)))
again_good p from t (Some (GlobalNamed place u)) name e g = tt
again_good p from t (Some (LocalNamed place u)) name e g = tt
again_good p from t None name e g = (with_function_good p name t g, new_there p name t)

declared_good : (p : Program) (from : ℕ) (t : CType) (name : List ℕ) → Good p → Holds (Numbered t) (function_declared p from t name)
declared_good p from t name g = holds_after (Numbered t) (keep from 19 (not (is_reserved name))) (again p from t (meaning_in name p.names) name) (again_good p from t (meaning_in name p.names) name refl g)

-- ---- bodies of functions

abbrev with_body : Program → ℕ → typed.Body → Program
with_body p place b = record p { functions = given p.functions place b }

with_body_good : (p : Program) (number : ℕ) (t : CType) (b : typed.Body) → Good p → IsThere p number t → Gives t b → Good (with_body p (number - first_source_function) b)
with_body_good p number t b g there h = record {
  gives = λ i f c e ec. ⊎_elim (λ old. g.gives i f c old ec) (λ new. by new.0 f c new.1 new.2 ec) (given_has p.functions (number - first_source_function) b i f e);
  named = λ name other u e.
      let old = g.named name other u e in
      let now = has_given p.functions (number - first_source_function) b (other - first_source_function) old.func old.at in
      record { func = now.0; at = now.1; is = now.2 ∙ old.is };
}
  where
    by : (f x : Function) (c : typed.Body) → slice_get p.functions (number - first_source_function) ≡ Some f → record f { body = Some b } ≡ x → x.body ≡ Some c → Gives x.type c
    by f x c at is ec =
        let same : f ≡ there.func = some_same f there.func (sym at ∙ there.at) in
        let type : t ≡ x.type = sym there.is ∙ sym (ap (λ (k : Function). k.type) same) ∙ ap (λ (k : Function). k.type) is in
        let body : b ≡ c = some_body b c (ap (λ (k : Function). k.body) is ∙ ec) in
        subst (λ u. Gives u c) type (subst (Gives t) body h)
      where
        some_same : (f g : Function) → Some f ≡ Some g → f ≡ g
        some_same f g e = cc

        some_body : (b c : typed.Body) → Some b ≡ Some c → b ≡ c
        some_body b c e = cc

defined_good : (tags : List (List ℕ)) (p : Program) (from number : ℕ) (name : List ℕ) (t : CType) (ps : Parts) (s : Stmt) → Good p → IsThere p number t → Holds Good (function_defined tags p from (number - first_source_function) name t ps s)
defined_good tags p from number name t ps s g there = search (holds_after, then_body)
  where
    then_body : Holds Good (body_of (at_file tags p) t ps s >>= (λ b. Fine (with_body p (number - first_source_function) b)))
    then_body = holds_then (Gives t) Good (body_of (at_file tags p) t ps s) (λ b. Fine (with_body p (number - first_source_function) b)) (body_gives (at_file tags p) t ps s) (λ b h. with_body_good p number t b g there h)

function_good : (tags : List (List ℕ)) (p : Program) (from : ℕ) (name : List ℕ) (t : CType) (ps : Parts) (r : Rest) → Good p → Holds Good (function tags p from name t ps r)
function_good tags p from name t ps NoRest g = holds_then (Numbered t) Good (function_declared p from t name) (λ a. Fine a.1) (declared_good p from t name g) (λ a h. h.0)
function_good tags p from name t ps (Initial v) g = holds_then (Numbered t) Good (function_declared p from t name) (λ a. Broken from 16) (declared_good p from t name g) (λ a h. tt)
function_good tags p from name t ps (Body s) g =
    holds_then (Numbered t) Good (function_declared p from t name) (λ a. function_defined tags a.1 from (a.0 - first_source_function) name t ps s) (declared_good p from t name g) (λ a h. defined_good tags a.1 from a.0 name t ps s h.0 h.1)
function_good tags p from name t ps (Members ds) g = holds_then (Numbered t) Good (function_declared p from t name) (λ a. Broken from 3) (declared_good p from t name g) (λ a h. tt)

-- ---- other declarations

global_named_good : (p : Program) (name : List ℕ) (t : CType) (gs : List Global) → Good p → Good (record p { names = (name, GlobalNamed (length p.globals) t) ∷ p.names; globals = gs })
global_named_good p name t gs g = record { gives = g.gives; named = λ other number u e. by (same_name other name) other number u e }
  where
    by : (b : Bool) (other : List ℕ) (number : ℕ) (u : CType) → cond b (Some (GlobalNamed (length p.globals) t)) (meaning_in other p.names) ≡ Some (FunctionNamed number u) → IsThere (record p { names = (name, GlobalNamed (length p.globals) t) ∷ p.names; globals = gs }) number u
    by true other number u e = absurd cc
    by false other number u e = let h = g.named other number u e in record { func = h.func; at = h.at; is = h.is }

global_good : (tags : List (List ℕ)) (p : Program) (from : ℕ) (name : List ℕ) (t : CType) (r : Rest) → Good p → Holds Good (global tags p from name t r)
global_good tags p from name t r g = search (holds_after, holds_on, global_named_good p name t, g)

struct_named_good : (p : Program) (ss : List Struct) → Good p → Good (record p { structs = ss })
struct_named_good p ss g = record { gives = g.gives; named = λ name number t e. let h = g.named name number t e in record { func = h.func; at = h.at; is = h.is } }

struct_good : (tags : List (List ℕ)) (p : Program) (from : ℕ) (tag : List ℕ) (ds : Decls) → Good p → Holds Good (struct_defined tags p from tag ds)
struct_good tags p from tag ds g = search (holds_after, holds_on, struct_named_good p, g)

abbrev function_or_global : List (List ℕ) → Program → (from : ℕ) → (name : List ℕ) → CType → Parts → Rest → Checked Program
function_or_global tags p from name (FunctionOf r ts) ps rest = function tags p from name (FunctionOf r ts) ps rest
function_or_global tags p from name t ps rest = global tags p from name t rest

either_good : (tags : List (List ℕ)) (p : Program) (from : ℕ) (name : List ℕ) (t : CType) (ps : Parts) (r : Rest) → Good p → Holds Good (function_or_global tags p from name t ps r)
either_good tags p from name (FunctionOf t ts) ps r g = function_good tags p from name (FunctionOf t ts) ps r g
either_good tags p from name Void ps r g = global_good tags p from name Void r g
either_good tags p from name (Integer k) ps r g = global_good tags p from name (Integer k) r g
either_good tags p from name (PointerTo t) ps r g = global_good tags p from name (PointerTo t) r g
either_good tags p from name (ArrayOf n t) ps r g = global_good tags p from name (ArrayOf n t) r g
either_good tags p from name (StructOf n) ps r g = global_good tags p from name (StructOf n) r g
either_good tags p from name (UndefinedStruct tag) ps r g = global_good tags p from name (UndefinedStruct tag) r g

-- what is declared by a declarator
abbrev declares : List (List ℕ) → Program → (from : ℕ) → Annots → Base → Parts → Option (List ℕ) → Rest → Checked Program
declares tags p from an b ps n r =
    annotation_types an (at_file tags p) >> (declared_type (Declare from an b ps n r) (at_file tags p) >>= (λ t. function_or_global tags p from (declared_name n) t ps r))

declares_good : (tags : List (List ℕ)) (p : Program) (from : ℕ) (an : Annots) (b : Base) (ps : Parts) (n : Option (List ℕ)) (r : Rest) → Good p → Holds Good (declares tags p from an b ps n r)
declares_good tags p from an b ps n r g =
    holds_after Good (annotation_types an (at_file tags p)) (declared_type (Declare from an b ps n r) (at_file tags p) >>= (λ t. function_or_global tags p from (declared_name n) t ps r))
    (holds_on Good (declared_type (Declare from an b ps n r) (at_file tags p)) (λ t. function_or_global tags p from (declared_name n) t ps r) (λ t. either_good tags p from (declared_name n) t ps r g))

declaration_good : (tags : List (List ℕ)) (p : Program) (d : Decl) → Good p → Holds Good (declaration tags p d)
declaration_good tags p (Declare from an (bases.Struct tag) ps n (Members ds)) g = struct_good tags p from tag ds g
declaration_good tags p (Declare from an (bases.Struct tag) ps n NoRest) g = declares_good tags p from an (bases.Struct tag) ps n NoRest g
declaration_good tags p (Declare from an (bases.Struct tag) ps n (Initial v)) g = declares_good tags p from an (bases.Struct tag) ps n (Initial v) g
declaration_good tags p (Declare from an (bases.Struct tag) ps n (Body s)) g = declares_good tags p from an (bases.Struct tag) ps n (Body s) g
declaration_good tags p (Declare from an bases.Void ps n r) g = declares_good tags p from an bases.Void ps n r g
declaration_good tags p (Declare from an (bases.Int bytes signed) ps n r) g = declares_good tags p from an (bases.Int bytes signed) ps n r g

declarations_good : (tags : List (List ℕ)) (ds : Decls) (p : Program) → Good p → Holds Good (declarations tags p ds)
declarations_good tags NoDecls p g = g
declarations_good tags (MoreDecls d ds) p g = holds_then Good Good (declaration tags p d) (λ q. declarations tags q ds) (declaration_good tags p d g) (λ q h. declarations_good tags ds q h)

-- ---- sources

abbrev nothing : Program
nothing = record { structs = []; functions = []; globals = []; names = [] }

nothing_good : Good nothing
nothing_good = record { gives = λ i f b e eb. absurd (none i f e); named = λ name number t e. absurd cc }
  where
    none : (i : ℕ) (f : Function) → slice_get {X = Function} [] i ≡ Some f → ⊥
    none i f e = cc

source_good : (ds : Decls) → Holds Good (program ds)
source_good ds = holds_then Good Good (declarations (tags_of ds) nothing ds) _ (declarations_good (tags_of ds) ds nothing nothing_good) (λ p g. holds_after Good (keep 0 18 _) (Fine p) g)

abbrev unless : Program → Option Which → Outcome
unless p (Some w) = Limit w
unless p None = Typed p

abbrev decided : Checked Program → Outcome
decided (Fine p) = unless p (first_limit true p)
decided (Noted n p) = unless p (first_limit (not n.large) p)
decided (Broken from rule) = Rule from rule

unless_typed : (q p : Program) (w : Option Which) → Good q → unless q w ≡ Typed p → Good p
unless_typed q p None g e = let is : q ≡ p = cc in subst Good is g
unless_typed q p (Some w) g e = absurd cc

decided_good : (c : Checked Program) (p : Program) → Holds Good c → decided c ≡ Typed p → Good p
decided_good (Fine q) p g e = unless_typed q p (first_limit true q) g e
decided_good (Noted n q) p g e = unless_typed q p (first_limit (not n.large) q) g e
decided_good (Broken from rule) p g e = absurd cc

within : (p : Program) (f : ℕ) (b : Bool) (x : Function) → cond b None (slice_get p.functions (f - builtin_count)) ≡ Some x → slice_get p.functions (f - builtin_count) ≡ Some x
within p f true x e = absurd cc
within p f false x e = e

good_converts : (p : Program) (texts : List ℕ) (placed : Placed) → Good p → ResultsAreConverted (record { program = p; texts = texts; placed = placed })
good_converts p texts placed g f b e = by (source_function (record { program = p; texts = texts; placed = placed }) f) refl e
  where
    by : (o : Option Function) → cond (ltb f builtin_count) None (slice_get p.functions (f - builtin_count)) ≡ o → body_or o ≡ Some b → Gives (type_or o (builtin_of f)) b
    by None eo eb = absurd cc
    by (Some x) eo eb = g.gives (f - builtin_count) x b (within p f (ltb f builtin_count) x eo) eb

pub results_are_converted : (ds : Decls) (p : Program) → outcome ds ≡ Typed p → (texts : List ℕ) (placed : Placed) → ResultsAreConverted (record { program = p; texts = texts; placed = placed })
results_are_converted ds p e texts placed = good_converts p texts placed (decided_good (program ds) p (source_good ds) e)
