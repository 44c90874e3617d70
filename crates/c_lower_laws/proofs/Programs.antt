-- Of each function of a typed source its calls have one value per parameter, and its frame begins with its parameters.
use Rattle.std.proofs.Common.{◌≡◌, ◌⊎◌, inl, inr, ℕ, zero, suc, ◌+◌, ◌-◌, Bool, true, false, cond, List, [], ◌∷◌, ◌++◌, length, Option, Some, None, refl, sym, ap, ◌∙◌, subst, arith, ⊎_elim}
use Rattle.std.specs.Prelude.{slice_get, not, is_some}
use Rattle.std.specs.Option.{option_or}
use Rattle.c_syntax.specs.declared.declaration.Base.{Base}
use Rattle.c_syntax.specs.declared.declaration.Base.TheVariants as bases
use Rattle.c_syntax.specs.Syntax.{Decl, Decls, Annots, Parts, Rest, Stmt, Declare, NoDecls, MoreDecls, NoRest, Initial, Body, Members}
use Rattle.c_builtins.specs.Table.{first_source_function}
use Rattle.c_scopes.specs.Scopes.{same_name, meaning_in}
use Rattle.c_types_model.specs.Types.{CType, Void, Integer, PointerTo, ArrayOf, StructOf, UndefinedStruct, FunctionOf}
use Rattle.c_types_rules.specs.Checked.{Checked, Fine, Noted, Broken, keep, ◌>>=◌, ◌>>◌}
use Rattle.c_types_rules.specs.Expressions.{annotation_types, declared_name, declared_type}
use Rattle.c_types_rules.specs.Environment.{Struct, Meaning, FunctionNamed, GlobalNamed, LocalNamed, is_reserved}
use Rattle.c_types_rules.specs.Sources.{Function, Global, Program, at_file, body_at, body_of, declaration, declarations, declared_again, function, function_declared, function_defined, function_or_global, global, is_main, nothing, program, struct_defined, tags_of, with_body}
use Rattle.c_types_rules.specs.TypedTree as typed
use Rattle.c_types_rules.specs.TypeTests.{same_type}
use Rattle.c_types_rules.proofs.SameTypes.{types_compared}
use Rattle.c_lower_laws.proofs.Held.{Holds, holds_then, holds_on, holds_after, holds_kept, holds_for, holds_both}
use Rattle.c_lower_placement.specs.Code.{Making}
use Rattle.c_lower_placement.specs.Heights.{StatementCalls}
use Rattle.c_lower_laws.proofs.Values.{IsAt, NamesAre, Serves}
use Rattle.c_lower_laws.proofs.Bodies.{body_counts, or_none}
use Rattle.c_lower_laws.proofs.Locals.{Begins, body_begins}
use Rattle.c_lower_laws.proofs.Params.{TakesScalars, declared_takes}

-- each function of a source has its type among these
abbrev pub Extends : List Function → List CType → Type 0
Extends fs us = (k : ℕ) (f : Function) → slice_get fs k ≡ Some f → slice_get us k ≡ Some f.type

-- in a body of a function each call has one value per parameter, whatever functions follow those that are declared
abbrev pub Counts : List Function → typed.Body → Type 0
Counts fs b = (x : Making) (us : List CType) → Serves x us → Extends fs us → StatementCalls b.statements x

-- so it does, and its locals begin with the parameters
abbrev pub Fits : List Function → CType → typed.Body → Type 0
Fits fs t b = Begins t b × Counts fs b

-- the function of a number is declared with this type
pub record IsThere (p : Program) (number : ℕ) (t : CType) : Type 0 where
  pub place : ℕ
  pub numbered : number ≡ place + first_source_function
  pub func : Function
  pub at : slice_get p.functions place ≡ Some func
  pub is : func.type ≡ t

pub record Good (p : Program) : Type 0 where
  pub bodies : (i : ℕ) (f : Function) (b : typed.Body) → slice_get p.functions i ≡ Some f → f.body ≡ Some b → Fits p.functions f.type b
  pub named : (name : List ℕ) (number : ℕ) (t : CType) → meaning_in name p.names ≡ Some (FunctionNamed number t) → IsThere p number t
  pub scalars : (i : ℕ) (f : Function) → slice_get p.functions i ≡ Some f → TakesScalars f.type

-- ---- lists of functions

pub more_has : {A : Type 0} (xs : List A) (y x : A) (i : ℕ) → slice_get (xs ++ y ∷ []) i ≡ Some x → (slice_get xs i ≡ Some x) ⊎ (y ≡ x)
more_has [] y x zero e = inr cc
more_has [] y x (suc i) e = absurd cc
more_has (z ∷ xs) y x zero e = inl e
more_has (z ∷ xs) y x (suc i) e = more_has xs y x i e

has_more : {A : Type 0} (xs : List A) (y x : A) (i : ℕ) → slice_get xs i ≡ Some x → slice_get (xs ++ y ∷ []) i ≡ Some x
has_more [] y x i e = absurd cc
has_more (z ∷ xs) y x zero e = e
has_more (z ∷ xs) y x (suc i) e = has_more xs y x i e

last_is : {A : Type 0} (xs : List A) (y : A) → slice_get (xs ++ y ∷ []) (length xs) ≡ Some y
last_is [] y = refl
last_is (x ∷ xs) y = last_is xs y

-- a function that gets its body
given_has : (fs : List Function) (place : ℕ) (b : typed.Body) (i : ℕ) (x : Function) → slice_get (with_body fs place b) i ≡ Some x → (slice_get fs i ≡ Some x) ⊎ ((f : Function) × (slice_get fs place ≡ Some f) × (record f { body = Some b } ≡ x))
given_has [] place b i x e = absurd cc
given_has (f ∷ fs) zero b zero x e = inr (f, refl, cc)
given_has (f ∷ fs) zero b (suc i) x e = inl e
given_has (f ∷ fs) (suc place) b zero x e = inl e
given_has (f ∷ fs) (suc place) b (suc i) x e = given_has fs place b i x e

has_given : (fs : List Function) (place : ℕ) (b : typed.Body) (i : ℕ) (x : Function) → slice_get fs i ≡ Some x → (f : Function) × (slice_get (with_body fs place b) i ≡ Some f) × (f.type ≡ x.type)
has_given [] place b i x e = absurd cc
has_given (f ∷ fs) zero b zero x e = let is : f ≡ x = cc in (record f { body = Some b }, refl, ap (λ (g : Function). g.type) is)
has_given (f ∷ fs) zero b (suc i) x e = (x, e, refl)
has_given (f ∷ fs) (suc place) b zero x e = (x, e, refl)
has_given (f ∷ fs) (suc place) b (suc i) x e = has_given fs place b i x e

-- ---- declarations of functions

-- a number, and a program that has the function of this type there
abbrev Numbered : CType → ℕ × Program → Type 0
Numbered t a = Good a.1 × IsThere a.1 a.0 t

abbrev bare : List ℕ → CType → Function
bare name t = record { name = name; type = t; body = None }

abbrev with_function : Program → List ℕ → CType → Program
with_function p name t = record p { functions = p.functions ++ bare name t ∷ []; names = (name, FunctionNamed (length p.functions + first_source_function) t) ∷ p.names }

kept_there : (p : Program) (name : List ℕ) (t : CType) (number : ℕ) (u : CType) → IsThere p number u → IsThere (with_function p name t) number u
kept_there p name t number u h = record { place = h.place; numbered = h.numbered; func = h.func; at = has_more p.functions (bare name t) h.func h.place h.at; is = h.is }

new_there : (p : Program) (name : List ℕ) (t : CType) → IsThere (with_function p name t) (length p.functions + first_source_function) t
new_there p name t = record { place = length p.functions; numbered = refl; func = bare name t; at = last_is p.functions (bare name t); is = refl }

function_named : (a : ℕ) (t : CType) (b : ℕ) (u : CType) → FunctionNamed a t ≡ FunctionNamed b u → (a ≡ b) × (t ≡ u)
function_named a t b u e = (cc, cc)

with_function_good : (p : Program) (name : List ℕ) (t : CType) → Good p → TakesScalars t → Good (with_function p name t)
with_function_good p name t g takes = record {
  bodies = λ i f b e eb. ⊎_elim
      (λ old. let fits = g.bodies i f b old eb in (fits.0, λ x us serves extends. fits.1 x us serves (λ k h eh. extends k h (has_more p.functions (bare name t) h k eh))))
      (λ new. let none : None ≡ Some b = ap (λ (h : Function). h.body) new ∙ eb in absurd cc)
      (more_has p.functions (bare name t) f i e);
  named = λ other number u e. by (same_name other name) other number u e;
  scalars = λ i f e. ⊎_elim (λ old. g.scalars i f old) (λ new. subst (λ (h : Function). TakesScalars h.type) new takes) (more_has p.functions (bare name t) f i e);
}
  where
    by : (b : Bool) (other : List ℕ) (number : ℕ) (u : CType) → cond b (Some (FunctionNamed (length p.functions + first_source_function) t)) (meaning_in other p.names) ≡ Some (FunctionNamed number u) → IsThere (with_function p name t) number u
    by true other number u e =
        let is : FunctionNamed (length p.functions + first_source_function) t ≡ FunctionNamed number u = cc in
        let parts = function_named (length p.functions + first_source_function) t number u is in
        subst (λ n. IsThere (with_function p name t) n u) parts.0 (subst (IsThere (with_function p name t) (length p.functions + first_source_function)) parts.1 (new_there p name t))
    by false other number u e = kept_there p name t number u (g.named other number u e)

again_good : (p : Program) (from : ℕ) (t : CType) (o : Option Meaning) (name : List ℕ) → meaning_in name p.names ≡ o → Good p → TakesScalars t → Holds (Numbered t) (declared_again p from t o name)
again_good p from t (Some (FunctionNamed number u)) name e g takes =
    holds_kept (Numbered t) from 1 (same_type t u) (Fine (number, p))
    (λ same. (g, subst (IsThere p number) (sym ((types_compared t u).0 same)) (g.named name number u e)))
again_good p from t (Some (GlobalNamed place u)) name e g takes = tt
again_good p from t (Some (LocalNamed place u)) name e g takes = tt
again_good p from t None name e g takes = (with_function_good p name t g takes, new_there p name t)

declared_good : (p : Program) (from : ℕ) (t : CType) (name : List ℕ) → Good p → TakesScalars t → Holds (Numbered t) (function_declared p from t name)
declared_good p from t name g takes = holds_after (Numbered t) (keep from 19 (not (is_reserved name))) (declared_again p from t (meaning_in name p.names) name) (again_good p from t (meaning_in name p.names) name refl g takes)

-- ---- bodies of functions

abbrev defined : Program → ℕ → typed.Body → Program
defined p place b = record p { functions = with_body p.functions place b }

-- the names at file scope stand for functions with their types
names_at_file : (tags : List (List ℕ)) (p : Program) (us : List CType) → Good p → Extends p.functions us → NamesAre us (at_file tags p)
names_at_file tags p us g extends name number t e =
    let there = g.named name number t (sym (or_none (meaning_in name p.names)) ∙ e) in
    (there.place, there.numbered, extends there.place there.func there.at ∙ ap (λ (u : CType). Some u) there.is)

abbrev place_of : ℕ → ℕ
place_of number = number - first_source_function

defined_good : (p : Program) (number : ℕ) (t : CType) (b : typed.Body) → Good p → IsThere p number t → Fits p.functions t b → Good (defined p (place_of number) b)
defined_good p number t b g there h = record {
  bodies = λ i f c e ec. ⊎_elim
      (λ old. still f.type c (g.bodies i f c old ec))
      (λ new. still f.type c (by new.0 f c new.1 new.2 ec))
      (given_has p.functions (place_of number) b i f e);
  named = λ name other u e.
      let old = g.named name other u e in
      let now = has_given p.functions (place_of number) b old.place old.func old.at in
      record { place = old.place; numbered = old.numbered; func = now.0; at = now.1; is = now.2 ∙ old.is };
  scalars = λ i f e. ⊎_elim (λ old. g.scalars i f old) (λ new. subst (λ (k : Function). TakesScalars k.type) new.2 (g.scalars (place_of number) new.0 new.1)) (given_has p.functions (place_of number) b i f e);
}
  where
    here : place_of number ≡ there.place
    here = omega (arith, there.numbered)

    back : (us : List CType) → Extends (with_body p.functions (place_of number) b) us → Extends p.functions us
    back us extends k f e =
        let now = has_given p.functions (place_of number) b k f e in
        extends k now.0 now.1 ∙ ap (λ (u : CType). Some u) now.2

    still : (u : CType) (c : typed.Body) → Fits p.functions u c → Fits (with_body p.functions (place_of number) b) u c
    still u c fits = (fits.0, λ x us serves extends. fits.1 x us serves (back us extends))

    some_same : (f k : Function) → Some f ≡ Some k → f ≡ k
    some_same f k e = cc

    some_body : (c d : typed.Body) → Some c ≡ Some d → c ≡ d
    some_body c d e = cc

    by : (f z : Function) (c : typed.Body) → slice_get p.functions (place_of number) ≡ Some f → record f { body = Some b } ≡ z → z.body ≡ Some c → Fits p.functions z.type c
    by f z c at is ec =
        let same : f ≡ there.func = some_same f there.func (sym at ∙ (ap (slice_get p.functions) here ∙ there.at)) in
        let type : t ≡ z.type = sym there.is ∙ (sym (ap (λ (k : Function). k.type) same) ∙ ap (λ (k : Function). k.type) is) in
        let body : b ≡ c = some_body b c (ap (λ (k : Function). k.body) is ∙ ec) in
        subst (λ u. Fits p.functions u c) type (subst (Fits p.functions t) body h)

-- code and types that serve the functions that are declared
pub record Served (fs : List Function) : Type 0 where
  pub making : Making
  pub types : List CType
  pub serves : Serves making types
  pub extends : Extends fs types

body_counts_all : (tags : List (List ℕ)) (p : Program) (t : CType) (ps : Parts) (s : Stmt) → Good p → Holds (Counts p.functions) (body_of (at_file tags p) t ps s)
body_counts_all tags p t ps s g =
    holds_for (Counts p.functions) (Served p.functions) (λ i b. StatementCalls b.statements i.making) (body_of (at_file tags p) t ps s)
    (λ i. body_counts i.making i.types i.serves (at_file tags p) t ps s (names_at_file tags p i.types g i.extends))
    (λ b k x us serves extends. k (record { making = x; types = us; serves = serves; extends = extends }))

body_fits : (tags : List (List ℕ)) (p : Program) (t : CType) (ps : Parts) (s : Stmt) → Good p → Holds (Fits p.functions t) (body_of (at_file tags p) t ps s)
body_fits tags p t ps s g = holds_both (Begins t) (Counts p.functions) (body_of (at_file tags p) t ps s) (body_begins (at_file tags p) t ps s) (body_counts_all tags p t ps s g)

body_defined : (tags : List (List ℕ)) (p : Program) (from number : ℕ) (name : List ℕ) (t : CType) (ps : Parts) (s : Stmt) → Good p → IsThere p number t → Holds Good (function_defined tags p from (number - first_source_function) name t ps s)
body_defined tags p from number name t ps s g there =
    let given = body_of (at_file tags p) t ps s >>= (λ b. Fine (defined p (place_of number) b)) in
    holds_after Good (keep from 21 (not (is_some (body_at p.functions (place_of number))))) (keep from 18 (is_main name t) >> given) (holds_after Good (keep from 18 (is_main name t)) given
    (holds_then (Fits p.functions t) Good (body_of (at_file tags p) t ps s) (λ b. Fine (defined p (place_of number) b)) (body_fits tags p t ps s g) (λ b h. defined_good p number t b g there h)))

function_good : (tags : List (List ℕ)) (p : Program) (from : ℕ) (name : List ℕ) (t : CType) (ps : Parts) (r : Rest) → Good p → TakesScalars t → Holds Good (function tags p from name t ps r)
function_good tags p from name t ps NoRest g takes = holds_then (Numbered t) Good (function_declared p from t name) (λ a. Fine a.1) (declared_good p from t name g takes) (λ a h. h.0)
function_good tags p from name t ps (Initial v) g takes = holds_then (Numbered t) Good (function_declared p from t name) (λ a. Broken from 16) (declared_good p from t name g takes) (λ a h. tt)
function_good tags p from name t ps (Body s) g takes = holds_then (Numbered t) Good (function_declared p from t name) (λ a. function_defined tags a.1 from (a.0 - first_source_function) name t ps s) (declared_good p from t name g takes) (λ a h. body_defined tags a.1 from a.0 name t ps s h.0 h.1)
function_good tags p from name t ps (Members ds) g takes = holds_then (Numbered t) Good (function_declared p from t name) (λ a. Broken from 3) (declared_good p from t name g takes) (λ a h. tt)

-- ---- other declarations

global_named_good : (p : Program) (name : List ℕ) (t : CType) (gs : List Global) → Good p → Good (record p { names = (name, GlobalNamed (length p.globals) t) ∷ p.names; globals = gs })
global_named_good p name t gs g = record { bodies = g.bodies; named = λ other number u e. by (same_name other name) other number u e; scalars = g.scalars }
  where
    by : (b : Bool) (other : List ℕ) (number : ℕ) (u : CType) → cond b (Some (GlobalNamed (length p.globals) t)) (meaning_in other p.names) ≡ Some (FunctionNamed number u) → IsThere (record p { names = (name, GlobalNamed (length p.globals) t) ∷ p.names; globals = gs }) number u
    by true other number u e = absurd cc
    by false other number u e = let h = g.named other number u e in record { place = h.place; numbered = h.numbered; func = h.func; at = h.at; is = h.is }

global_good : (tags : List (List ℕ)) (p : Program) (from : ℕ) (name : List ℕ) (t : CType) (r : Rest) → Good p → Holds Good (global tags p from name t r)
global_good tags p from name t r g = search (holds_after, holds_on, global_named_good p name t, g)

struct_named_good : (p : Program) (ss : List Struct) → Good p → Good (record p { structs = ss })
struct_named_good p ss g = record { bodies = g.bodies; named = λ name number t e. let h = g.named name number t e in record { place = h.place; numbered = h.numbered; func = h.func; at = h.at; is = h.is }; scalars = g.scalars }

struct_good : (tags : List (List ℕ)) (p : Program) (from : ℕ) (tag : List ℕ) (ds : Decls) → Good p → Holds Good (struct_defined tags p from tag ds)
struct_good tags p from tag ds g = search (holds_after, holds_on, struct_named_good p, g)

either_good : (tags : List (List ℕ)) (p : Program) (from : ℕ) (name : List ℕ) (t : CType) (ps : Parts) (r : Rest) → Good p → TakesScalars t → Holds Good (function_or_global tags p from name t ps r)
either_good tags p from name (FunctionOf t ts) ps r g takes = function_good tags p from name (FunctionOf t ts) ps r g takes
either_good tags p from name Void ps r g takes = global_good tags p from name Void r g
either_good tags p from name (Integer k) ps r g takes = global_good tags p from name (Integer k) r g
either_good tags p from name (PointerTo t) ps r g takes = global_good tags p from name (PointerTo t) r g
either_good tags p from name (ArrayOf n t) ps r g takes = global_good tags p from name (ArrayOf n t) r g
either_good tags p from name (StructOf n) ps r g takes = global_good tags p from name (StructOf n) r g
either_good tags p from name (UndefinedStruct tag) ps r g takes = global_good tags p from name (UndefinedStruct tag) r g

-- what is declared by a declarator
abbrev declares : List (List ℕ) → Program → (from : ℕ) → Annots → Base → Parts → Option (List ℕ) → Rest → Checked Program
declares tags p from an b ps n r =
    annotation_types an (at_file tags p) >> (declared_type (Declare from an b ps n r) (at_file tags p) >>= (λ t. function_or_global tags p from (declared_name n) t ps r))

declares_good : (tags : List (List ℕ)) (p : Program) (from : ℕ) (an : Annots) (b : Base) (ps : Parts) (n : Option (List ℕ)) (r : Rest) → Good p → Holds Good (declares tags p from an b ps n r)
declares_good tags p from an b ps n r g =
    holds_after Good (annotation_types an (at_file tags p)) (declared_type (Declare from an b ps n r) (at_file tags p) >>= (λ t. function_or_global tags p from (declared_name n) t ps r))
    (holds_then TakesScalars Good (declared_type (Declare from an b ps n r) (at_file tags p)) (λ t. function_or_global tags p from (declared_name n) t ps r) (declared_takes (Declare from an b ps n r) (at_file tags p)) (λ t takes. either_good tags p from (declared_name n) t ps r g takes))

declaration_good : (tags : List (List ℕ)) (p : Program) (d : Decl) → Good p → Holds Good (declaration tags p d)
declaration_good tags p (Declare from an (bases.Struct tag) ps n (Members ds)) g = struct_good tags p from tag ds g
declaration_good tags p (Declare from an (bases.Struct tag) ps n NoRest) g = declares_good tags p from an (bases.Struct tag) ps n NoRest g
declaration_good tags p (Declare from an (bases.Struct tag) ps n (Initial v)) g = declares_good tags p from an (bases.Struct tag) ps n (Initial v) g
declaration_good tags p (Declare from an (bases.Struct tag) ps n (Body s)) g = declares_good tags p from an (bases.Struct tag) ps n (Body s) g
declaration_good tags p (Declare from an bases.Void ps n r) g = declares_good tags p from an bases.Void ps n r g
declaration_good tags p (Declare from an (bases.Int bytes signed) ps n r) g = declares_good tags p from an (bases.Int bytes signed) ps n r g

declarations_good : (tags : List (List ℕ)) (ds : Decls) (p : Program) → Good p → Holds Good (declarations tags p ds)
declarations_good tags NoDecls p g = g
declarations_good tags (MoreDecls d ds) p g = holds_then Good Good (declaration tags p d) (λ q. declarations tags q ds) (declaration_good tags p d g) (λ q h. declarations_good tags ds q h)

-- ---- sources

nothing_good : Good nothing
nothing_good = record { bodies = λ i f b e eb. absurd (none i f e); named = λ name number t e. absurd cc; scalars = λ i f e. absurd (none i f e) }
  where
    none : (i : ℕ) (f : Function) → slice_get {X = Function} [] i ≡ Some f → ⊥
    none i f e = cc

pub source_good : (ds : Decls) → Holds Good (program ds)
source_good ds = holds_then Good Good (declarations (tags_of ds) nothing ds) _ (declarations_good (tags_of ds) ds nothing nothing_good) (λ p g. holds_after Good (keep 0 18 _) (Fine p) g)
