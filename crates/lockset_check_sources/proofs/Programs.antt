-- In each function of a typed source calls by name are plain, and `break` and `continue` stand in loops.
use Rattle.std.proofs.Common.{◌≡◌, ◌⊎◌, inl, inr, ℕ, zero, suc, ◌+◌, ◌-◌, ◌≤◌, ltb, Bool, true, false, cond, List, [], ◌∷◌, ◌++◌, length, Option, Some, None, refl, sym, ap, ◌∙◌, subst, arith, ⊎_elim}
use Rattle.std.specs.Prelude.{slice_get, not, is_some}
use Rattle.c_syntax.specs.declared.declaration.Base.{Base}
use Rattle.c_syntax.specs.declared.declaration.Base.TheVariants as bases
use Rattle.c_syntax.specs.Syntax.{Decl, Decls, Annots, Parts, Rest, Stmt, Declare, NoDecls, MoreDecls, NoRest, Initial, Body, Members}
use Rattle.c_builtins.specs.Table.{first_source_function}
use Rattle.c_scopes.specs.Scopes.{same_name, meaning_in}
use Rattle.c_types_model.specs.Types.{CType, Void, Integer, PointerTo, ArrayOf, StructOf, UndefinedStruct, FunctionOf}
use Rattle.c_types_rules.specs.Checked.{Checked, Fine, Noted, Broken, keep, ◌>>=◌, ◌>>◌}
use Rattle.c_types_rules.specs.Expressions.{annotation_types, declared_name, declared_type}
use Rattle.c_types_rules.specs.Environment.{Struct, Meaning, FunctionNamed, GlobalNamed, LocalNamed, is_reserved}
use Rattle.c_types_rules.specs.Sources.{Function, Global, Program, at_file, body_at, body_of, declaration, declarations, declared_again, function, function_declared, function_defined, function_or_global, global, is_main, nothing, program, struct_defined, tags_of, with_body}
use Rattle.c_types_rules.specs.TypedTree as typed
use Rattle.c_types_rules.specs.TypeTests.{same_type}
use Rattle.marks.specs.Places.{builtin_count}
use Rattle.memory_map.specs.declared.placed.Placed.{Placed}
use Rattle.c_types_rules.specs.Limits.{Which, Outcome, Typed, Limit, Rule, first_limit, outcome}
use Rattle.c_semantics.specs.Context.{body_or}
use Rattle.lockset_check_threads.specs.Typed.{InStatement, IsPlainCall}
use Rattle.lockset_check_threads.specs.Laws.{CallsArePlain}
use Rattle.lockset_check_sources.proofs.Found.{Holds, holds_then, holds_on, holds_after}
use Rattle.lockset_check_sources.proofs.Expressions.{NamesAre}
use Rattle.lockset_check_sources.proofs.Bodies.{body_plain, or_none}

abbrev pub Plain : typed.Body → Type 0
Plain b = InStatement IsPlainCall false b.statements

-- each function that is named has a number of its own
pub record Good (p : Program) : Type 0 where
  pub bodies : (i : ℕ) (f : Function) (b : typed.Body) → slice_get p.functions i ≡ Some f → f.body ≡ Some b → Plain b
  pub named : (name : List ℕ) (number : ℕ) (t : CType) → meaning_in name p.names ≡ Some (FunctionNamed number t) → first_source_function ≤ number

-- ---- lists of functions

pub more_has : {A : Type 0} (xs : List A) (y x : A) (i : ℕ) → slice_get (xs ++ y ∷ []) i ≡ Some x → (slice_get xs i ≡ Some x) ⊎ (y ≡ x)
more_has [] y x zero e = inr cc
more_has [] y x (suc i) e = absurd cc
more_has (z ∷ xs) y x zero e = inl e
more_has (z ∷ xs) y x (suc i) e = more_has xs y x i e

-- a function that gets its body
given_has : (fs : List Function) (place : ℕ) (b : typed.Body) (i : ℕ) (x : Function) → slice_get (with_body fs place b) i ≡ Some x → (slice_get fs i ≡ Some x) ⊎ ((f : Function) × (slice_get fs place ≡ Some f) × (record f { body = Some b } ≡ x))
given_has [] place b i x e = absurd cc
given_has (f ∷ fs) zero b zero x e = inr (f, refl, cc)
given_has (f ∷ fs) zero b (suc i) x e = inl e
given_has (f ∷ fs) (suc place) b zero x e = inl e
given_has (f ∷ fs) (suc place) b (suc i) x e = given_has fs place b i x e

-- ---- declarations of functions

abbrev Numbered : ℕ × Program → Type 0
Numbered a = Good a.1 × (first_source_function ≤ a.0)

abbrev bare : List ℕ → CType → Function
bare name t = record { name = name; type = t; body = None }

abbrev with_function : Program → List ℕ → CType → Program
with_function p name t = record p { functions = p.functions ++ bare name t ∷ []; names = (name, FunctionNamed (length p.functions + first_source_function) t) ∷ p.names }

function_named : (a : ℕ) (t : CType) (b : ℕ) (u : CType) → FunctionNamed a t ≡ FunctionNamed b u → a ≡ b
function_named a t b u e = cc

with_function_good : (p : Program) (name : List ℕ) (t : CType) → Good p → Good (with_function p name t)
with_function_good p name t g = record {
  bodies = λ i f b e eb. ⊎_elim (λ old. g.bodies i f b old eb) (λ new. let none : None ≡ Some b = ap (λ (h : Function). h.body) new ∙ eb in absurd cc) (more_has p.functions (bare name t) f i e);
  named = λ other number u e. by (same_name other name) other number u e;
}
  where
    by : (b : Bool) (other : List ℕ) (number : ℕ) (u : CType) → cond b (Some (FunctionNamed (length p.functions + first_source_function) t)) (meaning_in other p.names) ≡ Some (FunctionNamed number u) → first_source_function ≤ number
    by true other number u e =
        let is : FunctionNamed (length p.functions + first_source_function) t ≡ FunctionNamed number u = cc in
        let same = function_named (length p.functions + first_source_function) t number u is in
        omega (arith, same)
    by false other number u e = g.named other number u e

again_good : (p : Program) (from : ℕ) (t : CType) (o : Option Meaning) (name : List ℕ) → meaning_in name p.names ≡ o → Good p → Holds Numbered (declared_again p from t o name)
again_good p from t (Some (FunctionNamed number u)) name e g = holds_after Numbered (keep from 1 (same_type t u)) (Fine (number, p)) (g, g.named name number u e)
again_good p from t (Some (GlobalNamed place u)) name e g = tt
again_good p from t (Some (LocalNamed place u)) name e g = tt
again_good p from t None name e g = (with_function_good p name t g, omega arith)

declared_good : (p : Program) (from : ℕ) (t : CType) (name : List ℕ) → Good p → Holds Numbered (function_declared p from t name)
declared_good p from t name g = holds_after Numbered (keep from 19 (not (is_reserved name))) (declared_again p from t (meaning_in name p.names) name) (again_good p from t (meaning_in name p.names) name refl g)

-- ---- bodies of functions

abbrev defined : Program → ℕ → typed.Body → Program
defined p place b = record p { functions = with_body p.functions place b }

names_at_file : (tags : List (List ℕ)) (p : Program) → Good p → NamesAre (at_file tags p)
names_at_file tags p g name number t e = g.named name number t (sym (or_none (meaning_in name p.names)) ∙ e)

defined_good : (p : Program) (place : ℕ) (b : typed.Body) → Good p → Plain b → Good (defined p place b)
defined_good p place b g h = record {
  bodies = λ i f c e ec. ⊎_elim (λ old. g.bodies i f c old ec) (λ new. by new.0 f c new.2 ec) (given_has p.functions place b i f e);
  named = g.named;
}
  where
    some_body : (c d : typed.Body) → Some c ≡ Some d → c ≡ d
    some_body c d e = cc

    by : (f z : Function) (c : typed.Body) → record f { body = Some b } ≡ z → z.body ≡ Some c → Plain c
    by f z c is ec = subst Plain (some_body b c (ap (λ (k : Function). k.body) is ∙ ec)) h

body_defined : (tags : List (List ℕ)) (p : Program) (from number : ℕ) (name : List ℕ) (t : CType) (ps : Parts) (s : Stmt) → Good p → Holds Good (function_defined tags p from (number - first_source_function) name t ps s)
body_defined tags p from number name t ps s g =
    let place = number - first_source_function in
    let given = body_of (at_file tags p) t ps s >>= (λ b. Fine (defined p place b)) in
    holds_after Good (keep from 21 (not (is_some (body_at p.functions place)))) (keep from 18 (is_main name t) >> given) (holds_after Good (keep from 18 (is_main name t)) given
    (holds_then Plain Good (body_of (at_file tags p) t ps s) (λ b. Fine (defined p place b)) (body_plain (at_file tags p) t ps s (names_at_file tags p g)) (λ b h. defined_good p place b g h)))

function_good : (tags : List (List ℕ)) (p : Program) (from : ℕ) (name : List ℕ) (t : CType) (ps : Parts) (r : Rest) → Good p → Holds Good (function tags p from name t ps r)
function_good tags p from name t ps NoRest g = holds_then Numbered Good (function_declared p from t name) (λ a. Fine a.1) (declared_good p from t name g) (λ a h. h.0)
function_good tags p from name t ps (Initial v) g = holds_then Numbered Good (function_declared p from t name) (λ a. Broken from 16) (declared_good p from t name g) (λ a h. tt)
function_good tags p from name t ps (Body s) g = holds_then Numbered Good (function_declared p from t name) (λ a. function_defined tags a.1 from (a.0 - first_source_function) name t ps s) (declared_good p from t name g) (λ a h. body_defined tags a.1 from a.0 name t ps s h.0)
function_good tags p from name t ps (Members ds) g = holds_then Numbered Good (function_declared p from t name) (λ a. Broken from 3) (declared_good p from t name g) (λ a h. tt)

-- ---- other declarations

global_named_good : (p : Program) (name : List ℕ) (t : CType) (gs : List Global) → Good p → Good (record p { names = (name, GlobalNamed (length p.globals) t) ∷ p.names; globals = gs })
global_named_good p name t gs g = record { bodies = g.bodies; named = λ other number u e. by (same_name other name) other number u e }
  where
    by : (b : Bool) (other : List ℕ) (number : ℕ) (u : CType) → cond b (Some (GlobalNamed (length p.globals) t)) (meaning_in other p.names) ≡ Some (FunctionNamed number u) → first_source_function ≤ number
    by true other number u e = absurd cc
    by false other number u e = g.named other number u e

global_good : (tags : List (List ℕ)) (p : Program) (from : ℕ) (name : List ℕ) (t : CType) (r : Rest) → Good p → Holds Good (global tags p from name t r)
global_good tags p from name t r g = search (holds_after, holds_on, global_named_good p name t, g)

struct_named_good : (p : Program) (ss : List Struct) → Good p → Good (record p { structs = ss })
struct_named_good p ss g = record { bodies = g.bodies; named = g.named }

struct_good : (tags : List (List ℕ)) (p : Program) (from : ℕ) (tag : List ℕ) (ds : Decls) → Good p → Holds Good (struct_defined tags p from tag ds)
struct_good tags p from tag ds g = search (holds_after, holds_on, struct_named_good p, g)

either_good : (tags : List (List ℕ)) (p : Program) (from : ℕ) (name : List ℕ) (t : CType) (ps : Parts) (r : Rest) → Good p → Holds Good (function_or_global tags p from name t ps r)
either_good tags p from name (FunctionOf t ts) ps r g = function_good tags p from name (FunctionOf t ts) ps r g
either_good tags p from name Void ps r g = global_good tags p from name Void r g
either_good tags p from name (Integer k) ps r g = global_good tags p from name (Integer k) r g
either_good tags p from name (PointerTo t) ps r g = global_good tags p from name (PointerTo t) r g
either_good tags p from name (ArrayOf n t) ps r g = global_good tags p from name (ArrayOf n t) r g
either_good tags p from name (StructOf n) ps r g = global_good tags p from name (StructOf n) r g
either_good tags p from name (UndefinedStruct tag) ps r g = global_good tags p from name (UndefinedStruct tag) r g

-- what is declared by a declarator
abbrev declares : List (List ℕ) → Program → (from : ℕ) → Annots → Base → Parts → Option (List ℕ) → Rest → Checked Program
declares tags p from an b ps n r =
    annotation_types an (at_file tags p) >> (declared_type (Declare from an b ps n r) (at_file tags p) >>= (λ t. function_or_global tags p from (declared_name n) t ps r))

declares_good : (tags : List (List ℕ)) (p : Program) (from : ℕ) (an : Annots) (b : Base) (ps : Parts) (n : Option (List ℕ)) (r : Rest) → Good p → Holds Good (declares tags p from an b ps n r)
declares_good tags p from an b ps n r g =
    holds_after Good (annotation_types an (at_file tags p)) (declared_type (Declare from an b ps n r) (at_file tags p) >>= (λ t. function_or_global tags p from (declared_name n) t ps r))
    (holds_on Good (declared_type (Declare from an b ps n r) (at_file tags p)) (λ t. function_or_global tags p from (declared_name n) t ps r) (λ t. either_good tags p from (declared_name n) t ps r g))

declaration_good : (tags : List (List ℕ)) (p : Program) (d : Decl) → Good p → Holds Good (declaration tags p d)
declaration_good tags p (Declare from an (bases.Struct tag) ps n (Members ds)) g = struct_good tags p from tag ds g
declaration_good tags p (Declare from an (bases.Struct tag) ps n NoRest) g = declares_good tags p from an (bases.Struct tag) ps n NoRest g
declaration_good tags p (Declare from an (bases.Struct tag) ps n (Initial v)) g = declares_good tags p from an (bases.Struct tag) ps n (Initial v) g
declaration_good tags p (Declare from an (bases.Struct tag) ps n (Body s)) g = declares_good tags p from an (bases.Struct tag) ps n (Body s) g
declaration_good tags p (Declare from an bases.Void ps n r) g = declares_good tags p from an bases.Void ps n r g
declaration_good tags p (Declare from an (bases.Int bytes signed) ps n r) g = declares_good tags p from an (bases.Int bytes signed) ps n r g

declarations_good : (tags : List (List ℕ)) (ds : Decls) (p : Program) → Good p → Holds Good (declarations tags p ds)
declarations_good tags NoDecls p g = g
declarations_good tags (MoreDecls d ds) p g = holds_then Good Good (declaration tags p d) (λ q. declarations tags q ds) (declaration_good tags p d g) (λ q h. declarations_good tags ds q h)

-- ---- sources

nothing_good : Good nothing
nothing_good = record { bodies = λ i f b e eb. absurd (none i f e); named = λ name number t e. absurd cc }
  where
    none : (i : ℕ) (f : Function) → slice_get {X = Function} [] i ≡ Some f → ⊥
    none i f e = cc

source_good : (ds : Decls) → Holds Good (program ds)
source_good ds = holds_then Good Good (declarations (tags_of ds) nothing ds) _ (declarations_good (tags_of ds) ds nothing nothing_good) (λ p g. holds_after Good (keep 0 18 _) (Fine p) g)

abbrev unless : Program → Option Which → Outcome
unless p (Some w) = Limit w
unless p None = Typed p

abbrev decided : Checked Program → Outcome
decided (Fine p) = unless p (first_limit true p)
decided (Noted n p) = unless p (first_limit (not n.large) p)
decided (Broken from rule) = Rule from rule

unless_typed : (q p : Program) (w : Option Which) → Good q → unless q w ≡ Typed p → Good p
unless_typed q p None g e = let is : q ≡ p = cc in subst Good is g
unless_typed q p (Some w) g e = absurd cc

decided_good : (c : Checked Program) (p : Program) → Holds Good c → decided c ≡ Typed p → Good p
decided_good (Fine q) p g e = unless_typed q p (first_limit true q) g e
decided_good (Noted n q) p g e = unless_typed q p (first_limit (not n.large) q) g e
decided_good (Broken from rule) p g e = absurd cc

within : (p : Program) (f : ℕ) (low : Bool) (x : Function) → cond low None (slice_get p.functions (f - builtin_count)) ≡ Some x → slice_get p.functions (f - builtin_count) ≡ Some x
within p f true x e = absurd cc
within p f false x e = e

good_plain : (p : Program) (texts : List ℕ) (placed : Placed) → Good p → CallsArePlain (record { program = p; texts = texts; placed = placed })
good_plain p texts placed g f b e = by (cond (ltb f builtin_count) None (slice_get p.functions (f - builtin_count))) refl e
  where
    by : (o : Option Function) → cond (ltb f builtin_count) None (slice_get p.functions (f - builtin_count)) ≡ o → body_or o ≡ Some b → Plain b
    by None eo eb = absurd cc
    by (Some x) eo eb = g.bodies (f - builtin_count) x b (within p f (ltb f builtin_count) x eo) eb

pub calls_are_plain : (ds : Decls) (p : Program) → outcome ds ≡ Typed p → (texts : List ℕ) (placed : Placed) → CallsArePlain (record { program = p; texts = texts; placed = placed })
calls_are_plain ds p e texts placed = good_plain p texts placed (decided_good (program ds) p (source_good ds) e)
