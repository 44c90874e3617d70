-- Declarations at file scope: the functions of a program are those of its source, with their depths.
use Rattle.std.proofs.Common.{◌≡◌, ℕ, ◌+◌, ◌-◌, Bool, true, false, cond, List, [], ◌∷◌, ◌++◌, length, map, Option, Some, None, refl, sym, ap, ◌∙◌, subst, arith}
use Rattle.std.specs.Prelude.{not, is_some}
use Rattle.std.specs.Option.{option_map, option_or}
use Rattle.c_syntax.specs.declared.declaration.Base.{Base}
use Rattle.c_syntax.specs.declared.declaration.Base.TheVariants as bases
use Rattle.c_syntax.specs.Syntax.{Decl, Decls, Annots, Parts, Rest, Stmt, Declare, NoDecls, MoreDecls, NoRest, Initial, Body, Members}
use Rattle.c_builtins.specs.Table.{first_source_function}
use Rattle.c_scopes.specs.Scopes.{same_name, meaning_in, innermost}
use Rattle.c_types_model.specs.Types.{CType, Void, Integer, PointerTo, ArrayOf, StructOf, UndefinedStruct, FunctionOf}
use Rattle.c_types_rules.specs.Checked.{Checked, Fine, Broken, heard, keep, ◌>>=◌, ◌>>◌}
use Rattle.c_types_rules.specs.Expressions.{annotation_types, complete, declared_name, declared_type}
use Rattle.c_types_rules.specs.Environment.{Environment, Struct, Meaning, FunctionNamed, GlobalNamed, LocalNamed, declarable, extents, is_reserved}
use Rattle.c_types_rules.specs.Sources.{Global, Program, at_file, body_at, body_of, declaration, declarations, declared_again, function, function_declared, function_defined, function_or_global, global, global_value, is_main, nearest, nothing, params_of, program, struct_defined, tags_of, with_body}
use Rattle.c_types_rules.specs.TypedTree as typed
use Rattle.c_types_rules.specs.TypeTests.{is_function, same_type}
use Rattle.c_lower_depth_laws.specs.Expressions.{among}
use Rattle.c_lower_depth_laws.specs.Functions.{Row, depth_in, function_depth, functions_of, globals_after, rows_after, rows_of, with_row}
use Rattle.c_lower_depth_laws.specs.Functions as functions
use Rattle.c_lower_depth_laws.specs.Laws.{row_of, typed_body_depth}
use Rattle.c_lower_laws.proofs.Held.{Holds, holds_then, holds_on, holds_after, holds_kept}
use Rattle.c_lower_depth_laws.specs.Names.{Agrees, means_object}
use Rattle.c_lower_depth_laws.proofs.Bodies.{Counts, body_counts}
use Rattle.c_lower_depth_laws.proofs.Params.{OneEach, Shaped, declared_shaped}
use Rattle.c_lower_depth_laws.proofs.Rows.{bare, name_itself, names_equal, place_given, place_more, place_of, row_given, row_more, row_same, row_twice}

-- the number of a function's name
abbrev pub number_in : Option Meaning → Option ℕ
number_in (Some (FunctionNamed number t)) = Some number
number_in (Some (GlobalNamed place t)) = None
number_in (Some (LocalNamed place t)) = None
number_in None = None

abbrev pub numbered : Option ℕ → Option ℕ
numbered o = option_map (λ (k : ℕ). k + first_source_function) o

-- a program has these functions in order, and these names stand for objects; a function's number is that of its place
pub record Matches (objects : List (List ℕ)) (fs : List Row) (p : Program) : Type 0 where
  pub rows : map row_of p.functions ≡ fs
  pub agrees : Agrees objects (p.names ∷ [])
  pub placed : (name : List ℕ) → numbered (place_of name p.functions) ≡ number_in (meaning_in name p.names)

not_there : (o : Option ℕ) → numbered o ≡ None → o ≡ None
not_there None e = refl
not_there (Some k) e = absurd cc

there : (o : Option ℕ) (n : ℕ) → numbered o ≡ Some n → (k : ℕ) × (o ≡ Some k) × (k + first_source_function ≡ n)
there None n e = absurd cc
there (Some k) n e = (k, refl, cc)

-- ---- declarations of functions

abbrev with_function : Program → List ℕ → CType → Program
with_function p name t = record p { functions = p.functions ++ bare name t ∷ []; names = (name, FunctionNamed (length p.functions + first_source_function) t) ∷ p.names }

-- a program with a function, and its number
abbrev Numbered : List (List ℕ) → List Row → List ℕ → ℕ × Program → Type 0
Numbered objects fs name a = Matches objects (with_row name None fs) a.1 × (numbered (place_of name a.1.functions) ≡ Some a.0)

same_type_of : (m n : ℕ) (t u : CType) → Some (FunctionNamed m t) ≡ Some (FunctionNamed n u) → t ≡ u
same_type_of m n t u e = cc

-- a name that isn't declared
module _ (objects : List (List ℕ)) (fs : List Row) (p : Program) (g : Matches objects fs p) (name : List ℕ) (new : meaning_in name p.names ≡ None) where
  new_place : place_of name p.functions ≡ None
  new_place = not_there (place_of name p.functions) (g.placed name ∙ ap number_in new)

  new_object : among name objects ≡ false
  new_object = g.agrees.names name ∙ ap (λ m. means_object (option_or m None)) new

  function_agrees : (number : ℕ) (t : CType) → is_function t ≡ true → Agrees objects (((name, FunctionNamed number t) ∷ p.names) ∷ [])
  function_agrees number t is = record { scoped = tt; names = λ n. named n (same_name n name) refl; functions = λ n m u e. typed n m u (same_name n name) e }
    where
      named : (n : List ℕ) (b : Bool) → same_name n name ≡ b → among n objects ≡ means_object (option_or (cond b (Some (FunctionNamed number t)) (meaning_in n p.names)) None)
      named n true e = ap (λ z. among z objects) (names_equal n name e) ∙ new_object
      named n false e = g.agrees.names n

      typed : (n : List ℕ) (m : ℕ) (u : CType) (b : Bool) → option_or (cond b (Some (FunctionNamed number t)) (meaning_in n p.names)) None ≡ Some (FunctionNamed m u) → is_function u ≡ true
      typed n m u true e = subst (λ z. is_function z ≡ true) (same_type_of number m t u e) is
      typed n m u false e = g.agrees.functions n m u e

  function_placed : (t : CType) (n : List ℕ) → numbered (place_of n (p.functions ++ bare name t ∷ [])) ≡ number_in (meaning_in n ((name, FunctionNamed (length p.functions + first_source_function) t) ∷ p.names))
  function_placed t n = ap numbered (place_more p.functions name t n) ∙ by (same_name n name) refl
    where
      last : (o : Option ℕ) → o ≡ None → numbered (option_or o (Some (length p.functions))) ≡ Some (length p.functions + first_source_function)
      last None e = refl
      last (Some k) e = absurd cc

      none : (o : Option ℕ) → option_or o None ≡ o
      none None = refl
      none (Some k) = refl

      by : (b : Bool) → same_name n name ≡ b → numbered (option_or (place_of n p.functions) (cond b (Some (length p.functions)) None)) ≡ number_in (cond b (Some (FunctionNamed (length p.functions + first_source_function) t)) (meaning_in n p.names))
      by true e = last (place_of n p.functions) (ap (λ z. place_of z p.functions) (names_equal n name e) ∙ new_place)
      by false e = ap numbered (none (place_of n p.functions)) ∙ g.placed n

  function_new : (t : CType) → is_function t ≡ true → Numbered objects fs name (length p.functions + first_source_function, with_function p name t)
  function_new t is = (
    record {
      rows = row_more p.functions name t new_place ∙ ap (with_row name None) g.rows;
      agrees = function_agrees (length p.functions + first_source_function) t is;
      placed = function_placed t;
    },
    function_placed t name ∙ ap (λ b. number_in (cond b (Some (FunctionNamed (length p.functions + first_source_function) t)) (meaning_in name p.names))) (name_itself name),
  )

  global_matches : (place : ℕ) (t : CType) (gs : List Global) → Matches (name ∷ objects) fs (record p { names = (name, GlobalNamed place t) ∷ p.names; globals = gs })
  global_matches place t gs = record {
    rows = g.rows;
    agrees = record { scoped = tt; names = λ n. named n (same_name n name); functions = λ n m u e. typed n m u (same_name n name) e };
    placed = λ n. at n (same_name n name) refl;
  }
    where
      named : (n : List ℕ) (b : Bool) → cond b true (among n objects) ≡ means_object (option_or (cond b (Some (GlobalNamed place t)) (meaning_in n p.names)) None)
      named n true = refl
      named n false = g.agrees.names n

      typed : (n : List ℕ) (m : ℕ) (u : CType) (b : Bool) → option_or (cond b (Some (GlobalNamed place t)) (meaning_in n p.names)) None ≡ Some (FunctionNamed m u) → is_function u ≡ true
      typed n m u true e = absurd cc
      typed n m u false e = g.agrees.functions n m u e

      at : (n : List ℕ) (b : Bool) → same_name n name ≡ b → numbered (place_of n p.functions) ≡ number_in (cond b (Some (GlobalNamed place t)) (meaning_in n p.names))
      at n true e = ap (λ z. numbered (place_of z p.functions)) (names_equal n name e) ∙ ap numbered new_place
      at n false e = g.placed n

-- a function that is declared
function_again : (objects : List (List ℕ)) (fs : List Row) (p : Program) (name : List ℕ) (number : ℕ) (t : CType) → Matches objects fs p → meaning_in name p.names ≡ Some (FunctionNamed number t) → Numbered objects fs name (number, p)
function_again objects fs p name number t g e =
    let at = there (place_of name p.functions) number (g.placed name ∙ ap number_in e) in
    (record { rows = row_same p.functions name at.0 at.1 ∙ ap (with_row name None) g.rows; agrees = g.agrees; placed = g.placed }, g.placed name ∙ ap number_in e)

again_numbered : (objects : List (List ℕ)) (fs : List Row) (p : Program) (from : ℕ) (t : CType) (m : Option Meaning) (name : List ℕ) → meaning_in name p.names ≡ m → is_function t ≡ true → Matches objects fs p → Holds (Numbered objects fs name) (declared_again p from t m name)
again_numbered objects fs p from t (Some (FunctionNamed number u)) name e is g = holds_after (Numbered objects fs name) (keep from 1 (same_type t u)) (Fine (number, p)) (function_again objects fs p name number u g e)
again_numbered objects fs p from t (Some (GlobalNamed place u)) name e is g = tt
again_numbered objects fs p from t (Some (LocalNamed place u)) name e is g = tt
again_numbered objects fs p from t None name e is g = function_new objects fs p g name e t is

declared_numbered : (objects : List (List ℕ)) (fs : List Row) (p : Program) (from : ℕ) (t : CType) (name : List ℕ) → is_function t ≡ true → Matches objects fs p → Holds (Numbered objects fs name) (function_declared p from t name)
declared_numbered objects fs p from t name is g =
    holds_after (Numbered objects fs name) (keep from 19 (not (is_reserved name))) (declared_again p from t (meaning_in name p.names) name) (again_numbered objects fs p from t (meaning_in name p.names) name refl is g)

-- ---- bodies

no_body : (o : Option typed.Body) → not (is_some o) ≡ true → o ≡ None
no_body None e = refl
no_body (Some b) e = absurd cc

back : (k number : ℕ) → k + first_source_function ≡ number → number - first_source_function ≡ k
back k number e = omega (arith, e)

-- a function gets its body
given_matches : (objects : List (List ℕ)) (fs : List Row) (q : Program) (name : List ℕ) (place d : ℕ) (b : typed.Body) → Matches objects (with_row name None fs) q → place_of name q.functions ≡ Some place → body_at q.functions place ≡ None → typed_body_depth b ≡ d
    → Matches objects (with_row name (Some d) fs) (record q { functions = with_body q.functions place b })
given_matches objects fs q name place d b g at free e = record {
  rows = row_given q.functions name place b at free ∙ (ap (with_row name (Some (typed_body_depth b))) g.rows ∙ (row_twice fs name (typed_body_depth b) ∙ ap (λ n. with_row name (Some n) fs) e));
  agrees = g.agrees;
  placed = λ n. ap numbered (place_given q.functions place b n) ∙ g.placed n;
}

defined_matches : (objects : List (List ℕ)) (fs : List Row) (tags : List (List ℕ)) (q : Program) (from place : ℕ) (name : List ℕ) (t : CType) (ps : Parts) (s : Stmt) → Matches objects (with_row name None fs) q → OneEach (nearest ps) (params_of t) → place_of name q.functions ≡ Some place
    → Holds (Matches objects (with_row name (Some (function_depth ps s objects)) fs)) (function_defined tags q from place name t ps s)
defined_matches objects fs tags q from place name t ps s g each at =
    let After = Matches objects (with_row name (Some (function_depth ps s objects)) fs) in
    let given : Checked Program = body_of (at_file tags q) t ps s >>= (λ b. Fine (record q { functions = with_body q.functions place b })) in
    holds_kept After from 21 (not (is_some (body_at q.functions place))) (keep from 18 (is_main name t) >> given)
    (λ free. holds_after After (keep from 18 (is_main name t)) given
    (holds_then (Counts ps s objects) After (body_of (at_file tags q) t ps s) (λ b. Fine (record q { functions = with_body q.functions place b })) (body_counts (at_file tags q) t ps s objects each g.agrees)
    (λ b h. given_matches objects fs q name place (function_depth ps s objects) b g at (no_body (body_at q.functions place) free) h)))

placed_back : (q : Program) (name : List ℕ) (number : ℕ) → numbered (place_of name q.functions) ≡ Some number → place_of name q.functions ≡ Some (number - first_source_function)
placed_back q name number e =
    let at = there (place_of name q.functions) number e in
    at.1 ∙ ap (λ (k : ℕ). Some k) (sym (back at.0 number at.2))

function_matches : (objects : List (List ℕ)) (fs : List Row) (tags : List (List ℕ)) (p : Program) (from : ℕ) (name : List ℕ) (t : CType) (ps : Parts) (r : Rest) → Matches objects fs p → is_function t ≡ true → OneEach (nearest ps) (params_of t)
    → Holds (Matches objects (with_row name (depth_in ps r objects) fs)) (function tags p from name t ps r)
function_matches objects fs tags p from name t ps NoRest g is each =
    holds_then (Numbered objects fs name) (Matches objects (with_row name None fs)) (function_declared p from t name) (λ a. Fine a.1) (declared_numbered objects fs p from t name is g) (λ a h. h.0)
function_matches objects fs tags p from name t ps (Initial v) g is each = holds_on (Matches objects (with_row name None fs)) (function_declared p from t name) (λ a. Broken from 16) (λ a. tt)
function_matches objects fs tags p from name t ps (Body s) g is each =
    holds_then (Numbered objects fs name) (Matches objects (with_row name (Some (function_depth ps s objects)) fs)) (function_declared p from t name) (λ a. function_defined tags a.1 from (a.0 - first_source_function) name t ps s) (declared_numbered objects fs p from t name is g)
    (λ a h. defined_matches objects fs tags a.1 from (a.0 - first_source_function) name t ps s h.0 each (placed_back a.1 name a.0 h.1))
function_matches objects fs tags p from name t ps (Members ds) g is each = holds_on (Matches objects (with_row name None fs)) (function_declared p from t name) (λ a. Broken from 3) (λ a. tt)

-- ---- other declarations

holds_declarable : {B : Type 0} (Q : B → Type 0) (env : Environment) (from : ℕ) (name : List ℕ) (y : Checked B) → (meaning_in name (innermost env.scopes) ≡ None → Holds Q y) → Holds Q (declarable env from name >> y)
holds_declarable Q env from name y h = by (not (is_reserved name)) (meaning_in name (innermost env.scopes)) h
  where
    by : (b : Bool) (m : Option Meaning) → (m ≡ None → Holds Q y) → Holds Q ((keep from 19 b >> keep from 1 (not (is_some m))) >> y)
    by true None h = h refl
    by true (Some m) h = tt
    by false m h = tt

other_matches : (objects : List (List ℕ)) (fs : List Row) (tags : List (List ℕ)) (p : Program) (from : ℕ) (name : List ℕ) (t : CType) (r : Rest) → Matches objects fs p → Holds (Matches (name ∷ objects) fs) (global tags p from name t r)
other_matches objects fs tags p from name t r g =
    let named : Program = record p { names = (name, GlobalNamed (length p.globals) t) ∷ p.names } in
    let rest : Checked Program = heard (global_value tags named from t r) >>= (λ x. Fine (record named { globals = p.globals ++ record { name = name; type = t; value = x.0; unevaluated = x.1 } ∷ [] })) in
    holds_after (Matches (name ∷ objects) fs) (complete (extents (at_file tags p)) from t) (declarable (at_file tags p) from name >> rest)
    (holds_declarable (Matches (name ∷ objects) fs) (at_file tags p) from name rest
    (λ new. holds_on (Matches (name ∷ objects) fs) (heard (global_value tags named from t r)) _ (λ x. global_matches objects fs p g name new (length p.globals) t (p.globals ++ record { name = name; type = t; value = x.0; unevaluated = x.1 } ∷ []))))

-- a declaration that no struct's members follow
abbrev Either : (b : Bool) (objects : List (List ℕ)) (fs : List Row) (name : List ℕ) (o : Option ℕ) → Program → Type 0
Either b objects fs name o = Matches (cond b objects (name ∷ objects)) (cond b (with_row name o fs) fs)

either_matches : (objects : List (List ℕ)) (fs : List Row) (tags : List (List ℕ)) (p : Program) (from : ℕ) (name : List ℕ) (t : CType) (ps : Parts) (r : Rest) → Matches objects fs p → Shaped ps t → Holds (Either (functions.is_function ps) objects fs name (depth_in ps r objects)) (function_or_global tags p from name t ps r)
either_matches objects fs tags p from name t ps r g h = subst (λ b. Holds (Either b objects fs name (depth_in ps r objects)) (function_or_global tags p from name t ps r)) h.1 (by t h.0)
  where
    by : (t : CType) → OneEach (nearest ps) (params_of t) → Holds (Either (is_function t) objects fs name (depth_in ps r objects)) (function_or_global tags p from name t ps r)
    by (FunctionOf u ts) each = function_matches objects fs tags p from name (FunctionOf u ts) ps r g refl each
    by Void each = other_matches objects fs tags p from name Void r g
    by (Integer k) each = other_matches objects fs tags p from name (Integer k) r g
    by (PointerTo u) each = other_matches objects fs tags p from name (PointerTo u) r g
    by (ArrayOf n u) each = other_matches objects fs tags p from name (ArrayOf n u) r g
    by (StructOf n) each = other_matches objects fs tags p from name (StructOf n) r g
    by (UndefinedStruct tag) each = other_matches objects fs tags p from name (UndefinedStruct tag) r g

-- what is declared by a declarator
abbrev declares : List (List ℕ) → Program → (from : ℕ) → Annots → Base → Parts → Option (List ℕ) → Rest → Checked Program
declares tags p from an b ps n r =
    annotation_types an (at_file tags p) >> (declared_type (Declare from an b ps n r) (at_file tags p) >>= (λ t. function_or_global tags p from (declared_name n) t ps r))

declares_matches : (objects : List (List ℕ)) (fs : List Row) (tags : List (List ℕ)) (p : Program) (from : ℕ) (an : Annots) (b : Base) (ps : Parts) (n : Option (List ℕ)) (r : Rest) → Matches objects fs p → Holds (Either (functions.is_function ps) objects fs (declared_name n) (depth_in ps r objects)) (declares tags p from an b ps n r)
declares_matches objects fs tags p from an b ps n r g =
    let After = Either (functions.is_function ps) objects fs (declared_name n) (depth_in ps r objects) in
    holds_after After (annotation_types an (at_file tags p)) (declared_type (Declare from an b ps n r) (at_file tags p) >>= (λ t. function_or_global tags p from (declared_name n) t ps r))
    (holds_then (Shaped ps) After (declared_type (Declare from an b ps n r) (at_file tags p)) _ (declared_shaped (Declare from an b ps n r) (at_file tags p)) (λ t h. either_matches objects fs tags p from (declared_name n) t ps r g h))

-- members follow nothing but a struct
members_break : (Q : Program → Type 0) (tags : List (List ℕ)) (p : Program) (from : ℕ) (an : Annots) (b : Base) (ps : Parts) (n : Option (List ℕ)) (ds : Decls) → Holds Q (declares tags p from an b ps n (Members ds))
members_break Q tags p from an b ps n ds = holds_after Q (annotation_types an (at_file tags p)) _ (holds_on Q (declared_type (Declare from an b ps n (Members ds)) (at_file tags p)) _ by)
  where
    no_global : (t : CType) → Holds Q (global tags p from (declared_name n) t (Members ds))
    no_global t = holds_after Q (complete (extents (at_file tags p)) from t) _ (holds_after Q (declarable (at_file tags p) from (declared_name n)) _ tt)

    by : (t : CType) → Holds Q (function_or_global tags p from (declared_name n) t ps (Members ds))
    by (FunctionOf u ts) = holds_on Q (function_declared p from (FunctionOf u ts) (declared_name n)) (λ a. Broken from 3) (λ a. tt)
    by Void = no_global Void
    by (Integer k) = no_global (Integer k)
    by (PointerTo u) = no_global (PointerTo u)
    by (ArrayOf m u) = no_global (ArrayOf m u)
    by (StructOf m) = no_global (StructOf m)
    by (UndefinedStruct tag) = no_global (UndefinedStruct tag)

struct_matches : (objects : List (List ℕ)) (fs : List Row) (tags : List (List ℕ)) (p : Program) (from : ℕ) (tag : List ℕ) (ds : Decls) → Matches objects fs p → Holds (Matches objects fs) (struct_defined tags p from tag ds)
struct_matches objects fs tags p from tag ds g = search (holds_after, holds_on, struct_named)
  where
    struct_named : (ss : List Struct) → Matches objects fs (record p { structs = ss })
    struct_named ss = record { rows = g.rows; agrees = g.agrees; placed = g.placed }

declaration_matches : (objects : List (List ℕ)) (fs : List Row) (tags : List (List ℕ)) (p : Program) (d : Decl) → Matches objects fs p → Holds (Matches (globals_after d objects) (rows_after d objects fs)) (declaration tags p d)
declaration_matches objects fs tags p (Declare from an (bases.Struct tag) ps n (Members ds)) g = struct_matches objects fs tags p from tag ds g
declaration_matches objects fs tags p (Declare from an (bases.Struct tag) ps n NoRest) g = declares_matches objects fs tags p from an (bases.Struct tag) ps n NoRest g
declaration_matches objects fs tags p (Declare from an (bases.Struct tag) ps n (Initial v)) g = declares_matches objects fs tags p from an (bases.Struct tag) ps n (Initial v) g
declaration_matches objects fs tags p (Declare from an (bases.Struct tag) ps n (Body s)) g = declares_matches objects fs tags p from an (bases.Struct tag) ps n (Body s) g
declaration_matches objects fs tags p (Declare from an bases.Void ps n (Members ds)) g = members_break (Matches objects fs) tags p from an bases.Void ps n ds
declaration_matches objects fs tags p (Declare from an bases.Void ps n NoRest) g = declares_matches objects fs tags p from an bases.Void ps n NoRest g
declaration_matches objects fs tags p (Declare from an bases.Void ps n (Initial v)) g = declares_matches objects fs tags p from an bases.Void ps n (Initial v) g
declaration_matches objects fs tags p (Declare from an bases.Void ps n (Body s)) g = declares_matches objects fs tags p from an bases.Void ps n (Body s) g
declaration_matches objects fs tags p (Declare from an (bases.Int bytes signed) ps n (Members ds)) g = members_break (Matches objects fs) tags p from an (bases.Int bytes signed) ps n ds
declaration_matches objects fs tags p (Declare from an (bases.Int bytes signed) ps n NoRest) g = declares_matches objects fs tags p from an (bases.Int bytes signed) ps n NoRest g
declaration_matches objects fs tags p (Declare from an (bases.Int bytes signed) ps n (Initial v)) g = declares_matches objects fs tags p from an (bases.Int bytes signed) ps n (Initial v) g
declaration_matches objects fs tags p (Declare from an (bases.Int bytes signed) ps n (Body s)) g = declares_matches objects fs tags p from an (bases.Int bytes signed) ps n (Body s) g

-- ---- sources

-- a program has these functions
abbrev pub Rows : List Row → Program → Type 0
Rows fs p = map row_of p.functions ≡ fs

declarations_match : (tags : List (List ℕ)) (ds : Decls) (objects : List (List ℕ)) (fs : List Row) (p : Program) → Matches objects fs p → Holds (Rows (rows_of ds objects fs)) (declarations tags p ds)
declarations_match tags NoDecls objects fs p g = g.rows
declarations_match tags (MoreDecls d ds) objects fs p g =
    holds_then (Matches (globals_after d objects) (rows_after d objects fs)) (Rows (rows_of ds (globals_after d objects) (rows_after d objects fs))) (declaration tags p d) (λ q. declarations tags q ds) (declaration_matches objects fs tags p d g)
    (λ q h. declarations_match tags ds (globals_after d objects) (rows_after d objects fs) q h)

nothing_matches : Matches [] [] nothing
nothing_matches = record { rows = refl; agrees = record { scoped = tt; names = λ name. refl; functions = λ name number t e. absurd cc }; placed = λ name. refl }

pub source_matches : (ds : Decls) → Holds (Rows (functions_of ds)) (program ds)
source_matches ds = holds_then (Rows (functions_of ds)) (Rows (functions_of ds)) (declarations (tags_of ds) nothing ds) _ (declarations_match (tags_of ds) ds [] [] nothing nothing_matches) (λ p h. holds_after (Rows (functions_of ds)) (keep 0 18 _) (Fine p) h)
