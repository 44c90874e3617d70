-- Alignments of a typed program.
use Rattle.std.proofs.Common.{◌≡◌, inl, inr, ℕ, zero, suc, ◌-◌, ◌*◌, ◌<◌, ◌≤◌, Bool, true, false, cond, List, [], ◌∷◌, ◌++◌, length, map, max, Option, Some, None, refl, subst, arith}
use Rattle.std.specs.Prelude.{slice_get, nat_le, not, is_some}
use Rattle.std.specs.Option.{option_map}
use Rattle.std.specs.List.{All}
use Rattle.std.proofs.lemmas.Bool.{cases_lt, leb-true}
use Rattle.std.proofs.lemmas.List.Elements.{All-cons, All-head, All-nil, All-tail}
use Rattle.source_limits.specs.Limits.{greatest_object, most_functions}
use Rattle.r2_num.specs.declared.kinds.IntKind.{IntKind}
use Rattle.r2_num.specs.declared.kinds.IntKind.TheVariants.{I8, U8, I16, U16, I32, U32, I64, U64}
use Rattle.marks.specs.Places.{alignment}
use Rattle.c_syntax.specs.declared.declaration.Base.{Base}
use Rattle.c_syntax.specs.declared.declaration.Base.TheVariants as bases
use Rattle.c_syntax.specs.Syntax.{Annots, Decl, Decls, Parts, Rest, Declare, NoDecls, MoreDecls, NoRest, Initial, Body, Members}
use Rattle.c_builtins.specs.Table.{first_source_function}
use Rattle.c_scopes.specs.Scopes.{meaning_in}
use Rattle.c_types_model.specs.Layouts.{extent_of, greatest_align, kind_extent, repeated, scalar, struct_of}
use Rattle.c_types_model.specs.Types.{CType, Void, Integer, PointerTo, ArrayOf, StructOf, UndefinedStruct, FunctionOf}
use Rattle.c_types_model.specs.declared.extent.Extent.{Extent}
use Rattle.c_types_rules.specs.Checked.{Checked, Fine, Noted, Notes, Broken, heard, keep, noting, small, ◌>>=◌, ◌>>◌}
use Rattle.c_types_rules.specs.TypeTests.{same_type}
use Rattle.c_types_rules.specs.Environment.{Meaning, Struct, FunctionNamed, GlobalNamed, LocalNamed, declarable, extents, is_reserved, place_in}
use Rattle.c_types_rules.specs.Expressions.{annotation_types, complete, declared_name, declared_type}
use Rattle.c_types_rules.specs.Limits.{Which, Functions, Params, Object, Globals, Frame, Typed, all_keep, decided, few_members, few_params, first_limit, globals_end, outcome, small_frame, type_of, unless}
use Rattle.c_types_rules.specs.Limits as limits
use Rattle.c_types_rules.specs.Sources.{Program, at_file, body_at, body_of, declaration, declarations, declared_again, extent_or, extents_in, extents_of, function, function_declared, function_or_global, function_rest, global, global_value, has_main, is_main, is_next, members_from, nothing, program, struct_defined, tags_of, with_body}
use Rattle.isolation_check_rules.specs.Places.{global_extents}
use Rattle.isolation_check_laws.specs.Fits.{Divides}

-- ---- what holds of what is found, where something is

abbrev Holds : {A : Type 0} → (A → Type 0) → Checked A → Type 0
Holds P (Fine x) = P x
Holds P (Noted n x) = P x
Holds P (Broken from rule) = Unit {0}

holds_noting : {A : Type 0} (P : A → Type 0) (n : Notes) (c : Checked A) → Holds P c → Holds P (noting n c)
holds_noting P n (Fine x) h = h
holds_noting P n (Noted m x) h = h
holds_noting P n (Broken from rule) h = h

holds_then : {A B : Type 0} (P : A → Type 0) (Q : B → Type 0) (c : Checked A) (f : A → Checked B) → Holds P c → ((x : A) → P x → Holds Q (f x)) → Holds Q (c >>= f)
holds_then P Q (Fine x) f h g = g x h
holds_then P Q (Noted n x) f h g = holds_noting Q n (f x) (g x h)
holds_then P Q (Broken from rule) f h g = tt

holds_on : {A B : Type 0} (Q : B → Type 0) (c : Checked A) (f : A → Checked B) → ((x : A) → Holds Q (f x)) → Holds Q (c >>= f)
holds_on Q (Fine x) f g = g x
holds_on Q (Noted n x) f g = holds_noting Q n (f x) (g x)
holds_on Q (Broken from rule) f g = tt

holds_after : {A B : Type 0} (Q : B → Type 0) (c : Checked A) (y : Checked B) → Holds Q y → Holds Q (c >> y)
holds_after Q (Fine x) y h = h
holds_after Q (Noted n x) y h = holds_noting Q n y h
holds_after Q (Broken from rule) y h = tt

-- ---- types

abbrev SomeDivides : Option Extent → Type 0
SomeDivides None = Unit {0}
SomeDivides (Some e) = Divides e

by_times : (e : Extent) (times : ℕ) → 0 < e.align → times * e.align ≡ alignment → Divides e
by_times e times some whole = record { some = some; times = times; whole = whole }

kind_divides : (k : IntKind) → Divides (kind_extent k)
kind_divides I8 = by_times (scalar 1) 16 (omega arith) refl
kind_divides U8 = by_times (scalar 1) 16 (omega arith) refl
kind_divides I16 = by_times (scalar 2) 8 (omega arith) refl
kind_divides U16 = by_times (scalar 2) 8 (omega arith) refl
kind_divides I32 = by_times (scalar 4) 4 (omega arith) refl
kind_divides U32 = by_times (scalar 4) 4 (omega arith) refl
kind_divides I64 = by_times (scalar 8) 2 (omega arith) refl
kind_divides U64 = by_times (scalar 8) 2 (omega arith) refl

-- the alignment is no other
as_aligned : (e f : Extent) → e.align ≡ f.align → Divides e → Divides f
as_aligned e f is d = record { some = subst (λ (a : ℕ). 0 < a) is d.some; times = d.times; whole = subst (λ (a : ℕ). d.times * a ≡ alignment) is d.whole }

repeated_divides : (n : ℕ) (o : Option Extent) → SomeDivides o → SomeDivides (option_map (repeated n) o)
repeated_divides n None h = tt
repeated_divides n (Some e) h = as_aligned e (repeated n e) refl h

-- the alignments of structs divide
abbrev Each : List Extent → Type 0
Each es = (k : ℕ) → SomeDivides (slice_get es k)

extent_divides : (es : List Extent) (t : CType) → Each es → SomeDivides (extent_of es t)
extent_divides es Void h = tt
extent_divides es (Integer k) h = kind_divides k
extent_divides es (PointerTo t) h = by_times (scalar 8) 2 (omega arith) refl
extent_divides es (ArrayOf n t) h = repeated_divides n (extent_of es t) (extent_divides es t h)
extent_divides es (StructOf k) h = h k
extent_divides es (UndefinedStruct tag) h = tt
extent_divides es (FunctionOf r ps) h = tt

or_divides : (o : Option Extent) → SomeDivides o → Divides (extent_or o)
or_divides None h = by_times (scalar 1) 16 (omega arith) refl
or_divides (Some e) h = h

abbrev sizes : List Struct → List Extent
sizes ss = map (λ s. s.extent) ss

rows_divide : (p : Program) (ts : List CType) → Each (sizes p.structs) → All Divides (extents_in p ts)
rows_divide p [] h = All-nil Divides
rows_divide p (t ∷ ts) h =
    All-cons Divides (extent_or (extent_of (sizes p.structs) t)) (extents_in p ts) (or_divides (extent_of (sizes p.structs) t) (extent_divides (sizes p.structs) t h)) (rows_divide p ts h)

members_divide : (es : List Extent) (ms : List (List ℕ × CType)) → Each es → All Divides (extents_of es ms)
members_divide es [] h = All-nil Divides
members_divide es ((name, t) ∷ ms) h =
    All-cons Divides (extent_or (extent_of es t)) (extents_of es ms) (or_divides (extent_of es t) (extent_divides es t h)) (members_divide es ms h)

-- of two alignments the greater one
greater : (e : Extent) (n : ℕ) → Divides e → Divides (scalar n) → Divides (scalar (max e.align n))
greater e n d h = elim (cases_lt e.align n) [
  | inl lt ↦ (let is : n ≡ max e.align n = omega arith in as_aligned (scalar n) (scalar (max e.align n)) is h)
  | inr le ↦ (let is : e.align ≡ max e.align n = omega arith in as_aligned e (scalar (max e.align n)) is d)
]

greatest_divides : (es : List Extent) → All Divides es → Divides (scalar (greatest_align es))
greatest_divides [] h = by_times (scalar 1) 16 (omega arith) refl
greatest_divides (e ∷ es) h = greater e (greatest_align es) (All-head Divides e es h) (greatest_divides es (All-tail Divides e es h))

-- ---- structs

abbrev AllDivide : Program → Type 0
AllDivide p = Each (sizes p.structs)

one_more : (ss : List Struct) (x : Struct) → Each (sizes ss) → Divides x.extent → Each (sizes (ss ++ x ∷ []))
one_more [] x h new zero = new
one_more [] x h new (suc k) = tt
one_more (s ∷ ss) x h new zero = h zero
one_more (s ∷ ss) x h new (suc k) = one_more ss x (λ j. h (suc j)) new k

struct_divides : (tags : List (List ℕ)) (p : Program) (from : ℕ) (tag : List ℕ) (ds : Decls) → AllDivide p → Holds AllDivide (struct_defined tags p from tag ds)
struct_divides tags p from tag ds h =
    let es = sizes p.structs in
    holds_after AllDivide (keep from 19 (not (is_reserved tag))) _ (holds_after AllDivide (keep from 1 (is_next (length p.structs) (place_in tag tags))) _
    (holds_on AllDivide (members_from (at_file tags p) [] ds) _
    (λ ms. holds_after AllDivide (small (nat_le (struct_of (extents_of es ms)).size greatest_object)) _
    (one_more p.structs (record { members = ms; extent = struct_of (extents_of es ms) }) h
    (as_aligned (scalar (greatest_align (extents_of es ms))) (struct_of (extents_of es ms)) refl (greatest_divides (extents_of es ms) (members_divide es ms h)))))))

-- ---- other declarations define no struct

again_kept : (p : Program) (from : ℕ) (t : CType) (m : Option Meaning) (name : List ℕ) → AllDivide p → Holds (λ (a : ℕ × Program). AllDivide a.1) (declared_again p from t m name)
again_kept p from t (Some (FunctionNamed number u)) name h = holds_after (λ (a : ℕ × Program). AllDivide a.1) (keep from 1 (same_type t u)) (Fine (number, p)) h
again_kept p from t (Some (GlobalNamed place u)) name h = tt
again_kept p from t (Some (LocalNamed place u)) name h = tt
again_kept p from t None name h = h

rest_kept : (tags : List (List ℕ)) (p : Program) (from place : ℕ) (name : List ℕ) (t : CType) (ps : Parts) (r : Rest) → AllDivide p → Holds AllDivide (function_rest tags p from place name t ps r)
rest_kept tags p from place name t ps NoRest h = h
rest_kept tags p from place name t ps (Initial v) h = tt
rest_kept tags p from place name t ps (Body s) h =
    let last : Checked Program = body_of (at_file tags p) t ps s >>= (λ b. Fine (record p { functions = with_body p.functions place b })) in
    holds_after AllDivide (keep from 21 (not (is_some (body_at p.functions place)))) (keep from 18 (is_main name t) >> last) (holds_after AllDivide (keep from 18 (is_main name t)) last
    (holds_on AllDivide (body_of (at_file tags p) t ps s) _ (λ b. h)))
rest_kept tags p from place name t ps (Members ds) h = tt

function_kept : (tags : List (List ℕ)) (p : Program) (from : ℕ) (name : List ℕ) (t : CType) (ps : Parts) (r : Rest) → AllDivide p → Holds AllDivide (function tags p from name t ps r)
function_kept tags p from name t ps r h =
    holds_then (λ (a : ℕ × Program). AllDivide a.1) AllDivide (function_declared p from t name) (λ a. function_rest tags a.1 from (a.0 - first_source_function) name t ps r)
    (holds_after (λ (a : ℕ × Program). AllDivide a.1) (keep from 19 (not (is_reserved name))) (declared_again p from t (meaning_in name p.names) name) (again_kept p from t (meaning_in name p.names) name h))
    (λ a k. rest_kept tags a.1 from (a.0 - first_source_function) name t ps r k)

global_kept : (tags : List (List ℕ)) (p : Program) (from : ℕ) (name : List ℕ) (t : CType) (r : Rest) → AllDivide p → Holds AllDivide (global tags p from name t r)
global_kept tags p from name t r h =
    holds_after AllDivide (complete (extents (at_file tags p)) from t) _ (holds_after AllDivide (declarable (at_file tags p) from name) _
    (holds_on AllDivide (heard (global_value tags (record p { names = (name, GlobalNamed (length p.globals) t) ∷ p.names }) from t r)) _ (λ x. h)))

either_kept : (tags : List (List ℕ)) (p : Program) (from : ℕ) (name : List ℕ) (t : CType) (ps : Parts) (r : Rest) → AllDivide p → Holds AllDivide (function_or_global tags p from name t ps r)
either_kept tags p from name (FunctionOf u ts) ps r h = function_kept tags p from name (FunctionOf u ts) ps r h
either_kept tags p from name Void ps r h = global_kept tags p from name Void r h
either_kept tags p from name (Integer k) ps r h = global_kept tags p from name (Integer k) r h
either_kept tags p from name (PointerTo t) ps r h = global_kept tags p from name (PointerTo t) r h
either_kept tags p from name (ArrayOf n t) ps r h = global_kept tags p from name (ArrayOf n t) r h
either_kept tags p from name (StructOf n) ps r h = global_kept tags p from name (StructOf n) r h
either_kept tags p from name (UndefinedStruct tag) ps r h = global_kept tags p from name (UndefinedStruct tag) r h

declares_kept : (tags : List (List ℕ)) (p : Program) (from : ℕ) (an : Annots) (b : Base) (ps : Parts) (n : Option (List ℕ)) (r : Rest) → AllDivide p
    → Holds AllDivide (annotation_types an (at_file tags p) >> (declared_type (Declare from an b ps n r) (at_file tags p) >>= (λ t. function_or_global tags p from (declared_name n) t ps r)))
declares_kept tags p from an b ps n r h =
    holds_after AllDivide (annotation_types an (at_file tags p)) (declared_type (Declare from an b ps n r) (at_file tags p) >>= (λ t. function_or_global tags p from (declared_name n) t ps r))
    (holds_on AllDivide (declared_type (Declare from an b ps n r) (at_file tags p)) _ (λ t. either_kept tags p from (declared_name n) t ps r h))

declaration_kept : (tags : List (List ℕ)) (p : Program) (d : Decl) → AllDivide p → Holds AllDivide (declaration tags p d)
declaration_kept tags p (Declare from an (bases.Struct tag) ps n (Members ds)) h = struct_divides tags p from tag ds h
declaration_kept tags p (Declare from an (bases.Struct tag) ps n NoRest) h = declares_kept tags p from an (bases.Struct tag) ps n NoRest h
declaration_kept tags p (Declare from an (bases.Struct tag) ps n (Initial v)) h = declares_kept tags p from an (bases.Struct tag) ps n (Initial v) h
declaration_kept tags p (Declare from an (bases.Struct tag) ps n (Body s)) h = declares_kept tags p from an (bases.Struct tag) ps n (Body s) h
declaration_kept tags p (Declare from an bases.Void ps n r) h = declares_kept tags p from an bases.Void ps n r h
declaration_kept tags p (Declare from an (bases.Int bytes signed) ps n r) h = declares_kept tags p from an (bases.Int bytes signed) ps n r h

declarations_kept : (tags : List (List ℕ)) (ds : Decls) (p : Program) → AllDivide p → Holds AllDivide (declarations tags p ds)
declarations_kept tags NoDecls p h = h
declarations_kept tags (MoreDecls d ds) p h = holds_then AllDivide AllDivide (declaration tags p d) (λ q. declarations tags q ds) (declaration_kept tags p d h) (λ q k. declarations_kept tags ds q k)

program_kept : (ds : Decls) → Holds AllDivide (program ds)
program_kept ds =
    holds_then AllDivide AllDivide (declarations (tags_of ds) nothing ds) _ (declarations_kept (tags_of ds) ds nothing (λ k. tt))
    (λ p h. holds_after AllDivide (keep 0 18 (has_main p.functions)) (Fine p) h)

-- ---- typed programs

no_limit : (a b c d e f : Bool) → cond a (cond b (cond c (cond d (cond e (cond f None (Some Frame)) (Some Globals)) (Some Object)) (Some limits.Members)) (Some Params)) (Some Functions) ≡ None → e ≡ true
no_limit true true true true true f h = refl
no_limit true true true true false f h = absurd cc
no_limit true true true false e f h = absurd cc
no_limit true true false d e f h = absurd cc
no_limit true false c d e f h = absurd cc
no_limit false b c d e f h = absurd cc

-- the globals fit in one area, and the alignments of all structs divide
record Fits (p : Program) : Type 0 where
  small : globals_end p ≤ greatest_object
  divide : AllDivide p

of_limits : (q p : Program) (is_small : Bool) (w : Option Which) → first_limit is_small q ≡ w → AllDivide q → unless q w ≡ Typed p → Fits p
of_limits q p is_small None e h k =
    let is : q ≡ p = cc in
    let few = no_limit (nat_le (length q.functions) most_functions) (all_keep few_params q.functions) (all_keep few_members q.structs) is_small (nat_le (globals_end q) greatest_object) (all_keep (small_frame q) q.functions) e in
    subst Fits is (record { small = leb-true (globals_end q) greatest_object few; divide = h })
of_limits q p is_small (Some w) e h k = absurd cc

decided_fits : (c : Checked Program) (p : Program) → Holds AllDivide c → decided c ≡ Typed p → Fits p
decided_fits (Fine q) p h e = of_limits q p true (first_limit true q) refl h e
decided_fits (Noted n q) p h e = of_limits q p (not n.large) (first_limit (not n.large) q) refl h e
decided_fits (Broken from rule) p h e = absurd cc

fits : (ds : Decls) (p : Program) → outcome ds ≡ Typed p → Fits p
fits ds p e = decided_fits (program ds) p (program_kept ds) e

pub small_globals : (ds : Decls) (p : Program) → outcome ds ≡ Typed p → globals_end p ≤ greatest_object
small_globals ds p e = (fits ds p e).small

pub aligned_globals : (ds : Decls) (p : Program) → outcome ds ≡ Typed p → All Divides (global_extents p)
aligned_globals ds p e = rows_divide p (map type_of p.globals) (fits ds p e).divide
