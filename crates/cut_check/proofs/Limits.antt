-- What a typed source has: few functions, a function `main`, and no more globals than nodes.
use Rattle.std.proofs.Common.{◌≡◌, ℕ, ◌+◌, ◌-◌, ◌≤◌, ◌<◌, Bool, true, false, ◌&&◌, ◌||◌, cond, List, [], ◌∷◌, ◌++◌, length, Option, Some, None, refl, ap, ◌∙◌, subst, arith}
use Rattle.std.specs.Prelude.{if◌then◌else◌, is_some, nat_le, not}
use Rattle.std.specs.List.{position_or_len}
use Rattle.std.proofs.lemmas.Bool.{leb-true}
use Rattle.std.proofs.lemmas.List.{length-append}
use Rattle.source_limits.specs.Limits.{greatest_object}
use Rattle.c_syntax.specs.declared.declaration.Base.{Base}
use Rattle.c_syntax.specs.declared.declaration.Base.TheVariants as bases
use Rattle.c_syntax.specs.Syntax.{Annots, Decl, Decls, Parts, Rest, Stmt, Declare, NoDecls, MoreDecls, NoParts, Pointer, Array, Params, NoRest, Initial, Body, Members}
use Rattle.c_builtins.specs.Table.{first_source_function}
use Rattle.c_parser_nodes.specs.Counts.{list_offset_of, parts_nodes, source_nodes, top_nodes, tops_nodes}
use Rattle.c_scopes.specs.Scopes.{meaning_in, same_name}
use Rattle.c_types_model.specs.Layouts.{struct_of}
use Rattle.c_types_model.specs.declared.extent.Extent.{Extent}
use Rattle.c_types_model.specs.Types.{CType, Void, Integer, PointerTo, ArrayOf, StructOf, UndefinedStruct, FunctionOf}
use Rattle.c_types_rules.specs.Checked.{Checked, Fine, Noted, Broken, heard, keep, small, ◌>>=◌, ◌>>◌}
use Rattle.c_types_rules.specs.TypeTests.{same_type}
use Rattle.c_types_rules.specs.Environment.{Meaning, FunctionNamed, GlobalNamed, LocalNamed, declarable, extents, is_reserved, place_in}
use Rattle.c_types_rules.specs.Expressions.{annotation_types, complete, declared_name, declared_type}
use Rattle.c_types_rules.specs.Limits.{Which, Functions, Typed, decided, first_limit, outcome, unless}
use Rattle.c_types_rules.specs.Sources.{Function, Program, at_file, body_at, body_of, declaration, declarations, declared_again, extents_of, function, function_declared, function_defined, function_or_global, function_rest, global, global_value, has_main, is_main as is_typed_main, is_next, main, members_from, nothing, program, struct_defined, tags_of, with_body}
use Rattle.c_lower_laws.proofs.Held.{Holds, holds_then, holds_on, holds_after, holds_kept}
use Rattle.cut_check.specs.Sources.{is_main}

-- ---- what is found of a program that is within its limits

within_limits : (Q : Program → Type 0) (q p : Program) (w : Option Which) → Q q → unless q w ≡ Typed p → Q p
within_limits Q q p None h e = let is : q ≡ p = cc in subst Q is h
within_limits Q q p (Some w) h e = absurd cc

decided_holds : (Q : Program → Type 0) (c : Checked Program) (p : Program) → Holds Q c → decided c ≡ Typed p → Q p
decided_holds Q (Fine q) p h e = within_limits Q q p (first_limit true q) h e
decided_holds Q (Noted notes q) p h e = within_limits Q q p (first_limit (not notes.large) q) h e
decided_holds Q (Broken from rule) p h e = absurd cc

-- ---- functions

few_by : (p q : Program) (b : Bool) (o : Option Which) → unless q (if b then o else Some Functions) ≡ Typed p → b ≡ true
few_by p q true o e = refl
few_by p q false o e = absurd cc

few_within : (p q : Program) (objects : Bool) → unless q (first_limit objects q) ≡ Typed p → length p.functions ≤ 1000
few_within p q objects e =
    let few : nat_le (length q.functions) 1000 ≡ true = few_by p q (nat_le (length q.functions) 1000) _ e in
    within_limits (λ (r : Program). length r.functions ≤ 1000) q p (first_limit objects q) (leb-true (length q.functions) 1000 few) e

few_decided : (p : Program) (c : Checked Program) → decided c ≡ Typed p → length p.functions ≤ 1000
few_decided p (Fine q) e = few_within p q true e
few_decided p (Noted notes q) e = few_within p q (not notes.large) e
few_decided p (Broken from rule) e = absurd cc

pub few_functions : (ds : Decls) (p : Program) → outcome ds ≡ Typed p → length p.functions ≤ 1000
few_functions ds p e = few_decided p (program ds) e

-- ---- main

main_place : (fs : List Function) → has_main fs ≡ true → position_or_len is_main fs < length fs
main_place [] h = absurd cc
main_place (f ∷ fs) h = by (same_name f.name main) (is_some f.body) (has_main fs) (main_place fs) h
  where
    by : (b d r : Bool) → (r ≡ true → position_or_len is_main fs < length fs) → ((b && d) || r) ≡ true → cond (not b) (1 + position_or_len is_main fs) 0 < length (f ∷ fs)
    by true d r later e = omega arith
    by false d r later e = let l = later e in omega (arith, l)

program_has_main : (ds : Decls) → Holds (λ p. has_main p.functions ≡ true) (program ds)
program_has_main ds =
    holds_on (λ (p : Program). has_main p.functions ≡ true) (declarations (tags_of ds) nothing ds) (λ p. keep 0 18 (has_main p.functions) >> Fine p)
    (λ p. holds_kept (λ (q : Program). has_main q.functions ≡ true) 0 18 (has_main p.functions) (Fine p) (λ e. e))

pub main_there : (ds : Decls) (p : Program) → outcome ds ≡ Typed p → position_or_len is_main p.functions < length p.functions
main_there ds p e = main_place p.functions (decided_holds (λ (q : Program). has_main q.functions ≡ true) (program ds) p (program_has_main ds) e)

-- ---- globals

-- so many globals more are declared at most
abbrev Grows : Program → ℕ → Program → Type 0
Grows p n q = length q.globals ≤ length p.globals + n

abbrev Same : Program → Program → Type 0
Same p q = q.globals ≡ p.globals

grown : (p q : Program) (n : ℕ) → Same p q → Grows p n q
grown p q n e = let same = ap length e in omega (arith, same)

defined_same : (tags : List (List ℕ)) (p : Program) (from place : ℕ) (name : List ℕ) (t : CType) (ps : Parts) (s : Stmt) → Holds (Same p) (function_defined tags p from place name t ps s)
defined_same tags p from place name t ps s =
    let last : Checked Program = body_of (at_file tags p) t ps s >>= (λ b. Fine (record p { functions = with_body p.functions place b })) in
    holds_after (Same p) (keep from 21 (not (is_some (body_at p.functions place)))) (keep from 18 (is_typed_main name t) >> last) (holds_after (Same p) (keep from 18 (is_typed_main name t)) last
    (holds_on (Same p) (body_of (at_file tags p) t ps s) _ (λ b. refl)))

rest_same : (tags : List (List ℕ)) (p : Program) (from place : ℕ) (name : List ℕ) (t : CType) (ps : Parts) (r : Rest) → Holds (Same p) (function_rest tags p from place name t ps r)
rest_same tags p from place name t ps NoRest = refl
rest_same tags p from place name t ps (Initial v) = tt
rest_same tags p from place name t ps (Body s) = defined_same tags p from place name t ps s
rest_same tags p from place name t ps (Members ds) = tt

again_same : (p : Program) (from : ℕ) (t : CType) (m : Option Meaning) (name : List ℕ) → Holds (λ a. Same p a.1) (declared_again p from t m name)
again_same p from t (Some (FunctionNamed number u)) name = holds_after (λ (a : ℕ × Program). Same p a.1) (keep from 1 (same_type t u)) (Fine (number, p)) refl
again_same p from t (Some (GlobalNamed place u)) name = tt
again_same p from t (Some (LocalNamed place u)) name = tt
again_same p from t None name = refl

function_same : (tags : List (List ℕ)) (p : Program) (from : ℕ) (name : List ℕ) (t : CType) (ps : Parts) (r : Rest) → Holds (Same p) (function tags p from name t ps r)
function_same tags p from name t ps r =
    holds_then (λ (a : ℕ × Program). Same p a.1) (Same p) (function_declared p from t name) (λ a. function_rest tags a.1 from (a.0 - first_source_function) name t ps r)
    (holds_after (λ (a : ℕ × Program). Same p a.1) (keep from 19 (not (is_reserved name))) (declared_again p from t (meaning_in name p.names) name) (again_same p from t (meaning_in name p.names) name))
    (λ a h. same_after a.1 (function_rest tags a.1 from (a.0 - first_source_function) name t ps r) h (rest_same tags a.1 from (a.0 - first_source_function) name t ps r))
  where
    same_after : (q : Program) (c : Checked Program) → Same p q → Holds (Same q) c → Holds (Same p) c
    same_after q (Fine x) h k = k ∙ h
    same_after q (Noted notes x) h k = k ∙ h
    same_after q (Broken from rule) h k = tt

global_grows : (tags : List (List ℕ)) (p : Program) (from : ℕ) (name : List ℕ) (t : CType) (r : Rest) → Holds (Grows p 1) (global tags p from name t r)
global_grows tags p from name t r =
    holds_after (Grows p 1) (complete (extents (at_file tags p)) from t) _ (holds_after (Grows p 1) (declarable (at_file tags p) from name) _
    (holds_on (Grows p 1) (heard (global_value tags (record p { names = (name, GlobalNamed (length p.globals) t) ∷ p.names }) from t r)) _
    (λ x. let one = length-append p.globals (record { name = name; type = t; value = x.0; unevaluated = x.1 } ∷ []) in omega (arith, one))))

struct_same : (tags : List (List ℕ)) (p : Program) (from : ℕ) (tag : List ℕ) (ds : Decls) → Holds (Same p) (struct_defined tags p from tag ds)
struct_same tags p from tag ds =
    let extent : List (List ℕ × CType) → Extent = λ ms. struct_of (extents_of (extents (at_file tags p)) ms) in
    holds_after (Same p) (keep from 19 (not (is_reserved tag))) _ (holds_after (Same p) (keep from 1 (is_next (length p.structs) (place_in tag tags))) _
    (holds_on (Same p) (members_from (at_file tags p) [] ds) _
    (λ ms. holds_after (Same p) (small (nat_le (extent ms).size greatest_object)) (Fine (record p { structs = p.structs ++ record { members = ms; extent = extent ms } ∷ [] })) refl)))

-- ---- declarations

weaker : (P Q : Program → Type 0) (c : Checked Program) → ((q : Program) → P q → Q q) → Holds P c → Holds Q c
weaker P Q (Fine q) f h = f q h
weaker P Q (Noted notes q) f h = f q h
weaker P Q (Broken from rule) f h = tt

by_one : (p : Program) (m : ℕ) (c : Checked Program) → 1 ≤ m → Holds (Grows p 1) c → Holds (Grows p m) c
by_one p m c l h = weaker (Grows p 1) (Grows p m) c (λ q g. omega (arith, l, g)) h

by_none : (p : Program) (m : ℕ) (c : Checked Program) → Holds (Same p) c → Holds (Grows p m) c
by_none p m c h = weaker (Same p) (Grows p m) c (λ q e. grown p q m e) h

either_grows : (tags : List (List ℕ)) (p : Program) (from : ℕ) (name : List ℕ) (t : CType) (ps : Parts) (r : Rest) (m : ℕ) → 1 ≤ m → Holds (Grows p m) (function_or_global tags p from name t ps r)
either_grows tags p from name (FunctionOf u ts) ps r m l = by_none p m (function tags p from name (FunctionOf u ts) ps r) (function_same tags p from name (FunctionOf u ts) ps r)
either_grows tags p from name Void ps r m l = by_one p m (global tags p from name Void r) l (global_grows tags p from name Void r)
either_grows tags p from name (Integer k) ps r m l = by_one p m (global tags p from name (Integer k) r) l (global_grows tags p from name (Integer k) r)
either_grows tags p from name (PointerTo t) ps r m l = by_one p m (global tags p from name (PointerTo t) r) l (global_grows tags p from name (PointerTo t) r)
either_grows tags p from name (ArrayOf n t) ps r m l = by_one p m (global tags p from name (ArrayOf n t) r) l (global_grows tags p from name (ArrayOf n t) r)
either_grows tags p from name (StructOf n) ps r m l = by_one p m (global tags p from name (StructOf n) r) l (global_grows tags p from name (StructOf n) r)
either_grows tags p from name (UndefinedStruct tag) ps r m l = by_one p m (global tags p from name (UndefinedStruct tag) r) l (global_grows tags p from name (UndefinedStruct tag) r)

-- what is declared by a declarator
abbrev declares : List (List ℕ) → Program → (from : ℕ) → Annots → Base → Parts → Option (List ℕ) → Rest → Checked Program
declares tags p from an b ps n r =
    annotation_types an (at_file tags p) >> (declared_type (Declare from an b ps n r) (at_file tags p) >>= (λ t. function_or_global tags p from (declared_name n) t ps r))

declares_grows : (tags : List (List ℕ)) (p : Program) (from : ℕ) (an : Annots) (b : Base) (ps : Parts) (n : Option (List ℕ)) (r : Rest) (m : ℕ) → 1 ≤ m → Holds (Grows p m) (declares tags p from an b ps n r)
declares_grows tags p from an b ps n r m l =
    holds_after (Grows p m) (annotation_types an (at_file tags p)) (declared_type (Declare from an b ps n r) (at_file tags p) >>= (λ t. function_or_global tags p from (declared_name n) t ps r))
    (holds_on (Grows p m) (declared_type (Declare from an b ps n r) (at_file tags p)) _ (λ t. either_grows tags p from (declared_name n) t ps r m l))

some_nodes : (ps : Parts) → 1 ≤ parts_nodes ps
some_nodes NoParts = omega arith
some_nodes (Pointer from ps) = omega arith
some_nodes (Array from x ps) = omega arith
some_nodes (Params from ds ps) = omega arith

-- nothing but a struct's definition has members after its declarator
global_broken : (tags : List (List ℕ)) (p : Program) (from : ℕ) (name : List ℕ) (t : CType) (ds : Decls) (m : ℕ) → Holds (Grows p m) (global tags p from name t (Members ds))
global_broken tags p from name t ds m =
    holds_after (Grows p m) (complete (extents (at_file tags p)) from t) _ (holds_after (Grows p m) (declarable (at_file tags p) from name) _ tt)

members_broken : (tags : List (List ℕ)) (p : Program) (from : ℕ) (name : List ℕ) (t : CType) (ps : Parts) (ds : Decls) (m : ℕ) → Holds (Grows p m) (function_or_global tags p from name t ps (Members ds))
members_broken tags p from name (FunctionOf u ts) ps ds m = by_none p m (function tags p from name (FunctionOf u ts) ps (Members ds)) (function_same tags p from name (FunctionOf u ts) ps (Members ds))
members_broken tags p from name Void ps ds m = global_broken tags p from name Void ds m
members_broken tags p from name (Integer k) ps ds m = global_broken tags p from name (Integer k) ds m
members_broken tags p from name (PointerTo t) ps ds m = global_broken tags p from name (PointerTo t) ds m
members_broken tags p from name (ArrayOf n t) ps ds m = global_broken tags p from name (ArrayOf n t) ds m
members_broken tags p from name (StructOf n) ps ds m = global_broken tags p from name (StructOf n) ds m
members_broken tags p from name (UndefinedStruct tag) ps ds m = global_broken tags p from name (UndefinedStruct tag) ds m

members_grows : (tags : List (List ℕ)) (p : Program) (from : ℕ) (an : Annots) (b : Base) (ps : Parts) (n : Option (List ℕ)) (ds : Decls) (m : ℕ) → Holds (Grows p m) (declares tags p from an b ps n (Members ds))
members_grows tags p from an b ps n ds m =
    holds_after (Grows p m) (annotation_types an (at_file tags p)) (declared_type (Declare from an b ps n (Members ds)) (at_file tags p) >>= (λ t. function_or_global tags p from (declared_name n) t ps (Members ds)))
    (holds_on (Grows p m) (declared_type (Declare from an b ps n (Members ds)) (at_file tags p)) _ (λ t. members_broken tags p from (declared_name n) t ps ds m))

-- whatever follows the declarator
any_rest_grows : (tags : List (List ℕ)) (p : Program) (before : Option ℕ) (from : ℕ) (an : Annots) (b : Base) (ps : Parts) (n : Option (List ℕ)) (r : Rest)
    → Holds (Grows p (top_nodes before (Declare from an b ps n r))) (declares tags p from an b ps n r)
any_rest_grows tags p before from an b ps n NoRest = let some = some_nodes ps in declares_grows tags p from an b ps n NoRest (top_nodes before (Declare from an b ps n NoRest)) (omega (arith, some))
any_rest_grows tags p before from an b ps n (Initial v) = let some = some_nodes ps in declares_grows tags p from an b ps n (Initial v) (top_nodes before (Declare from an b ps n (Initial v))) (omega (arith, some))
any_rest_grows tags p before from an b ps n (Body s) = let some = some_nodes ps in declares_grows tags p from an b ps n (Body s) (top_nodes before (Declare from an b ps n (Body s))) (omega (arith, some))
any_rest_grows tags p before from an b ps n (Members ds) = members_grows tags p from an b ps n ds (top_nodes before (Declare from an b ps n (Members ds)))

declaration_grows : (tags : List (List ℕ)) (p : Program) (before : Option ℕ) (d : Decl) → Holds (Grows p (top_nodes before d)) (declaration tags p d)
declaration_grows tags p before (Declare from an (bases.Struct tag) ps n (Members ds)) =
    by_none p (top_nodes before (Declare from an (bases.Struct tag) ps n (Members ds))) (struct_defined tags p from tag ds) (struct_same tags p from tag ds)
declaration_grows tags p before (Declare from an (bases.Struct tag) ps n NoRest) = any_rest_grows tags p before from an (bases.Struct tag) ps n NoRest
declaration_grows tags p before (Declare from an (bases.Struct tag) ps n (Initial v)) = any_rest_grows tags p before from an (bases.Struct tag) ps n (Initial v)
declaration_grows tags p before (Declare from an (bases.Struct tag) ps n (Body s)) = any_rest_grows tags p before from an (bases.Struct tag) ps n (Body s)
declaration_grows tags p before (Declare from an bases.Void ps n r) = any_rest_grows tags p before from an bases.Void ps n r
declaration_grows tags p before (Declare from an (bases.Int bytes signed) ps n r) = any_rest_grows tags p before from an (bases.Int bytes signed) ps n r

declarations_grow : (tags : List (List ℕ)) (p : Program) (before : Option ℕ) (ds : Decls) → Holds (Grows p (tops_nodes before ds)) (declarations tags p ds)
declarations_grow tags p before NoDecls = omega arith
declarations_grow tags p before (MoreDecls d ds) =
    holds_then (Grows p (top_nodes before d)) (Grows p (tops_nodes before (MoreDecls d ds))) (declaration tags p d) (λ q. declarations tags q ds) (declaration_grows tags p before d)
    (λ q h. weaker (Grows q (tops_nodes (list_offset_of d) ds)) (Grows p (tops_nodes before (MoreDecls d ds))) (declarations tags q ds) (λ r k. omega (arith, h, k)) (declarations_grow tags q (list_offset_of d) ds))

program_few : (ds : Decls) → Holds (λ p. length p.globals ≤ source_nodes ds) (program ds)
program_few ds =
    let n = source_nodes ds in
    holds_then (Grows nothing n) (λ (p : Program). length p.globals ≤ n) (declarations (tags_of ds) nothing ds) _ (declarations_grow (tags_of ds) nothing None ds)
    (λ p h. holds_after (λ (q : Program). length q.globals ≤ n) (keep 0 18 (has_main p.functions)) (Fine p) (omega (arith, h)))

pub few_globals : (ds : Decls) (p : Program) → outcome ds ≡ Typed p → length p.globals ≤ source_nodes ds
few_globals ds p e = decided_holds (λ (q : Program). length q.globals ≤ source_nodes ds) (program ds) p (program_few ds) e
