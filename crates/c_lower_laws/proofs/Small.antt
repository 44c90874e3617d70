-- The members of structs, and the frames of functions, end where a typed program may have them.
use Rattle.std.proofs.Common.{◌≡◌, ℕ, zero, suc, ◌+◌, ◌-◌, ◌≤◌, Bool, true, false, ◌&&◌, ◌||◌, cond, List, [], ◌∷◌, ◌++◌, length, map, max, Option, Some, None, refl, sym, ap, ◌∙◌, subst, arith, ⊎_elim}
use Rattle.std.specs.Prelude.{slice_get, nat_le, not, is_some}
use Rattle.std.specs.Int.{next_multiple_of}
use Rattle.std.specs.Option.{option_map}
use Rattle.std.proofs.lemmas.Option.{same_Some}
use Rattle.std.proofs.lemmas.Bool.{leb-true}
use Rattle.source_limits.specs.Limits.{greatest_frame, greatest_object, most_functions}
use Rattle.c_syntax.specs.declared.declaration.Base.{Base}
use Rattle.c_syntax.specs.declared.declaration.Base.TheVariants as bases
use Rattle.c_syntax.specs.Syntax.{Annots, Decl, Decls, Parts, Rest, Declare, NoDecls, MoreDecls, NoRest, Initial, Body, Members}
use Rattle.c_builtins.specs.Table.{first_source_function}
use Rattle.c_scopes.specs.Scopes.{meaning_in}
use Rattle.c_types_model.specs.Layouts.{end_from, extent_of, repeated, struct_of}
use Rattle.c_types_model.specs.Types.{CType, Void, Integer, PointerTo, ArrayOf, StructOf, UndefinedStruct, FunctionOf}
use Rattle.c_types_model.specs.declared.extent.Extent.{Extent}
use Rattle.c_types_rules.specs.Checked.{Checked, Fine, Noted, Notes, Broken, heard, keep, noting, small, ◌>>=◌, ◌>>◌}
use Rattle.c_types_rules.specs.TypeTests.{is_complete, same_type}
use Rattle.c_types_rules.specs.TypedTree as typed
use Rattle.c_types_rules.specs.Environment.{Environment, Meaning, Struct, FunctionNamed, GlobalNamed, LocalNamed, declarable, extents, is_reserved, place_in}
use Rattle.c_types_rules.specs.Expressions.{annotation_types, complete, declared_name, declared_type, rule_of_incomplete}
use Rattle.c_types_rules.specs.Limits.{Which, Functions, Params, Object, Globals, Frame, Typed, all_keep, decided, few_members, few_params, first_limit, frame_size, globals_end, outcome, small_body, small_frame, unless}
use Rattle.c_types_rules.specs.Limits as limits
use Rattle.c_types_rules.specs.Sources.{Function, Program, among, at_file, body_at, body_of, declaration, declarations, declared_again, extent_or, extents_in, extents_of, function, function_declared, function_or_global, function_rest, global, global_value, has_main, is_main, is_next, member_of, members_from, nothing, program, struct_defined, tags_of, with_body}
use Rattle.c_lower_layout.specs.Indexed.{member_types, members_end}
use Rattle.c_lower_laws.proofs.Programs.{more_has}

-- ---- what is found, where nothing on the way is too large

abbrev Finds : {A : Type 0} → (A → Type 0) → Checked A → Type 0
Finds P (Fine x) = P x
Finds P (Noted n x) = n.large ≡ false → P x
Finds P (Broken from rule) = Unit {0}

neither : (a b : Bool) → (a || b) ≡ false → (a ≡ false) × (b ≡ false)
neither false false h = (refl, refl)
neither false true h = absurd cc
neither true b h = absurd cc

finds_noting : {A : Type 0} (P : A → Type 0) (n : Notes) (c : Checked A) → (n.large ≡ false → Finds P c) → Finds P (noting n c)
finds_noting P n (Fine x) h = h
finds_noting P n (Noted m x) h = λ e. (let is = neither m.large n.large e in h is.1 is.0)
finds_noting P n (Broken from rule) h = tt

finds_then : {A B : Type 0} (P : A → Type 0) (Q : B → Type 0) (c : Checked A) (f : A → Checked B) → Finds P c → ((x : A) → P x → Finds Q (f x)) → Finds Q (c >>= f)
finds_then P Q (Fine x) f h g = g x h
finds_then P Q (Noted n x) f h g = finds_noting Q n (f x) (λ e. g x (h e))
finds_then P Q (Broken from rule) f h g = tt

finds_on : {A B : Type 0} (Q : B → Type 0) (c : Checked A) (f : A → Checked B) → ((x : A) → Finds Q (f x)) → Finds Q (c >>= f)
finds_on Q (Fine x) f g = g x
finds_on Q (Noted n x) f g = finds_noting Q n (f x) (λ e. g x)
finds_on Q (Broken from rule) f g = tt

finds_after : {A B : Type 0} (Q : B → Type 0) (c : Checked A) (y : Checked B) → Finds Q y → Finds Q (c >> y)
finds_after Q (Fine x) y h = h
finds_after Q (Noted n x) y h = finds_noting Q n y (λ e. h)
finds_after Q (Broken from rule) y h = tt

finds_kept : {B : Type 0} (Q : B → Type 0) (from rule : ℕ) (b : Bool) (y : Checked B) → (b ≡ true → Finds Q y) → Finds Q (keep from rule b >> y)
finds_kept Q from rule true y h = h refl
finds_kept Q from rule false y h = tt

not_both : true ≡ false → ⊥
not_both e = cc

finds_small : {B : Type 0} (Q : B → Type 0) (b : Bool) (y : Checked B) → (b ≡ true → Finds Q y) → Finds Q (small b >> y)
finds_small Q true y h = h refl
finds_small Q false y h = finds_noting Q (record { large = true; unevaluated = [] }) y (λ e. absurd (not_both e))

-- ---- objects in a row, where these are the sizes and alignments of the structs so far

abbrev pub row : List Extent → List CType → List Extent
row es [] = []
row es (t ∷ ts) = extent_or (extent_of es t) ∷ row es ts

abbrev sizes : List Struct → List Extent
sizes ss = map (λ s. s.extent) ss

pub rows_in : (p : Program) (ts : List CType) → extents_in p ts ≡ row (sizes p.structs) ts
rows_in p [] = refl
rows_in p (t ∷ ts) = ap (λ es. extent_or (extent_of (sizes p.structs) t) ∷ es) (rows_in p ts)

rows_of : (es : List Extent) (ms : List (List ℕ × CType)) → extents_of es ms ≡ row es (member_types ms)
rows_of es [] = refl
rows_of es ((name, t) ∷ ms) = ap (λ xs. extent_or (extent_of es t) ∷ xs) (rows_of es ms)

-- ---- one struct more

still_there : (es ys : List Extent) (k : ℕ) → is_some (slice_get es k) ≡ true → slice_get (es ++ ys) k ≡ slice_get es k
still_there [] ys k h = absurd cc
still_there (e ∷ es) ys zero h = refl
still_there (e ∷ es) ys (suc k) h = still_there es ys k h

mapped_there : {A B : Type 0} (f : A → B) (o : Option A) → is_some (option_map f o) ≡ true → is_some o ≡ true
mapped_there f (Some a) h = refl
mapped_there f None h = absurd cc

extent_kept : (es ys : List Extent) (t : CType) → is_complete es t ≡ true → extent_of (es ++ ys) t ≡ extent_of es t
extent_kept es ys Void h = refl
extent_kept es ys (Integer k) h = refl
extent_kept es ys (PointerTo t) h = refl
extent_kept es ys (ArrayOf n t) h = ap (option_map (repeated n)) (extent_kept es ys t (mapped_there (repeated n) (extent_of es t) h))
extent_kept es ys (StructOf k) h = still_there es ys k h
extent_kept es ys (UndefinedStruct tag) h = refl
extent_kept es ys (FunctionOf r ps) h = refl

abbrev AllComplete : List Extent → List CType → Type 0
AllComplete es [] = Unit {0}
AllComplete es (t ∷ ts) = (is_complete es t ≡ true) × AllComplete es ts

row_kept : (es ys : List Extent) (ts : List CType) → AllComplete es ts → row (es ++ ys) ts ≡ row es ts
row_kept es ys [] h = refl
row_kept es ys (t ∷ ts) h = ap (λ o. extent_or o ∷ row (es ++ ys) ts) (extent_kept es ys t h.0) ∙ ap (λ xs. extent_or (extent_of es t) ∷ xs) (row_kept es ys ts h.1)

complete_kept : (es ys : List Extent) (ts : List CType) → AllComplete es ts → AllComplete (es ++ ys) ts
complete_kept es ys [] h = tt
complete_kept es ys (t ∷ ts) h = (ap is_some (extent_kept es ys t h.0) ∙ h.0, complete_kept es ys ts h.1)

-- the members of a struct have complete types, and end where an object may
abbrev Laid : List Extent → Struct → Type 0
Laid es s = AllComplete es (member_types s.members) × (end_from 0 (row es (member_types s.members)) ≤ greatest_object)

laid_kept : (es ys : List Extent) (s : Struct) → Laid es s → Laid (es ++ ys) s
laid_kept es ys s h =
    (complete_kept es ys (member_types s.members) h.0, subst (λ xs. end_from 0 xs ≤ greatest_object) (sym (row_kept es ys (member_types s.members) h.0)) h.1)

abbrev AllLaid : List Struct → Type 0
AllLaid ss = (k : ℕ) (s : Struct) → slice_get ss k ≡ Some s → Laid (sizes ss) s

sizes_more : (ss : List Struct) (x : Struct) → sizes (ss ++ x ∷ []) ≡ sizes ss ++ x.extent ∷ []
sizes_more [] x = refl
sizes_more (s ∷ ss) x = ap (λ es. s.extent ∷ es) (sizes_more ss x)

one_more_laid : (ss : List Struct) (x : Struct) → AllLaid ss → Laid (sizes ss) x → AllLaid (ss ++ x ∷ [])
one_more_laid ss x h new k s e =
    subst (λ es. Laid es s) (sym (sizes_more ss x)) (laid_kept (sizes ss) (x.extent ∷ []) s
    (⊎_elim (λ old. h k s old) (λ (is : x ≡ s). subst (λ (y : Struct). Laid (sizes ss) y) is new) (more_has ss x s k e)))

-- ---- definitions of structs

complete_more : (es : List Extent) (ms : List (List ℕ × CType)) (m : List ℕ × CType) → AllComplete es (member_types ms) → is_complete es m.1 ≡ true → AllComplete es (member_types (ms ++ m ∷ []))
complete_more es [] m h k = (k, tt)
complete_more es (x ∷ ms) m h k = (h.0, complete_more es ms m h.1 k)

member_complete : (env : Environment) (before : List (List ℕ × CType)) (d : Decl) → Finds (λ (m : List ℕ × CType). is_complete (extents env) m.1 ≡ true) (member_of env before d)
member_complete env before (Declare from an b ps n r) =
    let whole : List ℕ × CType → Type 0 = λ m. is_complete (extents env) m.1 ≡ true in
    let last : CType → Checked (List ℕ × CType) = λ t. keep from 1 (not (among (declared_name n) before)) >> Fine (declared_name n, t) in
    finds_on whole (declared_type (Declare from an b ps n r) env) _ (λ t.
    finds_kept whole from (rule_of_incomplete t) (is_complete (extents env) t) (keep from 19 (not (is_reserved (declared_name n))) >> last t) (λ c.
    finds_after whole (keep from 19 (not (is_reserved (declared_name n)))) (last t)
    (finds_after whole (keep from 1 (not (among (declared_name n) before))) (Fine (declared_name n, t)) c)))

members_complete : (env : Environment) (before : List (List ℕ × CType)) (ds : Decls) → AllComplete (extents env) (member_types before) → Finds (λ (ms : List (List ℕ × CType)). AllComplete (extents env) (member_types ms)) (members_from env before ds)
members_complete env before NoDecls h = h
members_complete env before (MoreDecls d ds) h =
    let whole : List (List ℕ × CType) → Type 0 = λ ms. AllComplete (extents env) (member_types ms) in
    finds_then (λ (m : List ℕ × CType). is_complete (extents env) m.1 ≡ true) whole (member_of env before d) _ (member_complete env before d)
    (λ m k. members_complete env (before ++ m ∷ []) ds (complete_more (extents env) before m h k))

-- a struct is no smaller than where its members end
ends_within : (es : List Extent) (ms : List (List ℕ × CType)) → (struct_of (extents_of es ms)).size ≤ greatest_object → end_from 0 (row es (member_types ms)) ≤ greatest_object
ends_within es ms h = subst (λ xs. end_from 0 xs ≤ greatest_object) (rows_of es ms) (omega (arith, h))

abbrev IsLaid : Program → Type 0
IsLaid p = AllLaid p.structs

struct_laid : (tags : List (List ℕ)) (p : Program) (from : ℕ) (tag : List ℕ) (ds : Decls) → IsLaid p → Finds IsLaid (struct_defined tags p from tag ds)
struct_laid tags p from tag ds h =
    let es = sizes p.structs in
    finds_after IsLaid (keep from 19 (not (is_reserved tag))) _ (finds_after IsLaid (keep from 1 (is_next (length p.structs) (place_in tag tags))) _
    (finds_then (λ (ms : List (List ℕ × CType)). AllComplete es (member_types ms)) IsLaid (members_from (at_file tags p) [] ds) _ (members_complete (at_file tags p) [] ds tt)
    (λ ms c. finds_small IsLaid (nat_le (struct_of (extents_of es ms)).size greatest_object) (Fine (record p { structs = p.structs ++ record { members = ms; extent = struct_of (extents_of es ms) } ∷ [] }))
    (λ e. one_more_laid p.structs (record { members = ms; extent = struct_of (extents_of es ms) }) h (c, ends_within es ms (leb-true (struct_of (extents_of es ms)).size greatest_object e))))))

-- ---- other declarations define no struct

again_laid : (p : Program) (from : ℕ) (t : CType) (m : Option Meaning) (name : List ℕ) → IsLaid p → Finds (λ (a : ℕ × Program). IsLaid a.1) (declared_again p from t m name)
again_laid p from t (Some (FunctionNamed number u)) name h = finds_after (λ (a : ℕ × Program). IsLaid a.1) (keep from 1 (same_type t u)) (Fine (number, p)) h
again_laid p from t (Some (GlobalNamed place u)) name h = tt
again_laid p from t (Some (LocalNamed place u)) name h = tt
again_laid p from t None name h = h

rest_laid : (tags : List (List ℕ)) (p : Program) (from place : ℕ) (name : List ℕ) (t : CType) (ps : Parts) (r : Rest) → IsLaid p → Finds IsLaid (function_rest tags p from place name t ps r)
rest_laid tags p from place name t ps NoRest h = h
rest_laid tags p from place name t ps (Initial v) h = tt
rest_laid tags p from place name t ps (Body s) h =
    let last : Checked Program = body_of (at_file tags p) t ps s >>= (λ b. Fine (record p { functions = with_body p.functions place b })) in
    finds_after IsLaid (keep from 21 (not (is_some (body_at p.functions place)))) (keep from 18 (is_main name t) >> last) (finds_after IsLaid (keep from 18 (is_main name t)) last
    (finds_on IsLaid (body_of (at_file tags p) t ps s) _ (λ b. h)))
rest_laid tags p from place name t ps (Members ds) h = tt

function_laid : (tags : List (List ℕ)) (p : Program) (from : ℕ) (name : List ℕ) (t : CType) (ps : Parts) (r : Rest) → IsLaid p → Finds IsLaid (function tags p from name t ps r)
function_laid tags p from name t ps r h =
    finds_then (λ (a : ℕ × Program). IsLaid a.1) IsLaid (function_declared p from t name) (λ a. function_rest tags a.1 from (a.0 - first_source_function) name t ps r)
    (finds_after (λ (a : ℕ × Program). IsLaid a.1) (keep from 19 (not (is_reserved name))) (declared_again p from t (meaning_in name p.names) name) (again_laid p from t (meaning_in name p.names) name h))
    (λ a k. rest_laid tags a.1 from (a.0 - first_source_function) name t ps r k)

global_laid : (tags : List (List ℕ)) (p : Program) (from : ℕ) (name : List ℕ) (t : CType) (r : Rest) → IsLaid p → Finds IsLaid (global tags p from name t r)
global_laid tags p from name t r h =
    finds_after IsLaid (complete (extents (at_file tags p)) from t) _ (finds_after IsLaid (declarable (at_file tags p) from name) _
    (finds_on IsLaid (heard (global_value tags (record p { names = (name, GlobalNamed (length p.globals) t) ∷ p.names }) from t r)) _ (λ x. h)))

either_laid : (tags : List (List ℕ)) (p : Program) (from : ℕ) (name : List ℕ) (t : CType) (ps : Parts) (r : Rest) → IsLaid p → Finds IsLaid (function_or_global tags p from name t ps r)
either_laid tags p from name (FunctionOf u ts) ps r h = function_laid tags p from name (FunctionOf u ts) ps r h
either_laid tags p from name Void ps r h = global_laid tags p from name Void r h
either_laid tags p from name (Integer k) ps r h = global_laid tags p from name (Integer k) r h
either_laid tags p from name (PointerTo t) ps r h = global_laid tags p from name (PointerTo t) r h
either_laid tags p from name (ArrayOf n t) ps r h = global_laid tags p from name (ArrayOf n t) r h
either_laid tags p from name (StructOf n) ps r h = global_laid tags p from name (StructOf n) r h
either_laid tags p from name (UndefinedStruct tag) ps r h = global_laid tags p from name (UndefinedStruct tag) r h

declares_laid : (tags : List (List ℕ)) (p : Program) (from : ℕ) (an : Annots) (b : Base) (ps : Parts) (n : Option (List ℕ)) (r : Rest) → IsLaid p
    → Finds IsLaid (annotation_types an (at_file tags p) >> (declared_type (Declare from an b ps n r) (at_file tags p) >>= (λ t. function_or_global tags p from (declared_name n) t ps r)))
declares_laid tags p from an b ps n r h =
    finds_after IsLaid (annotation_types an (at_file tags p)) (declared_type (Declare from an b ps n r) (at_file tags p) >>= (λ t. function_or_global tags p from (declared_name n) t ps r))
    (finds_on IsLaid (declared_type (Declare from an b ps n r) (at_file tags p)) _ (λ t. either_laid tags p from (declared_name n) t ps r h))

declaration_laid : (tags : List (List ℕ)) (p : Program) (d : Decl) → IsLaid p → Finds IsLaid (declaration tags p d)
declaration_laid tags p (Declare from an (bases.Struct tag) ps n (Members ds)) h = struct_laid tags p from tag ds h
declaration_laid tags p (Declare from an (bases.Struct tag) ps n NoRest) h = declares_laid tags p from an (bases.Struct tag) ps n NoRest h
declaration_laid tags p (Declare from an (bases.Struct tag) ps n (Initial v)) h = declares_laid tags p from an (bases.Struct tag) ps n (Initial v) h
declaration_laid tags p (Declare from an (bases.Struct tag) ps n (Body s)) h = declares_laid tags p from an (bases.Struct tag) ps n (Body s) h
declaration_laid tags p (Declare from an bases.Void ps n r) h = declares_laid tags p from an bases.Void ps n r h
declaration_laid tags p (Declare from an (bases.Int bytes signed) ps n r) h = declares_laid tags p from an (bases.Int bytes signed) ps n r h

declarations_laid : (tags : List (List ℕ)) (ds : Decls) (p : Program) → IsLaid p → Finds IsLaid (declarations tags p ds)
declarations_laid tags NoDecls p h = h
declarations_laid tags (MoreDecls d ds) p h = finds_then IsLaid IsLaid (declaration tags p d) (λ q. declarations tags q ds) (declaration_laid tags p d h) (λ q k. declarations_laid tags ds q k)

program_laid : (ds : Decls) → Finds IsLaid (program ds)
program_laid ds =
    finds_then IsLaid IsLaid (declarations (tags_of ds) nothing ds) _ (declarations_laid (tags_of ds) ds nothing (λ k s e. absurd cc))
    (λ p h. finds_after IsLaid (keep 0 18 (has_main p.functions)) (Fine p) h)

-- ---- limits

-- where no limit is exceeded, no object and no frame is too large
no_limit : (a b c d e f : Bool) → cond a (cond b (cond c (cond d (cond e (cond f None (Some Frame)) (Some Globals)) (Some Object)) (Some limits.Members)) (Some Params)) (Some Functions) ≡ None → (d ≡ true) × (f ≡ true)
no_limit true true true true true true h = (refl, refl)
no_limit true true true true true false h = absurd cc
no_limit true true true true false f h = absurd cc
no_limit true true true false e f h = absurd cc
no_limit true true false d e f h = absurd cc
no_limit true false c d e f h = absurd cc
no_limit false b c d e f h = absurd cc

within_limits : (is_small : Bool) (p : Program) → first_limit is_small p ≡ None → (is_small ≡ true) × (all_keep (small_frame p) p.functions ≡ true)
within_limits is_small p h = no_limit (nat_le (length p.functions) most_functions) (all_keep few_params p.functions) (all_keep few_members p.structs) is_small (nat_le (globals_end p) greatest_object) (all_keep (small_frame p) p.functions) h

pub each_keeps : (p : Function → Bool) (fs : List Function) → all_keep p fs ≡ true → (i : ℕ) (f : Function) → slice_get fs i ≡ Some f → p f ≡ true
each_keeps p [] h i f e = absurd cc
each_keeps p (g ∷ fs) h i f e = by (p g) refl h i e (λ r j k. each_keeps p fs r j f k)
  where
    by : (b : Bool) → p g ≡ b → (b && all_keep p fs) ≡ true → (i : ℕ) → slice_get (g ∷ fs) i ≡ Some f → (all_keep p fs ≡ true → (j : ℕ) → slice_get fs j ≡ Some f → p f ≡ true) → p f ≡ true
    by true w r zero k rest = ap p (sym (same_Some g f k)) ∙ w
    by true w r (suc j) k rest = rest r j k
    by false w r j k rest = absurd cc

-- ---- typed programs

-- the members of structs end where an object may, and the frames of functions where a frame may
pub record IsSmall (p : Program) : Type 0 where
  pub members : (k : ℕ) (s : Struct) → slice_get p.structs k ≡ Some s → end_from 0 (row (sizes p.structs) (member_types s.members)) ≤ greatest_object
  pub frames : (i : ℕ) (f : Function) (b : typed.Body) → slice_get p.functions i ≡ Some f → f.body ≡ Some b → max 16 (next_multiple_of (end_from 0 (row (sizes p.structs) b.locals)) 16) ≤ greatest_frame

-- the same as it is said of the program
pub members_small : (p : Program) → IsSmall p → (k : ℕ) (s : Struct) → slice_get p.structs k ≡ Some s → members_end p s ≤ greatest_object
members_small p h k s e = subst (λ xs. end_from 0 xs ≤ greatest_object) (sym (rows_in p (member_types s.members))) (h.members k s e)

pub frame_small : (p : Program) → IsSmall p → (i : ℕ) (f : Function) (b : typed.Body) → slice_get p.functions i ≡ Some f → f.body ≡ Some b → frame_size p b.locals ≤ greatest_frame
frame_small p h i f b e is = subst (λ xs. max 16 (next_multiple_of (end_from 0 xs) 16) ≤ greatest_frame) (sym (rows_in p b.locals)) (h.frames i f b e is)

small_of : (p : Program) → IsLaid p → all_keep (small_frame p) p.functions ≡ true → IsSmall p
small_of p laid kept = record {
  members = λ k s e. (laid k s e).1;
  frames = λ i f b e is.
      let whole : small_body p (Some b) ≡ true = ap (small_body p) (sym is) ∙ each_keeps (small_frame p) p.functions kept i f e in
      subst (λ xs. max 16 (next_multiple_of (end_from 0 xs) 16) ≤ greatest_frame) (rows_in p b.locals) (leb-true (frame_size p b.locals) greatest_frame whole);
}

not_true : (b : Bool) → not b ≡ true → b ≡ false
not_true false h = refl
not_true true h = absurd cc

of_limits : (q p : Program) (is_small : Bool) (w : Option Which) → first_limit is_small q ≡ w → (is_small ≡ true → IsLaid q) → unless q w ≡ Typed p → IsSmall p
of_limits q p is_small None e h k =
    let is : q ≡ p = cc in
    let within = within_limits is_small q e in
    subst (λ (r : Program). IsSmall r) is (small_of q (h within.0) within.1)
of_limits q p is_small (Some w) e h k = absurd cc

decided_small : (c : Checked Program) (p : Program) → Finds IsLaid c → decided c ≡ Typed p → IsSmall p
decided_small (Fine q) p h e = of_limits q p true (first_limit true q) refl (λ is. h) e
decided_small (Noted n q) p h e = of_limits q p (not n.large) (first_limit (not n.large) q) refl (λ is. h (not_true n.large is)) e
decided_small (Broken from rule) p h e = absurd cc

pub typed_is_small : (ds : Decls) (p : Program) → outcome ds ≡ Typed p → IsSmall p
typed_is_small ds p e = decided_small (program ds) p (program_laid ds) e

-- the names at file scope are no matter
pub small_without_names : (p q : Program) → p.structs ≡ q.structs → p.functions ≡ q.functions → IsSmall p → IsSmall q
small_without_names p q e f h = record {
  members = subst (λ (ss : List Struct). (k : ℕ) (s : Struct) → slice_get ss k ≡ Some s → end_from 0 (row (sizes ss) (member_types s.members)) ≤ greatest_object) e h.members;
  frames = subst (λ (fs : List Function). (i : ℕ) (g : Function) (b : typed.Body) → slice_get fs i ≡ Some g → g.body ≡ Some b → max 16 (next_multiple_of (end_from 0 (row (sizes q.structs) b.locals)) 16) ≤ greatest_frame) f
      (subst (λ (ss : List Struct). (i : ℕ) (g : Function) (b : typed.Body) → slice_get p.functions i ≡ Some g → g.body ≡ Some b → max 16 (next_multiple_of (end_from 0 (row (sizes ss) b.locals)) 16) ≤ greatest_frame) e h.frames);
}
