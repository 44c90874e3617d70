-- What is known of the functions of a source.
use Rattle.std.proofs.Common.{◌≡◌, ℕ, zero, suc, ◌+◌, ◌<◌, ◌≤◌, nat_le, Bool, true, false, ◌&&◌, List, [], ◌∷◌, ◌++◌, length, map, get_or, take, refl, sym, ap, ◌∙◌, subst, arith}
use Rattle.std.specs.List.{All}
use Rattle.std.proofs.lemmas.Bool.{leb-true}
use Rattle.std.proofs.lemmas.List.{take_more}
use Rattle.std.proofs.lemmas.List.Elements.{All-append}
use Rattle.c_types_model.specs.Types.{CType, CTypes, FunctionOf}
use Rattle.c_types_model.specs.Types as types
use Rattle.c_types_table.specs.declared.ids.TypeId.{TypeId}
use Rattle.c_types_table.specs.declared.ty.Ty.{Ty}
use Rattle.c_types_table.specs.declared.ty.Ty.TheVariants as nodes
use Rattle.c_types_table.specs.Tables.{IsMadeOf, all_at, at, made, type_at, types_of}
use Rattle.c_types_rules.specs.Limits.{all_keep, count, few_params}
use Rattle.c_types_rules.specs.Sources.{Function as Known, params_of}
use Rattle.c_types_rules.specs.TypeTests.{is_function}
use Rattle.c_types_nodes.specs.Tables.{Table}
use Rattle.c_types_program.specs.declared.function.Function.{Function}
use Rattle.c_types_program.specs.Declarations.{IsFunction, function_in}
use Rattle.c_types_environment.specs.States.{State}
use Rattle.annot_reader_functions.specs.Rules.{Declared}
use Rattle.annot_reader.specs.declared.source.Heading.{Heading}
use Rattle.annot_reader.specs.Headings.{AreHeadings, IsHeading, IsHeadingOf}
use Rattle.annot_reader_functions.specs.Seen.{declared_by}
use Rattle.annot_reader.specs.Sources.{IsFunctionType, IsTypedFunction}
use Rattle.annot_reader_functions.proofs.Numbers.{as_many_types}
use Rattle.annot_reader.proofs.FunctionTypes.{AreFunctionTypes}

all_cons : {X : Type 0} (P : X → Type 0) (x : X) (xs : List X) → P x → All P xs → All P (x ∷ xs)
all_cons P x xs h all zero d l = h
all_cons P x xs h all (suc k) d l = all k d (omega arith)

pub all_push : {X : Type 0} (P : X → Type 0) (xs : List X) (x : X) → All P xs → P x → All P (xs ++ x ∷ [])
all_push P xs x all h = All-append P xs (x ∷ []) all (all_cons P x [] h (λ k d l. absurd (omega arith)))

-- ---- numbers of types

count-all_at : (ts : List CType) (ids : List TypeId) → count (all_at ts ids) ≡ length ids
count-all_at ts [] = refl
count-all_at ts (i ∷ ids) = let h = count-all_at ts ids in omega arith

-- ---- one function

pub heading_number : (s : State) (h : Heading) (t : Ty) (ps : List TypeId) (u : CType) (n : ℕ) → n < length s.table.types → t ≡ nodes.Function h.result ps → h.params ≡ ps → IsMadeOf n t → made (types_of s.table.types) t ≡ u → IsFunctionType u → IsHeading (declared_by s) h
heading_number s h t ps u n l e q m f k =
    let long = as_many_types s.table.types in
    let same : t ≡ nodes.Function h.result h.params = e ∙ ap (nodes.Function h.result) (sym q) in
    let parts : IsMadeOf n (nodes.Function h.result h.params) = subst (IsMadeOf n) same m in
    let type : FunctionOf (at (types_of s.table.types) h.result) (all_at (types_of s.table.types) h.params) ≡ u = ap (made (types_of s.table.types)) (sym same) ∙ f in
    let few : count (all_at (types_of s.table.types) h.params) ≤ 8 = subst IsFunctionType (sym type) k in
    let many = count-all_at (types_of s.table.types) h.params in
    record {
      result = (let below = parts.0 in omega arith);
      params = λ k d i. (let below = parts.1 k d i in omega arith);
      few = omega arith;
    }

-- ---- one after another

pub headings_after : (d : Declared) (hs : List Heading) (fs : List Known) (h : Heading) (f : Known) → AreHeadings d hs fs → IsHeadingOf d h f → AreHeadings d (hs ++ h ∷ []) (fs ++ f ∷ [])
headings_after d [] [] h f a i = (i, tt)
headings_after d [] (g ∷ fs) h f a i = absurd a
headings_after d (x ∷ hs) [] h f a i = absurd a
headings_after d (x ∷ hs) (g ∷ fs) h f a i = (a.0, headings_after d hs fs h f a.1 i)

map-push : (t : Table) (fs : List Function) (f : Function) → map (function_in t) (fs ++ f ∷ []) ≡ (map (function_in t) fs ++ function_in t f ∷ [])
map-push t [] f = refl
map-push t (g ∷ fs) f = ap (λ gs. function_in t g ∷ gs) (map-push t fs f)

pub map_more : (t : Table) (fs : List Function) (k : ℕ) (f : Function) → k < length fs → map (function_in t) (take (k + 1) fs) ≡ (map (function_in t) (take k fs) ++ function_in t (get_or fs k f) ∷ [])
map_more t fs k f l = ap (map (function_in t)) (take_more fs k f l) ∙ map-push t (take k fs) (get_or fs k f)

-- ---- functions of a typed source

function_type : (t : CType) → is_function t ≡ true → nat_le (count (params_of t)) 8 ≡ true → IsFunctionType t
function_type (FunctionOf r ts) e f = leb-true (count ts) 8 f
function_type types.Void e f = absurd cc
function_type (types.Integer k) e f = absurd cc
function_type (types.PointerTo t) e f = absurd cc
function_type (types.ArrayOf n t) e f = absurd cc
function_type (types.StructOf n) e f = absurd cc
function_type (types.UndefinedStruct tag) e f = absurd cc

first_keeps : (a b : Bool) → (a && b) ≡ true → a ≡ true
first_keeps true b e = refl
first_keeps false b e = absurd cc

others_keep : (a b : Bool) → (a && b) ≡ true → b ≡ true
others_keep true b e = e
others_keep false b e = absurd cc

pub typed_all : (t : Table) (fs : List Function) → AreFunctionTypes (map (function_in t) fs) → all_keep few_params (map (function_in t) fs) ≡ true → All (IsFunction t) fs → All (IsTypedFunction t) fs
typed_all t [] h e all = λ k d l. absurd (omega arith)
typed_all t (f ∷ fs) h e all =
    let few = few_params (function_in t f) in
    let further = all_keep few_params (map (function_in t) fs) in
    all_cons (IsTypedFunction t) f fs (record { inside = (all 0 f (omega arith)).type; type = function_type (type_at t.types f.ty) h.0 (first_keeps few further e) })
    (typed_all t fs h.1 (others_keep few further e) (λ k d l. all (suc k) d (omega arith)))
