-- Limits that a source may not exceed, as the code finds them.
use Rattle.std.proofs.Common.{◌≡◌, ℕ, zero, suc, ◌+◌, ◌-◌, ◌^◌, ◌<◌, ◌≤◌, Bool, true, false, ◌&&◌, max, List, [], ◌∷◌, length, map, drop, get_or, Option, Some, None, refl, sym, ap, ◌∙◌, subst, arith, add-one}
use Rattle.std.specs.Prelude.{nat_le, if◌then◌else◌, slice_get}
use Rattle.std.specs.Int.{next_multiple_of}
use Rattle.std.specs.Option.{option_map}
use Rattle.std.specs.List.{All}
use Rattle.std.proofs.lemmas.List.{drop_all, get_or-map, length-map}
use Rattle.std.proofs.lemmas.List.Elements.{All-head, All-tail}
use Rattle.source_limits.specs.Limits.{greatest_frame, greatest_object, most_functions}
use borrow.Author.Tests.{leb-true, leb-false}
use Rattle.r2_num.specs.declared.kinds.IntKind.TheVariants.{I8, U8, I16, U16, I32, U32, I64, U64}
use Rattle.c_types_model.specs.Types.{CType, Void, Integer, PointerTo, ArrayOf, StructOf, UndefinedStruct, FunctionOf}
use Rattle.c_types_model.specs.Layouts.{capped, capped_extent, end_from, extent_of, repeated, scalar}
use Rattle.c_types_model.specs.declared.extent.Extent.{Extent}
use Rattle.c_types_model.proofs.Steps.{end_of_all, end_step}
use Rattle.c_types_table.specs.declared.ids.TypeId.{TypeId}
use Rattle.c_types_table.specs.declared.ty.Ty.{Ty}
use Rattle.c_types_table.specs.Tables.{all_at, type_at}
use Rattle.c_types_table.proofs.Extents.{extents_capped}
use Rattle.c_types_rules.specs.Environment.{Environment, Struct, extents}
use Rattle.c_types_rules.specs.Sources.{Program, extent_or, extents_in}
use Rattle.c_types_rules.specs.Limits as limits
use Rattle.c_types_rules.specs.Limits.{Which, all_keep, count, few_members, few_params, first_limit, frame_size, globals_end, small_frame, type_of}
use Rattle.c_types_program.specs.declared.global.Global.{Global}
use Rattle.c_types_nodes.specs.Tables.{Table}
use Rattle.c_types_program.specs.Declarations.{global_in, types_in}
use Rattle.c_types.specs.States.{IsAligned}

-- ---- sizes and alignments

pub extent_there : (es : List Extent) (t : CType) (e : Extent) → option_map capped_extent (extent_of (map capped_extent es) t) ≡ Some e → e ≡ capped_extent (extent_or (extent_of es t))
extent_there es t e h = by (extent_of es t) (sym (extents_capped es t) ∙ h)
  where
    by : (o : Option Extent) → option_map capped_extent o ≡ Some e → e ≡ capped_extent (extent_or o)
    by None p = absurd cc
    by (Some x) p = cc

pub extent_missing : (es : List Extent) (t : CType) → option_map capped_extent (extent_of (map capped_extent es) t) ≡ None → scalar 1 ≡ capped_extent (extent_or (extent_of es t))
extent_missing es t h = by (extent_of es t) (sym (extents_capped es t) ∙ h)
  where
    by : (o : Option Extent) → option_map capped_extent o ≡ None → scalar 1 ≡ capped_extent (extent_or o)
    by None p = refl
    by (Some x) p = absurd cc

abbrev align_or : Option Extent → ℕ
align_or o = (extent_or o).align

repeated_align : (n : ℕ) (o : Option Extent) → align_or (option_map (repeated n) o) ≡ align_or o
repeated_align n None = refl
repeated_align n (Some e) = refl

struct_align : (ss : List Struct) (i : ℕ) → All IsAligned ss → 0 < align_or (slice_get (map (λ s. s.extent) ss) i)
struct_align [] i h = omega arith
struct_align (s ∷ ss) zero h = All-head IsAligned s ss h
struct_align (s ∷ ss) (suc i) h = struct_align ss i (All-tail IsAligned s ss h)

-- an address can be a multiple of each alignment
pub align_some : (env : Environment) (t : CType) → All IsAligned env.structs → 0 < align_or (extent_of (extents env) t)
align_some env Void h = omega arith
align_some env (Integer I8) h = omega arith
align_some env (Integer U8) h = omega arith
align_some env (Integer I16) h = omega arith
align_some env (Integer U16) h = omega arith
align_some env (Integer I32) h = omega arith
align_some env (Integer U32) h = omega arith
align_some env (Integer I64) h = omega arith
align_some env (Integer U64) h = omega arith
align_some env (PointerTo t) h = omega arith
align_some env (ArrayOf n t) h = let p = align_some env t h in let e = repeated_align n (extent_of (extents env) t) in omega arith
align_some env (StructOf i) h = struct_align env.structs i h
align_some env (UndefinedStruct tag) h = omega arith
align_some env (FunctionOf r ps) h = omega arith

-- ---- where objects end

-- the extents of types
abbrev pub extents_by : List Extent → List CType → List Extent
extents_by es ts = map (λ t. extent_or (extent_of es t)) ts

-- the types of globals
abbrev pub types_of_globals : List Ty → List Global → List CType
types_of_globals types gs = map (λ g. type_at types g.ty) gs

pub extents_are : (env : Environment) (p : Program) (ts : List CType) → p.structs ≡ env.structs → extents_in p ts ≡ extents_by (extents env) ts
extents_are env p [] e = refl
extents_are env p (t ∷ ts) e =
    ap (λ ss. extent_or (extent_of (map (λ s. s.extent) ss) t) ∷ extents_in p ts) e ∙ ap (λ xs. extent_or (extent_of (extents env) t) ∷ xs) (extents_are env p ts e)

-- one more object
pub one_end : (es : List Extent) (i n e : ℕ) (d x : Extent) (y : ℕ) → i < length es → x ≡ get_or es i d → e ≡ capped (next_multiple_of n x.align + x.size) → capped (end_from n (drop i es)) ≡ y → capped (end_from e (drop (suc i) es)) ≡ y
one_end es i n e d x y lt same h p =
    end_step es i n (capped (next_multiple_of n (get_or es i d).align)) e y d lt refl
    (h ∙ (ap (λ z. capped (next_multiple_of n z.align + z.size)) same ∙ sum (next_multiple_of n (get_or es i d).align) (get_or es i d).size)) p
  where
    sum : (a s : ℕ) → capped (a + s) ≡ capped (capped a + s)
    sum a s = omega arith

pub all_ended : (es : List Extent) (i n y : ℕ) → length es ≤ i → capped (end_from n (drop i es)) ≡ y → capped n ≡ y
all_ended es i n y le h = end_of_all es i n y le h

pub types_seen : (t : Table) (gs : List Global) → map type_of (map (global_in t) gs) ≡ types_of_globals t.types gs
types_seen t [] = refl
types_seen t (g ∷ gs) = ap (λ ts. type_at t.types g.ty ∷ ts) (types_seen t gs)

-- the extent of an object, among those of all
pub extent_at : (es : List Extent) (ts : List CType) (i : ℕ) (t : CType) (d : Extent) → i < length ts → t ≡ get_or ts i t → extent_or (extent_of es t) ≡ get_or (extents_by es ts) i d
extent_at es ts i t d lt e = ap (λ c. extent_or (extent_of es c)) e ∙ sym (get_or-map (λ c. extent_or (extent_of es c)) ts i t d lt)

pub global_at : (types : List Ty) (gs : List Global) (i : ℕ) (g : Global) → i < length gs → g ≡ get_or gs i g → type_at types g.ty ≡ get_or (types_of_globals types gs) i (type_at types g.ty)
global_at types gs i g lt e = ap (λ x. type_at types x.ty) e ∙ sym (get_or-map (λ x. type_at types x.ty) gs i g (type_at types g.ty) lt)

pub local_at : (types : List Ty) (ids : List TypeId) (i : ℕ) (z : TypeId) → i < length ids → type_at types (get_or ids i z) ≡ get_or (types_in types ids) i (type_at types (get_or ids i z))
local_at types ids i z lt = sym (get_or-map (type_at types) ids i z (type_at types (get_or ids i z)) lt)

-- one more object lies after those before it
pub end_goes_on : (es : List Extent) (ts : List CType) (i n e y : ℕ) (t : CType) → i < length ts → t ≡ get_or ts i t → e ≡ capped (next_multiple_of n (extent_or (extent_of es t)).align + (extent_or (extent_of es t)).size)
    → capped (end_from n (drop i (extents_by es ts))) ≡ y → capped (end_from e (drop (i + 1) (extents_by es ts))) ≡ y
end_goes_on es ts i n e y t lt same h p =
    let in_all : i < length (extents_by es ts) = (let l = length-map ts (λ c. extent_or (extent_of es c)) in omega arith) in
    let P : ℕ → Type 0 = λ k. capped (end_from e (drop k (extents_by es ts))) ≡ y in
    subst P (sym (add-one i)) (one_end (extents_by es ts) i n e (scalar 1) (extent_or (extent_of es t)) y in_all (extent_at es ts i t (scalar 1) lt same) h p)

pub capped_again : (e n : ℕ) → e ≡ capped n → capped e ≡ e
capped_again e n h = omega arith

pub ends_there : (es : List Extent) (ts : List CType) (i n y : ℕ) → length ts ≤ i → capped n ≡ n → capped (end_from n (drop i (extents_by es ts))) ≡ y → n ≡ y
ends_there es ts i n y le fits p = let l = length-map ts (λ c. extent_or (extent_of es c)) in sym fits ∙ all_ended (extents_by es ts) i n y (omega arith) p

-- ---- tests of all

module _ {A : Type 0} (P : A → Bool) where
  pub kept_so_far : (xs : List A) (i : ℕ) (x : A) → drop i xs ≡ x ∷ drop (suc i) xs → P x ≡ true → all_keep P xs ≡ all_keep P (drop i xs) → all_keep P xs ≡ all_keep P (drop (suc i) xs)
  kept_so_far xs i x e h p = p ∙ (ap (all_keep P) e ∙ ap (λ b. b && all_keep P (drop (suc i) xs)) h)

  pub not_kept_here : (xs : List A) (i : ℕ) (x : A) → drop i xs ≡ x ∷ drop (suc i) xs → P x ≡ false → all_keep P xs ≡ all_keep P (drop i xs) → all_keep P xs ≡ false
  not_kept_here xs i x e h p = p ∙ (ap (all_keep P) e ∙ ap (λ b. b && all_keep P (drop (suc i) xs)) h)

  pub all_kept : (xs : List A) (i : ℕ) → length xs ≤ i → all_keep P xs ≡ all_keep P (drop i xs) → all_keep P xs ≡ true
  all_kept xs i le p = p ∙ ap (all_keep P) (drop_all i xs le)

  pub kept_after : (xs : List A) (i : ℕ) (x : A) → drop i xs ≡ x ∷ drop (suc i) xs → P x ≡ true → all_keep P xs ≡ all_keep P (drop i xs) → all_keep P xs ≡ all_keep P (drop (i + 1) xs)
  kept_after xs i x e h p = subst (λ k. all_keep P xs ≡ all_keep P (drop k xs)) (sym (add-one i)) (kept_so_far xs i x e h p)

-- what stands at a place of a list that is read
pub mapped_at : {A B : Type 0} (f : A → B) (xs : List A) (i : ℕ) (d : A) → i < length xs → drop i (map f xs) ≡ f (get_or xs i d) ∷ drop (suc i) (map f xs)
mapped_at f [] i d lt = absurd (omega arith)
mapped_at f (x ∷ xs) zero d lt = refl
mapped_at f (x ∷ xs) (suc i) d lt = mapped_at f xs i d (omega arith)

pub mapped_item : {A B : Type 0} (f : A → B) (xs : List A) (i : ℕ) (x : A) → i < length xs → x ≡ get_or xs i x → drop i (map f xs) ≡ f x ∷ drop (suc i) (map f xs)
mapped_item f xs i x lt e = mapped_at f xs i x lt ∙ ap (λ y. f y ∷ drop (suc i) (map f xs)) (sym e)

pub mapped_below : {A B : Type 0} (f : A → B) (xs : List A) (i : ℕ) → i < length xs → i < length (map f xs)
mapped_below f xs i lt = let l = length-map xs f in omega arith

pub mapped_end : {A B : Type 0} (f : A → B) (xs : List A) (i : ℕ) → length xs ≤ i → length (map f xs) ≤ i
mapped_end f xs i le = let l = length-map xs f in omega arith

-- ---- parameters and members

pub count_is : (ts : List CType) (ids : List TypeId) → count (all_at ts ids) ≡ length ids
count_is ts [] = refl
count_is ts (id ∷ ids) = ap suc (count_is ts ids)

-- ---- tests of numbers

pub le_holds : (a b : ℕ) → a ≤ b → nat_le a b ≡ true
le_holds a b h = by (nat_le a b) refl
  where
    by : (t : Bool) → nat_le a b ≡ t → t ≡ true
    by true e = refl
    by false e = let x = leb-false a b e in absurd (omega arith)

pub le_fails : (a b : ℕ) → b < a → nat_le a b ≡ false
le_fails a b h = by (nat_le a b) refl
  where
    by : (t : Bool) → nat_le a b ≡ t → t ≡ false
    by true e = let x = leb-true a b e in absurd (omega arith)
    by false e = refl

pub same_le : (a b c d : ℕ) → (a ≤ b → c ≤ d) → (c ≤ d → a ≤ b) → nat_le a b ≡ nat_le c d
same_le a b c d f g = by (nat_le a b) (nat_le c d) refl refl
  where
    by : (p q : Bool) → nat_le a b ≡ p → nat_le c d ≡ q → p ≡ q
    by true true h k = refl
    by false false h k = refl
    by true false h k = let x = f (leb-true a b h) in let y = leb-false c d k in absurd (omega arith)
    by false true h k = let x = g (leb-true c d k) in let y = leb-false a b h in absurd (omega arith)

pub capped_le : (n m : ℕ) → m < 2 ^ 64 - 1 → nat_le (capped n) m ≡ nat_le n m
capped_le n m lt = same_le (capped n) m n m (λ h. omega arith) (λ h. omega arith)

-- a frame is small where its last object ends soon enough
pub frame_le : (n : ℕ) → nat_le (capped n) greatest_frame ≡ nat_le (max 16 (next_multiple_of n 16)) greatest_frame
frame_le n = same_le (capped n) greatest_frame (max 16 (next_multiple_of n 16)) greatest_frame (λ h. omega arith) (λ h. omega arith)

-- ---- the first of them

nested : (a b c s g f : Bool) → Option Which
nested a b c s g f =
    if a then if b then if c then if s then if g then if f then None else Some limits.Frame else Some limits.Globals else Some limits.Object else Some limits.Members else Some limits.Params else Some limits.Functions

module _ (small : Bool) (p : Program) where
  pub many_functions : nat_le (length p.functions) most_functions ≡ false → first_limit small p ≡ Some limits.Functions
  unfolding nested
  many_functions a = ap (λ x. nested x (all_keep few_params p.functions) (all_keep few_members p.structs) small (nat_le (globals_end p) greatest_object) (all_keep (small_frame p) p.functions)) a

  pub many_params : nat_le (length p.functions) most_functions ≡ true → all_keep few_params p.functions ≡ false → first_limit small p ≡ Some limits.Params
  unfolding nested
  many_params a b =
      ap (λ x. nested x (all_keep few_params p.functions) (all_keep few_members p.structs) small (nat_le (globals_end p) greatest_object) (all_keep (small_frame p) p.functions)) a
      ∙ ap (λ x. nested true x (all_keep few_members p.structs) small (nat_le (globals_end p) greatest_object) (all_keep (small_frame p) p.functions)) b

  pub many_members : nat_le (length p.functions) most_functions ≡ true → all_keep few_params p.functions ≡ true → all_keep few_members p.structs ≡ false → first_limit small p ≡ Some limits.Members
  unfolding nested
  many_members a b c =
      ap (λ x. nested x (all_keep few_params p.functions) (all_keep few_members p.structs) small (nat_le (globals_end p) greatest_object) (all_keep (small_frame p) p.functions)) a
      ∙ (ap (λ x. nested true x (all_keep few_members p.structs) small (nat_le (globals_end p) greatest_object) (all_keep (small_frame p) p.functions)) b
      ∙ ap (λ x. nested true true x small (nat_le (globals_end p) greatest_object) (all_keep (small_frame p) p.functions)) c)

  rest_is : nat_le (length p.functions) most_functions ≡ true → all_keep few_params p.functions ≡ true → all_keep few_members p.structs ≡ true
      → first_limit small p ≡ nested true true true small (nat_le (globals_end p) greatest_object) (all_keep (small_frame p) p.functions)
  unfolding nested
  rest_is a b c =
      ap (λ x. nested x (all_keep few_params p.functions) (all_keep few_members p.structs) small (nat_le (globals_end p) greatest_object) (all_keep (small_frame p) p.functions)) a
      ∙ (ap (λ x. nested true x (all_keep few_members p.structs) small (nat_le (globals_end p) greatest_object) (all_keep (small_frame p) p.functions)) b
      ∙ ap (λ x. nested true true x small (nat_le (globals_end p) greatest_object) (all_keep (small_frame p) p.functions)) c)

  pub large_object : nat_le (length p.functions) most_functions ≡ true → all_keep few_params p.functions ≡ true → all_keep few_members p.structs ≡ true → small ≡ false → first_limit small p ≡ Some limits.Object
  unfolding nested
  large_object a b c s = rest_is a b c ∙ ap (λ x. nested true true true x (nat_le (globals_end p) greatest_object) (all_keep (small_frame p) p.functions)) s

  pub large_globals : nat_le (length p.functions) most_functions ≡ true → all_keep few_params p.functions ≡ true → all_keep few_members p.structs ≡ true → small ≡ true → nat_le (globals_end p) greatest_object ≡ false
      → first_limit small p ≡ Some limits.Globals
  unfolding nested
  large_globals a b c s g =
      rest_is a b c
      ∙ (ap (λ x. nested true true true x (nat_le (globals_end p) greatest_object) (all_keep (small_frame p) p.functions)) s ∙ ap (λ x. nested true true true true x (all_keep (small_frame p) p.functions)) g)

  pub by_frames : (b : Option Which) (f : Bool) → nat_le (length p.functions) most_functions ≡ true → all_keep few_params p.functions ≡ true → all_keep few_members p.structs ≡ true → small ≡ true → nat_le (globals_end p) greatest_object ≡ true
      → all_keep (small_frame p) p.functions ≡ f → (if f then None else Some limits.Frame) ≡ b → first_limit small p ≡ b
  unfolding nested
  by_frames w f a b c s g h e =
      rest_is a b c
      ∙ (ap (λ x. nested true true true x (nat_le (globals_end p) greatest_object) (all_keep (small_frame p) p.functions)) s
      ∙ (ap (λ x. nested true true true true x (all_keep (small_frame p) p.functions)) g
      ∙ (ap (λ x. nested true true true true true x) h ∙ e)))

-- where an object is too large, a limit is exceeded
some_limit : (a b c g f : Bool) → nested a b c false g f ≡ None → ⊥
unfolding nested
some_limit true true true g f h = absurd cc
some_limit true true false g f h = absurd cc
some_limit true false c g f h = absurd cc
some_limit false b c g f h = absurd cc

pub large_is_limited : (p : Program) → first_limit false p ≡ None → ⊥
unfolding nested
large_is_limited p h = some_limit (nat_le (length p.functions) most_functions) (all_keep few_params p.functions) (all_keep few_members p.structs) (nat_le (globals_end p) greatest_object) (all_keep (small_frame p) p.functions) h
