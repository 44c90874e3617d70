-- What the numbers of a table stand for.
use Rattle.std.proofs.Common.{◌≡◌, ℕ, zero, suc, ◌+◌, ◌<◌, List, [], ◌∷◌, ◌++◌, length, get_or, Some, refl, sym, ap, ◌∙◌, arith, length-append, subst, ◌⊎◌, inl, inr}
use Rattle.std.specs.Prelude.{slice_get}
use Rattle.std.specs.List.{All}
use Rattle.std.proofs.Math.ListN.{get_or-append}
use Rattle.std.proofs.lemmas.List.Elements.{All-head, All-tail}
use Rattle.std.proofs.lemmas.Option.{slice_get-get_or}
use Rattle.c_types_model.specs.Types.{CType, CTypes, Integer, PointerTo, ArrayOf, StructOf, UndefinedStruct, FunctionOf, NoTypes, MoreTypes}
use Rattle.c_types_model.specs.Types as types
use Rattle.c_types_table.specs.declared.ids.TypeId.{TypeId}
use Rattle.c_types_table.specs.declared.ty.Ty.{Ty}
use Rattle.c_types_table.specs.declared.ty.Ty.TheVariants as nodes
use Rattle.c_types_table.specs.Tables.{IsBelow, IsMadeOf, IsTable, at, all_at, made, types_after, types_of, type_at}

-- the first list agrees with the second as far as it goes
unfoldable pub Extends : List CType → List CType → Type 0
Extends ts us = (k : ℕ) → k < length ts → get_or us k types.Void ≡ get_or ts k types.Void

-- parts below the length of a list stand for the same in each that extends it
all_stay : (ts us : List CType) (ps : List TypeId) → Extends ts us → All (IsBelow (length ts)) ps → all_at us ps ≡ all_at ts ps
unfolding Extends
all_stay ts us [] e h = refl
all_stay ts us (p ∷ ps) e h =
    let first : at us p ≡ at ts p = e p.0 (All-head (IsBelow (length ts)) p ps h) in
    let rest : all_at us ps ≡ all_at ts ps = all_stay ts us ps e (All-tail (IsBelow (length ts)) p ps h) in
    ap (λ t. MoreTypes t (all_at us ps)) first ∙ ap (MoreTypes (at ts p)) rest

pub made_stays : (ts us : List CType) (n : Ty) → Extends ts us → IsMadeOf (length ts) n → made us n ≡ made ts n
unfolding Extends
made_stays ts us nodes.Void e h = refl
made_stays ts us (nodes.Int k) e h = refl
made_stays ts us (nodes.Pointer t) e h = ap PointerTo (e t.0 h)
made_stays ts us (nodes.Array t l) e h = ap (ArrayOf l) (e t.0 h)
made_stays ts us (nodes.Struct s) e h = refl
made_stays ts us (nodes.UndefinedStruct tag) e h = refl
made_stays ts us (nodes.Function r ps) e h =
    let result : at us r ≡ at ts r = e r.0 h.0 in
    let params : all_at us ps ≡ all_at ts ps = all_stay ts us ps e h.1 in
    ap (λ t. FunctionOf t (all_at us ps)) result ∙ ap (FunctionOf (at ts r)) params

grown : (ts : List CType) (t : CType) → length (ts ++ t ∷ []) ≡ length ts + 1
grown ts t = length-append ts (t ∷ [])

-- a longer table agrees with the types that it began with
pub after_extends : (ts : List CType) (ns : List Ty) → Extends ts (types_after ts ns)
unfolding Extends
after_extends ts [] k lt = refl
after_extends ts (n ∷ ns) k lt =
    let more : k < length (ts ++ made ts n ∷ []) = let g = grown ts (made ts n) in omega arith in
    after_extends (ts ++ made ts n ∷ []) ns k more ∙ get_or-append ts (made ts n ∷ []) types.Void k lt

pub length-types_after : (ts : List CType) (ns : List Ty) → length (types_after ts ns) ≡ length ts + length ns
length-types_after ts [] = omega arith
length-types_after ts (n ∷ ns) = let g = grown ts (made ts n) in let h = length-types_after (ts ++ made ts n ∷ []) ns in omega arith

-- one type more
pub types_after-push : (ts : List CType) (ns : List Ty) (n : Ty) → types_after ts (ns ++ n ∷ []) ≡ types_after ts ns ++ made (types_after ts ns) n ∷ []
types_after-push ts [] n = refl
types_after-push ts (m ∷ ns) n = types_after-push (ts ++ made ts m ∷ []) ns n

last_of : (ts : List CType) (t d : CType) → get_or (ts ++ t ∷ []) (length ts) d ≡ t
last_of [] t d = refl
last_of (u ∷ ts) t d = last_of ts t d

-- each type of a table is made of the types of the table
made_at : (ts : List CType) (ns : List Ty) (k : ℕ) (n : Ty) → ((j : ℕ) (m : Ty) → slice_get ns j ≡ Some m → IsMadeOf (length ts + j) m) → slice_get ns k ≡ Some n
    → made (types_after ts ns) n ≡ get_or (types_after ts ns) (length ts + k) types.Void
unfolding Extends
made_at ts [] k n h e = absurd cc
made_at ts (m ∷ ns) zero n h e =
    let same : m ≡ n = cc in
    let us = ts ++ made ts m ∷ [] in
    let parts : IsMadeOf (length ts) m = let here : ℕ → Type 0 = λ l. IsMadeOf l m in let none : length ts + 0 ≡ length ts = omega arith in subst here none (h 0 m refl) in
    let stays : made (types_after us ns) m ≡ made ts m = made_stays ts (types_after us ns) m (λ k lt. let more : k < length us = let g = grown ts (made ts m) in omega arith in after_extends us ns k more ∙ get_or-append ts (made ts m ∷ []) types.Void k lt) parts in
    let place : length ts < length us = let g = grown ts (made ts m) in omega arith in
    let here : get_or (types_after us ns) (length ts) types.Void ≡ made ts m = after_extends us ns (length ts) place ∙ last_of ts (made ts m) types.Void in
    let none : length ts + 0 ≡ length ts = omega arith in
    ap (made (types_after us ns)) (sym same) ∙ (stays ∙ (sym here ∙ ap (λ i. get_or (types_after us ns) i types.Void) (sym none)))
made_at ts (m ∷ ns) (suc k) n h e =
    let us = ts ++ made ts m ∷ [] in
    let g = grown ts (made ts m) in
    let next : (j : ℕ) → length us + j ≡ length ts + suc j = λ j. omega arith in
    let parts : (j : ℕ) (x : Ty) → slice_get ns j ≡ Some x → IsMadeOf (length us + j) x = λ j x s. let here : ℕ → Type 0 = λ l. IsMadeOf l x in subst here (sym (next j)) (h (suc j) x s) in
    made_at us ns k n parts e ∙ ap (λ i. get_or (types_after us ns) i types.Void) (next k)

pub made_in_table : (ns : List Ty) (i : TypeId) (n : Ty) → IsTable ns → slice_get ns i.0 ≡ Some n → made (types_of ns) n ≡ type_at ns i
made_in_table ns i n h e =
    let parts : (j : ℕ) (m : Ty) → slice_get ns j ≡ Some m → IsMadeOf (0 + j) m = λ j m s. let here : ℕ → Type 0 = λ l. IsMadeOf l m in let none : 0 + j ≡ j = omega arith in subst here (sym none) (h j m s) in
    let none : 0 + i.0 ≡ i.0 = omega arith in
    made_at [] ns i.0 n parts e ∙ ap (λ k. get_or (types_of ns) k types.Void) none

-- a table with one type more
pub type_at-push : (ns : List Ty) (n : Ty) (i : TypeId) → i.0 ≡ length ns → type_at (ns ++ n ∷ []) i ≡ made (types_of ns) n
type_at-push ns n i e =
    let size : length (types_of ns) ≡ length ns = length-types_after [] ns ∙ zero_more (length ns) in
    let place : i.0 ≡ length (types_of ns) = e ∙ sym size in
    ap (λ ts. get_or ts i.0 types.Void) (types_after-push [] ns n) ∙ (ap (λ k. get_or (types_of ns ++ made (types_of ns) n ∷ []) k types.Void) place ∙ last_of (types_of ns) (made (types_of ns) n) types.Void)
  where
    zero_more : (n : ℕ) → length {A = CType} [] + n ≡ n
    zero_more n = omega arith

pub type_at-kept : (ns : List Ty) (n : Ty) (i : TypeId) → i.0 < length ns → type_at (ns ++ n ∷ []) i ≡ type_at ns i
type_at-kept ns n i lt =
    let size : length (types_of ns) ≡ length ns = length-types_after [] ns ∙ zero_more (length ns) in
    let less : i.0 < length (types_of ns) = omega arith in
    ap (λ ts. get_or ts i.0 types.Void) (types_after-push [] ns n) ∙ get_or-append (types_of ns) (made (types_of ns) n ∷ []) types.Void i.0 less
  where
    zero_more : (n : ℕ) → length {A = CType} [] + n ≡ n
    zero_more n = omega arith

slice_get_push : (ns : List Ty) (n : Ty) (k : ℕ) (t : Ty) → slice_get (ns ++ n ∷ []) k ≡ Some t → (slice_get ns k ≡ Some t) ⊎ ((k ≡ length ns) × (n ≡ t))
slice_get_push [] n zero t e = inr (refl, cc)
slice_get_push [] n (suc k) t e = absurd cc
slice_get_push (m ∷ ns) n zero t e = inl e
slice_get_push (m ∷ ns) n (suc k) t e = elim (slice_get_push ns n k t e) [ inl s ↦ inl s | inr h ↦ inr (ap suc h.0, h.1) ]

-- a table stays one where a type is put after its parts
pub IsTable-push : (ns : List Ty) (n : Ty) → IsTable ns → IsMadeOf (length ns) n → IsTable (ns ++ n ∷ [])
IsTable-push ns n h p k t e = by (slice_get_push ns n k t e)
  where
    by : (slice_get ns k ≡ Some t) ⊎ ((k ≡ length ns) × (n ≡ t)) → IsMadeOf k t
    by (inl s) = h k t s
    by (inr (a, b)) = let here : ℕ → Type 0 = λ l. IsMadeOf l t in let there : Ty → Type 0 = λ x. IsMadeOf (length ns) x in subst here (sym a) (subst there b p)

-- what is read at a number
pub got : (items now : List Ty) (i : TypeId) (n : Ty) → items ≡ now → IsTable items → slice_get items i.0 ≡ Some n → (made (types_of now) n ≡ type_at now i) × IsMadeOf i.0 n
got items now i n same table read =
    let meaning : made (types_of items) n ≡ type_at items i = made_in_table items i n table read in
    let claim : List Ty → Type 0 = λ ns. made (types_of ns) n ≡ type_at ns i in
    (subst claim same meaning, table i.0 n read)
