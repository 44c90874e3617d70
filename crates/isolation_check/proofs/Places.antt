-- Where objects lie, as it is computed.
use Rattle.std.proofs.Common.{◌≡◌, ℕ, zero, suc, ◌+◌, ◌<◌, ◌≤◌, ◌^◌, List, [], ◌∷◌, length, map, drop, get_or, refl, sym, ap, ◌∙◌, subst, arith, add-one}
use Rattle.std.specs.Int.{next_multiple_of}
use Rattle.std.proofs.Math.Seq.{drop-cons}
use Rattle.std.specs.List.{All}
use Rattle.std.proofs.lemmas.List.Elements.{All-cons, All-head, All-nil, All-tail}
use Rattle.source_limits.specs.Limits.{greatest_object}
use Rattle.marks.specs.Places.{alignment}
use Rattle.c_types_model.specs.Layouts.{end_from, offsets_from}
use Rattle.c_types_model.specs.Types.{CType}
use Rattle.c_types_model.specs.declared.extent.Extent.{Extent}
use Rattle.c_types_table.specs.declared.ty.Ty.{Ty}
use Rattle.c_types_table.specs.Tables.{type_at}
use Rattle.c_types_nodes.specs.Tables.{Table}
use Rattle.c_types_rules.specs.Limits.{type_of}
use Rattle.c_types_program.specs.declared.global.Global.{Global}
use Rattle.c_types_program.specs.declared.text.TextLiteral.{TextLiteral}
use Rattle.c_types_program.specs.Declarations.{Declared, global_in}
use Rattle.c_types_program.specs.Programs.{program_in}
use Rattle.c_lower_layout.specs.Indexed.{extent_in, extents_at}
use Rattle.c_lower_layout.proofs.Placing.{extents_declared, extents_mapped}
use Rattle.c_lower_layout.proofs.Rows.{end_is_after}
use Rattle.isolation_check_rules.specs.declared.area.Area.{Area}
use Rattle.isolation_check_rules.specs.declared.area.Area.TheVariants as areas
use Rattle.isolation_check_rules.specs.declared.area.Ends.{Ends}
use Rattle.isolation_check_rules.specs.Addresses.{addresses_from, end_in, string_extent, with_end}
use Rattle.isolation_check_laws.specs.Fits.{AreBetween, Divides, last_in}
use Rattle.isolation_check.specs.Literals.{strings_in}
use Rattle.isolation_check.specs.Objects.{extents_of}
use Rattle.isolation_check.specs.Rows.{AllEnd, AreSmall, global_types}
use Rattle.isolation_check.proofs.Lists.{one_more}

-- ---- sizes

small_there : (structs : List Extent) (types : List Ty) (gs : List Global) (k : ℕ) (d : Global) → k < length gs → AreSmall (extents_at structs (global_types types gs))
    → (extent_in structs (type_at types (get_or gs k d).ty)).size < 2 ^ 64
small_there structs types [] k d lt h = absurd (omega arith)
small_there structs types (g ∷ gs) zero d lt h = All-head (λ (x : Extent). x.size < 2 ^ 64) (extent_in structs (type_at types g.ty)) (extents_at structs (global_types types gs)) h
small_there structs types (g ∷ gs) (suc k) d lt h = small_there structs types gs k d (omega arith) (All-tail (λ (x : Extent). x.size < 2 ^ 64) (extent_in structs (type_at types g.ty)) (extents_at structs (global_types types gs)) h)

-- 64 bits are enough for the size of one of them
pub small_at : (structs : List Extent) (types : List Ty) (gs : List Global) (k : ℕ) (g : Global) → k < length gs → g ≡ get_or gs k g → AreSmall (extents_at structs (global_types types gs))
    → (extent_in structs (type_at types g.ty)).size < 2 ^ 64
small_at structs types gs k g lt is h = subst (λ (x : Global). (extent_in structs (type_at types x.ty)).size < 2 ^ 64) (sym is) (small_there structs types gs k g lt h)

-- objects that end so in a row are small
pub all_small : (at : ℕ) (xs : List Extent) → end_from at xs ≤ greatest_object → AreSmall xs
all_small at [] h = All-nil (λ (x : Extent). x.size < 2 ^ 64)
all_small at (x ∷ xs) h =
    let next = next_multiple_of at x.align in
    let later = end_is_after (next + x.size) xs in
    let ends : end_from (next + x.size) xs ≤ greatest_object = h in
    All-cons (λ (y : Extent). y.size < 2 ^ 64) x xs (omega arith) (all_small (next + x.size) xs h)

types_are : (t : Table) (gs : List Global) → map type_of (map (global_in t) gs) ≡ global_types t.types gs
types_are t [] = refl
types_are t (g ∷ gs) = ap (λ (ts : List CType). type_at t.types g.ty ∷ ts) (types_are t gs)

-- sizes that are computed are those of the program
extents_are : (p : Declared) → extents_at p.structs.extents (global_types p.table.types p.globals) ≡ extents_of p
extents_are p =
    let q = program_in p [] in
    let ts = map type_of q.globals in
    sym (extents_mapped q ts
    ∙ (ap (λ (es : List Extent). extents_at es ts) (extents_declared p.table.types p.structs.members 0 p.structs.extents)
    ∙ ap (extents_at p.structs.extents) (types_are p.table p.globals)))

-- the same of what was read of the program
pub extents_here : (p : Declared) (types : List Ty) (structs : List Extent) (gs : List Global) → types ≡ p.table.types → structs ≡ p.structs.extents → gs ≡ p.globals
    → extents_at structs (global_types types gs) ≡ extents_of p
extents_here p types structs gs et es eg =
    ap (λ (ts : List Ty). extents_at structs (global_types ts gs)) et
    ∙ (ap (λ (xs : List Extent). extents_at xs (global_types p.table.types gs)) es
    ∙ (ap (λ (hs : List Global). extents_at p.structs.extents (global_types p.table.types hs)) eg ∙ extents_are p))

extents_length : (types : List Ty) (structs : List Extent) (gs : List Global) → length (extents_at structs (global_types types gs)) ≡ length gs
extents_length types structs [] = refl
extents_length types structs (g ∷ gs) = ap suc (extents_length types structs gs)

pub extents_many : (p : Declared) → length (extents_of p) ≡ length p.globals
extents_many p = ap (λ (xs : List Extent). length xs) (sym (extents_are p)) ∙ extents_length p.table.types p.structs.extents p.globals

-- ---- strings

-- the next string ends where it may
pub string_fits : (at : ℕ) (texts : List TextLiteral) (k : ℕ) (t : TextLiteral) → k < length texts → t ≡ get_or texts k t → end_from at (map string_extent (strings_in (drop k texts))) < 2 ^ 64
    → next_multiple_of at alignment + (length t.bytes + 1) < 2 ^ 64
string_fits at texts k t lt is h =
    let end = next_multiple_of at alignment + (length t.bytes + 1) in
    let rest = map string_extent (strings_in (drop (k + 1) texts)) in
    let more : end_from at (map string_extent (strings_in (drop k texts))) ≡ end_from end rest = ap (λ (ts : List TextLiteral). end_from at (map string_extent (strings_in ts))) (one_more texts k t lt is) in
    let later : end ≤ end_from end rest = end_is_after end rest in
    omega (arith, more, later, h)

pub rows_length : (at : ℕ) (texts : List TextLiteral) → length (offsets_from at (map string_extent (strings_in texts))) ≡ length texts
rows_length at [] = refl
rows_length at (t ∷ ts) = ap suc (rows_length (next_multiple_of at alignment + (length t.bytes + 1)) ts)

-- ---- globals

last_small : (a : Area) → last_in a < 2 ^ 64
last_small areas.Constants = omega arith
last_small areas.Replay = omega arith
last_small areas.System = omega arith

-- those that lie in their areas end within 64 bits
pub all_end : (first : Area → ℕ) (e : Ends) (rest : List Area) (xs : List Extent) → AreBetween first last_in rest xs (addresses_from e rest xs) → All Divides xs → AllEnd e rest xs
all_end first e [] xs h divides = tt
all_end first e (a ∷ rest) [] h divides = tt
all_end first e (a ∷ rest) (x ∷ xs) h divides =
    let d = All-head Divides x xs divides in
    let small = last_small a in (
      d.some,
      omega (arith, h.1),
      all_end first (with_end e a (next_multiple_of (end_in e a) x.align + x.size)) rest xs h.2 (All-tail Divides x xs divides),
    )

pub addresses_length : (e : Ends) (rest : List Area) (xs : List Extent) → length rest ≡ length xs → length (addresses_from e rest xs) ≡ length rest
addresses_length e [] xs h = refl
addresses_length e (a ∷ rest) [] h = absurd (omega (arith, h))
addresses_length e (a ∷ rest) (x ∷ xs) h = ap suc (addresses_length (with_end e a (next_multiple_of (end_in e a) x.align + x.size)) rest xs (omega (arith, h)))

-- the next object has an alignment, and ends within 64 bits
pub next_at : (e : Ends) (rest : List Area) (xs : List Extent) (i : ℕ) (d : Area) (z : Extent) → i < length xs → length rest ≡ length xs → AllEnd e (drop i rest) (drop i xs)
    → (0 < (get_or xs i z).align) × (next_multiple_of (end_in e (get_or rest i d)) (get_or xs i z).align + (get_or xs i z).size < 2 ^ 64)
next_at e rest [] i d z lt many h = absurd (omega arith)
next_at e [] (x ∷ xs) i d z lt many h = absurd (omega (arith, many))
next_at e (a ∷ rest) (x ∷ xs) zero d z lt many h = (h.0, h.1)
next_at e (a ∷ rest) (x ∷ xs) (suc i) d z lt many h = next_at e rest xs i d z (omega arith) (omega (arith, many)) h

head_drop : {A : Type 0} (xs : List A) (i : ℕ) (d : A) → i < length xs → drop i xs ≡ get_or xs i d ∷ drop (i + 1) xs
head_drop {A} xs i d lt = drop-cons xs i d lt ∙ ap (λ (n : ℕ). get_or xs i d ∷ drop n xs) (sym (add-one i))

-- where the next object lies, and the rows after it
pub rows_step : (e : Ends) (rest : List Area) (xs : List Extent) (i : ℕ) (d : Area) (z : Extent) → i < length xs → length rest ≡ length xs
    → addresses_from e (drop i rest) (drop i xs)
    ≡ next_multiple_of (end_in e (get_or rest i d)) (get_or xs i z).align
    ∷ addresses_from (with_end e (get_or rest i d) (next_multiple_of (end_in e (get_or rest i d)) (get_or xs i z).align + (get_or xs i z).size)) (drop (i + 1) rest) (drop (i + 1) xs)
rows_step e rest xs i d z lt many =
    ap (λ (l : List Area). addresses_from e l (drop i xs)) (head_drop rest i d (omega (arith, many)))
    ∙ ap (λ (l : List Extent). addresses_from e (get_or rest i d ∷ drop (i + 1) rest) l) (head_drop xs i z lt)

pub ends_step : (e : Ends) (rest : List Area) (xs : List Extent) (i : ℕ) (d : Area) (z : Extent) → i < length xs → length rest ≡ length xs → AllEnd e (drop i rest) (drop i xs)
    → AllEnd (with_end e (get_or rest i d) (next_multiple_of (end_in e (get_or rest i d)) (get_or xs i z).align + (get_or xs i z).size)) (drop (i + 1) rest) (drop (i + 1) xs)
ends_step e rest xs i d z lt many h =
    let first : AllEnd e (get_or rest i d ∷ drop (i + 1) rest) (drop i xs) = subst (λ (l : List Area). AllEnd e l (drop i xs)) (head_drop rest i d (omega (arith, many))) h in
    let both : AllEnd e (get_or rest i d ∷ drop (i + 1) rest) (get_or xs i z ∷ drop (i + 1) xs) = subst (λ (l : List Extent). AllEnd e (get_or rest i d ∷ drop (i + 1) rest) l) (head_drop xs i z lt) first in
    both.2
