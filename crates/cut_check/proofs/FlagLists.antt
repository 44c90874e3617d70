-- Flags of functions are those of a cut.
use Rattle.std.proofs.Common.{◌≡◌, ◌≤◌, ◌<◌, ℕ, ◌+◌, ◌-◌, Bool, true, false, cond, List, [], ◌∷◌, ◌++◌, length, map, Option, None, refl, sym, ap, ◌∙◌, subst, arith}
use Rattle.std.specs.Prelude.{◌↔◌, nat_lt, slice_get}
use Rattle.std.specs.List.{position_or_len, range_with_len}
use Rattle.std.specs.Option.{option_map_or}
use Rattle.std.proofs.lemmas.Bool.{le-ltb, lt-ltb, ltb-true, ltb-false}
use Rattle.std.proofs.lemmas.List.{get_or_past}
use Rattle.std.proofs.lemmas.List.FromFn.{get_or-map-range_with_len, length-map-range_with_len, map-range_with_len_more}
use Rattle.std.proofs.lemmas.Option.{slice_get_past}
use Rattle.marks.specs.declared.side.Side.{Side}
use Rattle.marks.specs.declared.side.Side.TheVariants.{Replay, System}
use Rattle.annot_reader_rules.specs.Cuts.{in_cut}
use Rattle.annot_reader_rules.specs.Notes.{Annotated, Notes}
use Rattle.annot_reader.specs.Interface.{Interface}
use Rattle.annot_reader.specs.Interfaces.{is_face}
use Rattle.annot_reader.specs.Builtins.{builtins_by_number}
use Rattle.c_builtins.specs.Table.{first_source_function, in_interface as in_table}
use Rattle.c_types_program.specs.declared.function.Function.{Function}
use Rattle.c_types_program.specs.Declarations.{Declared}
use Rattle.c_types_program.specs.Programs.{IsProgram}
use Rattle.c_types_rules.specs.Sources.{Program}
use Rattle.cut_graph_modes.specs.Runs.{Runs, may}
use Rattle.cut_graph_rules.specs.MayRun.{MayRun, begins, below, crosses, stays}
use Rattle.cut_graph_rules.specs.Sources.{Mentioned, mentions_of}
use Rattle.cut_graph_rules.specs.Findings.{Cut}
use Rattle.isolation_check_findings.specs.Given.{IsCut}
use Rattle.isolation_check_rows.specs.Rows.{flag}
use Rattle.isolation_check.specs.Flags.{HasAllFlags}
use Rattle.cut_check.specs.declared.flags.Flags as code
use Rattle.cut_check.specs.Flags.{AreFlags, in_interface}
use Rattle.front_end.specs.declared.source.CheckedSource.{CheckedSource}
use Rattle.cut_check.specs.Sources.{IsOf, cut_of, is_named_main, main_of}
use Rattle.cut_check.proofs.MainPlace.{function_count, main_is}

-- ---- flags by number

by_number : (g : ℕ → Bool) (n f : ℕ) (b : Bool) → b ≡ nat_lt f n → flag (map g (range_with_len 0 n)) f ≡ cond b (g f) false
by_number g n f true e = get_or-map-range_with_len g 0 n f f false (ltb-true f n (sym e)) (omega arith)
by_number g n f false e =
    let past : n ≤ f = ltb-false f n (sym e) in
    let long : length (map g (range_with_len 0 n)) ≡ n = length-map-range_with_len g 0 n in
    get_or_past (map g (range_with_len 0 n)) f false (omega (arith, past, long))

flag_below : (g : ℕ → Bool) (n f : ℕ) → f < n → flag (map g (range_with_len 0 n)) f ≡ g f
flag_below g n f l = by_number g n f true (sym (lt-ltb f n l))

flag_past : (g : ℕ → Bool) (n f : ℕ) → n ≤ f → flag (map g (range_with_len 0 n)) f ≡ false
flag_past g n f l = by_number g n f false (sym (le-ltb f n l))

-- one flag more
pub one_more : (g : ℕ → Bool) (n : ℕ) (bs : List Bool) (b : Bool) → bs ≡ map g (range_with_len 0 n) → b ≡ g n → bs ++ b ∷ [] ≡ map g (range_with_len 0 (n + 1))
one_more g n bs b h e =
    let here : 0 + n ≡ n = omega arith in
    ap (λ (cs : List Bool). cs ++ b ∷ []) h ∙ (ap (λ (x : Bool). map g (range_with_len 0 n) ++ x ∷ []) e ∙ sym (map-range_with_len_more g 0 n n here))

-- there are so many flags
pub as_many : (g : ℕ → Bool) (n : ℕ) (bs : List Bool) → bs ≡ map g (range_with_len 0 n) → length bs ≡ n
as_many g n bs e = ap length e ∙ length-map-range_with_len g 0 n

-- ---- functions that may run

is_below : (n : Mentioned) (face : ℕ → Bool) (main : ℕ) (side : Side) (f : ℕ) → main < first_source_function + length n.functions → MayRun n face main side f → f < first_source_function + length n.functions
is_below n face main side f l begins = l
is_below n face main side f l (stays m named function outside) = function
is_below n face main side f l (crosses m named function inside) = function
is_below n face main side f l (below m named function) = function

-- a test that holds exactly of functions that may run
abbrev Tells : (test : ℕ → Bool) → Mentioned → (ℕ → Bool) → (main : ℕ) → Side → Type 0
Tells test n face main side = (f : ℕ) → (test f ≡ true) ↔ MayRun n face main side f

flags_tell : (test : ℕ → Bool) (n : Mentioned) (face : ℕ → Bool) (main count : ℕ) (side : Side) → main < first_source_function + length n.functions → count ≡ first_source_function + length n.functions
    → Tells test n face main side → Tells (flag (map test (range_with_len 0 count))) n face main side
flags_tell test n face main count side l e tells f = (to (nat_lt f count) refl, back)
  where
    to : (b : Bool) → b ≡ nat_lt f count → flag (map test (range_with_len 0 count)) f ≡ true → MayRun n face main side f
    to true is h = (tells f).0 (sym (by_number test count f true is) ∙ h)
    to false is h = absurd (let both : false ≡ true = sym (by_number test count f false is) ∙ h in cc)

    back : MayRun n face main side f → flag (map test (range_with_len 0 count)) f ≡ true
    back m = let inside = is_below n face main side f l m in flag_below test count f (omega (arith, inside, e)) ∙ (tells f).1 m

-- ---- the interface

face_past : (cut : List ℕ) (a : Annotated) (f : ℕ) → first_source_function + length a.functions ≤ f → is_face cut a f ≡ false
face_past cut a f l =
    let source : nat_lt f first_source_function ≡ false = le-ltb f first_source_function (omega (arith, l)) in
    let none : slice_get a.functions (f - first_source_function) ≡ None = slice_get_past a.functions (f - first_source_function) (omega (arith, l)) in
    ap (λ (b : Bool). cond b (option_map_or in_table (slice_get builtins_by_number f) false) (option_map_or (in_cut cut) (slice_get a.functions (f - first_source_function)) false)) source ∙
    ap (λ (o : Option Notes). option_map_or (in_cut cut) o false) none

module _ (cut : List ℕ) (a : Annotated) (i : Interface) (count : ℕ) (faces : (f : ℕ) → in_interface i f ≡ is_face cut a f) (counted : count ≡ first_source_function + length a.functions) where
  face_by : (f : ℕ) (b : Bool) → b ≡ nat_lt f count → flag (map (in_interface i) (range_with_len 0 count)) f ≡ is_face cut a f
  face_by f true e = by_number (in_interface i) count f true e ∙ faces f
  face_by f false e = let past = ltb-false f count (sym e) in by_number (in_interface i) count f false e ∙ sym (face_past cut a f (omega (arith, past, counted)))

  faces_tell : (f : ℕ) → flag (map (in_interface i) (range_with_len 0 count)) f ≡ is_face cut a f
  faces_tell f = face_by f (nat_lt f count) refl

-- ---- all flags

pub flags_are : (d : Declared) (n : Mentioned) (i : Interface) (r : Runs) (cut : List ℕ) (p : Program) (a : Annotated) (count main : ℕ) (s : code.Flags)
    → IsProgram d p → n ≡ mentions_of p → ((f : ℕ) → in_interface i f ≡ is_face cut a f) → main ≡ main_of p → length a.functions ≡ length p.functions → length n.functions ≡ length p.functions
    → main < first_source_function + length n.functions → count ≡ first_source_function + length n.functions → ((side : Side) → Tells (may r side) n (in_interface i) main side)
    → s.above.items ≡ map (may r Replay) (range_with_len 0 count) → s.below.items ≡ map (may r System) (range_with_len 0 count) → s.faces.items ≡ map (in_interface i) (range_with_len 0 count)
    → AreFlags d n s (cut_of cut p a)
flags_are d n i r cut p a count main s is mentioned faces begin said named inside counted tells above below_flags face_flags = record {
  program = is;
  mentions = mentioned;
  replay = turned Replay s.above.items above;
  system = turned System s.below.items below_flags;
  face = λ f. ap (λ bs. flag bs f) face_flags ∙ faces_tell cut a i count faces (omega (arith, counted, named, said)) f;
}
  where
    same_face : in_interface i ≡ is_face cut a
    same_face = λ j f. faces f j

    turned : (side : Side) (bs : List Bool) → bs ≡ map (may r side) (range_with_len 0 count) → Tells (flag bs) (mentions_of p) (is_face cut a) (main_of p) side
    turned side bs e =
        subst (λ (m : ℕ). Tells (flag bs) (mentions_of p) (is_face cut a) m side) begin
        (subst (λ (face : ℕ → Bool). Tells (flag bs) (mentions_of p) face main side) same_face
        (subst (λ (k : Mentioned). Tells (flag bs) k (in_interface i) main side) mentioned
        (subst (λ (cs : List Bool). Tells (flag cs) n (in_interface i) main side) (sym e)
        (flags_tell (may r side) n (in_interface i) main count side inside counted (tells side)))))

-- the same, as the code counts functions
pub flags_here : (c : CheckedSource) (n : Mentioned) (r : Runs) (cut : List ℕ) (p : Program) (a : Annotated) (fs : List Function) (count main : ℕ) (s : code.Flags)
    → IsOf cut p a c → n ≡ mentions_of p → ((f : ℕ) → in_interface c.interface f ≡ is_face cut a f) → fs ≡ c.program.functions → main ≡ first_source_function + position_or_len is_named_main fs
    → count ≡ first_source_function + length fs → length n.functions ≡ length c.program.functions → position_or_len is_named_main c.program.functions < length c.program.functions
    → ((side : Side) → Tells (may r side) n (in_interface c.interface) main side)
    → s.above.items ≡ map (may r Replay) (range_with_len 0 count) → s.below.items ≡ map (may r System) (range_with_len 0 count) → s.faces.items ≡ map (in_interface c.interface) (range_with_len 0 count)
    → AreFlags c.program n s (cut_of cut p a)
flags_here c n r cut p a fs count main s is mentioned faces same begin counted named inside tells above below_flags face_flags =
    let d = c.program in
    let begins_at : main ≡ first_source_function + position_or_len is_named_main d.functions = begin ∙ ap (λ (gs : List Function). first_source_function + position_or_len is_named_main gs) same in
    let many : length fs ≡ length d.functions = ap length same in
    let declared = function_count d p is.program in
    flags_are d n c.interface r cut p a count main s is.program mentioned faces (begins_at ∙ main_is d p is.program) is.said.functions (omega (arith, named, declared))
    (omega (arith, begins_at, named, inside)) (omega (arith, counted, many, named)) tells above below_flags face_flags

-- flags that are lent
pub as_slices : (d : Declared) (n : Mentioned) (s : code.Flags) (c : Cut) (above below_flags faces : List Bool) → above ≡ s.above.items → below_flags ≡ s.below.items → faces ≡ s.faces.items → AreFlags d n s c → IsCut d n above below_flags faces c
as_slices d n s c above below_flags faces a b f are =
    subst (λ (bs : List Bool). IsCut d n bs below_flags faces c) (sym a)
    (subst (λ (bs : List Bool). IsCut d n s.above.items bs faces c) (sym b)
    (subst (λ (bs : List Bool). IsCut d n s.above.items s.below.items bs c) (sym f) are))

pub all_lent : (d : Declared) (s : code.Flags) (above below_flags faces : List Bool) → above ≡ s.above.items → below_flags ≡ s.below.items → faces ≡ s.faces.items → HasAllFlags d s.above.items s.below.items s.faces.items →
    HasAllFlags d above below_flags faces
all_lent d s above below_flags faces a b f all = record {
  each_above = ap length a ∙ all.each_above;
  each_below = ap length b ∙ all.each_below;
  each_face = ap length f ∙ all.each_face;
}
