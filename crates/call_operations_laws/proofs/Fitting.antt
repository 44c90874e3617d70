-- The stubs of a source fit its code.
use Rattle.std.proofs.Common.{◌≡◌, ◌<◌, ◌≤◌, ◌+◌, ◌-◌, ℕ, Bool, true, false, ◌&&◌, cond, List, [], ◌++◌, length, Option, Some, None, is_some, is_none, slice_get, refl, ap, ◌∙◌, arith}
use Rattle.std.specs.Prelude.{if◌then◌else◌, option_and_then}
use Rattle.std.specs.Option.{option_map, option_map_or}
use Rattle.std.proofs.lemmas.Bool.{le-leb, le-ltb, lt-ltb}
use Rattle.std.proofs.lemmas.Option.{slice_get_within}
use Rattle.marks.specs.Places.{builtin_count}
use Rattle.c_builtins.specs.declared.builtin.Builtin.{Builtin}
use Rattle.c_builtins.specs.declared.builtin.Builtin.TheVariants as builtins
use Rattle.c_builtins.specs.Table.{in_interface, number_of}
use Rattle.c_types_program.specs.declared.function.Function.{Function}
use Rattle.annot_reader_words.specs.declared.notes.Annots.{Annots}
use Rattle.annot_reader_functions.specs.declared.notes.FunctionNotes.{FunctionNotes}
use Rattle.annot_reader.specs.Builtins.{annots_of}
use Rattle.annot_reader.specs.Interface.{Interface}
use Rattle.annot_reader.specs.Interfaces.{annots_at, declared_at, face_of, notes_at}
use Rattle.stub_operations.specs.declared.purpose.Purpose.{Purpose}
use Rattle.stub_operations.specs.Builtins.{builtin_operations}
use Rattle.stub_operations.specs.Operations.{operations, operations_below, passed}
use Rattle.stub_operations.specs.Stubs.{Stubs, added_at, below_at, or_none}
use Rattle.call_operations.specs.Said.{call_says}
use Rattle.call_operations.specs.Sets.{AreStubs, builtin_at, has_no_body, is_external, is_function, operations_in, stubs_of}
use Rattle.call_operations_laws.specs.Codes.{is_face}

-- ---- interfaces

in_face : (b : Bool) (a : Annots) → is_some (if b then Some a else None) ≡ true → (if b then Some a else None) ≡ Some a
in_face true a h = refl
in_face false a h = cc

found : (o : Option FunctionNotes) → is_some (option_and_then face_of o) ≡ true →
    option_and_then face_of o ≡ Some (option_map_or (λ (v : FunctionNotes). v.annots) o (annots_of []))
found None h = cc
found (Some v) h = in_face v.in_cut v.annots h

-- the annotations of a function of the interface are those that it is declared with
faces_say : (i : Interface) (f : ℕ) → is_face i f ≡ true → annots_at i f ≡ Some (declared_at i f)
faces_say i f h = found (notes_at i f) h

none_of : {A : Type 0} (o : Option A) → is_some o ≡ false → o ≡ None
none_of None h = refl
none_of (Some x) h = cc

is_none_of : {A : Type 0} (o : Option A) → is_some o ≡ false → is_none o ≡ true
is_none_of None h = refl
is_none_of (Some x) h = cc

some_of : {A : Type 0} (o : Option A) → is_none o ≡ true → is_some o ≡ false
some_of None h = refl
some_of (Some x) h = cc

-- ---- functions of the interface

-- a function that is listed is one of the source
known : (fs : List Function) (f : ℕ) (g : Function) → builtin_count ≤ f →
    slice_get fs (f - builtin_count) ≡ Some g → is_function fs f ≡ true
known fs f g source at =
    let within : f - builtin_count < length fs = slice_get_within fs (f - builtin_count) g at in
    lt-ltb f (builtin_count + length fs) (omega arith)

pub of_source : (purpose : Purpose) (fs : List Function) (i : Interface) (s : Stubs) → AreStubs purpose fs i s →
    (f : ℕ) (g : Function) → builtin_count ≤ f → slice_get fs (f - builtin_count) ≡ Some g → is_face i f ≡ true →
    added_at s f ≡ Some (operations (call_says (declared_at i f)) ++ passed purpose)
of_source purpose fs i s are f g source at face =
    are.added f ∙
    (ap (λ (b : Bool). cond b (stubs_of purpose i f) None) (known fs f g source at) ∙
    (ap (option_map (λ (a : Annots). operations_in f a ++ passed purpose)) (faces_say i f face) ∙
    ap (λ (b : Bool). Some (cond b (builtin_at f) (operations (call_says (declared_at i f))) ++
    passed purpose)) (le-ltb f builtin_count source)))

-- a function outside the interface isn't added
pub of_other : (purpose : Purpose) (fs : List Function) (i : Interface) (s : Stubs) → AreStubs purpose fs i s →
    (f : ℕ) → is_face i f ≡ false → added_at s f ≡ None
of_other purpose fs i s are f outside =
    are.added f ∙ by (is_function fs f)
  where
    none : stubs_of purpose i f ≡ None
    none = ap (option_map (λ (a : Annots). operations_in f a ++ passed purpose)) (none_of (annots_at i f) outside)

    by : (b : Bool) → cond b (stubs_of purpose i f) None ≡ None
    by true = none
    by false = refl

-- ---- builtins

pub of_builtin : (purpose : Purpose) (fs : List Function) (i : Interface) (s : Stubs) → AreStubs purpose fs i s →
    (b : Builtin) → in_interface b ≡ true → added_at s (number_of b) ≡ Some (builtin_operations b ++ passed purpose)
of_builtin purpose fs i s are b inside =
    are.added (number_of b) ∙
    (ap (λ (t : Bool). cond t (stubs_of purpose i (number_of b)) None)
    (lt-ltb (number_of b) (16 + length fs) (below b)) ∙ stub b inside)
  where
    below : (b : Builtin) → number_of b < 16 + length fs
    below builtins.Malloc = omega arith
    below builtins.Free = omega arith
    below builtins.Spawn = omega arith
    below builtins.Join = omega arith
    below builtins.Lock = omega arith
    below builtins.Unlock = omega arith
    below builtins.Print = omega arith

    stub : (b : Builtin) → in_interface b ≡ true →
        stubs_of purpose i (number_of b) ≡ Some (builtin_operations b ++ passed purpose)
    stub builtins.Malloc h = cc
    stub builtins.Free h = cc
    stub builtins.Spawn h = refl
    stub builtins.Join h = refl
    stub builtins.Lock h = refl
    stub builtins.Unlock h = refl
    stub builtins.Print h = refl

-- ---- below the cut

-- an external that is outside the interface
pub outside : (purpose : Purpose) (fs : List Function) (i : Interface) (s : Stubs) → AreStubs purpose fs i s →
    (f : ℕ) (g : Function) → builtin_count ≤ f → slice_get fs (f - builtin_count) ≡ Some g → is_none g.body ≡ true →
    is_face i f ≡ false → or_none (below_at s f) ≡ operations_below (call_says (declared_at i f))
outside purpose fs i s are f g source at external face =
    ap or_none (are.below f ∙
    (ap (λ (b : Bool). cond (b && is_none (annots_at i f)) (Some (operations_below (call_says (declared_at i f)))) None)
    is_one ∙
    ap (λ (b : Bool). cond b (Some (operations_below (call_says (declared_at i f)))) None)
    (is_none_of (annots_at i f) face)))
  where
    is_one : is_external fs f ≡ true
    is_one = ap (λ (b : Bool). b && has_no_body (slice_get fs (f - builtin_count))) (le-leb builtin_count f source) ∙
        (ap has_no_body at ∙ external)

-- what has operations below the cut is one
pub inside : (purpose : Purpose) (fs : List Function) (i : Interface) (s : Stubs) → AreStubs purpose fs i s →
    (f : ℕ) → (is_external fs f ≡ true → is_face i f ≡ false → ⊥) → or_none (below_at s f) ≡ []
inside purpose fs i s are f never = ap or_none (are.below f) ∙ by (is_external fs f) (is_none (annots_at i f)) refl refl
  where
    by : (b d : Bool) → is_external fs f ≡ b → is_none (annots_at i f) ≡ d →
        or_none (cond (b && d) (Some (operations_below (call_says (declared_at i f)))) None) ≡ []
    by true true e h = absurd (never e (some_of (annots_at i f) h))
    by true false e h = refl
    by false d e h = refl
