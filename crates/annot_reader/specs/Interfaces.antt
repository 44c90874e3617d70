-- The interface of a cut, as plain data.
use Rattle.std.specs.Prelude.{◌≡◌, ◌-◌, ℕ, ℤ, Bool, true, false, nat_lt, if◌then◌else◌, List, [], Option, Some, None, Result, Ok, Err, slice_get, option_and_then}
use Rattle.std.specs.Option.{option_map_or}
use Rattle.c_builtins.specs.Table.{first_source_function, in_interface}
use Rattle.c_types_rules.specs.Checked.{Checked, Fine, Noted, Broken}
use Rattle.annot_reader_rules.specs.Cuts.{in_cut, is_named}
use Rattle.annot_reader_rules.specs.Notes.{Annotated, Notes}
use Rattle.annot_reader_words.specs.declared.notes.Annots.{Annots}
use Rattle.annot_reader_words.specs.Readings.{parameters_in}
use Rattle.annot_reader_functions.specs.declared.notes.FunctionNotes.{FunctionNotes}
use Rattle.annot_reader.specs.declared.error.InterfaceError.{InterfaceError}
use Rattle.annot_reader.specs.declared.error.InterfaceError.TheVariants.{Rule, NoSuchCut, Memory}
use Rattle.annot_reader.specs.Builtins.{annots_of, builtin_notes, builtins_by_number}
use Rattle.annot_reader.specs.Interface.{Interface}
use Rattle.annot_reader.specs.Reading.{AreMutexes, AreNoted}

-- ---- functions by number, and globals by place

-- what is said of a function; None where no function has the number
abbrev pub notes_at : Interface → (number : ℕ) → Option FunctionNotes
notes_at i number =
    if nat_lt number first_source_function then slice_get builtin_notes number else slice_get i.functions
    (number - first_source_function)

abbrev pub face_of : FunctionNotes → Option Annots
face_of v = if v.in_cut then Some v.annots else None

-- the annotations of a function of the interface
abbrev pub annots_at : Interface → (number : ℕ) → Option Annots
annots_at i number = option_and_then face_of (notes_at i number)

-- the annotations of a function, whatever the cut; where no function has the number, none
abbrev pub declared_at : Interface → (number : ℕ) → Annots
declared_at i number = option_map_or (λ v. v.annots) (notes_at i number) (annots_of [])

-- the mutexes that the callers of a function hold
abbrev pub holds_at : Interface → (number : ℕ) → List ℤ
holds_at i number = option_map_or (λ v. v.holds) (notes_at i number) []

abbrev pub same_option : {A : Type 0} → Option A → Option A
same_option o = o

-- the mutex that guards a global, if any
abbrev pub guard_at : Interface → (place : ℕ) → Option ℤ
guard_at i place = option_and_then same_option (slice_get i.guards place)

-- ---- the interface of a source

-- a builtin is in it as the table says, a function of the source where its first declaration names the cut
abbrev pub is_face : (cut : List ℕ) → Annotated → (number : ℕ) → Bool
is_face cut a number =
    if nat_lt number first_source_function then option_map_or in_interface
    (slice_get builtins_by_number number) false
    else option_map_or (in_cut cut) (slice_get a.functions (number - first_source_function)) false

-- the same is said of a function
pub record SaysOf (n : Notes) (v : Annots) : Type 0 where
  pub params : parameters_in v.params ≡ n.params
  pub sync : v.sync ≡ n.sync
  pub commit : v.commit ≡ n.commit
  pub cache : v.cache ≡ n.cache

-- the same is said of a source, where a cut is looked for
pub record IsRead (cut : List ℕ) (a : Annotated) (i : Interface) : Type 0 where
  pub functions : AreNoted cut a.functions i.functions
  pub guards : AreMutexes a.guards i.guards

-- the interface of a cut that a declaration names; that none does; or the rule that is broken, with the
-- offset of its node; of memory
-- nothing is said
abbrev pub IsInterface : (cut : List ℕ) → Checked Annotated → Result Interface InterfaceError → Type 0
IsInterface cut c (Err Memory) = Unit {0}
IsInterface cut (Fine a) (Ok i) = IsRead cut a i × (is_named cut a ≡ true)
IsInterface cut (Noted n a) (Ok i) = IsRead cut a i × (is_named cut a ≡ true)
IsInterface cut (Fine a) (Err NoSuchCut) = is_named cut a ≡ false
IsInterface cut (Noted n a) (Err NoSuchCut) = is_named cut a ≡ false
IsInterface cut (Broken from rule) (Err (Rule f r)) = (f ≡ from) × (r ≡ rule)
IsInterface cut _ _ = ⊥
