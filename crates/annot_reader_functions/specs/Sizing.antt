-- Items of sizes, and what the annotations of a parameter point to.
use Rattle.std.specs.Prelude.{◌≡◌, ℕ, not, ◌||◌, if◌then◌else◌, Option, Some, None}
use Rattle.c_syntax.specs.declared.declaration.Item.{Item}
use Rattle.c_syntax.specs.declared.declaration.Atom.{Atom}
use Rattle.c_syntax.specs.Nodes.{Nodes}
use Rattle.c_syntax.specs.Syntax.{Atom as Factor, Item as Factors}
use Rattle.c_syntax.specs.Stands.{StandsAtom, StandsItem}
use Rattle.c_syntax_laws.specs.Numbers.{FitsAtom, FitsItem}
use Rattle.c_types_model.specs.Types.{CType}
use Rattle.c_types_rules.specs.Environment.{Environment, extents}
use Rattle.c_types_rules.specs.Checked.{Checked, Fine, keep, ◌>>=◌, ◌>>◌}
use Rattle.annot_reader_rules.specs.Regions.{Marked, Signature, first_of, go_together, has_region, is_function_pointer, is_object_pointer, prepares_of, reads_of, writes_of}
use Rattle.annot_reader_words.specs.declared.notes.Param.{Param}
use Rattle.annot_reader_words.specs.Readings.{parameter_in}
use Rattle.annot_reader_rules.specs.Notes.{Parameter}
use Rattle.annot_reader_functions.specs.declared.marks.Marks.{Marks}
use Rattle.annot_reader_functions.specs.declared.target.Target.{Target}
use Rattle.annot_reader_functions.specs.Marking.{IsMarked}
use Rattle.annot_reader_functions.specs.Sorts.{known_size}

-- it stands for a factor, or an item, whose numbers types can represent
abbrev pub IsFactor : Nodes → Atom → Type 0
IsFactor N v = (a : Factor) × StandsAtom N v a × FitsAtom a

abbrev pub IsItem : Nodes → Item → Type 0
IsItem N v = (x : Factors) × StandsItem N v x × FitsItem x

abbrev pub IsMaybeItem : Nodes → Option Item → Type 0
IsMaybeItem N None = Unit {0}
IsMaybeItem N (Some v) = IsItem N v

-- the numbers in the items of a parameter's annotations are such
abbrev pub FitsMaybe : Option Factors → Type 0
FitsMaybe None = Unit {0}
FitsMaybe (Some x) = FitsItem x

pub record FitsMarked (m : Marked) : Type 0 where
  pub bsize : FitsMaybe m.bsize
  pub cap : FitsMaybe m.cap
  pub prepare : FitsMaybe m.prepare

-- such annotations stand at a parameter
abbrev pub HasItems : Nodes → Marks → Type 0
HasItems N k = (m : Marked) × IsMarked N k m × FitsMarked m

-- what a parameter points to has this type
abbrev pub IsTarget : Target → Environment → CType → Type 0
IsTarget g env t = g.size ≡ known_size (extents env) t

-- what is said of a parameter, in the answer of a call
abbrev pub IsParameter : Parameter → Param → Type 0
IsParameter p v = parameter_in v ≡ p

-- ---- what annotations say in two steps

-- they may stand together at a parameter of this type
abbrev pub may_stand : (from : ℕ) → CType → Marked → Checked (Unit {0})
may_stand from t m = do
  keep from 3 (not (has_region m) || is_object_pointer t)
  keep from 3 (not m.callback || is_function_pointer t)
  keep from 5 (go_together m)

-- what they say of a parameter that points to an object of this type
abbrev pub regions : Signature → (from : ℕ) → CType → Marked → Checked Parameter
regions s from t m = do
  reads ← reads_of s from t m
  writes ← writes_of s from t m
  prepares ← prepares_of s from t m m.prepare
  Fine (record { reads = reads; writes = writes; prepares = prepares; callback = m.callback })

-- the item that says how many bytes `in` reads: with `out` the capacity
abbrev pub read_item : Marked → Option Factors
read_item m = if m.has_out then first_of m.cap m.bsize else m.bsize
