-- What annotations say of mutexes, and which sources the law of threads speaks of.
use Rattle.std.specs.Prelude.{◌≡◌, ℕ, ◌+◌, ◌-◌, ◌<◌, ◌≤◌, true, List, [], Some, slice_get}
use Rattle.std.specs.List.{All}
use Rattle.r2_num.specs.declared.kinds.IntKind.TheVariants.{I32}
use Rattle.r2_num.specs.Kinds.{IsValue}
use Rattle.memory_map.specs.declared.placed.Placed.{Placed}
use Rattle.c_syntax.specs.Syntax.{Decls}
use Rattle.c_builtins.specs.declared.builtin.Builtin.{Builtin}
use Rattle.c_builtins.specs.Table.{first_source_function, in_interface, number_of}
use Rattle.c_types_rules.specs.Checked.{Checked, Fine, Noted, Broken}
use Rattle.c_types_rules.specs.Limits.{Typed, outcome}
use Rattle.c_types_rules.specs.Sources.{Program}
use Rattle.c_types_nodes.specs.Tables.{IsTable}
use Rattle.c_types_program.specs.Declarations.{Declared, IsSound}
use Rattle.c_types_program.specs.Programs.{IsProgram}
use Rattle.c_semantics.specs.Context.{Source, is_face}
use Rattle.annot_reader_rules.specs.Cuts.{annotations, in_cut}
use Rattle.annot_reader_rules.specs.Notes.{Annotated, Notes}
use Rattle.lockset_check_rules.specs.Annotations.{guarded}
use Rattle.lockset_check_rules.specs.Sources.{is_any_guarded}
use Rattle.lockset_check_threads.specs.Laws.{IsGuarded}

-- this is found
abbrev pub IsFound : {A : Type 0} → A → Checked A → Type 0
IsFound a (Fine b) = b ≡ a
IsFound a (Noted n b) = b ≡ a
IsFound a (Broken from rule) = ⊥

-- the mutexes that callers hold are values of int; a function in the interface of a cut asks none of its
-- callers, nor does a builtin
pub record HoldsAreFit (p : Program) (a : Annotated) : Type 0 where
  pub mutexes : (f : ℕ) → All (IsValue I32) ((guarded p a).holds f)
  pub faces : (cut : List ℕ) (place : ℕ) (n : Notes) → slice_get a.functions place ≡ Some n →
      in_cut cut n ≡ true → (guarded p a).holds (first_source_function + place) ≡ []
  pub builtins : (f : ℕ) → f < first_source_function → (guarded p a).holds f ≡ []

-- the flags of a source are those of a cut: what is in every interface, and what names the cut where it is
-- first declared
pub record FacesAreOf (cut : List ℕ) (a : Annotated) (s : Source) : Type 0 where
  pub builtins : (b : Builtin) → is_face s (number_of b) ≡ in_interface b
  pub functions : (f : ℕ) → first_source_function ≤ f → is_face s f ≡ true →
      (n : Notes) × (slice_get a.functions (f - first_source_function) ≡ Some n) × (in_cut cut n ≡ true)

-- a source that keeps the rules of types, as the program that stands in a table, and what its annotations say
pub record IsAccepted (ds : Decls) (p : Program) (d : Declared) (a : Annotated) : Type 0 where
  pub types : outcome ds ≡ Typed p
  pub program : IsProgram d p
  pub table : IsTable d.table
  pub sound : IsSound d
  pub annotated : IsFound a (annotations ds p)

-- so the law of threads speaks of it, for each cut
abbrev pub AcceptedSourcesAreGuarded : Type 0
AcceptedSourcesAreGuarded =
    (ds : Decls) (p : Program) (d : Declared) (a : Annotated) → IsAccepted ds p d a →
    is_any_guarded (guarded p a) 0 (guarded p a).globals ≡ true →
    (cut : List ℕ) (texts : List ℕ) (placed : Placed) →
    FacesAreOf cut a (record { program = p; texts = texts; placed = placed }) →
    IsGuarded (guarded p a) (record { program = p; texts = texts; placed = placed })
