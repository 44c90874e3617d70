-- What the annotations of a source say of mutexes.
use Rattle.std.specs.Prelude.{ℕ, ℤ, pos, ◌-◌, nat_lt, if◌then◌else◌, List, [], map, Option, Some, None, slice_get}
use Rattle.c_builtins.specs.Table.{first_source_function}
use Rattle.c_types_rules.specs.Sources.{Program}
use Rattle.annot_reader_rules.specs.Notes.{Annotated, Notes}
use Rattle.lockset_check_rules.specs.Guards.{Guarded}

-- the mutex of `guarded_by`, if the global has it, as a value of int
abbrev pub guard_of : Option (Option ℕ) → Option ℤ
guard_of (Some (Some k)) = Some (pos k)
guard_of (Some None) = None
guard_of None = None

-- the mutexes of `holds`
abbrev pub held_by : Option Notes → List ℤ
held_by (Some n) = map (λ k. pos k) n.holds
held_by None = []

-- a source with these annotations; builtins hold nothing
abbrev pub guarded : Program → Annotated → Guarded
guarded p a = record {
  functions = p.functions;
  globals = p.globals;
  guard = λ place. guard_of (slice_get a.guards place);
  holds =
      λ number. if nat_lt number first_source_function then []
      else held_by (slice_get a.functions (number - first_source_function));
}
