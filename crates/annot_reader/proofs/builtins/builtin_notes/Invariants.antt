use Rattle.std.proofs.Common.{◌≡◌, map, take}
use Rattle.annot_reader.specs.Builtins.{builtin_note, builtins_by_number}
use Rattle.annot_reader.proofs.builtins.builtin_notes.Given as goal

-- the builtins before this place are there
abbrev pub invariant-loop-builtin : goal.invariant-loop-builtin
invariant-loop-builtin l = l.all.items ≡ map builtin_note (take l.builtin-index builtins_by_number)
