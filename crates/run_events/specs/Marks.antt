-- The keys that a list stands for, by how they lie in memory.
use Rattle.std.specs.Prelude.{List, [], ◌∷◌}
use Rattle.run_events.specs.declared.key.KeyMark.{KeyMark}
use Rattle.run_events.specs.declared.marks.PackedMarks.{PackedMarks}
use Rattle.run_events.specs.declared.marks.PackedMarks.TheVariants as packed
use Rattle.run_events.specs.declared.marks.Unpacked.{Unpacked}
use Rattle.run_events.specs.declared.marks.Unpacked.TheVariants as unpacked

abbrev pub marks_of : PackedMarks → List KeyMark
marks_of packed.Empty = []
marks_of (packed.One class ticket value) =
    (record { key = record { class = class; value = value }; ticket = ticket }) ∷ []
marks_of (packed.More many) = many.value.items

abbrev pub unpacked_marks : Unpacked → List KeyMark
unpacked_marks (unpacked.One only) = only
unpacked_marks (unpacked.More many) = many.now
