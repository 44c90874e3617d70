use Rattle.std.proofs.Common.{◌≡◌, ℕ, List, Option, drop}
use Rattle.c_types_model.specs.Types.{CType}
use Rattle.c_types_model.specs.declared.extent.Extent.{Extent}
use Rattle.annot_reader_rules.specs.Regions.{place_from}
use Rattle.annot_reader_functions.specs.Sorts.{AreNamed}
use Rattle.annot_reader_functions.proofs.signature.Signature.find.Given as goal

-- none before has the name
abbrev pub invariant-loop-place : goal.invariant-loop-place
invariant-loop-place l = (structs : List Extent) (ps : List (Option (List ℕ) × CType)) → AreNamed structs l.self.params.items ps →
    (qs : List (Option (List ℕ) × CType)) × AreNamed structs (drop l.place l.self.params.items) qs × (place_from 0 l.name ps ≡ place_from l.place l.name qs)
