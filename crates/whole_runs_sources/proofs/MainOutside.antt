-- `main` is in no interface.
use Rattle.std.proofs.Common.{◌≡◌, ℕ, ◌-◌, Bool, false, cond, List, [], Option, Some, None, refl, ap, ◌∙◌, arith}
use Rattle.std.specs.Prelude.{nat_lt, slice_get}
use Rattle.std.specs.List.{position_or_len}
use Rattle.std.specs.Option.{option_map_or}
use Rattle.std.proofs.lemmas.Bool.{le-ltb}
use Rattle.memory_map.specs.declared.placed.Placed.{Placed}
use Rattle.c_builtins.specs.Table.{first_source_function, in_interface}
use Rattle.c_types_rules.specs.Sources.{Program}
use Rattle.annot_reader_rules.specs.Cuts.{in_cut, named}
use Rattle.annot_reader_rules.specs.Notes.{Annotated, Notes}
use Rattle.annot_reader.specs.Builtins.{builtins_by_number}
use Rattle.annot_reader.specs.Interfaces.{is_face}
use Rattle.cut_check.specs.Sources.{is_main, main_of}
use Rattle.cut_graph_sources.proofs.Names.{main_has_a_body}
use Rattle.front_end.specs.declared.source.CheckedSource.{CheckedSource}
use Rattle.front_end_laws.proofs.Whole.{main_in_no_cut}
use Rattle.whole_runs_sources.specs.Laws.{IsPlacedAs}
use Rattle.whole_runs_sources.proofs.Main.{first_passes}

module _ (bytes cut : List ℕ) (c : CheckedSource) (q : Placed) (h : IsPlacedAs bytes cut c q) where
  abbrev p : Program
  p = h.program

  abbrev a : Annotated
  a = h.annotated

  abbrev place : ℕ
  place = position_or_len is_main p.functions

  source : nat_lt (main_of p) first_source_function ≡ false
  source = le-ltb (main_of p) first_source_function (omega arith)

  back : main_of p - first_source_function ≡ place
  back = omega arith

  noted : (o : Option Notes) → slice_get a.functions place ≡ o → option_map_or (in_cut cut) o false ≡ false
  noted None e = refl
  noted (Some n) e =
      let (f, at, body) = main_has_a_body h.says.right.ds p h.says.declares in
      let none : n.cuts ≡ [] = main_in_no_cut h.says.right.ds p a h.says.declares h.says.annotated place n f e at (first_passes is_main p.functions f at) in
      ap (named cut) none

  pub main_outside : is_face cut a (main_of p) ≡ false
  main_outside =
      ap (λ (b : Bool). cond b (option_map_or in_interface (slice_get builtins_by_number (main_of p)) false) (option_map_or (in_cut cut) (slice_get a.functions (main_of p - first_source_function)) false)) source
      ∙ (ap (λ (k : ℕ). option_map_or (in_cut cut) (slice_get a.functions k) false) back ∙ noted (slice_get a.functions place) refl)
