use Rattle.std.proofs.Common.{◌≡◌, IsTrue, List, [], ◌∷◌, ◌++◌, map, refl, sym, ap, ◌∙◌, subst}
use Rattle.c_types_model.specs.Types.{CType, StructOf}
use Rattle.c_types_model.specs.declared.extent.Extent.{Extent}
use Rattle.c_types_table.specs.Tables.{type_at}
use Rattle.c_types_structs.specs.Members.{Definitions}
use Rattle.c_types_rules.specs.TypeTests.{is_complete}
use Rattle.c_types_program.specs.Declarations.{Declared, structs_in}
use Rattle.c_lower_layout.specs.Sources.{source_in}
use Rattle.c_lower_layout.proofs.Placing.{extents_declared}
use Rattle.test_libraries.proofs.layouts.members_of_a_program_lie_at_multiples_of_their_alignments.Goals as goal

-- the first of the declared structs is complete
first_complete : (p : Declared) (t : CType) (e : Extent) → t ≡ StructOf 0 → p.structs.extents ≡ e ∷ [] → IsTrue (is_complete (map (λ s. s.extent) (structs_in p.table.types p.structs)) t)
first_complete p t e h k =
    let all = extents_declared p.table.types p.structs.members 0 p.structs.extents ∙ k in
    subst (λ (u : CType). IsTrue (is_complete (map (λ s. s.extent) (structs_in p.table.types p.structs)) u)) (sym h) (subst (λ (es : List Extent). IsTrue (is_complete es (StructOf 0))) (sym all) refl)

pub layout-requires-clause-complete : goal.layout-requires-clause-complete
unfolding source_in
layout-requires-clause-complete g c =
    let e : Extent = record { size = 16; align = 8 } in
    let extents = ap (λ (d : Declared). d.structs.extents) c.new-program.ensures ∙ (c.in_ok-define.ensures.extents ∙ ap (λ (ds : Definitions). ds.extents ++ e ∷ []) c.new-structs.ensures) in
    let ty = ap (λ (d : Declared). type_at d.table.types c.in_ok-pair.pair) c.new-program.ensures ∙ c.in_ok-pair.ensures.names.is in
    first_complete c.new-program.result (type_at c.new-program.result.table.types c.in_ok-pair.pair) e ty extents
