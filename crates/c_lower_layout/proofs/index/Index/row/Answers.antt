use Rattle.std.proofs.Common.{◌≡◌, ◌<◌, ◌^◌, List, [], sym, ap, ◌∙◌, subst}
use Rattle.std.proofs.lemmas.Result.{IfOk-weaker}
use Rattle.c_types_model.specs.Layouts.{end_from, offsets_from}
use Rattle.c_types_model.specs.declared.extent.Extent.{Extent}
use Rattle.c_types_table.specs.declared.ids.TypeId.{TypeId}
use Rattle.c_types_table.specs.declared.ty.Ty.{Ty}
use Rattle.c_types_rules.specs.Sources.{extents_in}
use Rattle.c_types_program.specs.Declarations.{Declared, types_in}
use Rattle.c_types_program.specs.Programs.{program_in}
use Rattle.c_lower_layout.specs.Sources.{source_in}
use Rattle.c_lower_layout.specs.Indexed.{extents_at}
use Rattle.c_lower_layout.proofs.Placing.{extents_declared, extents_mapped}
use Rattle.c_lower_layout.proofs.index.Index.row.Goals as goal

-- the sizes that are computed are those of the program
extents_here : (p : Declared) (types : List Ty) (structs : List Extent) (ids : List TypeId) → types ≡ p.table.types → structs ≡ p.structs.extents → extents_at structs (types_in types ids) ≡ extents_in (program_in p []) (types_in p.table.types ids)
extents_here p types structs ids et es =
    ap (λ (ts : List Ty). extents_at structs (types_in ts ids)) et
    ∙ (ap (λ (xs : List Extent). extents_at xs (types_in p.table.types ids)) (es ∙ sym (extents_declared p.table.types p.structs.members 0 p.structs.extents))
    ∙ sym (extents_mapped (program_in p []) (types_in p.table.types ids)))

pub row_of-requires-clause-small : goal.row_of-requires-clause-small
unfolding source_in
row_of-requires-clause-small c =
    let all = extents_here c.args.self.now c.types.result.now c.extents.result.now c.args.ids.now c.types.ensures c.extents.ensures in
    subst (λ (es : List Extent). end_from 0 es < 2 ^ 64) (sym all) c.requires.small

pub returns-clause-offsets : goal.returns-clause-offsets
unfolding source_in
returns-clause-offsets c =
    let all = extents_here c.args.self.now c.types.result.now c.extents.result.now c.args.ids.now c.types.ensures c.extents.ensures in
    IfOk-weaker c.row_of.result _ _ (λ r h. h ∙ ap (offsets_from 0) all) c.row_of.ensures.offsets

pub returns-clause-end : goal.returns-clause-end
unfolding source_in
returns-clause-end c =
    let all = extents_here c.args.self.now c.types.result.now c.extents.result.now c.args.ids.now c.types.ensures c.extents.ensures in
    IfOk-weaker c.row_of.result _ _ (λ r h. h ∙ ap (end_from 0) all) c.row_of.ensures.end
