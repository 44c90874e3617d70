use Rattle.std.proofs.Common.{◌≡◌, List, map, sym, ap, ◌∙◌}
use Rattle.std.proofs.lemmas.Result.{IfOk-weaker}
use Rattle.c_types_model.specs.Types.{StructOf}
use Rattle.c_types_model.specs.Layouts.{capped}
use Rattle.c_types_table.specs.declared.ty.Ty.{Ty}
use Rattle.c_types_table.specs.Tables.{made, type_at, types_of}
use Rattle.c_types_nodes.specs.Tables.{Table}
use Rattle.c_types_structs.specs.Members.{Definitions}
use Rattle.c_lower_layout.specs.Sources.{source_in}
use Rattle.c_lower_layout.specs.Indexed.{offsets_at}
use Rattle.c_lower_layout.proofs.FoundMembers.{offsets_complete}
use Rattle.c_lower_layout.proofs.objects.offsets.Goals as goal

pub returns-in-Struct : goal.returns-in-Struct
unfolding source_in
returns-in-Struct c =
    let p = c.args.program.now in
    let k = c.in-Struct.number.0 in
    let types : c.types-types.result.now ≡ p.table.types = c.types-types.ensures ∙ ap (λ (t : Table). t.types) c.table.ensures.table in
    let is_struct : StructOf k ≡ type_at p.table.types c.args.ty =
    ap (made (types_of c.types-types.result.now)) (sym c.in-Struct.is) ∙ (c.get.ensures.meaning ∙ ap (λ (ts : List Ty). type_at ts c.args.ty) types) in
    let declared : offsets_at c.types-types.result.now c.structs.result.now k ≡ offsets_at p.table.types p.structs k =
    ap (λ (ts : List Ty). offsets_at ts c.structs.result.now k) types ∙ ap (λ (d : Definitions). offsets_at p.table.types d k) c.structs.ensures.structs in
    IfOk-weaker c.member_offsets.result _ _ (λ os h. h ∙ ap (map capped) (declared ∙ offsets_complete p (type_at p.table.types c.args.ty) k is_struct c.requires.complete)) c.member_offsets.ensures
