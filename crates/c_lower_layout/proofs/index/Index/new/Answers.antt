use Rattle.std.proofs.Common.{◌≡◌, ℕ, ◌<◌, ◌^◌, List, [], length, sym, ap, ◌∙◌, subst}
use Rattle.std.specs.Prelude.{slice_get}
use Rattle.c_types_table.specs.declared.ty.Ty.{Ty}
use Rattle.c_types_structs.specs.Members.{Definitions}
use Rattle.c_types_nodes.specs.Tables.{Table}
use Rattle.c_types_program.specs.declared.text.TextLiteral.{TextLiteral}
use Rattle.c_types_program.specs.Programs.{program_in, texts_in}
use Rattle.c_lower_layout.specs.Indexed.{AreOrders, all_offsets, members_end_at, offsets_of}
use Rattle.c_lower_layout.proofs.Placing.{ends_small, offsets_declared}
use Rattle.c_lower_layout.proofs.index.Index.new.Goals as goal

pub member_offsets-requires-clause-small : goal.member_offsets-requires-clause-small
member_offsets-requires-clause-small c =
    let p = c.args.program.now in
    let types : c.types-types.result.now ≡ p.table.types = c.types-types.ensures ∙ ap (λ (t : Table). t.types) c.table.ensures.table in
    let structs : c.structs.result.now ≡ p.structs = c.structs.ensures.structs in
    λ n lt.
    (let small = ends_small p c.requires.members n (subst (λ (ds : Definitions). n < length ds.extents) structs lt) in
    subst (λ (ts : List Ty). members_end_at ts c.structs.result.now n < 2 ^ 64) (sym types)
    (subst (λ (ds : Definitions). members_end_at p.table.types ds n < 2 ^ 64) (sym structs) small))

pub invariant_of-result : goal.invariant_of-result
invariant_of-result c =
    let p = c.args.program.now in
    let types : c.types-types.result.now ≡ p.table.types = c.types-types.ensures ∙ ap (λ (t : Table). t.types) c.table.ensures.table in
    let all : offsets_of c.types-types.result.now c.structs.result.now ≡ all_offsets (program_in p []) =
    ap (λ (ts : List Ty). offsets_of ts c.structs.result.now) types
    ∙ (ap (λ (ds : Definitions). offsets_of p.table.types ds) c.structs.ensures.structs ∙ offsets_declared p) in
    record {
      numbers = c.requires;
      members_are = λ k lt. c.in_ok-members.ensures k lt ∙ ap (λ (os : List (List ℕ)). slice_get os k) all;
      orders_are = subst (λ (ts : List TextLiteral). AreOrders (texts_in ts) c.in_ok-orders.orders) c.texts.ensures c.in_ok-orders.ensures;
    }
