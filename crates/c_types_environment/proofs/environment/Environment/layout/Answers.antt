use Rattle.std.proofs.Common.{◌≡◌, ◌≤◌, List, length, map, sym, ap, ◌∙◌, subst, arith}
use Rattle.std.specs.List.{All}
use Rattle.c_types_model.specs.declared.extent.Extent.{Extent}
use Rattle.c_types_model.specs.Layouts.{IsAligned, capped_extent, struct_of}
use Rattle.c_types_model.proofs.Steps.{struct_of_capped}
use Rattle.c_types_table.specs.Tables.{types_of}
use Rattle.c_types_rules.specs.Environment.{extents}
use Rattle.c_types_rules.specs.Sources.{extents_of}
use Rattle.c_types_environment.specs.Reading.{members_by}
use Rattle.c_types_environment.specs.States.{State}
use Rattle.c_types_environment.proofs.Defined.{all_aligned, all_taken, members_aligned, one_more}
use Rattle.c_types_environment.proofs.environment.Environment.layout.Goals as goal

pub loop-place-init : goal.loop-place-init
loop-place-init c = c.in_ok-extents.ensures.items

pub loop-place-preserved : goal.loop-place-preserved
loop-place-preserved c =
    c.in_ok-push.ensures.items
    ∙ one_more (extents c.args.self.now.env) (types_of c.args.self.now.table.types) c.args.members.now c.loop-place.extents.items c.loop-place.place c.member_extent.result (omega (arith, c.loop-place-test.true, c.len-place-end.ensures)) c.loop-place.invariant c.member_extent.ensures

pub lay_out-requires : goal.lay_out-requires
lay_out-requires c =
    let ts = types_of c.args.self.now.table.types in
    let es = extents c.args.self.now.env in
    let ms = c.args.members.now in
    let le : length ms ≤ c.loop-place.place = omega (arith, c.loop-place-test.false, c.len-place-end.ensures) in
    let there : State → Type 0 = λ s. All IsAligned (extents s.env) in
    let to : List Extent → Type 0 = λ xs. All IsAligned xs in
    let all : All IsAligned es = subst there c.self.view_is (all_aligned (types_of c.self.inside.table.types) c.self.inside.structs.members) in
    subst to (sym (c.deref.ensures.value ∙ all_taken es ts ms c.loop-place.extents.items c.loop-place.place le c.loop-place.invariant)) (members_aligned es (members_by ts ms) all)

pub returns : goal.returns
returns c =
    let ts = types_of c.args.self.now.table.types in
    let es = extents c.args.self.now.env in
    let ms = c.args.members.now in
    let le : length ms ≤ c.loop-place.place = omega (arith, c.loop-place-test.false, c.len-place-end.ensures) in
    c.in_ok-layout.ensures.extent
    ∙ (ap (λ xs. capped_extent (struct_of xs)) (c.deref.ensures.value ∙ all_taken es ts ms c.loop-place.extents.items c.loop-place.place le c.loop-place.invariant)
    ∙ struct_of_capped (extents_of es (members_by ts ms)))
