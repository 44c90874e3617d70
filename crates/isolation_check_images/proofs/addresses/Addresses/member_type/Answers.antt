use Rattle.std.proofs.Common.{◌≡◌, ◌<◌, ◌≤◌, ◌^◌, List, length, sym, ap, ◌∙◌, subst, arith}
use Rattle.std.specs.Prelude.{option_map, slice_get, IfSome}
use Rattle.c_types_model.specs.declared.extent.Extent.{Extent}
use Rattle.c_types_structs.specs.Members.{Definitions, members_at, type_of_member}
use Rattle.c_types_table.specs.Tables.{IsBelow, type_at}
use Rattle.c_types_rules.specs.Environment.{Struct}
use Rattle.c_types_rules.specs.Initials.{types_in}
use Rattle.c_types_program.specs.Declarations.{Declared, IsSound}
use Rattle.isolation_check_images.proofs.Structs.{member_inside, member_of, no_member, place_small}
use Rattle.isolation_check_images.proofs.addresses.Addresses.member_type.Goals as goal

pub returns-then-extents-number-clause-types : goal.returns-then-extents-number-clause-types
returns-then-extents-number-clause-types c =
    let p = c.args.self.index.now in
    let number = c.args.number.0 in
    let structs : c.structs-structs.result.now ≡ p.structs = c.structs-structs.ensures.structs ∙ ap (λ (d : Declared). d.structs) c.program.ensures in
    let extents : c.extents.result.now ≡ p.structs.extents = c.extents.ensures ∙ ap (λ (ds : Definitions). ds.extents) structs in
    let few : length p.structs.extents ≤ number = omega (arith, ap (λ (xs : List Extent). length xs) extents, c.if-extents-number.true) in
    λ s h. no_member p.table.types p.structs number c.args.place few ∙ sym (ap (λ (ss : List Struct). slice_get (types_in ss number) c.args.place) h.structs)

pub returns-clause-types : goal.returns-clause-types
returns-clause-types c =
    let p = c.args.self.index.now in
    let number = c.args.number.0 in
    let place = c.args.place in
    let structs : c.structs-structs.result.now ≡ p.structs = c.structs-structs.ensures.structs ∙ ap (λ (d : Declared). d.structs) c.program.ensures in
    let extents : c.extents.result.now ≡ p.structs.extents = c.extents.ensures ∙ ap (λ (ds : Definitions). ds.extents) structs in
    let within : number < length p.structs.extents = omega (arith, ap (λ (xs : List Extent). length xs) extents, c.if-extents-number.false) in
    λ s h. ap (option_map (type_at p.table.types)) (c.member_type.ensures ∙ ap (λ (ds : Definitions). type_of_member (members_at ds.members number) place) structs)
    ∙ (member_of p.table.types p.structs number place within ∙ sym (ap (λ (ss : List Struct). slice_get (types_in ss number) place) h.structs))

pub returns-clause-inside : goal.returns-clause-inside
returns-clause-inside c =
    let p = c.args.self.index.now in
    let number = c.args.number.0 in
    let place = c.args.place in
    let structs : c.structs-structs.result.now ≡ p.structs = c.structs-structs.ensures.structs ∙ ap (λ (d : Declared). d.structs) c.program.ensures in
    let is : c.member_type.result ≡ type_of_member (members_at p.structs.members number) place = c.member_type.ensures ∙ ap (λ (ds : Definitions). type_of_member (members_at ds.members number) place) structs in
    let sound : IsSound p = subst IsSound c.program.ensures c.structs-structs.ensures.sound in
    subst (λ o. IfSome o (IsBelow (length p.table.types))) (sym is) (member_inside (length p.table.types) p.structs.members number place sound.members)

pub returns-clause-place : goal.returns-clause-place
returns-clause-place c =
    let p = c.args.self.index.now in
    let number = c.args.number.0 in
    let place = c.args.place in
    let structs : c.structs-structs.result.now ≡ p.structs = c.structs-structs.ensures.structs ∙ ap (λ (d : Declared). d.structs) c.program.ensures in
    let extents : c.extents.result.now ≡ p.structs.extents = c.extents.ensures ∙ ap (λ (ds : Definitions). ds.extents) structs in
    let within : number < length p.structs.extents = omega (arith, ap (λ (xs : List Extent). length xs) extents, c.if-extents-number.false) in
    let is : c.member_type.result ≡ type_of_member (members_at p.structs.members number) place = c.member_type.ensures ∙ ap (λ (ds : Definitions). type_of_member (members_at ds.members number) place) structs in
    subst (λ o. IfSome o (λ ty. place < 2 ^ 32)) (sym is) (place_small p c.requires number place within)
