use Rattle.std.proofs.Common.{◌≡◌, ◌++◌, [], ◌∷◌, suc, List, length, length-append, take, Some, sym, ap, ◌∙◌, arith}
use Rattle.c_types_model.specs.declared.extent.Extent.{Extent}
use Rattle.c_types_table.specs.Tables.{type_at}
use Rattle.c_types_structs.specs.Members.{members_at, type_of_member}
use Rattle.c_lower_layout.specs.Indexed.{extent_in, member_ids}
use Rattle.c_lower_layout.proofs.Placing.{member_more, members_end}
use Rattle.c_lower_layout.specs.Offsets.{laid}
use Rattle.c_lower_layout.proofs.FoundMembers.{laid_at, laid_more, member_inside, struct_inside}
use Rattle.c_lower_layout.proofs.members.extents.Goals as goal

pub extent-requires : goal.extent-requires
extent-requires c =
    let n = length c.args.types.now in
    let mss = c.args.structs.now.members in
    member_inside n (members_at mss c.args.number.0) c.len.result c.in-Some.ty (struct_inside n c.args.number.0 mss c.requires) c.in-Some.ensures

pub loop-ty-smaller : goal.loop-ty-smaller
loop-ty-smaller c =
    let ms = members_at c.args.structs.now.members c.args.number.0 in
    let n = length c.loop-ty.extents.items in
    let at : c.len.result ≡ n = omega (arith, c.len.ensures, c.loop-ty.extents.ok.0) in
    let there : Some c.in-Some.ty ≡ type_of_member ms n = c.in-Some.ensures ∙ ap (type_of_member ms) at in
    let longer : length c.push.new.self.items ≡ suc n = ap length c.in_ok-push.ensures.items ∙ (length-append c.loop-ty.extents.items (c.extent.result ∷ []) ∙ omega arith) in
    let more = (member_more ms n c.in-Some.ty there).0 in
    omega (arith, longer, more)

pub loop-ty-preserved : goal.loop-ty-preserved
loop-ty-preserved c =
    let types = c.args.types.now in
    let structs = c.args.structs.now.extents in
    let ms = members_at c.args.structs.now.members c.args.number.0 in
    let n = length c.loop-ty.extents.items in
    let at : c.len.result ≡ n = omega (arith, c.len.ensures, c.loop-ty.extents.ok.0) in
    let there : Some c.in-Some.ty ≡ type_of_member ms n = c.in-Some.ensures ∙ ap (type_of_member ms) at in
    let longer : length c.push.new.self.items ≡ suc n = ap length c.in_ok-push.ensures.items ∙ (length-append c.loop-ty.extents.items (c.extent.result ∷ []) ∙ omega arith) in
    let extent : c.extent.result ≡ laid (extent_in structs (type_at types c.in-Some.ty)) = c.extent.ensures ∙ ap (λ (es : List Extent). laid (extent_in es (type_at types c.in-Some.ty))) c.extents.ensures in
    c.in_ok-push.ensures.items
    ∙ (ap (λ (e : Extent). c.loop-ty.extents.items ++ e ∷ []) extent
    ∙ (ap (λ (es : List Extent). es ++ laid (extent_in structs (type_at types c.in-Some.ty)) ∷ []) c.loop-ty.invariant
    ∙ (sym (laid_more types structs ms n c.in-Some.ty there) ∙ ap (λ m. laid_at types structs (take m (member_ids ms))) (sym longer))))

pub returns : goal.returns
returns c =
    let ms = members_at c.args.structs.now.members c.args.number.0 in
    let n = length c.loop-ty.extents.items in
    let at : c.len.result ≡ n = omega (arith, c.len.ensures, c.loop-ty.extents.ok.0) in
    c.loop-ty.invariant ∙ ap (laid_at c.args.types.now c.args.structs.now.extents) (members_end ms n (c.in_default.ensures ∙ ap (type_of_member ms) at))
