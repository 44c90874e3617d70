use Rattle.std.proofs.Common.{◌≡◌, ◌++◌, [], ◌∷◌, suc, List, length, length-append, take, Some, sym, ap, ◌∙◌, arith}
use Rattle.c_types_table.specs.declared.ids.TypeId.{TypeId}
use Rattle.c_types_structs.specs.Members.{members_at, type_of_member}
use Rattle.c_lower_layout.specs.Indexed.{member_ids}
use Rattle.c_lower_layout.proofs.Placing.{member_more, members_end}
use Rattle.c_lower_layout.proofs.structs.types_of.Goals as goal

pub loop-ty-preserved : goal.loop-ty-preserved
loop-ty-preserved c =
    let ms = members_at c.args.structs.now.members c.args.number.0 in
    let n = length c.loop-ty.types.items in
    let at : c.len.result ≡ n = omega (arith, c.len.ensures, c.loop-ty.types.ok.0) in
    let there : Some c.in-Some.ty ≡ type_of_member ms n = c.in-Some.ensures ∙ ap (type_of_member ms) at in
    let longer : length c.push.new.self.items ≡ suc n = ap length c.in_ok-push.ensures.items ∙ (length-append c.loop-ty.types.items (c.in-Some.ty ∷ []) ∙ omega arith) in
    c.in_ok-push.ensures.items ∙ (ap (λ (ts : List TypeId). ts ++ c.in-Some.ty ∷ []) c.loop-ty.invariant ∙ (sym (member_more ms n c.in-Some.ty there).1 ∙ ap (λ m. take m (member_ids ms)) (sym longer)))

pub returns : goal.returns
returns c =
    let ms = members_at c.args.structs.now.members c.args.number.0 in
    let n = length c.loop-ty.types.items in
    let at : c.len.result ≡ n = omega (arith, c.len.ensures, c.loop-ty.types.ok.0) in
    c.loop-ty.invariant ∙ members_end ms n (c.in_default.ensures ∙ ap (type_of_member ms) at)
