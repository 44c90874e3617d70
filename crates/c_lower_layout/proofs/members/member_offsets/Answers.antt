use Rattle.std.proofs.Common.{List, map, sym, ap, ◌∙◌, subst}
use Rattle.std.specs.List.{All}
use Rattle.c_types_model.specs.declared.extent.Extent.{Extent}
use Rattle.c_types_model.specs.Layouts.{IsAligned, capped, offsets_from}
use Rattle.c_types_structs.specs.Members.{members_at}
use Rattle.c_types_program.specs.Declarations.{types_in}
use Rattle.c_lower_layout.specs.Indexed.{extents_at, member_ids}
use Rattle.c_lower_layout.proofs.Laid.{all_aligned, offsets_laid}
use Rattle.c_lower_layout.proofs.members.member_offsets.Goals as goal

pub lay_out-requires : goal.lay_out-requires
lay_out-requires c =
    let es = extents_at c.args.structs.now.extents (types_in c.args.types.now (member_ids (members_at c.args.structs.now.members c.args.number.0))) in
    subst (λ (xs : List Extent). All IsAligned xs) (sym (c.deref.ensures.value ∙ c.in_ok-extents.ensures)) (all_aligned es)

pub returns : goal.returns
returns c =
    let es = extents_at c.args.structs.now.extents (types_in c.args.types.now (member_ids (members_at c.args.structs.now.members c.args.number.0))) in
    c.in_ok-layout.ensures.offsets ∙ (ap (λ (xs : List Extent). map capped (offsets_from 0 xs)) (c.deref.ensures.value ∙ c.in_ok-extents.ensures) ∙ offsets_laid es)
