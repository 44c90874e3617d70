use Rattle.std.proofs.Common.{◌<◌, sym, subst}
use Rattle.c_types_model.specs.declared.extent.Extent.{Extent}
use Rattle.c_types_table.specs.Tables.{type_at}
use Rattle.c_types.proofs.Limited.{align_some}
use Rattle.c_types.proofs.extents.end_after.Goals as goal

pub next_multiple-requires : goal.next_multiple-requires
next_multiple-requires c =
    let P : Extent → Type 0 = λ e. 0 < e.align in
    subst P (sym c.extent_or-extent.ensures) (align_some c.args.env.now.env (type_at c.args.env.now.table.types c.args.ty) c.requires.aligned)
