use Rattle.std.proofs.Common.{◌≡◌, ◌<◌, List, length, ap, subst, sym}
use Rattle.std.proofs.lemmas.Bool.Decides.{Decides-eqb}
use Rattle.c_types_table.specs.declared.ty.Ty.{Ty}
use Rattle.c_types_table.specs.Tables.{IsTable, AreDistinct, type_at}
use Rattle.c_types_table.proofs.Distinct.{one_number}
use Rattle.c_types_table.proofs.table.Types.is_same.Goals as goal

pub returns : goal.returns
returns c =
    let ns = c.args.self.now in
    let a = c.args.a in
    let b = c.args.b in
    let table = subst IsTable c.self.view_is c.self.invariant.0 in
    let apart = subst AreDistinct c.self.view_is c.self.invariant.1 in (
      λ h. ap (λ n. type_at ns (record { 0 = n })) ((Decides-eqb a.0 b.0).0 h),
      λ e. (Decides-eqb a.0 b.0).1 (one_number ns table apart a b c.requires.left c.requires.right e),
    )
