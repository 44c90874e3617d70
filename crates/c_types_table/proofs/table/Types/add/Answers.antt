use Rattle.std.proofs.Common.{◌≡◌, ◌<◌, List, Some, length, sym, subst, ap, ◌∙◌}
use Rattle.std.specs.Prelude.{slice_get}
use Rattle.c_types_table.specs.declared.ids.TypeId.{TypeId}
use Rattle.c_types_table.specs.declared.ty.Ty.{Ty}
use Rattle.c_types_table.specs.Tables.{IsMadeOf, IsTable, AreDistinct, made, type_at, types_of}
use Rattle.c_types_table.specs.contracts.ty.TyPartialEq.TheImpl.{ghosts}
use Rattle.c_types_table.proofs.Alike.{itself, same}
use Rattle.c_types_table.proofs.Inserts.{distinct_places, insert_added, insert_kept, insert_table}
use Rattle.c_types_table.proofs.table.Types.add.Goals as goal

pub invariant_of-self-2 : goal.invariant_of-self-2
invariant_of-self-2 c =
    let before = c.self.inside.nodes.keys in
    let keys = c.in_ok-number.ensures.keys in
    let parts = subst (λ (ns : List Ty). IsMadeOf (length ns) c.args.ty) (sym c.self.view_is) c.requires.parts in
    (subst IsTable (sym keys) (insert_table ghosts.eq same itself before c.args.ty c.self.invariant.0 parts), distinct_places ghosts.eq same itself c.insert_full.new.self.keys c.in_ok-number.ensures.unique)

pub returns-clause-added : goal.returns-clause-added
returns-clause-added c =
    let before = c.self.inside.nodes.keys in
    let keys = c.in_ok-number.ensures.keys in
    let (k, there, equal) = c.in_ok-number.ensures.stored in
    let parts = subst (λ (ns : List Ty). IsMadeOf (length ns) c.args.ty) (sym c.self.view_is) c.requires.parts in
    let i : TypeId = record { 0 = c.in_ok-number.number } in
    let inside = subst (λ (ns : List Ty). slice_get ns i.0 ≡ Some k) keys there in
    let added = insert_added ghosts.eq same itself before c.args.ty k i c.self.invariant.0 parts inside equal in
    ap (λ (ns : List Ty). type_at ns i) keys ∙ (added ∙ ap (λ (ns : List Ty). made (types_of ns) c.args.ty) c.self.view_is)

pub returns-clause-kept : goal.returns-clause-kept
returns-clause-kept c = λ i lt.
    let before = c.self.inside.nodes.keys in
    let keys = c.in_ok-number.ensures.keys in
    let within = subst (λ (ns : List Ty). i.0 < length ns) (sym c.self.view_is) lt in
    ap (λ (ns : List Ty). type_at ns i) keys ∙ (insert_kept ghosts.eq same itself before c.args.ty i within ∙ ap (λ (ns : List Ty). type_at ns i) c.self.view_is)
