use Rattle.std.proofs.Common.{◌≡◌, ◌&&◌, Err, length, sym, ap, ◌∙◌, refl}
use Rattle.std.specs.Prelude.{nat_le}
use Rattle.std.proofs.lemmas.Result.{err_from_is_err_and}
use Rattle.source_limits.specs.Limits.{most_members}
use Rattle.c_types.proofs.Defined.{struct_follows, struct_stops}
use Rattle.c_types.proofs.Followed.{going_on}
use Rattle.c_types.proofs.Naming.{IsProgramOf}
use Rattle.c_types.proofs.StructSteps.{members_below, members_stop, struct_added}
use Rattle.c_types.proofs.Stepping.{failed_so}
use Rattle.c_types.proofs.declarations.Declarations.define.Goals as goal
use Rattle.c_types.proofs.declarations.Declarations.define.Goals.{then-self, else-self}

pub returns-in_err-members : goal.returns-in_err-members
returns-in_err-members c =
    let q = err_from_is_err_and c.from_residual.result c.from_residual.ensures.1 in
    let d = c.args.self.now in
    let new = going_on d c.members_of.new.env in
    λ ds o. failed_so d new (IsProgramOf new) _ c.from_residual.result c.in_err-members.field-0.0 (q.1 ∙ ap Err q.2)
    (members_stop c.args.tree.now c.args.ids.now d c.requires.sound c.members_of.new.env c.in_err-members.field-0.0 c.in_err-members.ensures.agrees ds o)

pub define_noted-requires : goal.define_noted-requires
define_noted-requires c = members_below c.args.tree.now c.args.ids.now c.args.self.now c.requires.sound c.members_of.new.env c.in_ok-members.members c.in_ok-members.ensures.agrees c.in_ok-members.ensures.kept c.requires.ids.0 c.requires.ids.1

pub returns-in_err-define_noted : goal.returns-in_err-define_noted
returns-in_err-define_noted c =
    let q = err_from_is_err_and c.from_residual-in_err-define_noted.result c.from_residual-in_err-define_noted.ensures.1 in
    let d = c.args.self.now in
    let s = c.members_of.new.env in
    let u = c.define_noted.new.env in
    let new = going_on d u in
    λ ds o. failed_so d new (IsProgramOf new) _ c.from_residual-in_err-define_noted.result c.in_err-define_noted.field-0.0 (q.1 ∙ ap Err q.2)
    (struct_added c.args.tree.now c.args.ids.now d c.requires.sound s c.in_ok-members.members c.in_ok-members.ensures.agrees c.in_ok-members.ensures.kept u new (Err c.in_err-define_noted.field-0.0)
    (λ sound. struct_stops (going_on d s) new c.in_ok-members.members u c.in_err-define_noted.field-0.0 c.in_err-define_noted.ensures.agrees) ds o)

pub returns : goal.returns
returns c =
    let d = c.args.self.now in
    let s = c.members_of.new.env in
    let u = c.define_noted.new.env in
    let new = record (going_on d u) { members_are_few = c.if-self.self } in
    let few : c.if-self.self ≡ (d.members_are_few && nat_le (length c.in_ok-members.members) most_members) =
    elim c.if-self.branch [
      | then-self w ↦ w.self-is ∙ (ap (λ n. nat_le n most_members) c.len-few.ensures ∙ ap (λ b. b && nat_le (length c.in_ok-members.members) most_members) (sym w.if-self.true))
      | else-self w ↦ w.self-is ∙ (w.if-self.false ∙ ap (λ b. b && nat_le (length c.in_ok-members.members) most_members) (sym w.if-self.false))
    ] in
    struct_added c.args.tree.now c.args.ids.now d c.requires.sound s c.in_ok-members.members c.in_ok-members.ensures.agrees c.in_ok-members.ensures.kept u new _
    (λ sound. struct_follows (going_on d s) u c.in_ok-members.members new sound c.in_ok-define_noted.ensures.table c.in_ok-define_noted.ensures.env c.in_ok-define_noted.ensures.agrees refl few)
