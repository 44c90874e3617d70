use Rattle.std.proofs.Common.{◌≡◌, [], Some, None, sym, ap, ◌∙◌, arith}
use Rattle.std.specs.Prelude.{slice_get, unwrap_or}
use Rattle.c_types_program.specs.Declarations.{Declared}
use Rattle.c_types_program.specs.Programs.{program_in}
use Rattle.c_lower_layout.specs.Sources.{source_in}
use Rattle.c_lower_layout.specs.Indexed.{all_offsets}
use Rattle.c_lower_layout.proofs.Placing.{offset_looked}
use Rattle.c_lower_layout.proofs.index.Index.member_of.Goals as goal

pub returns-in-Some : goal.returns-in-Some
unfolding source_in
returns-in-Some c =
    let offsets : slice_get c.self.inside.members.items c.args.id ≡ slice_get (all_offsets (program_in c.args.self.now [])) c.args.id =
    c.self.invariant.members_are c.args.id (omega arith) ∙ ap (λ (p : Declared). slice_get (all_offsets (program_in p [])) c.args.id) c.self.view_is in
    let there : slice_get c.self.inside.members.items c.args.id ≡ Some c.in-Some.offsets.now = ap (λ l. slice_get l c.args.id) (sym c.deref.ensures.value) ∙ sym c.in-Some.ensures in
    c.number_at.ensures ∙ (ap (λ l. unwrap_or (slice_get l c.args.number) 0) c.as_slice.ensures ∙ sym (offset_looked (source_in c.args.self.now) c.args.id c.args.number (Some c.in-Some.offsets.now) (sym offsets ∙ there)))

pub returns-in-None : goal.returns-in-None
unfolding source_in
returns-in-None c =
    let offsets : slice_get c.self.inside.members.items c.args.id ≡ slice_get (all_offsets (program_in c.args.self.now [])) c.args.id =
    c.self.invariant.members_are c.args.id (omega arith) ∙ ap (λ (p : Declared). slice_get (all_offsets (program_in p [])) c.args.id) c.self.view_is in
    let there : slice_get c.self.inside.members.items c.args.id ≡ None = ap (λ l. slice_get l c.args.id) (sym c.deref.ensures.value) ∙ sym c.in-None.ensures in
    sym (offset_looked (source_in c.args.self.now) c.args.id c.args.number None (sym offsets ∙ there))
