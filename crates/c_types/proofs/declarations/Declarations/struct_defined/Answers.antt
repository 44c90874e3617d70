use Rattle.std.proofs.Common.{Err, sym, ap, ◌∙◌}
use Rattle.std.proofs.lemmas.Result.{err_from_is_err_and}
use Rattle.c_types_operators.specs.declared.error.TypeError.TheVariants.{Memory}
use Rattle.c_types.proofs.Followed.{going_on}
use Rattle.c_types.proofs.Naming.{IsProgramOf}
use Rattle.c_types.proofs.StructSteps.{not_next, reserved_tag, sound_next, struct_next}
use Rattle.c_types.proofs.Stepping.{failed_so, no_memory}
use Rattle.c_types.proofs.declarations.Declarations.struct_defined.Goals as goal

pub returns-then-is_reserved : goal.returns-then-is_reserved
returns-then-is_reserved c = λ ds o. reserved_tag c.args.self.now c.args.from c.args.tag.now ds (sym c.is_reserved.ensures ∙ c.if-is_reserved.true)

pub returns-in_err-is_next : goal.returns-in_err-is_next
returns-in_err-is_next c =
    let q = err_from_is_err_and c.from_residual.result c.from_residual.ensures.1 in
    let d = c.args.self.now in
    let new = going_on d c.is_next.new.env in
    λ ds o. failed_so d new (IsProgramOf new) _ c.from_residual.result Memory (q.1 ∙ ap Err q.2) (no_memory d new (IsProgramOf new) _)

pub returns-then-not-branch : goal.returns-then-not-branch
returns-then-not-branch c =
    let d = c.args.self.now in
    λ ds o. not_next d c.args.from c.args.tag.now ds c.is_next.new.env c.in_ok-is_next.ensures.kept (sym c.is_reserved.ensures ∙ c.if-is_reserved.false) (sym (c.in_ok-is_next.ensures.next c.args.tag.now c.requires.base) ∙ c.if-not-branch.true)

pub define-requires-clause-sound : goal.define-requires-clause-sound
define-requires-clause-sound c = sound_next c.args.self.now c.args.from c.args.tag.now c.requires.ids.0 c.is_next.new.env c.in_ok-is_next.ensures.kept c.requires.sound

pub returns : goal.returns
returns c =
    let d = c.args.self.now in
    λ ds o. struct_next d c.args.from c.args.tag.now ds c.is_next.new.env c.in_ok-is_next.ensures.kept c.requires.sound c.define.new.self c.define.result
    (sym c.is_reserved.ensures ∙ c.if-is_reserved.false) (sym (c.in_ok-is_next.ensures.next c.args.tag.now c.requires.base) ∙ c.if-not-branch.false) (c.define.ensures ds o)
