use Rattle.std.proofs.Common.{Ok, Err, refl, sym, ap, ◌∙◌, subst}
use Rattle.std.proofs.lemmas.Result.{err_from_is_err_and}
use Rattle.c_syntax.specs.Stands.{StandParts}
use Rattle.c_types_rules.specs.Environment.{base_type}
use Rattle.c_types_rules.specs.Expressions.{declared_type}
use Rattle.c_types_environment.specs.States.{notes_of}
use Rattle.c_types_expressions.specs.Found.{IsType}
use Rattle.c_types_expressions.specs.Walks.{AreParts}
use Rattle.c_types_expressions.proofs.Constructs.{decl_inside, decl_parts}
use Rattle.c_types_expressions.proofs.Fits.{parts_fit}
use Rattle.c_types_expressions.proofs.Kept.{all_stay, sized_stays, then_stay}
use Rattle.c_types_expressions.proofs.PartSteps.{declared_made, declared_stops}
use Rattle.c_types_expressions.proofs.Sequences.{passed}
use Rattle.c_types_expressions.proofs.Specifying.{named_base, specifies_on}
use Rattle.c_types_expressions.proofs.Wholes.{failed, type_found}
use Rattle.c_types_expressions.proofs.known.declared_type_after.Goals as goal

pub decl-decl-requires : goal.decl-decl-requires
decl-decl-requires c = record { inside = decl_inside c.args.tree.now c.args.id c.requires.id }

pub declarator-requires : goal.declarator-requires
declarator-requires c =
    let N = c.args.tree.now in
    let node = c.decl-decl.result.now in
    let at = c.decl-decl.ensures.node in
    let p = decl_parts N c.args.id node at c.requires.id.0 c.requires.id.1 in
    let names = named_base c.args.env.now c.specified_type.new.env N c.args.id c.in_ok-base.base node c.in_ok-base.ensures.kept c.in_ok-base.ensures.ty at in
    record { parts = subst (AreParts N) (sym c.as_slice.ensures.items) (parts_fit p c.requires.id.2); ty = names.inside }

pub note_size-requires : goal.note_size-requires
note_size-requires c =
    let p = decl_parts c.args.tree.now c.args.id c.decl-decl.result.now c.decl-decl.ensures.node c.requires.id.0 c.requires.id.1 in
    type_found _ _ c.declarator.new.env.table _ _ (c.in_ok-ty.ensures.agrees p.parts (subst (λ vs. StandParts c.args.tree.now vs p.parts) (sym c.as_slice.ensures.items) p.on_parts))

pub returns-in_err-base-clause-kept : goal.returns-in_err-base-clause-kept
returns-in_err-base-clause-kept c = all_stay _ _ c.in_err-base.ensures.kept

pub returns-in_err-ty-clause-agrees : goal.returns-in_err-ty-clause-agrees
returns-in_err-ty-clause-agrees c =
    let q = err_from_is_err_and c.from_residual-in_err-ty.result c.from_residual-in_err-ty.ensures.1 in
    let N = c.args.tree.now in
    let a = c.args.env.now in
    let b = c.specified_type.new.env in
    let node = c.decl-decl.result.now in
    let at = c.decl-decl.ensures.node in
    λ e h.
    let p = decl_parts N c.args.id node at e h in
    let names = named_base a b N c.args.id c.in_ok-base.base node c.in_ok-base.ensures.kept c.in_ok-base.ensures.ty at in
    failed _ _ (IsType c.declarator.new.env.table) (declared_type e a.env) c.from_residual-in_err-ty.result c.in_err-ty.field-0.0 (q.1 ∙ ap Err q.2)
    (passed (notes_of a) (notes_of c.declarator.new.env) (IsType c.declarator.new.env.table) _ _ (Err c.in_err-ty.field-0.0) (p.declared a.env)
    (declared_stops a b c.declarator.new.env p.parts (base_type a.env node.base) c.in_ok-base.base names c.in_ok-base.ensures.kept c.in_err-ty.field-0.0
    (c.in_err-ty.ensures.agrees p.parts (subst (λ vs. StandParts N vs p.parts) (sym c.as_slice.ensures.items) p.on_parts))))

pub returns-in_err-ty-clause-kept : goal.returns-in_err-ty-clause-kept
returns-in_err-ty-clause-kept c = then_stay _ _ _ (all_stay _ _ c.in_ok-base.ensures.kept) c.in_err-ty.ensures.kept

pub returns-clause-agrees : goal.returns-clause-agrees
returns-clause-agrees c =
    let N = c.args.tree.now in
    let a = c.args.env.now in
    let b = c.specified_type.new.env in
    let node = c.decl-decl.result.now in
    let at = c.decl-decl.ensures.node in
    λ e h.
    let p = decl_parts N c.args.id node at e h in
    let names = named_base a b N c.args.id c.in_ok-base.base node c.in_ok-base.ensures.kept c.in_ok-base.ensures.ty at in
    passed (notes_of a) (notes_of c.note_size.new.env) (IsType c.note_size.new.env.table) _ _ (Ok c.in_ok-ty.ty) (p.declared a.env)
    (declared_made a b c.declarator.new.env p.parts (base_type a.env node.base) c.in_ok-base.base names c.in_ok-base.ensures.kept c.note_size.new.env c.in_ok-ty.ty
    (c.in_ok-ty.ensures.agrees p.parts (subst (λ vs. StandParts N vs p.parts) (sym c.as_slice.ensures.items) p.on_parts)) c.in_ok-ty.ensures.kept.env c.note_size.ensures.table c.note_size.ensures.noted)

pub returns-clause-known : goal.returns-clause-known
returns-clause-known c =
    let N = c.args.tree.now in
    let b = c.specified_type.new.env in
    let new = c.note_size.new.env in
    let mid = c.declarator.new.env in
    let k = then_stay b mid new c.in_ok-ty.ensures.kept (sized_stays mid new c.note_size.ensures.table c.note_size.ensures.env) in
    (decl_inside N c.args.id c.requires.id, specifies_on b new N c.args.id c.in_ok-base.base k.numbers (ap (λ E. E.tags) k.env) c.in_ok-base.ensures.ty)

pub returns-clause-kept : goal.returns-clause-kept
returns-clause-kept c =
    then_stay _ _ _ (then_stay _ _ _ (all_stay _ _ c.in_ok-base.ensures.kept) c.in_ok-ty.ensures.kept) (sized_stays _ _ c.note_size.ensures.table c.note_size.ensures.env)
