use Rattle.std.proofs.Common.{Err, sym, ap, ◌∙◌, subst}
use Rattle.std.proofs.lemmas.Result.{err_from_is_err_and}
use Rattle.c_syntax.specs.Stands.{StandDecls}
use Rattle.c_types_rules.specs.Limits.{outcome}
use Rattle.c_types.specs.Answers.{IsChecked}
use Rattle.c_types.specs.Texts.{texts_among}
use Rattle.c_types.proofs.Ended.{declared_in}
use Rattle.c_types.proofs.whole.check.Goals as goal

pub returns-in_err-texts : goal.returns-in_err-texts
returns-in_err-texts c =
    let q = err_from_is_err_and c.from_residual-in_err-texts.result c.from_residual-in_err-texts.ensures.1 in
    λ ds h. subst (λ r. IsChecked (texts_among c.args.tokens.now) c.args.tree ds (outcome ds) r) (sym (q.1 ∙ ap Err q.2)) tt

pub finished-requires-clause-declared : goal.finished-requires-clause-declared
finished-requires-clause-declared c =
    let (ds, h, f) = c.requires in
    let tags = c.in_ok-tags.ensures ds (subst (λ v. StandDecls c.args.tree v ds) (sym c.top.ensures.tops) h) in
    (ds, f, declared_in c.args.tree ds c.in_ok-declared.declared c.in_ok-declared-2.declared c.in_ok-tags.tags h tags c.in_ok-declared.ensures (c.in_ok-declared-2.ensures ds h))

pub returns : goal.returns
returns c = λ ds h.
    let tags = c.in_ok-tags.ensures ds (subst (λ v. StandDecls c.args.tree v ds) (sym c.top.ensures.tops) h) in
    let declared = declared_in c.args.tree ds c.in_ok-declared.declared c.in_ok-declared-2.declared c.in_ok-tags.tags h tags c.in_ok-declared.ensures (c.in_ok-declared-2.ensures ds h) in
    subst (λ t. IsChecked t c.args.tree ds (outcome ds) c.finished.result) c.in_ok-texts.ensures (c.finished.ensures ds declared)
