use Rattle.std.proofs.Common.{Result, Err, IfErr, ap, sym, subst, ◌∙◌}
use Rattle.std.proofs.lemmas.Result.{err_from_is_err_and}
use Rattle.c_code.specs.Machine.{Flat}
use Rattle.c_types_rules.specs.Sources.{Program}
use Rattle.c_lower.specs.Depths.{functions_in}
use Rattle.front_end.specs.declared.error.SourceError.{SourceError}
use Rattle.front_end.specs.Answers.{IsTooLarge}
use Rattle.front_end.proofs.Lowering.{large, small}
use Rattle.front_end.proofs.code.code_of.Goals as goal

pub lower-requires : goal.lower-requires
lower-requires c =
    let t = c.requires.typed in
    let d = c.args.program.now in
    record {
      fit = c.typed_programs_fit.ensures t.0 t.1 d t.3 t.4;
      texts = c.requires.texts;
    }

pub returns-in_err-lower-clause-refused : goal.returns-in_err-lower-clause-refused
returns-in_err-lower-clause-refused c = λ ds p tree typed is.
    let q = err_from_is_err_and c.from_residual.result c.from_residual.ensures.1 in
    subst (λ (r : Result Flat SourceError). IfErr r (IsTooLarge ds p)) (sym (q.1 ∙ ap Err q.2))
    (large ds p (functions_in c.args.program.now) c.args.nodes tree (ap (λ (q : Program). q.functions) is) c.in_err-lower.field-0.0 c.in_err-lower.ensures.long c.in_err-lower.ensures.wide)

pub returns-clause-small : goal.returns-clause-small
returns-clause-small c = λ ds p tree typed is.
    small ds p (functions_in c.args.program.now) c.args.nodes tree (ap (λ (q : Program). q.functions) is) c.in_ok-lower.ensures.few
