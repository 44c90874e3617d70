use Rattle.std.proofs.Common.{ℕ, List, subst}
use Rattle.front_end.specs.Answers.{IsAccepted}
use Rattle.r2_cli_outcome.specs.Plans.{EndsAs, gives}
use Rattle.r2_cli_outcome.proofs.StageLemmas.{end_of, ends_with, out_of_memory, value_of}
use Rattle.r2_cli.specs.Source.{SourceOf}
use Rattle.r2_cli.proofs.source.source_of.Goals as goal

pub returns-in_err-source-clause-answers : goal.returns-in_err-source-clause-answers
returns-in_err-source-clause-answers c =
    ends_with _ _ _ _ _ _ c.from_residual.ensures.1
    (subst (λ (w : List ℕ). EndsAs (SourceOf c.args.cut.now w) 0 0 c.in_err-source.field-0.0) c.deref.ensures.value c.in_err-source.ensures.wrong)

pub returns-in_err-found-clause-answers : goal.returns-in_err-found-clause-answers
returns-in_err-found-clause-answers c = out_of_memory _ _ _ _ _ c.from_residual-in_err-found.ensures.1

pub found_text-requires : goal.found_text-requires
found_text-requires c = (c.deref.result.now, c.args.cut.now, c.in_ok-source.ensures.right)

pub returns-in_err-unless_found-clause-answers : goal.returns-in_err-unless_found-clause-answers
returns-in_err-unless_found-clause-answers c =
    let bytes = c.args.bytes.items in
    let right = subst (λ (w : List ℕ). IsAccepted w c.args.cut.now c.in_ok-source.source) c.deref.ensures.value c.in_ok-source.ensures.right in
    ends_with _ _ _ _ _ _ c.from_residual-in_err-unless_found.ensures.1
    (end_of _ _ _ _ _ (c.in_err-unless_found.ensures bytes c.args.cut.now (c.in_ok-found.ensures bytes c.args.cut.now right)))

pub returns-clause-accepted : goal.returns-clause-accepted
returns-clause-accepted c = subst (λ (w : List ℕ). IsAccepted w c.args.cut.now c.in_ok-source.source) c.deref.ensures.value c.in_ok-source.ensures.right

pub returns-clause-answers : goal.returns-clause-answers
returns-clause-answers c =
    let bytes = c.args.bytes.items in
    let right = subst (λ (w : List ℕ). IsAccepted w c.args.cut.now c.in_ok-source.source) c.deref.ensures.value c.in_ok-source.ensures.right in
    gives (value_of _ _ _ _ _ (c.in_ok-unless_found.ensures bytes c.args.cut.now (c.in_ok-found.ensures bytes c.args.cut.now right)))
