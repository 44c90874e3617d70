use Rattle.std.proofs.Common.{ap, ◌∙◌, rules, eqb}
use Rattle.std.specs.Prelude.{filter}
use Rattle.std.proofs.lemmas.Fn.{filter_same}
use Rattle.marks.specs.declared.range.Range.{Range}
use Rattle.reference_recorder_steps.proofs.pool.blocks_at.Goals as goal

pub returns : goal.returns
returns c =
    filter_same _ _ _ (λ x b f' k. search rules) _ _ c.retain.ensures.filtered ∙ ap (filter (λ (b : Range). eqb b.addr c.args.at)) c.in_ok-blocks.ensures
