use Rattle.std.proofs.Common.{ap, ◌∙◌}
use Rattle.recorder_state.specs.Inputs.{world_of}
use Rattle.recorder_returns.specs.Bringing.{committing_of}
use Rattle.recorder_answers.proofs.Answered.{few, refused, returning, said_one_more, said_pieces, said_regions, said_sizes}
use Rattle.recorder_answers.proofs.answering.answer.Goals as goal

pub answer_above-requires-clause-in_range : goal.answer_above-requires-clause-in_range
answer_above-requires-clause-in_range c = few (world_of c.args.inputs) c.args.state.now c.args.thread c.args.func c.args.value c.args.pieces.now c.requires.giving

pub answer_above-requires-clause-regions : goal.answer_above-requires-clause-regions
answer_above-requires-clause-regions c = said_regions (world_of c.args.inputs) c.args.state.now c.args.thread c.args.func c.args.value c.args.pieces.now c.requires.giving c.as_slice-outs.result.now c.used-used.result.now c.commit.result
    (c.as_slice-outs.ensures.value ∙ c.requires.said.ranges) (c.used-used.ensures ∙ c.requires.said.used) (c.commit.ensures ∙ ap committing_of c.requires.said.commit)

pub answer_above-requires-clause-sizes : goal.answer_above-requires-clause-sizes
answer_above-requires-clause-sizes c = said_sizes (world_of c.args.inputs) c.args.state.now c.args.thread c.args.func c.args.value c.args.pieces.now c.requires.giving c.as_slice-outs.result.now c.used-used.result.now c.commit.result
    (c.as_slice-outs.ensures.value ∙ c.requires.said.ranges) (c.used-used.ensures ∙ c.requires.said.used) (c.commit.ensures ∙ ap committing_of c.requires.said.commit)

pub answer_above-requires-clause-pieces : goal.answer_above-requires-clause-pieces
answer_above-requires-clause-pieces c = said_pieces (world_of c.args.inputs) c.args.state.now c.args.thread c.args.func c.args.value c.args.pieces.now c.requires.giving c.as_slice-outs.result.now c.used-used.result.now c.commit.result
    (c.as_slice-outs.ensures.value ∙ c.requires.said.ranges) (c.used-used.ensures ∙ c.requires.said.used) (c.commit.ensures ∙ ap committing_of c.requires.said.commit)

pub answer_above-requires-clause-committed : goal.answer_above-requires-clause-committed
answer_above-requires-clause-committed c = said_one_more (world_of c.args.inputs) c.args.state.now c.args.thread c.args.func c.args.value c.args.pieces.now c.requires.giving c.as_slice-outs.result.now c.used-used.result.now c.commit.result
    (c.as_slice-outs.ensures.value ∙ c.requires.said.ranges) (c.used-used.ensures ∙ c.requires.said.used) (c.commit.ensures ∙ ap committing_of c.requires.said.commit)

pub returns-in-Ok-clause-passes : goal.returns-in-Ok-clause-passes
returns-in-Ok-clause-passes c = returning (world_of c.args.inputs) c.args.state.now c.args.thread c.args.func c.args.value c.args.pieces.now c.requires.giving c.as_slice-outs.result.now c.used-used.result.now c.commit.result
    (c.as_slice-outs.ensures.value ∙ c.requires.said.ranges) (c.used-used.ensures ∙ c.requires.said.used) (c.commit.ensures ∙ ap committing_of c.requires.said.commit)
    c.answer_above.new.self c.in-Ok.ensures.answered c.in-Ok.ensures.passes c.answer_above.ensures.watch

pub returns-in-Err-clause-stopped : goal.returns-in-Err-clause-stopped
returns-in-Err-clause-stopped c = refused (world_of c.args.inputs) c.args.state.now c.args.thread c.args.func c.args.value c.args.pieces.now c.requires.giving c.as_slice-outs.result.now c.used-used.result.now c.commit.result
    (c.as_slice-outs.ensures.value ∙ c.requires.said.ranges) (c.used-used.ensures ∙ c.requires.said.used) (c.commit.ensures ∙ ap committing_of c.requires.said.commit)
    c.answer_above.new.self c.in-Err.refusal c.of.result c.of.ensures c.in-Err.ensures.refused c.answer_above.ensures.seen
