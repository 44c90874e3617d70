use Rattle.std.proofs.Common.{sym, ap, ◌∙◌, subst}
use Rattle.std.proofs.lemmas.Option.{slice_get_within}
use Rattle.marks.specs.declared.side.Side.TheVariants.{Replay}
use Rattle.system_side.specs.declared.file.Scripted.{Scripted}
use Rattle.system_side.specs.AnswerLists.{as_scripted}
use Rattle.whole_runs.specs.Below.{Says}
use Rattle.recorder_threads.specs.declared.wants.Want.TheVariants as told
use Rattle.recorder_system.specs.declared.given.Given.TheVariants as shown
use Rattle.recorder_system.specs.Calls.{HasInt}
use Rattle.recorder_state.specs.Inputs.{world_of}
use Rattle.recorder_plain.proofs.Steps.{is_started}
use Rattle.recorder_answers.proofs.Answered.{hands_ints, lacks, not_by_pool, told_so}
use Rattle.recorder_answers.proofs.Scripted.{same_answer}
use Rattle.recorder_answers.proofs.giving.give.Goals as goal

pub args-requires : goal.args-requires
args-requires c = is_started (world_of c.args.inputs) c.args.state.now c.args.thread Replay (told.Give c.args.func) c.requires

pub given-requires : goal.given-requires
given-requires c = subst (HasInt c.args.func) (sym c.args-2.ensures) (hands_ints (world_of c.args.inputs) c.args.state.now c.args.thread c.args.func c.requires)

pub give_this-requires : goal.give_this-requires
give_this-requires c = record {
  at = c.requires;
  given_so = told_so (world_of c.args.inputs) c.args.state.now c.args.thread c.args.func c.requires c.args-2.result.now c.given.result (shown.Value c.in-Value.value) c.args-2.ensures c.given.ensures c.in-Value.is;
}

pub get-said-requires : goal.get-said-requires
get-said-requires c =
    let q = told_so (world_of c.args.inputs) c.args.state.now c.args.thread c.args.func c.requires c.args-2.result.now c.given.result (shown.Answer c.in-Answer.place) c.args-2.ensures c.given.ensures c.in-Answer.is in
    slice_get_within c.args.inputs.file.now.answers c.in-Answer.place q.0 q.1

pub give_this-requires-in-Answer : goal.give_this-requires-in-Answer
give_this-requires-in-Answer c =
    let q = told_so (world_of c.args.inputs) c.args.state.now c.args.thread c.args.func c.requires c.args-2.result.now c.given.result (shown.Answer c.in-Answer.place) c.args-2.ensures c.given.ensures c.in-Answer.is in
    let same = same_answer q.0 (as_scripted c.get-said.result) (sym q.1 ∙ c.get-said.ensures) in
    let pieces = ap (λ (a : Scripted). a.pieces) same in
    record { at = c.requires; given_so = q.2 ∙ (λ j. Says (same j).result (pieces j)) }

pub unreachable-requires : goal.unreachable-requires
unreachable-requires c = not_by_pool (world_of c.args.inputs) c.args.state.now c.args.thread c.args.func c.requires
    (told_so (world_of c.args.inputs) c.args.state.now c.args.thread c.args.func c.requires c.args-2.result.now c.given.result shown.ByPool c.args-2.ensures c.given.ensures c.in-ByPool.is)

pub returns-in-NoMore-clause-stopped : goal.returns-in-NoMore-clause-stopped
returns-in-NoMore-clause-stopped c = c.for_lack.ensures (world_of c.args.inputs) c.args.state.now c.args.thread Replay
    (lacks (world_of c.args.inputs) c.args.state.now c.args.thread c.args.func c.requires
    (told_so (world_of c.args.inputs) c.args.state.now c.args.thread c.args.func c.requires c.args-2.result.now c.given.result shown.NoMore c.args-2.ensures c.given.ensures c.in-NoMore.is))
