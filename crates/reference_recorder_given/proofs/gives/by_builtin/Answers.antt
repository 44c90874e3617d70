use Rattle.std.proofs.Common.{◌∙◌, [], cond, sym, ap}
use Rattle.std.specs.Prelude.{leb}
use Rattle.marks.specs.Places.{thread_count}
use Rattle.system_side.specs.System.{is_thread}
use Rattle.whole_runs.specs.Outcomes.{minus_one}
use Rattle.whole_runs.specs.Below.{Says}
use Rattle.recorder_state.specs.Inputs.{world_of}
use Rattle.reference_recorder_picks.proofs.Picking.{held}
use Rattle.reference_recorder_given.specs.Given.{given_by_builtin}
use Rattle.reference_recorder_given.proofs.Giving.{started_is}
use Rattle.reference_recorder_given.proofs.gives.by_builtin.Goals as goal

pub returns-in-Malloc : goal.returns-in-Malloc
returns-in-Malloc c = λ p. ap (given_by_builtin (world_of c.args.inputs) p.run c.args.thread c.args.argument) (sym c.in-Malloc.is)

pub returns-in-Free : goal.returns-in-Free
returns-in-Free c = λ p. ap (given_by_builtin (world_of c.args.inputs) p.run c.args.thread c.args.argument) (sym c.in-Free.is)

pub returns-in-Spawn : goal.returns-in-Spawn
returns-in-Spawn c = λ p.
    let w = world_of c.args.inputs in
    c.says.ensures
    ∙ (ap (λ n. Says n []) (c.number_of_next.ensures ∙ ap (λ n. cond (leb thread_count n) minus_one n) (started_is w c.args.marks.now p))
    ∙ ap (given_by_builtin w p.run c.args.thread c.args.argument) (sym c.in-Spawn.is))

pub returns-in-Join : goal.returns-in-Join
returns-in-Join c = λ p.
    c.says-in-Join.ensures
    ∙ (ap (λ n. Says n []) (c.join_result.ensures p)
    ∙ ap (given_by_builtin (world_of c.args.inputs) p.run c.args.thread c.args.argument) (sym c.in-Join.is))

pub returns-in-Lock : goal.returns-in-Lock
returns-in-Lock c = λ p. c.says-in-Lock.ensures ∙ ap (given_by_builtin (world_of c.args.inputs) p.run c.args.thread c.args.argument) (sym c.in-Lock.is)

pub returns-in-Unlock : goal.returns-in-Unlock
returns-in-Unlock c = λ p.
    let w = world_of c.args.inputs in
    c.says-in-Unlock.ensures
    ∙ (ap (λ n. Says n []) (c.unlock_result.ensures ∙ ap (λ o. cond (is_thread c.args.thread o) 0 minus_one) (held w c.args.marks.now p c.args.argument))
    ∙ ap (given_by_builtin w p.run c.args.thread c.args.argument) (sym c.in-Unlock.is))

pub returns-in-Print : goal.returns-in-Print
returns-in-Print c = λ p. c.says-in-Print.ensures ∙ ap (given_by_builtin (world_of c.args.inputs) p.run c.args.thread c.args.argument) (sym c.in-Print.is)
