use Rattle.std.proofs.Common.{sym, ap, ◌∙◌}
use Rattle.std.proofs.lemmas.List.{drop_all}
use Rattle.run_events.specs.declared.key.Class.TheVariants.{Out}
use Rattle.logical_clock.specs.Events.{is_among}
use Rattle.replay_runs.specs.Keys.{key}
use Rattle.recorder_calls.proofs.Read.{among_here, among_next}
use Rattle.recorder_calls.proofs.printing.prints.Goals as goal

pub returns-then-is_of_output : goal.returns-then-is_of_output
returns-then-is_of_output c = sym (c.loop-key.invariant ∙ among_here c.args.keys.now (key Out 0) c.loop-key.key-index _ c.loop-key-test.true (sym c.is_of_output.ensures ∙ c.if-is_of_output.true))

pub loop-key-preserved : goal.loop-key-preserved
loop-key-preserved c = c.loop-key.invariant ∙ among_next c.args.keys.now (key Out 0) c.loop-key.key-index _ c.loop-key-test.true (sym c.is_of_output.ensures ∙ c.if-is_of_output.false)

pub returns : goal.returns
returns c = sym (c.loop-key.invariant ∙ ap (λ ks. is_among ks (key Out 0)) (drop_all c.loop-key.key-index c.args.keys.now c.loop-key-test.false))
