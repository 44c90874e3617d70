use Rattle.c_semantics_examples.proofs.Computed.{step_external, step_too_large, step_no_event, step_builtins, step_no_pool, step_pool_above}
use Rattle.c_semantics_examples.proofs.cases.a_step_below_the_cut.Goals as goal

pub returns-clause-external : goal.returns-clause-external
returns-clause-external c = step_external

pub returns-clause-too_large : goal.returns-clause-too_large
returns-clause-too_large c = step_too_large

pub returns-clause-no_event : goal.returns-clause-no_event
returns-clause-no_event c = step_no_event

pub returns-clause-builtins : goal.returns-clause-builtins
returns-clause-builtins c = step_builtins

pub returns-clause-no_pool : goal.returns-clause-no_pool
returns-clause-no_pool c = step_no_pool

pub returns-clause-pool_above : goal.returns-clause-pool_above
returns-clause-pool_above c = step_pool_above
