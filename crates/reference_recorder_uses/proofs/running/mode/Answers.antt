use Rattle.std.proofs.Common.{sym, ap, ◌∙◌}
use Rattle.memory_map.specs.declared.placed.Placed.{Placed}
use Rattle.whole_runs.specs.World.{interface, may_run}
use Rattle.reference_recorder_uses.proofs.OneMode.{may, may_not_at}
use Rattle.reference_recorder_uses.proofs.running.mode.Goals as goal

pub returns-then-may_run : goal.returns-then-may_run
returns-then-may_run c = λ w e.
    may (interface w) c.args.side c.args.func (ap (λ (p : Placed). may_run p c.args.side c.args.func) e ∙ (sym c.may_run.ensures ∙ c.if-may_run.true))

pub returns : goal.returns
returns c = λ w e.
    may_not_at (interface w) c.args.side c.args.func c.function_address-address.result c.function_address-address.ensures
    (ap (λ (p : Placed). may_run p c.args.side c.args.func) e ∙ (sym c.may_run.ensures ∙ c.if-may_run.false))
