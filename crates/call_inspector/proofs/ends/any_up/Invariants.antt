use Rattle.std.proofs.Common.{◌≡◌, false, take}
use Rattle.std.specs.List.{list_any}
use Rattle.run_events.specs.declared.event.Record.{Record}
use Rattle.call_inspector.specs.Ending.{is_up}
use Rattle.call_inspector.proofs.ends.any_up.Given as goal

abbrev pub invariant-loop-record : goal.invariant-loop-record
invariant-loop-record l = list_any (λ (r : Record). is_up r.event) (take l.record-index l.records) ≡ false
