use Rattle.std.proofs.Common.{◌≡◌, map, take}
use Rattle.marks.specs.Ranges.{Prepared}
use Rattle.recorder_calls.proofs.calling.put_keys.Given as goal

abbrev pub invariant-loop-prepared : goal.invariant-loop-prepared
invariant-loop-prepared l = l.keys.items ≡ map (λ (p : Prepared). p.key) (take l.prepared-index l.prepares)
