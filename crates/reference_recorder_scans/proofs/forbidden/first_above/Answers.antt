use Rattle.std.proofs.Common.{◌≡◌, ℕ, true}
use Rattle.marks.specs.Places.{is_replay}
use Rattle.marks.specs.Ranges.{IsInRange}
use Rattle.memory_map.specs.declared.areas.TheConstants.{REPLAY_MEMORY}
use Rattle.reference_recorder_scans.proofs.AboveCut.{first_same, in_replay, replay_in}
use Rattle.reference_recorder_scans.proofs.forbidden.first_above.Goals as goal

pub returns : goal.returns
returns c = first_same c.args.range (IsInRange REPLAY_MEMORY) (λ (x : ℕ). is_replay x ≡ true) c.first_common.result replay_in (λ x inside. in_replay x inside.2) c.first_common.ensures
