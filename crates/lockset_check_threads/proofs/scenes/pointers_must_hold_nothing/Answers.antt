use Rattle.lockset_check_threads.proofs.Computed.{pointers_must_hold_nothing}
use Rattle.lockset_check_threads.proofs.scenes.pointers_must_hold_nothing.Goals as goal

pub returns : goal.returns
returns c = pointers_must_hold_nothing
