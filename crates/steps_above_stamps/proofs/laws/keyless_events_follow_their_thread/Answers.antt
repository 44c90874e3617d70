use Rattle.steps_above_stamps.proofs.Plain.{thread_follows}
use Rattle.steps_above_stamps.proofs.laws.keyless_events_follow_their_thread.Goals as goal

pub returns : goal.returns
returns c = thread_follows
