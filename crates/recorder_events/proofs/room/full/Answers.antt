use Rattle.whole_runs.specs.Ends.{events, full}
use Rattle.recorder_events.proofs.room.full.Goals as goal

pub returns-in-Events : goal.returns-in-Events
returns-in-Events c = λ w past s m k sized made. events m s made (c.in-Events.ensures w past m k (sized _ c.event_size.ensures.size))

pub returns-in-Full : goal.returns-in-Full
returns-in-Full c = λ w past s m k sized made.
    let h = c.in-Full.ensures w past m k (sized _ c.event_size.ensures.size) in
    full m s made h.0 h.1
