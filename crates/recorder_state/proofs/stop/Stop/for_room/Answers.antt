use Rattle.std.proofs.Common.{subst}
use Rattle.whole_runs.specs.declared.ending.Ending.TheVariants as ending
use Rattle.whole_runs.specs.declared.ending.Halt.TheVariants as halt
use Rattle.whole_runs.specs.Ends as last
use Rattle.recorder_book.specs.Book.{IsRoomFor}
use Rattle.recorder_state.proofs.Broken.{ends_so}
use Rattle.recorder_state.proofs.stop.Stop.for_room.Goals as goal

pub returns-in-Events-clause-stops : goal.returns-in-Events-clause-stops
returns-in-Events-clause-stops c = λ w s t side h.
    let is = subst (IsRoomFor h.at.past h.mark) c.in-Events.is h.room_is in
    ends_so w s t side h.at (ending.Halted halt.Events) (last.events h.mark h.at.step h.made is)

pub returns-in-Full-clause-stops : goal.returns-in-Full-clause-stops
returns-in-Full-clause-stops c = λ w s t side h.
    let is = subst (IsRoomFor h.at.past h.mark) c.in-Full.is h.room_is in
    ends_so w s t side h.at (ending.Halted halt.Full) (last.full h.mark h.at.step h.made is.0 is.1)
