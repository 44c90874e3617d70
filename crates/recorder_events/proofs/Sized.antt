-- How many bytes the record of a mark has.
use Rattle.std.proofs.Common.{◌≡◌, ℕ, List, length, ◌∙◌}
use Rattle.run_events.specs.declared.event.Event.{Event as Recorded}
use Rattle.marks.specs.Marks.{EventKind, Mark}
use Rattle.steps_above_stamps.specs.declared.stamps.EventStamp.{EventStamp}
use Rattle.whole_runs.specs.World.{World}
use Rattle.whole_runs.specs.Steps.{Picked}
use Rattle.whole_runs.specs.Records.{full_event, full_record}
use Rattle.recorder_book.proofs.Forms.{sized}
use Rattle.recorder_events.specs.Making.{event_mark}
use Rattle.recorder_events.specs.Room.{HasSizeOf}

module _ (w : World) (past : List Mark) (s : Picked w past) (kind : EventKind) (stamp : EventStamp) (keys : ℕ) (count : length stamp.keys ≡ keys) where
  pub event_sized : (e : Recorded) → full_event kind ≡ e → HasSizeOf e keys (event_mark w past s kind stamp)
  event_sized e is size of = of (full_record (event_mark w past s kind stamp)) is count ∙ sized (event_mark w past s kind stamp)
