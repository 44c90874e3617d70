use Rattle.recorder_book.proofs.Lengths.{event_length}
use Rattle.recorder_book.proofs.sizes.event_size.Goals as goal

pub returns-clause-size : goal.returns-clause-size
returns-clause-size c = event_length c.args.event.now c.args.keys c.body_size.result c.body_size.ensures.size
