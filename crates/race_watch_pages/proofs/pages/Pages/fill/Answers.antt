use Rattle.race_watch_pages.proofs.Ready.{ready_part}
use Rattle.race_watch_pages.proofs.pages.Pages.fill.Goals as goal

pub fill_part-requires-clause-ready : goal.fill_part-requires-clause-ready
fill_part-requires-clause-ready c = ready_part c.loop-at.self c.loop-at.at c.min-stop.result c.args.to c.min-stop.ensures c.loop-at.invariant.ready
