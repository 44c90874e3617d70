use Rattle.std.proofs.Common.{◌+◌, arith}
use Rattle.race_watch_pages.proofs.Cells.{absent_low}
use Rattle.race_watch_pages.proofs.pages.Pages.is_at_most_of_few.Goals as goal

pub returns-in-None : goal.returns-in-None
returns-in-None c = λ t k a b. absent_low c.args.self.now c.args.from (c.args.from + c.args.len) c.args.bound k (omega (arith, c.requires.few)) c.in-None.ensures a b
