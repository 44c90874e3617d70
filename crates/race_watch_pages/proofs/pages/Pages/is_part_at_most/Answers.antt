use Rattle.race_watch_pages.proofs.Cells.{absent_low}
use Rattle.race_watch_pages.proofs.pages.Pages.is_part_at_most.Goals as goal

pub returns-in-None : goal.returns-in-None
returns-in-None c = λ t k a b. absent_low c.args.self.now c.args.from c.args.to c.args.bound k c.requires.page c.in-None.ensures a b
