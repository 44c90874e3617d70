use Rattle.std.proofs.Common.{sym}
use Rattle.race_watch_pages.proofs.Cells.{absent_zero}
use Rattle.race_watch_pages.proofs.pages.Pages.get.Goals as goal

pub returns-in-None : goal.returns-in-None
returns-in-None c = sym (absent_zero c.args.self.now c.args.cell c.in-None.ensures)
