use Rattle.std.proofs.Common.{refl, arith}
use Rattle.call_inspector.proofs.RowSteps.{line_from, none_from}
use Rattle.call_inspector.proofs.memory.put_row_from.Goals as goal

pub returns-in_default : goal.returns-in_default
returns-in_default c = (refl, none_from c.args.memory.now c.args.row _ (let is = c.from.ensures in omega (arith, is)) c.in_default.ensures)

pub returns : goal.returns
returns c = line_from c.args.memory.now c.args.row _ c.in-Some.addr _ c.args.text.now.items c.put_row.new.text.items c.push.new.self.items _ (let is = c.from.ensures in omega (arith, is)) c.in-Some.ensures refl c.cells.ensures c.in_ok-put_row.ensures c.in_ok-push.ensures.items
