use Rattle.std.proofs.Common.{ap, refl, ◌∙◌, sym}
use Rattle.r2_cli_outcome.specs.Plans.{bytes_of}
use Rattle.r2_cli_outcome.proofs.SendingLemmas.{puts_there}
use Rattle.r2_cli_outcome.proofs.writing.put_text.Goals as goal

pub returns-in-Bytes-clause-puts : goal.returns-in-Bytes-clause-puts
returns-in-Bytes-clause-puts g c = puts_there _ _ _ _ _ _ _ refl (c.deref.ensures.value ∙ sym (ap bytes_of c.in-Bytes.is)) c.put_piece.ensures.puts

pub returns-in-Order-clause-puts : goal.returns-in-Order-clause-puts
returns-in-Order-clause-puts g c = puts_there _ _ _ _ _ _ _ refl (sym (ap bytes_of c.in-Order.is)) c.put_order.ensures.puts

pub returns-in-Report-clause-puts : goal.returns-in-Report-clause-puts
returns-in-Report-clause-puts g c = puts_there _ _ _ _ _ _ _ refl (sym (ap bytes_of c.in-Report.is)) c.put_report.ensures.puts
